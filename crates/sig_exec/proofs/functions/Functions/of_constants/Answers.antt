use Rattle.sig_exec.proofs.{◌++◌, ◌∷◌, [], ◌∙◌, ap, List, Ref, functions_first}
use Rattle.sig_exec.proofs.functions.Functions.of_constants.Goals as goal

pub returns : goal.returns
returns c = λ image right.
    functions_first image right (record { store = c.in-Ok.store; refs = c.push-2.new.self }) c.constant.result c.constant-2.result c.constant.ensures.value c.constant-2.ensures.value
    (c.in_ok-push-2.ensures.items ∙ ap (λ (l : List Ref). l ++ c.constant-2.result ∷ []) (c.in_ok-push.ensures.items ∙ ap (λ (l : List Ref). l ++ c.constant.result ∷ []) c.new-refs.ensures.items))
