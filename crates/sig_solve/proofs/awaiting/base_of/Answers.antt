use Rattle.sig_solve.proofs.{◌∙◌, List, subst, ap, SigId, SystemView, ForgetsAllBut}
use Rattle.sig_solve.proofs.awaiting.base_of.Goals as goal

pub returns : goal.returns
returns c =
    subst (λ (xs : List SigId). ForgetsAllBut c.args.system.now xs c.in_ok-known.known.forgotten.items) (c.in_ok-conditions.ensures.items ∙ c.as_slice.ensures.value ∙ ap (λ (s : SystemView). s.conditions) c.system.view_is)
    c.in_ok-known.ensures.1
