use Rattle.sig_rel.proofs.{[], ◌∷◌, not, ap, ◌∙◌, arith, IfOk-weaker, SpanAll, itself, made_one, makes_err, makes_then}
use Rattle.sig_rel.proofs.substitution.differ.Goals as goal

pub returns-in_err-same-clause-made : goal.returns-in_err-same-clause-made
returns-in_err-same-clause-made c =
    let r = c.args.store.now in
    let wide = SpanAll r.nodes (c.args.a ∷ c.args.b ∷ []) in
    makes_err 2 3 wide wide r c.same_truth.new.store itself itself c.in_err-same.field-0.0 c.from_residual.result c.in_err-same.ensures.made (omega arith) (λ vs has. has) c.from_residual.ensures.1

pub returns-clause-made : goal.returns-clause-made
returns-clause-made c =
    let r = c.args.store.now in
    let s = c.same_truth.new.store in
    let t = c.negate.new.self in
    let h = c.in_ok-same.same in
    let wide = SpanAll r.nodes (c.args.a ∷ c.args.b ∷ []) in
    makes_then 2 1 wide wide (SpanAll s.nodes (h ∷ [])) r s t itself itself h c.negate.result c.in_ok-same.ensures.made
    (made_one s t c.negate.ensures.store c.negate.ensures.kept c.negate.result not h c.negate.ensures.value c.negate.ensures.spends) (λ vs has. has) (λ vs has spans. spans)

pub returns-clause-value : goal.returns-clause-value
returns-clause-value c = IfOk-weaker c.negate.result _ _ (λ h is truths. is.function truths ∙ ap not (c.in_ok-same.ensures.value truths)) c.negate.ensures.value
