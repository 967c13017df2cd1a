use Rattle.sig_rel.proofs.{[], ◌∷◌, Some, sym, ap, ◌∙◌, arith, IfOk-weaker, has_truth, test, SpanAll, value_status, itself, SpanColumns, operand_at, makes_err, makes_then, columns_span, columns_values, own_span, own_status, has_truth_is}
use Rattle.sig_rel.proofs.substitution.Columns.meets_function.Goals as goal

pub returns-in_err-value-in-Some-clause-made : goal.returns-in_err-value-in-Some-clause-made
returns-in_err-value-in-Some-clause-made c =
    let r = c.args.store.now in
    let u = c.args.self.now in
    makes_err 3 6 (SpanColumns r.nodes u) (SpanColumns r.nodes u) r c.function_value.new.store itself itself c.in_err-value-in-Some.field-0.0 c.from_residual.result
    c.in_err-value-in-Some.ensures.made (omega arith) (λ vs wide. wide) c.from_residual.ensures.1

pub returns-in_ok-value-in-Some-clause-made : goal.returns-in_ok-value-in-Some-clause-made
returns-in_ok-value-in-Some-clause-made c =
    let r = c.args.store.now in
    let s = c.function_value.new.store in
    let u = c.args.self.now in
    let y = c.status_of.result in
    let v = c.in_ok-value-in-Some.value in
    let first = c.in_ok-value-in-Some.ensures.made in
    makes_then 3 3 (SpanColumns r.nodes u) (SpanColumns r.nodes u) (SpanAll s.nodes (y.present ∷ y.truth ∷ v ∷ [])) r s c.may_have.new.store itself itself v c.may_have.result first c.may_have.ensures.made
    (λ vs wide. wide)
    (λ vs wide spans.
    let of_y = own_span s.nodes c.args.least.now u c.args.y.0 y c.status_of.ensures vs (columns_span r s first.kept u c.requires vs wide) in
    (of_y.0, (of_y.1.0, spans)))

pub returns-in_ok-value-in-Some-clause-value : goal.returns-in_ok-value-in-Some-clause-value
returns-in_ok-value-in-Some-clause-value c =
    let r = c.args.store.now in
    let s = c.function_value.new.store in
    let u = c.args.self.now in
    let least = c.args.least.now in
    let y = c.status_of.result in
    let v = c.in_ok-value-in-Some.value in
    let first = c.in_ok-value-in-Some.ensures.made in
    IfOk-weaker c.may_have.result _ _ (λ h is truths.
    is truths ∙ has_truth_is (test s.nodes y.present truths) (test s.nodes y.truth truths) (test s.nodes v truths)
    ∙ (λ j. has_truth ((own_status s.nodes least u c.args.y.0 y c.status_of.ensures truths ∙ ap (λ values. value_status least values c.args.y.0) (columns_values r s first.kept u c.requires truths)) j)
    ((ap Some (c.in_ok-value-in-Some.ensures.value truths) ∙ sym (c.in-Some.ensures.truth (operand_at r.nodes u truths))) j))) c.may_have.ensures.value
