use Rattle.sig_rel.proofs.{[], ◌∷◌, Ok, Err, ap, ◌∙◌, arith, IfOk-weaker, same_status, SpanAll, Keeps-trans, Spans-kept, truth_by_form, value_status, itself, SpanColumns, makes_err, makes_spans, makes_then, columns_hold, columns_span, columns_values, own_hold, own_span, own_status, HoldAll-kept, status, test_kept}
use Rattle.sig_rel.proofs.substitution.Columns.meets_given.Goals as goal

pub returns-in_err-present-clause-made : goal.returns-in_err-present-clause-made
returns-in_err-present-clause-made c =
    let r = c.args.store.now in
    let u = c.args.self.now in
    makes_err 2 10 (SpanColumns r.nodes u) (SpanColumns r.nodes u) r c.presence.new.store itself itself c.in_err-present.field-0.0 c.from_residual.result c.in_err-present.ensures.made (omega arith) (λ vs wide. wide) c.from_residual.ensures.1

pub returns-in_err-truth-clause-made : goal.returns-in_err-truth-clause-made
returns-in_err-truth-clause-made c =
    let r = c.args.store.now in
    let s = c.presence.new.store in
    let t = c.truth.new.store in
    let u = c.args.self.now in
    let p = c.in_ok-present.present in
    let e = c.in_err-truth.field-0.0 in
    let first = c.in_ok-present.ensures.made in
    makes_err 5 10 (SpanColumns r.nodes u) (SpanColumns r.nodes u) r t itself itself e c.from_residual-in_err-truth.result
    (makes_then 2 3 (SpanColumns r.nodes u) (SpanColumns r.nodes u) (SpanColumns s.nodes u) r s t itself itself p (Err e) first c.in_err-truth.ensures.made (λ vs wide. wide)
    (λ vs wide spans. columns_span r s first.kept u c.requires vs wide)) (omega arith) (λ vs wide. wide) c.from_residual-in_err-truth.ensures.1

pub same-requires-clause-held : goal.same-requires-clause-held
same-requires-clause-held c =
    let r = c.args.store.now in
    let s = c.presence.new.store in
    let t = c.truth.new.store in
    let u = c.args.self.now in
    own_hold t.nodes c.args.least.now u c.args.y.0 c.status_of.result c.status_of.ensures (columns_hold r t (Keeps-trans r s t c.in_ok-present.ensures.made.kept c.in_ok-truth.ensures.made.kept) u c.requires)

pub same-requires-clause-other : goal.same-requires-clause-other
same-requires-clause-other c =
    ((HoldAll-kept c.presence.new.store c.truth.new.store c.in_ok-truth.ensures.made.kept (c.in_ok-present.present ∷ []) c.in_ok-present.ensures.made.held).0, c.in_ok-truth.ensures.made.held)

pub returns-clause-made : goal.returns-clause-made
returns-clause-made c =
    let r = c.args.store.now in
    let s = c.presence.new.store in
    let t = c.truth.new.store in
    let u = c.args.self.now in
    let y = c.status_of.result in
    let p = c.in_ok-present.present in
    let q = c.in_ok-truth.truth in
    let first = c.in_ok-present.ensures.made in
    let second = c.in_ok-truth.ensures.made in
    let kept = Keeps-trans r s t first.kept second.kept in
    let both = makes_then 2 3 (SpanColumns r.nodes u) (SpanColumns r.nodes u) (SpanColumns s.nodes u) r s t itself itself p (Ok q) first second (λ vs wide. wide)
    (λ vs wide spans. columns_span r s first.kept u c.requires vs wide) in
    makes_then 5 5 (SpanColumns r.nodes u) (SpanColumns r.nodes u) (SpanAll t.nodes (y.present ∷ y.truth ∷ p ∷ q ∷ [])) r t c.same.new.store itself itself q c.same.result both c.same.ensures.made
    (λ vs wide. wide)
    (λ vs wide spans.
    let of_y = own_span t.nodes c.args.least.now u c.args.y.0 y c.status_of.ensures vs (columns_span r t kept u c.requires vs wide) in
    let of_p = makes_spans 2 (SpanColumns r.nodes u) r s itself p first vs wide in
    (of_y.0, (of_y.1.0, (Spans-kept s t second.kept p first.held.0 vs of_p.0, spans))))

pub returns-clause-value : goal.returns-clause-value
returns-clause-value c =
    let r = c.args.store.now in
    let s = c.presence.new.store in
    let t = c.truth.new.store in
    let u = c.args.self.now in
    let least = c.args.least.now in
    let y = c.status_of.result in
    let first = c.in_ok-present.ensures.made in
    let second = c.in_ok-truth.ensures.made in
    let kept = Keeps-trans r s t first.kept second.kept in
    IfOk-weaker c.same.result _ _ (λ h is truths b gives.
    is truths
    ∙ (λ j. same_status ((own_status t.nodes least u c.args.y.0 y c.status_of.ensures truths ∙ ap (λ values. value_status least values c.args.y.0) (columns_values r t kept u c.requires truths)) j)
    (status ((test_kept s t second.kept c.in_ok-present.present first.held.0 truths ∙ c.in_ok-present.ensures.value truths) j)
    (c.in_ok-truth.ensures.value truths b (ap (λ values. truth_by_form c.args.signals.now least values c.args.form.now) (columns_values r s first.kept u c.requires truths) ∙ gives) j)))) c.same.ensures.value
