use Rattle.sig_rel.proofs.{[], ◌∷◌, true, ap, sym, ◌∙◌, subst, arith, IfOk-weaker, same_status, Holds, test, SpanAll, Ref, slice_index, has, value_status, itself, SpanColumns, truth_at, values_at, presence_spans, constant_spans, makes_wider, own_hold, own_span, own_status, status, where_present_is}
use Rattle.sig_rel.proofs.substitution.Columns.meets_event.Goals as goal

pub same-requires-clause-held : goal.same-requires-clause-held
same-requires-clause-held c = own_hold c.args.store.now.nodes c.args.least.now c.args.self.now c.args.y.0 c.status_of.result c.status_of.ensures c.requires

pub same-requires-clause-other : goal.same-requires-clause-other
same-requires-clause-other c =
    (subst (Holds c.args.store.now.nodes) (sym c.present_of-present.ensures) (c.requires.present (slice_index c.args.least.now c.args.x.0)), (c.constant-truth.ensures.value.holds, tt))

pub returns-clause-made : goal.returns-clause-made
returns-clause-made c =
    let r = c.args.store.now in
    let u = c.args.self.now in
    let p = c.present_of-present.result in
    let k = c.constant-truth.result in
    let y = c.status_of.result in
    makes_wider 5 5 (SpanColumns r.nodes u) (SpanAll r.nodes (y.present ∷ y.truth ∷ p ∷ k ∷ [])) r c.same.new.store itself c.same.result c.same.ensures.made (omega arith)
    (λ vs span.
    let of_y = own_span r.nodes c.args.least.now u c.args.y.0 y c.status_of.ensures vs span in
    (of_y.0, (of_y.1.0, (presence_spans r.nodes u vs span p _ c.present_of-present.ensures, (constant_spans r.nodes true k vs c.constant-truth.ensures.value, tt)))))

pub returns-clause-value : goal.returns-clause-value
returns-clause-value c =
    let r = c.args.store.now in
    let u = c.args.self.now in
    let least = c.args.least.now in
    IfOk-weaker c.same.result _ _ (λ h is truths.
    is truths
    ∙ (λ j. same_status (own_status r.nodes least u c.args.y.0 c.status_of.result c.status_of.ensures truths j)
    (status (ap (λ (f : Ref). test r.nodes f truths) c.present_of-present.ensures j) (c.constant-truth.ensures.value.function truths j)))
    ∙ ap (same_status (value_status least (values_at r.nodes u truths) c.args.y.0)) (where_present_is (has least (values_at r.nodes u truths) c.args.x.0) (test r.nodes (truth_at u c.args.x.0) truths) true)) c.same.ensures.value
