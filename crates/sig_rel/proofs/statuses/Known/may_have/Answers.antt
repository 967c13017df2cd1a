use Rattle.sig_rel.proofs.{[], ◌∷◌, true, ◌∙◌, if◌then◌else◌, IfOk-weaker, SpanAll, itself, Spans-kept, test_kept, constant_spans, made_choice, makes_then}
use Rattle.sig_rel.proofs.statuses.Known.may_have.Goals as goal

pub returns-clause-made : goal.returns-clause-made
returns-clause-made c =
    let r = c.args.store.now in
    let s = c.same_truth.new.store in
    let t = c.ite.new.self in
    let x = c.args.self in
    let h = c.in_ok-same.same in
    let a = c.constant-always.result in
    let kept = c.in_ok-same.ensures.made.kept in
    let second = made_choice s t c.ite.ensures.store c.ite.ensures.kept c.ite.result x.present h a c.ite.ensures.value c.ite.ensures.spends in
    makes_then 2 1 (SpanAll r.nodes (x.present ∷ x.truth ∷ c.args.truth ∷ [])) (SpanAll r.nodes (x.truth ∷ c.args.truth ∷ [])) (SpanAll s.nodes (x.present ∷ h ∷ a ∷ [])) r s t itself itself h c.ite.result
    c.in_ok-same.ensures.made second (λ vs wide. wide.1)
    (λ vs wide spans. (Spans-kept r s kept x.present c.requires.held.0 vs wide.0, (spans.0, (constant_spans s.nodes true a vs c.constant-always.ensures.value, tt))))

pub returns-clause-value : goal.returns-clause-value
returns-clause-value c =
    let r = c.args.store.now in
    let s = c.same_truth.new.store in
    let x = c.args.self in
    IfOk-weaker c.ite.result _ _ (λ h is truths.
    is.function truths ∙ (λ j. if test_kept r s c.in_ok-same.ensures.made.kept x.present c.requires.held.0 truths j then c.in_ok-same.ensures.value truths j else c.constant-always.ensures.value.function truths j))
    c.ite.ensures.value
