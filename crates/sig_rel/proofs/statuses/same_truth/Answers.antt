use Rattle.sig_rel.proofs.{[], ◌∷◌, not, Ok, ◌∙◌, if◌then◌else◌, IfOk-weaker, test, SpanAll, itself, Spans-kept, choice_is_same, test_kept, made_choice, made_one, makes_then}
use Rattle.sig_rel.proofs.statuses.same_truth.Goals as goal

pub returns-clause-made : goal.returns-clause-made
returns-clause-made c =
    let r = c.args.store.now in
    let s = c.negate.new.self in
    let first = made_one r s c.in_ok-not_b.ensures.store c.in_ok-not_b.ensures.kept (Ok c.in_ok-not_b.not_b) not c.args.b c.in_ok-not_b.ensures.value c.in_ok-not_b.ensures.spends in
    let second = made_choice s c.ite.new.self c.ite.ensures.store c.ite.ensures.kept c.ite.result c.args.a c.args.b c.in_ok-not_b.not_b c.ite.ensures.value c.ite.ensures.spends in
    makes_then 1 1 (SpanAll r.nodes (c.args.a ∷ c.args.b ∷ [])) (SpanAll r.nodes (c.args.b ∷ [])) (SpanAll s.nodes (c.args.a ∷ c.args.b ∷ c.in_ok-not_b.not_b ∷ []))
    r s c.ite.new.self itself itself c.in_ok-not_b.not_b c.ite.result first second (λ vs wide. wide.1)
    (λ vs wide spans. (Spans-kept r s c.in_ok-not_b.ensures.kept c.args.a c.requires.a vs wide.0, (Spans-kept r s c.in_ok-not_b.ensures.kept c.args.b c.requires.b vs wide.1.0, spans)))

pub returns-clause-value : goal.returns-clause-value
returns-clause-value c =
    let r = c.args.store.now in
    let s = c.negate.new.self in
    IfOk-weaker c.ite.result _ _ (λ h is truths.
    is.function truths ∙ (λ j. if test_kept r s c.in_ok-not_b.ensures.kept c.args.a c.requires.a truths j then test_kept r s c.in_ok-not_b.ensures.kept c.args.b c.requires.b truths j else c.in_ok-not_b.ensures.value.function truths j)
    ∙ choice_is_same (test r.nodes c.args.a truths) (test r.nodes c.args.b truths)) c.ite.ensures.value
