use Rattle.sig_rel.proofs.{[], ◌∷◌, ◌&&◌, Ok, ◌∙◌, IfOk-weaker, SpanAll, itself, Spans-kept, test_kept, made_two, makes_then}
use Rattle.sig_rel.proofs.substitution.both_where.Goals as goal

pub returns-clause-made : goal.returns-clause-made
returns-clause-made c =
    let r = c.args.store.now in
    let s = c.conj.new.self in
    let t = c.conj-2.new.self in
    let both = c.in_ok-both.both in
    let first = made_two r s c.in_ok-both.ensures.store c.in_ok-both.ensures.kept (Ok both) (λ p q. p && q) c.args.a c.args.b c.in_ok-both.ensures.value c.in_ok-both.ensures.spends in
    let second = made_two s t c.conj-2.ensures.store c.conj-2.ensures.kept c.conj-2.result (λ p q. p && q) both c.args.c c.conj-2.ensures.value c.conj-2.ensures.spends in
    makes_then 1 1 (SpanAll r.nodes (c.args.a ∷ c.args.b ∷ c.args.c ∷ [])) (SpanAll r.nodes (c.args.a ∷ c.args.b ∷ [])) (SpanAll s.nodes (both ∷ c.args.c ∷ []))
    r s t itself itself both c.conj-2.result first second (λ vs wide. (wide.0, (wide.1.0, tt)))
    (λ vs wide spans. (spans.0, (Spans-kept r s c.in_ok-both.ensures.kept c.args.c c.requires.c vs wide.1.1.0, tt)))

pub returns-clause-value : goal.returns-clause-value
returns-clause-value c =
    IfOk-weaker c.conj-2.result _ _ (λ h is truths.
    is.function truths ∙ (λ j. c.in_ok-both.ensures.value.function truths j && test_kept c.args.store.now c.conj.new.self c.in_ok-both.ensures.kept c.args.c c.requires.c truths j)) c.conj-2.ensures.value
