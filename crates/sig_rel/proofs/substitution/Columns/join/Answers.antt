use Rattle.sig_rel.proofs.{[], ◌∷◌, ◌&&◌, ◌∙◌, arith, IfOk-weaker, SpanAll, Spans-kept, itself, SpanColumns, made_two, makes_err, makes_then, test_kept}
use Rattle.sig_rel.proofs.substitution.Columns.join.Goals as goal

pub returns-in_err-met-clause-made : goal.returns-in_err-met-clause-made
returns-in_err-met-clause-made c =
    let r = c.args.store.now in
    let u = c.args.self.now in
    makes_err 10 11 (λ vs. SpanColumns r.nodes u vs × SpanAll r.nodes (itself c.args.whole) vs) (SpanColumns r.nodes u) r c.meets.new.store itself itself c.in_err-met.field-0.0 c.from_residual.result
    c.in_err-met.ensures.made (omega arith) (λ vs wide. wide.0) c.from_residual.ensures.1

pub returns-clause-made : goal.returns-clause-made
returns-clause-made c =
    let r = c.args.store.now in
    let s = c.meets.new.store in
    let t = c.conj.new.self in
    let u = c.args.self.now in
    let w = c.args.whole in
    let m = c.in_ok-met.met in
    let second = made_two s t c.conj.ensures.store c.conj.ensures.kept c.conj.result (λ p q. p && q) w m c.conj.ensures.value c.conj.ensures.spends in
    makes_then 10 1 (λ vs. SpanColumns r.nodes u vs × SpanAll r.nodes (itself w) vs) (SpanColumns r.nodes u) (SpanAll s.nodes (w ∷ m ∷ [])) r s t itself itself m c.conj.result
    c.in_ok-met.ensures.made second (λ vs wide. wide.0) (λ vs wide spans. (Spans-kept r s c.in_ok-met.ensures.made.kept w c.requires.whole vs wide.1.0, spans))

pub returns-clause-value : goal.returns-clause-value
returns-clause-value c =
    IfOk-weaker c.conj.result _ _ (λ h is truths.
    is.function truths ∙ (λ j. test_kept c.args.store.now c.meets.new.store c.in_ok-met.ensures.made.kept c.args.whole c.requires.whole truths j && c.in_ok-met.ensures.value truths j)) c.conj.ensures.value
