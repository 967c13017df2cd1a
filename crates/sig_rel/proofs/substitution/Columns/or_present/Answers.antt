use Rattle.sig_rel.proofs.{[], ◌∷◌, ◌||◌, arith, sym, subst, eq-eqb, SpanAll, count_one, Makes, itself, SpanColumns, presence_spans, made_two, makes_wider}
use Rattle.sig_rel.proofs.substitution.Columns.or_present.Goals as goal

pub returns-then-least-class-clause-made : goal.returns-then-least-class-clause-made
returns-then-least-class-clause-made c =
    let r = c.args.store.now in
    let t = c.disj.new.self in
    let u = c.args.self.now in
    let p = c.present_at.result in
    let w = c.args.some in
    subst (λ b. Makes (count_one b) (λ vs. SpanColumns r.nodes u vs × SpanAll r.nodes (itself w) vs) r t itself c.disj.result) (sym (eq-eqb _ _ c.if-least-class.true))
    (makes_wider 1 1 (λ vs. SpanColumns r.nodes u vs × SpanAll r.nodes (itself w) vs) (SpanAll r.nodes (p ∷ w ∷ [])) r t itself c.disj.result
    (made_two r t c.disj.ensures.store c.disj.ensures.kept c.disj.result (λ a b. a || b) p w c.disj.ensures.value c.disj.ensures.spends) (omega arith)
    (λ vs wide. (presence_spans r.nodes u vs wide.0 p _ c.present_at.ensures, wide.1)))
