use Rattle.sig_rel.proofs.{[], ◌∷◌, ◌&&◌, ◌||◌, arith, SpanAll, itself, SpanColumns, presence_spans, truth_spans, made_two, makes_wider}
use Rattle.sig_rel.proofs.substitution.Columns.presence.Goals as goal

pub returns-in-When-clause-made : goal.returns-in-When-clause-made
returns-in-When-clause-made c =
    let r = c.args.store.now in
    let u = c.args.self.now in
    makes_wider 2 2 (SpanColumns r.nodes u) (SpanAll r.nodes (c.present_of-present.result ∷ c.truth_of-truth.result ∷ c.present_of-other.result ∷ [])) r c.both_where.new.store itself c.both_where.result c.both_where.ensures.made (omega arith)
    (λ vs span. (
      presence_spans r.nodes u vs span c.present_of-present.result _ c.present_of-present.ensures,
      (
        truth_spans r.nodes u vs span c.truth_of-truth.result _ c.truth_of-truth.ensures,
        (presence_spans r.nodes u vs span c.present_of-other.result _ c.present_of-other.ensures, tt),
      ),
    ))

pub returns-in-WhenConst-clause-made : goal.returns-in-WhenConst-clause-made
returns-in-WhenConst-clause-made c =
    let r = c.args.store.now in
    let u = c.args.self.now in
    let p = c.present_of-present-in-WhenConst.result in
    let q = c.truth_of-truth-in-WhenConst.result in
    makes_wider 1 2 (SpanColumns r.nodes u) (SpanAll r.nodes (p ∷ q ∷ [])) r c.conj.new.self itself c.conj.result
    (made_two r c.conj.new.self c.conj.ensures.store c.conj.ensures.kept c.conj.result (λ a b. a && b) p q c.conj.ensures.value c.conj.ensures.spends) (omega arith)
    (λ vs span. (presence_spans r.nodes u vs span p _ c.present_of-present-in-WhenConst.ensures, (truth_spans r.nodes u vs span q _ c.truth_of-truth-in-WhenConst.ensures, tt)))

pub returns-in-Default-clause-made : goal.returns-in-Default-clause-made
returns-in-Default-clause-made c =
    let r = c.args.store.now in
    let u = c.args.self.now in
    let p = c.present_of-first.result in
    let q = c.present_of-second.result in
    makes_wider 1 2 (SpanColumns r.nodes u) (SpanAll r.nodes (p ∷ q ∷ [])) r c.disj.new.self itself c.disj.result
    (made_two r c.disj.new.self c.disj.ensures.store c.disj.ensures.kept c.disj.result (λ a b. a || b) p q c.disj.ensures.value c.disj.ensures.spends) (omega arith)
    (λ vs span. (presence_spans r.nodes u vs span p _ c.present_of-first.ensures, (presence_spans r.nodes u vs span q _ c.present_of-second.ensures, tt)))
