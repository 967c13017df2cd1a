use Rattle.sig_rel.proofs.{[], ◌∷◌, ◌&&◌, ◌||◌, not, arith, ap, sym, ◌∙◌, IfOk-weaker, SpanAll, itself, SpanColumns, operand_at, truth_by, made_none, made_one, made_two, makes_wider}
use Rattle.sig_rel.proofs.substitution.Columns.function_value.Goals as goal

pub returns-in-Same-clause-made : goal.returns-in-Same-clause-made
returns-in-Same-clause-made c =
    let r = c.args.store.now in
    made_none 3 (SpanColumns r.nodes c.args.self.now) r itself c.operand.result c.operand.ensures.store (c.operand.ensures.holds, tt) (λ vs span. (c.operand.ensures.spans vs span, tt))

pub returns-in-Not-clause-made : goal.returns-in-Not-clause-made
returns-in-Not-clause-made c =
    let r = c.args.store.now in
    let a = c.operand-a.result in
    makes_wider 1 3 (SpanColumns r.nodes c.args.self.now) (SpanAll r.nodes (a ∷ [])) r c.negate.new.self itself c.negate.result
    (made_one r c.negate.new.self c.negate.ensures.store c.negate.ensures.kept c.negate.result not a c.negate.ensures.value c.negate.ensures.spends) (omega arith)
    (λ vs span. (c.operand-a.ensures.spans vs span, tt))

pub returns-in-Not-clause-value : goal.returns-in-Not-clause-value
returns-in-Not-clause-value c =
    IfOk-weaker c.negate.result _ _ (λ h is truths.
    is.function truths ∙ ap not (c.operand-a.ensures.value truths) ∙ ap (truth_by (operand_at c.args.store.now.nodes c.args.self.now truths)) (sym c.in-Not.is)) c.negate.ensures.value

pub returns-in-And-clause-made : goal.returns-in-And-clause-made
returns-in-And-clause-made c =
    let r = c.args.store.now in
    let a = c.operand-a-in-And.result in
    let b = c.operand-b.result in
    makes_wider 1 3 (SpanColumns r.nodes c.args.self.now) (SpanAll r.nodes (a ∷ b ∷ [])) r c.conj.new.self itself c.conj.result
    (made_two r c.conj.new.self c.conj.ensures.store c.conj.ensures.kept c.conj.result (λ p q. p && q) a b c.conj.ensures.value c.conj.ensures.spends) (omega arith)
    (λ vs span. (c.operand-a-in-And.ensures.spans vs span, (c.operand-b.ensures.spans vs span, tt)))

pub returns-in-And-clause-value : goal.returns-in-And-clause-value
returns-in-And-clause-value c =
    IfOk-weaker c.conj.result _ _ (λ h is truths.
    is.function truths ∙ (λ j. c.operand-a-in-And.ensures.value truths j && c.operand-b.ensures.value truths j)
    ∙ ap (truth_by (operand_at c.args.store.now.nodes c.args.self.now truths)) (sym c.in-And.is)) c.conj.ensures.value

pub returns-in-Or-clause-made : goal.returns-in-Or-clause-made
returns-in-Or-clause-made c =
    let r = c.args.store.now in
    let a = c.operand-a-in-Or.result in
    let b = c.operand-b-in-Or.result in
    makes_wider 1 3 (SpanColumns r.nodes c.args.self.now) (SpanAll r.nodes (a ∷ b ∷ [])) r c.disj.new.self itself c.disj.result
    (made_two r c.disj.new.self c.disj.ensures.store c.disj.ensures.kept c.disj.result (λ p q. p || q) a b c.disj.ensures.value c.disj.ensures.spends) (omega arith)
    (λ vs span. (c.operand-a-in-Or.ensures.spans vs span, (c.operand-b-in-Or.ensures.spans vs span, tt)))

pub returns-in-Or-clause-value : goal.returns-in-Or-clause-value
returns-in-Or-clause-value c =
    IfOk-weaker c.disj.result _ _ (λ h is truths.
    is.function truths ∙ (λ j. c.operand-a-in-Or.ensures.value truths j || c.operand-b-in-Or.ensures.value truths j)
    ∙ ap (truth_by (operand_at c.args.store.now.nodes c.args.self.now truths)) (sym c.in-Or.is)) c.disj.ensures.value

pub returns-in-Equal-clause-made : goal.returns-in-Equal-clause-made
returns-in-Equal-clause-made c =
    let r = c.args.store.now in
    makes_wider 2 3 (SpanColumns r.nodes c.args.self.now) (SpanAll r.nodes (c.operand-a-in-Equal.result ∷ c.operand-b-in-Equal.result ∷ [])) r c.same_truth.new.store itself c.same_truth.result c.same_truth.ensures.made (omega arith)
    (λ vs span. (c.operand-a-in-Equal.ensures.spans vs span, (c.operand-b-in-Equal.ensures.spans vs span, tt)))

pub returns-in-Differ-clause-made : goal.returns-in-Differ-clause-made
returns-in-Differ-clause-made c =
    let r = c.args.store.now in
    makes_wider 3 3 (SpanColumns r.nodes c.args.self.now) (SpanAll r.nodes (c.operand-a-in-Differ.result ∷ c.operand-b-in-Differ.result ∷ [])) r c.differ.new.store itself c.differ.result c.differ.ensures.made (omega arith)
    (λ vs span. (c.operand-a-in-Differ.ensures.spans vs span, (c.operand-b-in-Differ.ensures.spans vs span, tt)))
