use Rattle.sig_parse.proofs.{◌≡◌, ◌++◌, ℕ, codes, ap, ◌∙◌, append_assoc, if◌then◌else◌, decimal, ne_eqb, refusal_at, Span, answer_line}
use Rattle.sig_parse.specs.declared.parse_answer.ParseAnswer.TheVariants.{Nesting}
use Rattle.sig_parse.proofs.parse_answer.ParseAnswerDisplay.fmt.Goals as goal

-- the line of a limit of nesting
nesting_line : (limit : ℕ) (at : Span) → (limit ≡ 512 → ⊥) → answer_line (Nesting limit at) ≡ refusal_at at (codes "nesting deeper than " ++ decimal limit)
nesting_line limit at other = ap (λ b. refusal_at at (if b then codes "more than " ++ decimal limit ++ codes " operators" else codes "nesting deeper than " ++ decimal limit)) (ne_eqb limit 512 other)

pub returns-else-limit-eq-OPERATORS-clause-writes : goal.returns-else-limit-eq-OPERATORS-clause-writes
returns-else-limit-eq-OPERATORS-clause-writes g c plain ok =
    let e : answer_line c.args.self.now ≡ refusal_at c.in-Nesting.at (codes "nesting deeper than " ++ decimal c.in-Nesting.limit) =
    ap answer_line c.in-Nesting.is ∙ nesting_line c.in-Nesting.limit c.in-Nesting.at c.if-limit-eq-OPERATORS.false in
    rw e (simp append_assoc (simp append_assoc at (c.write-else-limit-eq-OPERATORS.ensures.writes plain ok)))
