use Rattle.sig_lex.proofs.{arith, ◌∙◌, sym, no_text_fault, no_read_fault}
use Rattle.sig_lex.proofs.piece.value_of.Goals as goal

pub returns-in_err-text : goal.returns-in_err-text
returns-in_err-text c = absurd (no_text_fault c.args.digits.now c.requires.digits _ _ c.from_utf8.result c.from_utf8.ensures.cases (sym c.ok.ensures.value ∙ c.in_err-text.was))

pub returns-in_err-value : goal.returns-in_err-value
returns-in_err-value c = rw c.from_residual-in_err-value.ensures (λ small. no_read_fault c.args.digits.now c.requires.digits _ _ (λ s. s.now) (λ s is. is.0) c.from_utf8.result c.in_ok-text.text c.from_str_radix.result c.from_utf8.ensures.cases (sym c.in_ok-text.ensures.value) c.from_str_radix.ensures.value (sym c.ok-2.ensures.value ∙ c.in_err-value.was) c.requires.some (omega (arith, small)))
