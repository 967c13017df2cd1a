use Rattle.sig_words.proofs.{◌∙◌, false≢true, digits_pass}
use Rattle.sig_words.proofs.number.number.Goals as goal

-- a byte that is no digit stands in no number
pub returns-then-not-is_digits : goal.returns-then-not-is_digits
returns-then-not-is_digits c = λ n number.
    let all = digits_pass c.args.word.now number.numeral.1 in
    absurd (false≢true (c.if-not-is_digits.ensures ∙ (rw c.as_bytes.ensures.value all)))
