use Rattle.sig_lex.proofs.{◌<◌, ap, ◌∙◌, arith, length-take, get_or-take, is_ascii_digit, prefix_len_passes}
use Rattle.sig_lex.proofs.piece.number.Goals as goal

-- each byte of the run is a digit
pub value_of-requires-clause-digits : goal.value_of-requires-clause-digits
value_of-requires-clause-digits c = λ k d within.
    let below : k < c.digit_run-size.result = omega (arith, length-take c.digit_run-size.result c.args.bytes.now) in
    ap is_ascii_digit (get_or-take c.digit_run-size.result c.args.bytes.now k d below)
    ∙ prefix_len_passes is_ascii_digit c.args.bytes.now k d (omega (arith, c.digit_run-size.ensures.run))
