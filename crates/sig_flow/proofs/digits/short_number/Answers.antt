use Rattle.sig_flow.proofs.{◌∙◌, Some, arith, ap, sym, short_value, short_is, other_is_none}
use Rattle.sig_flow.proofs.digits.short_number.Goals as goal

pub overflow_cast-result : goal.overflow_cast-result
overflow_cast-result c =
    let is = c.in-Some.ensures in
    omega (arith, is.1, short_value c.args.digits.now is.0 c.if-digits-gt9.false)

pub returns-in-Some : goal.returns-in-Some
returns-in-Some c =
    let is = c.in-Some.ensures in
    ap Some is.1 ∙ sym (short_is c.args.digits.now is.0 c.if-digits-gt9.false)

pub returns-in-None : goal.returns-in-None
returns-in-None c =
    sym (other_is_none c.args.digits.now (λ digits. omega (arith, c.in-None.ensures digits, short_value c.args.digits.now digits c.if-digits-gt9.false)))
