use Rattle.sig_flow.proofs.{◌≤◌, arith, get_or, common_steps, take_all, digit_in, one_more_digit, value_with_digit, tenfold, whole}
use Rattle.sig_flow.proofs.digits.magnitude.Goals as goal

pub returns-then-not-is_ascii_digit : goal.returns-then-not-is_ascii_digit
returns-then-not-is_ascii_digit c = λ digits.
    let inside = digit_in c.args.digits.now c.loop-digit.digit-index digits c.loop-digit-test.true in
    absurd (grind (arith, common_steps))

pub returns-then-value : goal.returns-then-value
returns-then-value c = λ _. omega (arith, tenfold c.args.digits.now c.loop-digit.digit-index c.loop-digit-test.true)

pub loop-digit-preserved : goal.loop-digit-preserved
loop-digit-preserved c =
    let low : 48 ≤ get_or c.args.digits.now c.loop-digit.digit-index 0 = grind (arith, common_steps) in
    let high : get_or c.args.digits.now c.loop-digit.digit-index 0 ≤ 57 = grind (arith, common_steps) in
    record {
      digits = one_more_digit c.args.digits.now c.loop-digit.digit-index c.loop-digit-test.true c.loop-digit.invariant.digits low high;
      value = omega (arith, value_with_digit c.args.digits.now c.loop-digit.digit-index c.loop-digit-test.true low high);
      small = omega arith;
    }

pub returns-else-value-gt-GREATEST_MAGNITUDE : goal.returns-else-value-gt-GREATEST_MAGNITUDE
returns-else-value-gt-GREATEST_MAGNITUDE c =
    let all = take_all c.loop-digit.digit-index c.args.digits.now c.loop-digit-test.false in (
      whole c.args.digits.now c.loop-digit.digit-index (grind (arith, common_steps)) (grind (arith, common_steps)) c.loop-digit.invariant.digits,
      rw all at c.loop-digit.invariant.value,
      omega arith,
    )
