use Rattle.sig_flow.proofs.{◌≡◌, ◌≤◌, length, take, get_or, arith, subst, common_steps, IsShortNumber, digit_no_blank, no_blank_more, one_more_digit, short_front, value_with_digit}
use Rattle.sig_flow.proofs.word.short_number_in.Goals as goal

pub returns-then-not-is_ascii_digit-clause-number : goal.returns-then-not-is_ascii_digit-clause-number
returns-then-not-is_ascii_digit-clause-number c =
    short_front c.args.line.now c.loop-i.i c.loop-i.value (grind (arith, common_steps)) (omega (arith, c.loop-i-test.true)) c.loop-i.invariant.digits c.loop-i.invariant.value c.loop-i.invariant.small

pub loop-i-preserved : goal.loop-i-preserved
loop-i-preserved c =
    let low : 48 ≤ get_or c.args.line.now c.loop-i.i 0 = grind (arith, common_steps) in
    let high : get_or c.args.line.now c.loop-i.i 0 ≤ 57 = grind (arith, common_steps) in
    record {
      digits = one_more_digit c.args.line.now c.loop-i.i c.loop-i-test.true c.loop-i.invariant.digits low high;
      value = omega (arith, value_with_digit c.args.line.now c.loop-i.i c.loop-i-test.true low high);
      small = omega arith;
      word = no_blank_more c.args.line.now c.loop-i.i c.loop-i.invariant.word (digit_no_blank (get_or c.args.line.now c.loop-i.i 0) low high);
    }

pub returns-clause-number : goal.returns-clause-number
returns-clause-number c =
    let all : c.loop-i.i ≡ length c.args.line.now = grind (arith, common_steps) in
    subst (λ n. IsShortNumber (take n c.args.line.now) c.loop-i.value) all
    (short_front c.args.line.now c.loop-i.i c.loop-i.value (grind (arith, common_steps)) (omega (arith, all)) c.loop-i.invariant.digits c.loop-i.invariant.value c.loop-i.invariant.small)
