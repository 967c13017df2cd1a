use Rattle.sig_call.proofs.{arith, ◌≤◌, ◌+◌, ◌*◌, ◌-◌, get_or, number_of, number_within}
use Rattle.sig_call.proofs.cluster.number_of.Goals as goal

pub overflow_mul-number : goal.overflow_mul-number
overflow_mul-number c =
    let within : c.loop-digit.number * 10 + (get_or c.args.label.now c.loop-digit.digit-index 0 - 48) ≤ number_of c.args.label.now = number_within c.loop-digit.number c.args.label.now c.loop-digit.digit-index _ c.loop-digit-test.true c.loop-digit.invariant in
    omega arith

pub overflow_add-number : goal.overflow_add-number
overflow_add-number c =
    let within : c.loop-digit.number * 10 + (get_or c.args.label.now c.loop-digit.digit-index 0 - 48) ≤ number_of c.args.label.now = number_within c.loop-digit.number c.args.label.now c.loop-digit.digit-index _ c.loop-digit-test.true c.loop-digit.invariant in
    omega (arith, c.saturating_sub.ensures, c.from.ensures)
