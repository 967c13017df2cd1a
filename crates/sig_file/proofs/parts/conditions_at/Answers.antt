use Rattle.sig_file.proofs.{err_from_is_err_and, goes_on, is_done, stops_too, condition_at}
use Rattle.sig_file.proofs.parts.conditions_at.Goals as goal

pub returns-in_err-condition : goal.returns-in_err-condition
returns-in_err-condition c =
    let p = err_from_is_err_and c.from_residual.result c.from_residual.ensures.1 in
    rw (p.1, p.2) (stops_too (condition_at c.args.signals.now) c.in_err-condition.field-0.0 c.args.count c.loop.counter c.loop.conditions.items c.deref.result.now c.loop.rest.now _ c.deref.ensures.value c.loop-test.true c.in_err-condition.ensures c.loop.invariant)

pub loop-preserved : goal.loop-preserved
loop-preserved c =
    rw c.in_ok-push.ensures.items (goes_on (condition_at c.args.signals.now) c.args.count c.loop.counter c.loop.conditions.items c.deref.result.now c.loop.rest.now c.in_ok-condition.condition c.in_ok-condition.after.now _ c.deref.ensures.value c.loop-test.true c.in_ok-condition.ensures c.loop.invariant)

pub returns : goal.returns
returns c = is_done (condition_at c.args.signals.now) c.args.count c.loop.counter c.loop.conditions.items c.loop.rest.now _ c.loop-test.false c.loop.invariant
