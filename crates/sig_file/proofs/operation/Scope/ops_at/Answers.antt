use Rattle.sig_file.proofs.{err_from_is_err_and, refl, rules, goes_on, is_done, stops_too, op_at, ops_at}
use Rattle.sig_file.proofs.operation.Scope.ops_at.Goals as goal

pub returns-in_err-op : goal.returns-in_err-op
returns-in_err-op c =
    let p = err_from_is_err_and c.from_residual.result c.from_residual.ensures.1 in
    rw (p.1, p.2) (stops_too (λ before. op_at c.args.self.now) c.in_err-op.field-0.0 c.args.count c.loop.counter c.loop.ops.items c.loop.ops.items c.loop.rest.now _ refl c.loop-test.true c.in_err-op.ensures c.loop.invariant)

pub loop-preserved : goal.loop-preserved
loop-preserved c =
    rw c.in_ok-push.ensures.items (goes_on (λ before. op_at c.args.self.now) c.args.count c.loop.counter c.loop.ops.items c.loop.ops.items c.loop.rest.now c.in_ok-op.op c.in_ok-op.after.now _ refl c.loop-test.true c.in_ok-op.ensures c.loop.invariant)

pub loop-init : goal.loop-init
unfolding ops_at
loop-init c = search rules

pub returns : goal.returns
returns c = is_done (λ before. op_at c.args.self.now) c.args.count c.loop.counter c.loop.ops.items c.loop.rest.now _ c.loop-test.false c.loop.invariant
