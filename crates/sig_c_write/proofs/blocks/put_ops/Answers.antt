use Rattle.std.proofs.Common.{Err, ap}
use Rattle.sig_c_write.specs.Given.{scope_in}
use Rattle.sig_c_write.specs.declared.limits.TheConstants.{TEXT_BYTES}
use Rattle.sig_c_write.specs.inner.Blocks.{beginning, ops_bytes}
use Rattle.sig_c_write.proofs.Chains.{passed_on}
use Rattle.sig_c_write.proofs.OpsLoop.{ops_long}
use Rattle.sig_c_write.proofs.blocks.put_ops.Goals as goal

pub returns-in_err-reached-clause-long : goal.returns-in_err-reached-clause-long
returns-in_err-reached-clause-long c = λ is.
    let scope = scope_in c.args.names.now in
    let l = c.in_err-reached.ensures.long (ap Err (passed_on c.from_residual.result c.in_err-reached.field-0.0 c.from_residual.ensures.1 is)) in
    ops_long c.args.image.now scope c.args.notes.now c.args.ops.now c.loop-op.op-index c.op-item.result c.loop-op-test.true c.op-item.is TEXT_BYTES c.loop-op.text.items c.args.text.now.items
    (ops_bytes c.args.image.now scope c.args.notes.now beginning c.args.ops.now) c.loop-op.reached c.loop-op.invariant.written l
