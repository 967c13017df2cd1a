use Rattle.sig_file.proofs.{arith, op_bytes, length_next, op_len}
use Rattle.sig_file.proofs.image_of.ops_len.Goals as goal

pub loop-op-preserved : goal.loop-op-preserved
loop-op-preserved c =
    let next = length_next op_bytes c.args.ops.now c.loop-op.op-index c.op-item.result c.loop-op-test.true c.op-item.is in
    omega (arith, next, op_len c.op-item.result, c.loop-op.invariant, c.saturating_add.ensures, c.fields_len.ensures, c.saturating_add-len.ensures)
