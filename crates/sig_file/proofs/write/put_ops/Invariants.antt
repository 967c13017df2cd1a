use Rattle.sig_file.proofs.{◌≡◌, ◌++◌, take, flat_map, op_bytes}
use Rattle.sig_file.proofs.write.put_ops.Given as goal

abbrev pub invariant-loop-op : goal.invariant-loop-op
invariant-loop-op l = l.out.items ≡ l.fn.out.items ++ flat_map op_bytes (take l.op-index l.ops)
