use Rattle.sig_file.proofs.{◌≡◌, ◌-◌, ◌^◌, flat_map, length, take, min, op_bytes}
use Rattle.sig_file.proofs.image_of.ops_len.Given as goal

abbrev pub invariant-loop-op : goal.invariant-loop-op
invariant-loop-op l = l.len ≡ min (length (flat_map op_bytes (take l.op-index l.ops))) (2 ^ 64 - 1)
