use Rattle.std.proofs.Common.{◌≡◌, ◌++◌, take}
use Rattle.std.specs.List.{flat_map}
use Rattle.sig_c_write.specs.inner.Tables.{op_rows}
use Rattle.sig_c_write.proofs.ends.put_all_ends.Given as goal

abbrev pub invariant-loop-op : goal.invariant-loop-op
invariant-loop-op l = l.text.items ≡ l.fn.text.items ++ flat_map (op_rows l.prefix l.image) (take l.op-index l.ops)
