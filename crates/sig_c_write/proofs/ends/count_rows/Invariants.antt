use Rattle.std.proofs.Common.{◌≡◌, ◌≤◌, ◌+◌, take}
use Rattle.std.specs.List.{sum_by}
use Rattle.sig_c_write.specs.inner.Tables.{row_count}
use Rattle.sig_c_write.proofs.ends.count_rows.Given as goal

abbrev pub invariant-loop-op : goal.invariant-loop-op
invariant-loop-op l = record { counted : l.count ≡ sum_by row_count (take l.op-index l.ops); few : l.count ≤ l.op-index + l.op-index }
