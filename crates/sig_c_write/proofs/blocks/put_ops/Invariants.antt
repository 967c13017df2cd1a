use Rattle.std.proofs.Common.{◌≡◌, ◌≤◌, ◌+◌, ◌++◌, drop}
use Rattle.sig_c_write.specs.Given.{scope_in}
use Rattle.sig_c_write.specs.inner.Blocks.{beginning, ops_bytes}
use Rattle.sig_c_write.proofs.blocks.put_ops.Given as goal

abbrev pub invariant-loop-op : goal.invariant-loop-op
invariant-loop-op l = record {
  written : l.text.items ++ ops_bytes l.image (scope_in l.names) l.notes l.reached (drop l.op-index l.ops) ≡ l.fn.text.items ++ ops_bytes l.image (scope_in l.names) l.notes beginning l.ops;
  code : l.reached.code ≤ 1 + (l.op-index + l.op-index);
  note : l.reached.note ≤ l.op-index;
}
