use Rattle.std.proofs.Common.{◌≡◌, ◌++◌, take}
use Rattle.std.specs.List.{flat_map}
use Rattle.sig_c_write.specs.inner.Frames.{next_line}
use Rattle.sig_c_write.proofs.head.put_next_lines.Given as goal

abbrev pub invariant-loop-line : goal.invariant-loop-line
invariant-loop-line l = l.text.items ≡ l.fn.text.items ++ flat_map next_line (take l.line-index l.lines)
