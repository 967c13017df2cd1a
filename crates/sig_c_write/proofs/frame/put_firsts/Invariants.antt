use Rattle.std.proofs.Common.{◌≡◌, ◌++◌, take}
use Rattle.std.specs.List.{enumerate_from, flat_map}
use Rattle.sig_c_write.specs.inner.Frames.{first_line}
use Rattle.sig_c_write.proofs.frame.put_firsts.Given as goal

abbrev pub invariant-loop-n : goal.invariant-loop-n
invariant-loop-n l = l.text.items ≡ l.initial.text.items ++ flat_map (first_line l.fields) (enumerate_from 0 (take l.n l.memories))
