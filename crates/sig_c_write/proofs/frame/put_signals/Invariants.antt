use Rattle.std.proofs.Common.{◌≡◌, ◌++◌, take}
use Rattle.std.specs.List.{enumerate_from, flat_map}
use Rattle.sig_c_write.specs.Given.{scope_in}
use Rattle.sig_c_write.specs.inner.Frames.{signal_line}
use Rattle.sig_c_write.proofs.frame.put_signals.Given as goal

abbrev pub invariant-loop-n : goal.invariant-loop-n
invariant-loop-n l = l.text.items ≡ l.initial.text.items ++ flat_map (signal_line (scope_in l.names)) (enumerate_from 0 (take l.n l.signals))
