use Rattle.sig_file.proofs.{◌≡◌, ◌++◌, take, flat_map, signal_bytes}
use Rattle.sig_file.proofs.write.put_signals.Given as goal

abbrev pub invariant-loop-signal : goal.invariant-loop-signal
invariant-loop-signal l = l.out.items ≡ l.fn.out.items ++ flat_map signal_bytes (take l.signal-index l.signals)
