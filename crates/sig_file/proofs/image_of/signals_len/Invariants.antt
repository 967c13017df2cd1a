use Rattle.sig_file.proofs.{◌≡◌, ◌-◌, ◌^◌, flat_map, length, take, min, signal_bytes}
use Rattle.sig_file.proofs.image_of.signals_len.Given as goal

abbrev pub invariant-loop-signal : goal.invariant-loop-signal
invariant-loop-signal l = l.len ≡ min (length (flat_map signal_bytes (take l.signal-index l.signals))) (2 ^ 64 - 1)
