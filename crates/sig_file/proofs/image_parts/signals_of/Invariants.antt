use Rattle.sig_file.proofs.{◌≡◌, map, take, image_signal}
use Rattle.sig_file.proofs.image_parts.signals_of.Given as goal

abbrev pub invariant-loop-signal : goal.invariant-loop-signal
invariant-loop-signal l = l.made.items ≡ map image_signal (take l.signal-index l.signals)
