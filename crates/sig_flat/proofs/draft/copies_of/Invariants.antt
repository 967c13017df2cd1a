use Rattle.sig_flat.proofs.{◌≡◌, take}
use Rattle.sig_flat.proofs.draft.copies_of.Given as goal

abbrev pub invariant-loop-signal : goal.invariant-loop-signal
invariant-loop-signal l = l.copies.items ≡ take l.signal-index l.signals
