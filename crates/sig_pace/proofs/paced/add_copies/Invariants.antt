use Rattle.sig_pace.proofs.{◌≡◌, ◌++◌, take}
use Rattle.sig_pace.proofs.paced.add_copies.Given as goal

abbrev pub invariant-loop-other : goal.invariant-loop-other
invariant-loop-other l = l.signals.items ≡ l.fn.signals.items ++ take l.other-index l.others
