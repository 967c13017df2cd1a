use Rattle.sig_pace.proofs.{take, IsCover}
use Rattle.sig_pace.proofs.covering.uncovered.Given as goal

abbrev pub invariant-loop-signal : goal.invariant-loop-signal
invariant-loop-signal l = IsCover l.asked.kernel.now (take l.signal-index l.signals) l.found.items
