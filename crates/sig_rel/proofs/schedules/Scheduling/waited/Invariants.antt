use Rattle.sig_rel.proofs.{length, is_waiting, IsBestBelow}
use Rattle.sig_rel.proofs.schedules.Scheduling.waited.Given as goal

abbrev pub invariant-loop-signal : goal.invariant-loop-signal
invariant-loop-signal l = IsBestBelow (is_waiting l.kernel l.self l.truths) (length l.kernel.signals) l.signal l.best
