use Rattle.sig_rel.proofs.{IsScheduling}
use Rattle.sig_rel.proofs.schedules.Scheduling.cut_tops.Given as goal

abbrev pub invariant-loop-class : goal.invariant-loop-class
invariant-loop-class l = IsScheduling l.kernel l.self
