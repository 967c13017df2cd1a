use Rattle.sig_rel.proofs.{IsScheduling, unmarked}
use Rattle.sig_rel.proofs.schedules.Scheduling.schedule_all.Given as goal

abbrev pub invariant-loop-step : goal.invariant-loop-step
invariant-loop-step l = IsScheduling l.kernel l.self

abbrev pub decreases-loop-step : goal.decreases-loop-step
decreases-loop-step l = unmarked l.self.placed
