use Rattle.sig_rel.proofs.{IsSchedule}
use Rattle.sig_rel.proofs.schedules.Schedule.cut_wide.Given as goal

abbrev pub invariant-loop-place : goal.invariant-loop-place
invariant-loop-place l = IsSchedule l.kernel l.self
