use Rattle.sig_rel.proofs.{IsSchedule}
use Rattle.sig_rel.proofs.schedules.Schedule.link_equations.Given as goal

abbrev pub invariant-loop-number : goal.invariant-loop-number
invariant-loop-number l = IsSchedule l.kernel l.self
