use Rattle.sig_rel.proofs.{⊤}
use Rattle.sig_rel.proofs.schedules.Scheduling.next.Given as goal

abbrev pub invariant-loop-place : goal.invariant-loop-place
invariant-loop-place l = ⊤
