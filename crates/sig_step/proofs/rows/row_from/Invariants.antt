use Rattle.sig_step.proofs.{IsRow}
use Rattle.sig_step.proofs.rows.row_from.Given as goal

abbrev pub invariant-loop-next : goal.invariant-loop-next
invariant-loop-next l = IsRow l.steps l.from l.next
