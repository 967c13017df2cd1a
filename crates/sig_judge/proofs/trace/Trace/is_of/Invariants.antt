-- those so far are of the signals' kinds
use Rattle.sig_judge.proofs.{take, IsTraceOf}
use Rattle.sig_judge.proofs.trace.Trace.is_of.Given as goal

abbrev pub invariant-loop-row : goal.invariant-loop-row
invariant-loop-row l = IsTraceOf l.signals (take l.row-index l.self.rows.items)
