use Rattle.sig_machine.proofs.{AreKeptUpTo}
use Rattle.sig_machine.proofs.actor.keep_cells.Given as goal

abbrev pub invariant-loop-number : goal.invariant-loop-number
invariant-loop-number l = AreKeptUpTo l.from l.to l.number l.fn.cells l.fn.last l.cells l.last
