use Rattle.sig_part.proofs.{AreMarked}
use Rattle.sig_part.proofs.marks.list_of.Given as goal

abbrev pub invariant-loop-number : goal.invariant-loop-number
invariant-loop-number l = AreMarked l.number l.marks l.list.items
