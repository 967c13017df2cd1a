use Rattle.sig_part.proofs.{take, Visits, is_elsewhere}
use Rattle.sig_part.proofs.closing.visit.Given as goal

abbrev pub invariant-loop-x : goal.invariant-loop-x
invariant-loop-x l = Visits (is_elsewhere l.signals l.actor) (take l.x-index l.list) l.initial.marks l.marks l.initial.waiting.items l.waiting.items
