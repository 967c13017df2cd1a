use Rattle.sig_recursion.proofs.{Visits, take}
use Rattle.sig_recursion.proofs.calls.visit.Given as goal

abbrev pub invariant-loop-place : goal.invariant-loop-place
invariant-loop-place l = Visits l.initial.visited l.initial.waiting.items l.visited l.waiting.items (take l.place-index l.places)
