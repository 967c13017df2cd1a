use Rattle.sig_solve.proofs.{ArePlacedTo}
use Rattle.sig_solve.proofs.guards.places_of.Given as goal

abbrev pub invariant-loop-number : goal.invariant-loop-number
invariant-loop-number l = ArePlacedTo l.system l.conditions l.number l.places.items
