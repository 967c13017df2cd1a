use Rattle.sig_type.proofs.{clashes_of_results, declarations_in, Finds, take}
use Rattle.sig_type.proofs.clashes.results.Given as goal

abbrev pub invariant-loop-place : goal.invariant-loop-place
invariant-loop-place l = Finds l.initial.first l.first (clashes_of_results l.scope (take l.place l.names) (declarations_in l.outputs))
