use Rattle.sig_type.proofs.{clashes_of_constants, declarations_in, Finds, take}
use Rattle.sig_type.proofs.clashes.constants.Given as goal

abbrev pub invariant-loop-place : goal.invariant-loop-place
invariant-loop-place l = Finds l.initial.first l.first (clashes_of_constants l.scope (take l.place l.all) (declarations_in l.params))
