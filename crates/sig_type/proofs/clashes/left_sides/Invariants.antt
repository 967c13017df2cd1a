use Rattle.sig_type.proofs.{lefts_given, Finds, take}
use Rattle.sig_type.proofs.clashes.left_sides.Given as goal

abbrev pub invariant-loop-name : goal.invariant-loop-name
invariant-loop-name l = Finds l.initial.first l.first (lefts_given l.scope l.given (take l.name-index l.names))
