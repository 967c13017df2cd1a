use Rattle.sig_type.proofs.{each, names_of_constant, Finds, unknown_signals, take}
use Rattle.sig_type.proofs.names.constants.Given as goal

abbrev pub invariant-loop-one : goal.invariant-loop-one
invariant-loop-one l = Finds l.initial.first l.first (each (λ x. unknown_signals l.scope (names_of_constant x)) (take l.one-index l.all))
