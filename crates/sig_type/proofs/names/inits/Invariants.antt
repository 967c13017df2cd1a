use Rattle.sig_type.proofs.{each, names_of_init, Finds, unknown_signals, take}
use Rattle.sig_type.proofs.names.inits.Given as goal

abbrev pub invariant-loop-one : goal.invariant-loop-one
invariant-loop-one l = Finds l.initial.first l.first (each (λ d. unknown_signals l.scope (names_of_init d.init.now)) (take l.one-index l.declared))
