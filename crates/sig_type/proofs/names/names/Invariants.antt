use Rattle.sig_type.proofs.{Finds, unknown_signals, take}
use Rattle.sig_type.proofs.names.names.Given as goal

abbrev pub invariant-loop-one : goal.invariant-loop-one
invariant-loop-one l = Finds l.initial.first l.first (unknown_signals l.scope (take l.one-index l.names))
