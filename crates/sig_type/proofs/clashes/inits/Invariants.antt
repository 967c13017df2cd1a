use Rattle.sig_type.proofs.{clash_of_init, each, Finds, take, Some}
use Rattle.sig_type.proofs.clashes.inits.Given as goal

abbrev pub invariant-loop-one : goal.invariant-loop-one
invariant-loop-one l = Finds l.initial.first l.first (each (λ d. clash_of_init l.scope (Some d.kind) d.init.now) (take l.one-index l.declared))
