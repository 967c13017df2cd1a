use Rattle.sig_type.proofs.{each, missing_inits_of_equation, equations_of, Finds, take}
use Rattle.sig_type.proofs.inits.missing_inits.Given as goal

abbrev pub invariant-loop-one : goal.invariant-loop-one
invariant-loop-one l = Finds l.initial.first l.first (each (λ b. missing_inits_of_equation l.scope (equations_of b.now)) (take l.one-index l.all))
