use Rattle.sig_type.proofs.{each, bare_in_equation, equations_of, Finds, take}
use Rattle.sig_type.proofs.bare.bare_constants.Given as goal

abbrev pub invariant-loop-one : goal.invariant-loop-one
invariant-loop-one l = Finds l.initial.first l.first (each (λ b. bare_in_equation l.scope (equations_of b.now)) (take l.one-index l.all))
