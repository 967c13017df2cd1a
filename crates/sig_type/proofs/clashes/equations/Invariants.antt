use Rattle.sig_type.proofs.{each, clashes_of_equation, equations_of, Finds, interface_models, take}
use Rattle.sig_type.proofs.clashes.equations.Given as goal

abbrev pub invariant-loop-one : goal.invariant-loop-one
invariant-loop-one l = Finds l.initial.first l.first (each (λ b. clashes_of_equation (interface_models l.processes.interfaces.items) l.scope (equations_of b.now)) (take l.one-index l.all))
