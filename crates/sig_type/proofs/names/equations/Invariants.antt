use Rattle.sig_type.proofs.{each, uses_of_equation, equations_of, Finds, unknown_uses, interface_models, take}
use Rattle.sig_type.proofs.names.equations.Given as goal

abbrev pub invariant-loop-one : goal.invariant-loop-one
invariant-loop-one l = Finds l.initial.first l.first (each (λ b. unknown_uses (interface_models l.processes.interfaces.items) l.scope (uses_of_equation (equations_of b.now))) (take l.one-index l.all))
