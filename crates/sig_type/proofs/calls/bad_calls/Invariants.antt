use Rattle.sig_type.proofs.{each, bad_calls_of, equations_of, Finds, interface_models, take}
use Rattle.sig_type.proofs.calls.bad_calls.Given as goal

abbrev pub invariant-loop-one : goal.invariant-loop-one
invariant-loop-one l = Finds l.initial.first l.first (each (λ b. bad_calls_of (interface_models l.processes.interfaces.items) (equations_of b.now)) (take l.one-index l.all))
