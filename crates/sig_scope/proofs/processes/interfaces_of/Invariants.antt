use Rattle.sig_scope.proofs.{model_of, interface_models, map, take, ◌≡◌}
use Rattle.sig_scope.proofs.processes.interfaces_of.Given as goal

abbrev pub invariant-loop-process : goal.invariant-loop-process
invariant-loop-process l = interface_models l.all.items ≡ map (λ p. model_of p.now) (take l.process-index l.processes)
