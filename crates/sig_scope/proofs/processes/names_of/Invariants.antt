use Rattle.sig_scope.proofs.{◌≡◌, map, take, name_of, model_of}
use Rattle.sig_scope.proofs.processes.names_of.Given as goal

abbrev pub invariant-loop-process : goal.invariant-loop-process
invariant-loop-process l = l.names ≡ map (λ p. (name_of (model_of p.now)).text) (take l.process-index l.processes)
