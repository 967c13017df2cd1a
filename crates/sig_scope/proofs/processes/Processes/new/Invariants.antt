use Rattle.sig_scope.proofs.{with_inner, model_of, models_in, take, ◌≡◌, flat_map}
use Rattle.sig_scope.proofs.processes.Processes.new.Given as goal

abbrev pub invariant-loop-process : goal.invariant-loop-process
invariant-loop-process l = models_in l.all.items ≡ flat_map (λ p. with_inner (model_of p)) (take l.process-index l.process-items)
