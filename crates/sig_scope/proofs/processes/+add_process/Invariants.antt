use Rattle.sig_scope.proofs.{with_inner, model_of, models_in, take, ◌++◌, ◌≡◌, flat_map}
use Rattle.sig_scope.proofs.processes.+add_process.Given as goal

abbrev pub invariant-loop-inner : goal.invariant-loop-inner
invariant-loop-inner l = models_in l.all.items ≡ models_in l.initial.all.items ++ flat_map (λ p. with_inner (model_of p)) (take l.inner-index l.inner-items)
