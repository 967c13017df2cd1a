use Rattle.sig_solve.proofs.{◌≡◌, filter, take, has_entered}
use Rattle.sig_solve.proofs.layers.entered.Given as goal

abbrev pub invariant-loop-condition : goal.invariant-loop-condition
invariant-loop-condition l = l.entered.items ≡ filter (has_entered l.frame l.layers) (take l.condition-index l.conditions)
