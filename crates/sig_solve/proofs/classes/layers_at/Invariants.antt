use Rattle.sig_solve.proofs.{◌≡◌, map, take, layer_in}
use Rattle.sig_solve.proofs.classes.layers_at.Given as goal

abbrev pub invariant-loop-first : goal.invariant-loop-first
invariant-loop-first l = l.own.items ≡ map (λ c. layer_in l.frame l.layers c.0) (take l.first-index l.firsts)
