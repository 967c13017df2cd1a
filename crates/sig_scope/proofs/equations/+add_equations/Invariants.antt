use Rattle.sig_scope.proofs.{equations_in, equations_of, bodies_in, take, ◌++◌, ◌≡◌, flat_map}
use Rattle.sig_scope.proofs.equations.+add_equations.Given as goal

abbrev pub invariant-loop-one : goal.invariant-loop-one
invariant-loop-one l = bodies_in l.all.items ≡ bodies_in l.initial.all.items ++ flat_map (λ b. equations_in (equations_of b)) (take l.one-index l.one-items)
