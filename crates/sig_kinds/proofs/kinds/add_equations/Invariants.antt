use Rattle.sig_kinds.proofs.{◌≡◌, ◌++◌, map, take, flat_map, equations_of, known, kinds_in, expressions_of}
use Rattle.sig_kinds.proofs.kinds.add_equations.Given as goal

abbrev pub invariant-loop-equation : goal.invariant-loop-equation
invariant-loop-equation l = l.all.items ≡ l.initial.all.items ++ flat_map (λ b. map known (kinds_in l.scope (expressions_of (equations_of b.now)))) (take l.equation-index l.equations)
