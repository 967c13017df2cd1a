use Rattle.sig_kinds.proofs.{◌≡◌, ◌++◌, map, take, flat_map, kind_of, expression_of, known, nodes}
use Rattle.sig_kinds.proofs.kinds.add_expressions.Given as goal

abbrev pub invariant-loop-e : goal.invariant-loop-e
invariant-loop-e l = l.all.items ≡ l.initial.all.items ++ flat_map (λ e. map (λ n. known (kind_of l.scope n)) (nodes (expression_of e))) (take l.e-index l.es)
