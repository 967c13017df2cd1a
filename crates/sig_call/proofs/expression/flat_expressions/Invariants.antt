use Rattle.sig_call.proofs.{◌≡◌, map, take, flat_of, flat_expression_of, expression_of, copy_in}
use Rattle.sig_call.proofs.expression.flat_expressions.Given as goal

abbrev pub invariant-loop-e : goal.invariant-loop-e
invariant-loop-e l = map flat_expression_of l.flat.items ≡ map (flat_of (copy_in l.copy)) (map expression_of (take l.e-index l.all))
