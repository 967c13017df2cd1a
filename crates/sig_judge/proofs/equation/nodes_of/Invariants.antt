-- those so far are kept
use Rattle.sig_judge.proofs.{◌≡◌, map, take, flat_expression_of, node_expression}
use Rattle.sig_judge.proofs.equation.nodes_of.Given as goal

abbrev pub invariant-loop-operand : goal.invariant-loop-operand
invariant-loop-operand l = map node_expression l.nodes.items ≡ map flat_expression_of (take l.operand-index l.operands)
