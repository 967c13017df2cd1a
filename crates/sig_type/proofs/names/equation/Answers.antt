use Rattle.sig_type.proofs.{names_of_expression, signals_used, uses_of_right, expression_of, right_side_of, finds_signals, uses_both, interface_models, map, flat_map}
use Rattle.sig_type.proofs.names.equation.Goals as goal

pub returns-in-Def : goal.returns-in-Def
returns-in-Def c = rw (c.in-Def.is, ← c.deref.ensures.value) (uses_both (interface_models c.args.processes.now.interfaces.items) c.args.scope.now (signals_used c.deref.result.now) (uses_of_right (right_side_of c.in-Def.right)) (finds_signals (interface_models c.args.processes.now.interfaces.items) c.args.scope.now c.deref.result.now c.names.ensures) c.right_side.ensures)

pub returns-in-Same : goal.returns-in-Same
returns-in-Same c = rw (c.in-Same.is, ← c.deref-in-Same.ensures.value) (finds_signals (interface_models c.args.processes.now.interfaces.items) c.args.scope.now (flat_map names_of_expression (map expression_of c.deref-in-Same.result.now)) c.expressions.ensures)
