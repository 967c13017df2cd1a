use Rattle.sig_type.proofs.{names_of_constant, names_of_expression, expression_of, finds_then, finds_same, finds_signals, unknown_both, interface_models, map, ◌++◌, flat_map}
use Rattle.sig_type.proofs.names.right_side.Goals as goal

pub returns-in-Value : goal.returns-in-Value
returns-in-Value c = rw c.in-Value.is (finds_signals (interface_models c.args.processes.now.interfaces.items) c.args.scope.now (names_of_expression (expression_of c.in-Value.e)) c.expression.ensures)

pub returns-in-Call : goal.returns-in-Call
returns-in-Call c = rw (c.in-Call.is, ← c.deref.ensures.value, ← c.deref-in-Call.ensures.value) (finds_then (finds_same _ c.lacks.ensures c.ask.ensures)
    (finds_signals (interface_models c.args.processes.now.interfaces.items) c.args.scope.now (flat_map names_of_constant c.deref.result.now ++ flat_map names_of_expression (map expression_of c.deref-in-Call.result.now))
    (unknown_both c.args.scope.now (flat_map names_of_constant c.deref.result.now) (flat_map names_of_expression (map expression_of c.deref-in-Call.result.now)) c.constants.ensures c.expressions.ensures)))
