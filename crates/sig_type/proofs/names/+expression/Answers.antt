use Rattle.sig_type.proofs.{names_of_constant, names_of_expression, names_of_init, expression_of, unknown_both, ◌++◌}
use Rattle.sig_type.proofs.names.+expression.Goals as goal

pub returns-in-Binary : goal.returns-in-Binary
returns-in-Binary t c = rw (c.in-Binary.is, ← c.deref-in-Binary.ensures, ← c.deref-in-Binary-2.ensures) (unknown_both c.args.scope.now (names_of_expression (expression_of c.deref-in-Binary.result.now)) (names_of_expression (expression_of c.deref-in-Binary-2.result.now)) c.expression-in-Binary.ensures c.expression-in-Binary-2.ensures)

pub returns-in-Delay : goal.returns-in-Delay
returns-in-Delay t c = rw (c.in-Delay.is, ← c.deref-in-Delay.ensures) (unknown_both c.args.scope.now (names_of_expression (expression_of c.deref-in-Delay.result.now)) (names_of_init c.in-Delay.value) c.expression-in-Delay.ensures c.init.ensures)

pub returns-in-Cell : goal.returns-in-Cell
returns-in-Cell t c = rw (c.in-Cell.is, ← c.deref-in-Cell.ensures, ← c.deref-in-Cell-2.ensures) (unknown_both c.args.scope.now (names_of_expression (expression_of c.deref-in-Cell.result.now)) ((names_of_expression (expression_of c.deref-in-Cell-2.result.now)) ++ names_of_constant c.in-Cell.value) c.expression-in-Cell.ensures (unknown_both c.args.scope.now (names_of_expression (expression_of c.deref-in-Cell-2.result.now)) (names_of_constant c.in-Cell.value) c.expression-in-Cell-2.ensures c.constant.ensures))
