use Rattle.sig_type.proofs.{each, names_of_expression, expression_of, Finds, unknown_signals, take}
use Rattle.sig_type.proofs.names.expressions.Given as goal

abbrev pub invariant-loop-one : goal.invariant-loop-one
invariant-loop-one l = Finds l.initial.first l.first (each (λ x. unknown_signals l.scope (names_of_expression (expression_of x))) (take l.one-index l.all))
