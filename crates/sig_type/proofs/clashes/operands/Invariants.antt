use Rattle.sig_type.proofs.{each, clashes_of_expression, expression_of, Finds, take}
use Rattle.sig_type.proofs.clashes.operands.Given as goal

abbrev pub invariant-loop-one : goal.invariant-loop-one
invariant-loop-one l = Finds l.initial.first l.first (each (λ e. clashes_of_expression l.scope (expression_of e)) (take l.one-index l.all))
