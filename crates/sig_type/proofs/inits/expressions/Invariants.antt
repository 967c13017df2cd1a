use Rattle.sig_type.proofs.{each, missing_inits, expression_of, Finds, take}
use Rattle.sig_type.proofs.inits.expressions.Given as goal

abbrev pub invariant-loop-one : goal.invariant-loop-one
invariant-loop-one l = Finds l.initial.first l.first (each (λ e. missing_inits (expression_of e)) (take l.one-index l.all))
