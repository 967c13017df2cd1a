use Rattle.sig_type.proofs.{each, bare_alone, expression_of, Finds, take}
use Rattle.sig_type.proofs.bare.each_alone.Given as goal

abbrev pub invariant-loop-one : goal.invariant-loop-one
invariant-loop-one l = Finds l.initial.first l.first (each (λ e. bare_alone l.scope (expression_of e)) (take l.one-index l.all))
