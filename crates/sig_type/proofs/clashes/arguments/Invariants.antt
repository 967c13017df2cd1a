use Rattle.sig_type.proofs.{each, clashes_of_expression, expression_of, AnyRefused, declarations_in, Finds, IsTrue, map, take, ◌↔◌}
use Rattle.sig_type.proofs.clashes.arguments.Given as goal

abbrev pub invariant-loop-place : goal.invariant-loop-place
invariant-loop-place l = (Finds l.initial.first l.first (each (λ e. clashes_of_expression l.scope (expression_of e)) (take l.place l.all))) × (IsTrue l.unfit ↔ AnyRefused l.scope (map expression_of (take l.place l.all)) (declarations_in l.inputs))
