-- those so far were translated, and the others are left
use Rattle.sig_flat.proofs.{◌≡◌, drop, map, flat_expression_of, operands_from, behind}
use Rattle.sig_flat.proofs.expression.operands.Given as goal

abbrev pub invariant-loop-e : goal.invariant-loop-e
invariant-loop-e l = behind l.signals.items (operands_from l.site (map flat_expression_of (drop l.e-index l.expressions)) l.draft) ≡ operands_from l.site (map flat_expression_of l.expressions) l.initial.draft
