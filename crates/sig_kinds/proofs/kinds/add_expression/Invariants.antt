use Rattle.sig_kinds.proofs.{◌≡◌, ◌++◌, reverse, length}
use Rattle.sig_kinds.proofs.kinds.add_expression.Given as goal

abbrev pub invariant-loop-kind : goal.invariant-loop-kind
invariant-loop-kind l = l.all.items ++ reverse l.back.items ≡ l.initial.all.items ++ reverse l.initial.back.items

abbrev pub decreases-loop-kind : goal.decreases-loop-kind
decreases-loop-kind l = length l.back.items
