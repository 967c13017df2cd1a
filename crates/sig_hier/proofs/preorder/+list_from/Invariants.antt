use Rattle.sig_hier.proofs.{◌≡◌, ◌++◌, below}
use Rattle.sig_hier.proofs.preorder.+list_from.Given as goal

abbrev pub decreases-list_from : goal.decreases-list_from
decreases-list_from l = l.levels

abbrev pub invariant-loop-class : goal.invariant-loop-class
invariant-loop-class l = l.lines.items ≡ l.initial.lines.items ++ below l.levels l.tree l.line l.class
