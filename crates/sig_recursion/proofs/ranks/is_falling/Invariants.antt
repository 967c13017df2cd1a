use Rattle.sig_recursion.proofs.{graph_in, FallsBelow}
use Rattle.sig_recursion.proofs.ranks.is_falling.Given as goal

abbrev pub invariant-loop-place : goal.invariant-loop-place
invariant-loop-place l = FallsBelow (graph_in l.callees) l.ranks l.place
