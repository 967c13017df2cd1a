use Rattle.sig_graph.proofs.{take, length, AreSuccessors}
use Rattle.sig_graph.proofs.successors.successors_of.Given as goal

abbrev pub invariant-loop-number : goal.invariant-loop-number
invariant-loop-number l = AreSuccessors (length l.graph) (take l.number l.graph) l.successors.items
