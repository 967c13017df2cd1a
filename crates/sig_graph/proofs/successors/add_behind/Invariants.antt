use Rattle.sig_graph.proofs.{take, Adds}
use Rattle.sig_graph.proofs.successors.add_behind.Given as goal

abbrev pub invariant-loop-p : goal.invariant-loop-p
invariant-loop-p l = Adds l.number (take l.p-index l.predecessors) l.initial.successors l.successors
