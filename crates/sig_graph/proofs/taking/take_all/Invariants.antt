use Rattle.sig_graph.proofs.{◌-◌, length, vec_len, Takes, numbers_of}
use Rattle.sig_graph.proofs.taking.take_all.Given as goal

abbrev pub invariant-loop-number : goal.invariant-loop-number
invariant-loop-number l = Takes l.graph l.counts.items l.ready (numbers_of l.order.items)

abbrev pub decreases-loop-number : goal.decreases-loop-number
decreases-loop-number l = length l.graph - vec_len l.order
