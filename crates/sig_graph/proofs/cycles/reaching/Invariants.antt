use Rattle.sig_graph.proofs.{◌+◌, ◌-◌, length, vec_len, marked_count, Walks}
use Rattle.sig_graph.proofs.cycles.reaching.Given as goal

abbrev pub invariant-loop-number : goal.invariant-loop-number
invariant-loop-number l = Walks l.graph l.target l.marks.items l.waiting.items

abbrev pub decreases-loop-number : goal.decreases-loop-number
decreases-loop-number l = (length l.graph - marked_count l.marks.items) + vec_len l.waiting
