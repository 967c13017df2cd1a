use Rattle.sig_graph.proofs.{IsLeastOnCycle}
use Rattle.sig_graph.proofs.cycles.least_on_cycle.Given as goal

abbrev pub invariant-loop-number : goal.invariant-loop-number
invariant-loop-number l = IsLeastOnCycle l.graph l.ops l.number l.least
