use Rattle.sig_graph.proofs.{take, Visits}
use Rattle.sig_graph.proofs.cycles.visit.Given as goal

abbrev pub invariant-loop-number : goal.invariant-loop-number
invariant-loop-number l = Visits (take l.number-index l.numbers) l.initial.marks l.marks l.initial.waiting.items l.waiting.items
