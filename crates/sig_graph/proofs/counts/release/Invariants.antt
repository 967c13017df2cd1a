use Rattle.sig_graph.proofs.{take, Releases}
use Rattle.sig_graph.proofs.counts.release.Given as goal

abbrev pub invariant-loop-number : goal.invariant-loop-number
invariant-loop-number l = Releases (take l.number-index l.numbers) l.initial.counts l.counts l.initial.ready l.ready
