use Rattle.sig_clock.proofs.{Relabelled}
use Rattle.sig_clock.proofs.classes.relabel.Given as goal

abbrev pub invariant-loop-number : goal.invariant-loop-number
invariant-loop-number l = Relabelled l.from l.to l.number-index l.initial.least l.least
