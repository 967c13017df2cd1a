use Rattle.sig_clock.proofs.{ArePartition}
use Rattle.sig_clock.proofs.classes.same_clock.Given as goal

abbrev pub invariant-loop-equation : goal.invariant-loop-equation
invariant-loop-equation l = ArePartition l.kernel l.equation-index l.least.items
