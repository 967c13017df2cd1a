use Rattle.sig_clock.proofs.{AreFreeBy}
use Rattle.sig_clock.proofs.conditions.free_signals.Given as goal

abbrev pub invariant-loop-equation : goal.invariant-loop-equation
invariant-loop-equation l = AreFreeBy l.kernel l.equation-index l.free.items
