use Rattle.sig_exec.proofs.{◌≡◌, length, AreOutputsOfFirst}
use Rattle.sig_exec.proofs.putting.signals_of.Given as goal

abbrev pub invariant-loop-output : goal.invariant-loop-output
invariant-loop-output l = record {
  count : length l.signals.items ≡ l.output;
  each : AreOutputsOfFirst l.image l.signals.items;
}
