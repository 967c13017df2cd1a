use Rattle.sig_rel.proofs.{ℕ, ◌<◌, length, conditions_of, AreGiven, HasNumbers}
use Rattle.sig_rel.proofs.numbering.Numbering.number_signals.Given as goal

abbrev pub invariant-loop-signal : goal.invariant-loop-signal
invariant-loop-signal l = record {
  given : AreGiven l.kernel l.least (length (conditions_of l.kernel)) l.self;
  each : (signal : ℕ) → signal < l.signal → HasNumbers l.kernel l.least l.self signal;
}
