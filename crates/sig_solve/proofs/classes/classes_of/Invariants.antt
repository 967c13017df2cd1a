use Rattle.sig_solve.proofs.{◌≡◌, length, AreClasses}
use Rattle.sig_solve.proofs.classes.classes_of.Given as goal

abbrev pub invariant-loop-signal : goal.invariant-loop-signal
invariant-loop-signal l = record {
  count : length l.classes.items ≡ l.signal;
  classes : AreClasses l.frame l.guards l.firsts l.classes.items;
}
