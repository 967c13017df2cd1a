use Rattle.sig_solve.proofs.{◌≤◌, ◌+◌, length, take, AreFirsts}
use Rattle.sig_solve.proofs.classes.firsts_of.Given as goal

abbrev pub invariant-loop-signal : goal.invariant-loop-signal
invariant-loop-signal l = record {
  firsts : AreFirsts l.frame l.layers l.guards l.fn.root (take l.signal-index l.ordered) l.firsts.items;
  few : length l.firsts.items ≤ l.signal-index + 1;
}
