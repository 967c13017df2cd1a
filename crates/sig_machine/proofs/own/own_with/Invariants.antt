use Rattle.sig_machine.proofs.{AreOwnBelow, WritesOwnUpTo}
use Rattle.sig_machine.proofs.own.own_with.Given as goal

abbrev pub invariant-loop-place : goal.invariant-loop-place
invariant-loop-place l = record {
  below : AreOwnBelow l.signals l.own;
  writes : WritesOwnUpTo l.own l.signals l.instructions l.place;
}
