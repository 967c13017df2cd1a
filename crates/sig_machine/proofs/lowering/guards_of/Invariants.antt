use Rattle.sig_machine.proofs.{◌≡◌, length, AreFirstGuards}
use Rattle.sig_machine.proofs.lowering.guards_of.Given as goal

abbrev pub invariant-loop-place : goal.invariant-loop-place
invariant-loop-place l = record {
  count : length l.guards.items ≡ l.place;
  each : AreFirstGuards l.plan l.guards.items;
}
