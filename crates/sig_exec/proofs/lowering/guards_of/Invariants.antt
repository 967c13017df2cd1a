use Rattle.sig_exec.proofs.{◌≡◌, length, AreGuardsOfFirst}
use Rattle.sig_exec.proofs.lowering.guards_of.Given as goal

abbrev pub invariant-loop-place : goal.invariant-loop-place
invariant-loop-place l = record {
  count : length l.guards.items ≡ l.place;
  each : AreGuardsOfFirst l.image l.functions.refs.items l.guards.items;
}
