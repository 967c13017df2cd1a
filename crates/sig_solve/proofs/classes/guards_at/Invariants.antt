use Rattle.sig_solve.proofs.{◌≡◌, ◌<◌, ℕ, length, Some, slice_get, SigId, guard_at}
use Rattle.sig_solve.proofs.classes.guards_at.Given as goal

abbrev pub invariant-loop-first : goal.invariant-loop-first
invariant-loop-first l = record {
  count : length l.own.items ≡ l.first-index;
  each : (i : ℕ) (c : SigId) → i < l.first-index → slice_get l.firsts i ≡ Some c → slice_get l.own.items i ≡ guard_at l.frame l.guards c.0;
}
