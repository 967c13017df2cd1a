use Rattle.sig_solve.proofs.{◌≡◌, ◌<◌, ℕ, Some, slice_get, SigId, guard_at}
use Rattle.sig_solve.proofs.classes.place_of.Given as goal

abbrev pub invariant-loop-place : goal.invariant-loop-place
invariant-loop-place l = (i : ℕ) (c : SigId) → i < l.place → slice_get l.firsts i ≡ Some c → guard_at l.frame l.guards c.0 ≡ guard_at l.frame l.guards l.fn.signal.0 → ⊥
