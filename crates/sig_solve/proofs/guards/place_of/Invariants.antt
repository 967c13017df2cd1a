use Rattle.sig_solve.proofs.{◌≡◌, ◌<◌, ℕ, SigId, Some, slice_get}
use Rattle.sig_solve.proofs.guards.place_of.Given as goal

abbrev pub invariant-loop-place : goal.invariant-loop-place
invariant-loop-place l = (k : ℕ) (d : SigId) → k < l.place → slice_get l.conditions k ≡ Some d → d.0 ≡ l.condition.0 → ⊥
