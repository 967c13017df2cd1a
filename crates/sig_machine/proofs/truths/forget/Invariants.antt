use Rattle.sig_machine.proofs.{◌≡◌, ◌<◌, ℕ, false, slice_get, Some}
use Rattle.sig_machine.proofs.truths.forget.Given as goal

abbrev pub invariant-loop-i : goal.invariant-loop-i
invariant-loop-i l = (k : ℕ) → k < l.i → slice_get l.truths k ≡ Some false
