use Rattle.sig_work.proofs.{◌≡◌, ◌<◌, ℕ, Some, slice_get, HasNoneIn, Share}
use Rattle.sig_work.proofs.finding.find.Given as goal

abbrev pub invariant-loop-at : goal.invariant-loop-at
invariant-loop-at l = (i : ℕ) (share : Share) → i < l.at → slice_get l.shares i ≡ Some share → HasNoneIn share l.number
