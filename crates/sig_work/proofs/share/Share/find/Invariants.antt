use Rattle.sig_work.proofs.{◌≡◌, ◌<◌, ℕ, Some, slice_get, Member}
use Rattle.sig_work.proofs.share.Share.find.Given as goal

abbrev pub invariant-loop-at : goal.invariant-loop-at
invariant-loop-at l = (i : ℕ) (m : Member) → i < l.at → slice_get l.self.members.items i ≡ Some m → m.number ≡ l.number → ⊥
