use Rattle.sig_work.proofs.{◌≡◌, ◌≤◌, ℕ, length, Some, slice_get, AreHandedFrom, HaveRoom, Member}
use Rattle.sig_work.proofs.handing.hand_out.Given as goal

abbrev pub invariant-loop-member : goal.invariant-loop-member
invariant-loop-member l = record {
  front : (k : ℕ) (m : Member) → slice_get l.members.items k ≡ Some m → slice_get l.fn.members.items k ≡ Some m;
  within : length l.members.items ≤ length l.fn.members.items;
  handed : AreHandedFrom (length l.members.items) l.fn.members.items l.fn.shares l.shares;
  room : HaveRoom (length l.members.items) l.shares;
}

abbrev pub decreases-loop-member : goal.decreases-loop-member
decreases-loop-member l = length l.members.items
