-- the block was added to so many lists, and the others are as they were
use Rattle.sig_dd.proofs.{◌≡◌, ◌<◌, ◌≤◌, ◌+◌, ◌*◌, ℕ, List, [], length, slice_get, slice_index_or, Some, Node, Ref, AreMasks, AreTestedBelow, IsTestedBelow}
use Rattle.sig_dd.proofs.supports.add_block_each.Given as goal

abbrev pub invariant-loop-place : goal.invariant-loop-place
invariant-loop-place l = record {
  count : length l.lists ≡ length l.roots;
  done : (nodes : List Node) → AreMasks nodes l.block l.masks → AreTestedBelow nodes (l.block * 64) l.roots l.initial.lists
      → (i : ℕ) (r : Ref) → i < l.place → slice_get l.roots i ≡ Some r → IsTestedBelow nodes (l.block * 64 + 64) r (slice_index_or l.lists i []);
  left : (i : ℕ) → l.place ≤ i → slice_index_or l.lists i [] ≡ slice_index_or l.initial.lists i [];
}
