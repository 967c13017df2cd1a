use Rattle.sig_part.proofs.{◌≡◌, ◌<◌, ℕ, [], length, slice_index_or, AreMarked}
use Rattle.sig_part.proofs.marks.lists_of.Given as goal

abbrev pub invariant-loop-of_actor : goal.invariant-loop-of_actor
invariant-loop-of_actor l = record {
  count : length l.lists.items ≡ l.of_actor-index;
  each : (actor : ℕ) → actor < l.of_actor-index → AreMarked l.count (slice_index_or l.marks actor []) (slice_index_or l.lists.items actor []);
}
