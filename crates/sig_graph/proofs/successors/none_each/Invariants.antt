use Rattle.sig_graph.proofs.{◌≡◌, ℕ, [], length, slice_index_or}
use Rattle.sig_graph.proofs.successors.none_each.Given as goal

abbrev pub invariant-loop : goal.invariant-loop
invariant-loop l = record {
  count : length l.lists.items ≡ l.counter;
  none : (p : ℕ) → slice_index_or l.lists.items p [] ≡ [];
}
