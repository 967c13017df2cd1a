use Rattle.sig_graph.proofs.{◌≡◌, ◌<◌, ℕ, [], length, slice_get, slice_index_or, Some, IsBefore, Op}
use Rattle.sig_graph.proofs.graph.graph_of.Given as goal

abbrev pub invariant-loop-number : goal.invariant-loop-number
invariant-loop-number l = record {
  count : length l.graph.items ≡ l.number;
  each : (j : ℕ) (op : Op) → j < l.number → slice_get l.ops j ≡ Some op → IsBefore l.clocks.conditions l.store.nodes l.ops op (slice_index_or l.graph.items j []);
}
