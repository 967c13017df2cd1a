use Rattle.sig_part.proofs.{◌≡◌, ◌<◌, ◌↔◌, ℕ, [], length, slice_get, slice_index_or, Some, Contains, SigId, operation_in, Needs, Op}
use Rattle.sig_part.proofs.needs.needed_by_each.Given as goal

abbrev pub invariant-loop-variables : goal.invariant-loop-variables
invariant-loop-variables l = record {
  count : length l.needs.items ≡ l.variables-index;
  each : (number : ℕ) → number < l.variables-index → (op : Op) → slice_get l.ops number ≡ Some op
      → (x : SigId) → Contains (slice_index_or l.needs.items number []) x ↔ Needs l.clocks.conditions (operation_in l.store.nodes op) x;
}
