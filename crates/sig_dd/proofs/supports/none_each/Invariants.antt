-- so many lists so far, and none has a variable
use Rattle.sig_dd.proofs.{◌≡◌, ℕ, [], length, slice_index_or}
use Rattle.sig_dd.proofs.supports.none_each.Given as goal

abbrev pub invariant-loop : goal.invariant-loop
invariant-loop l = record {
  count : length l.lists.items ≡ l.counter;
  empty : (i : ℕ) → slice_index_or l.lists.items i [] ≡ [];
}
