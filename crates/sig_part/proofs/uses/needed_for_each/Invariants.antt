use Rattle.sig_part.proofs.{◌≡◌, ◌<◌, ◌↔◌, ℕ, [], length, slice_index_or, Contains, SigId, IsNeededWithin}
use Rattle.sig_part.proofs.uses.needed_for_each.Given as goal

abbrev pub invariant-loop-number : goal.invariant-loop-number
invariant-loop-number l = record {
  count : length l.needed.items ≡ l.number;
  each : (n : ℕ) → n < l.number → (x : SigId) → x.0 ≡ n
      → (condition : SigId) → Contains (slice_index_or l.needed.items n []) condition ↔ IsNeededWithin l.ops l.needs x (length l.ops) condition;
}
