use Rattle.sig_rel.proofs.{◌≡◌, ℕ, map, range_with_len, slice_index, present_at, truth_ref}
use Rattle.sig_rel.proofs.free.rows_of.Given as goal

abbrev pub invariant-loop-signal : goal.invariant-loop-signal
invariant-loop-signal l = record {
  present : l.present.items ≡ map (λ (signal : ℕ). present_at l.columns (slice_index l.rules.least.items signal)) (range_with_len 0 l.signal);
  truth : l.truth.items ≡ map (truth_ref l.kernel l.rules l.columns) (range_with_len 0 l.signal);
}
