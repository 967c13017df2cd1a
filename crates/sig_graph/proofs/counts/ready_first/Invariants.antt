use Rattle.sig_graph.proofs.{◌≡◌, ◌<◌, ℕ, ◌↔◌, slice_index_or, Has}
use Rattle.sig_graph.proofs.counts.ready_first.Given as goal

abbrev pub invariant-loop-number : goal.invariant-loop-number
invariant-loop-number l = (q : ℕ) → Has l.ready q ↔ ((q < l.number) × (slice_index_or l.counts q 0 ≡ 0))
