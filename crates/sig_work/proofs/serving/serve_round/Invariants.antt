use Rattle.sig_work.proofs.{◌≡◌, ◌≤◌, ◌<◌, ℕ, HaveEndedAt, KeepsShares, ServesShares, Ended}
use Rattle.sig_work.proofs.serving.serve_round.Given as goal

abbrev pub invariant-loop-at : goal.invariant-loop-at
invariant-loop-at g l = record {
  keeps : KeepsShares l.fn.shares l.shares;
  serves : ServesShares g.S.Sink.took l.plan l.inputs l.halt l.fn.shares l.shares l.fn.sink l.sink;
  ended : l.round ≡ Ended → (j : ℕ) → j < l.at → HaveEndedAt l.shares j;
  faults : g.S.Sink.faults l.fn.sink ≤ g.S.Sink.faults l.sink;
}
