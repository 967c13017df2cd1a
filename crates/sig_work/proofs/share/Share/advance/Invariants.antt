use Rattle.sig_work.proofs.{◌≡◌, ◌≤◌, ◌<◌, ℕ, HasEndedAt, KeepsShare, ServesShare, Ended}
use Rattle.sig_work.proofs.share.Share.advance.Given as goal

abbrev pub invariant-loop-number : goal.invariant-loop-number
invariant-loop-number g l = record {
  keeps : KeepsShare l.fn.self l.self;
  serves : ServesShare g.S.Sink.took l.plan l.inputs l.halt l.fn.self l.self l.fn.sink l.sink;
  ended : l.round ≡ Ended → (j : ℕ) → j < l.number → HasEndedAt l.self j;
  faults : g.S.Sink.faults l.fn.sink ≤ g.S.Sink.faults l.sink;
}
