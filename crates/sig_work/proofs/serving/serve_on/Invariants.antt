use Rattle.sig_work.proofs.{◌≤◌, KeepsShares, ServesShares}
use Rattle.sig_work.proofs.serving.serve_on.Given as goal

abbrev pub invariant-rounds : goal.invariant-rounds
invariant-rounds g l = record {
  keeps : KeepsShares l.fn.shares l.shares;
  serves : ServesShares g.S.Sink.took l.plan l.inputs l.halt l.fn.shares l.shares l.fn.sink l.sink;
  faults : g.S.Sink.faults l.fn.sink ≤ g.S.Sink.faults l.sink;
}
