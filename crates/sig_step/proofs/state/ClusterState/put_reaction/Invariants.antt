use Rattle.sig_step.proofs.{◌≤◌, lines_upto, last_in}
use Rattle.sig_step.proofs.state.ClusterState.put_reaction.Given as goal

abbrev pub invariant-loop-output : goal.invariant-loop-output
invariant-loop-output g l = record {
  taken : g.S.Sink.took l.fn.sink (lines_upto l.kernel (last_in l.self.values) l.output) l.sink;
  faults : g.S.Sink.faults l.fn.sink ≤ g.S.Sink.faults l.sink;
}
