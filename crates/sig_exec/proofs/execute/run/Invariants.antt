use Rattle.sig_exec.proofs.{◌≡◌, ◌≤◌, AreOutputs, IsMachineOf, state_of, HasRun}
use Rattle.sig_exec.proofs.execute.run.Given as goal

abbrev pub invariant-loop-done : goal.invariant-loop-done
invariant-loop-done g l = record {
  machine : IsMachineOf l.image l.lowered l.inputs l.machine;
  instant : l.machine.instant ≡ l.done;
  run : HasRun l.image l.inputs g.S.Sink.took l.fn.sink l.sink l.done (state_of l.image l.inputs l.machine);
  outputs : AreOutputs l.image l.outputs;
  faults : g.S.Sink.faults l.fn.sink ≤ g.S.Sink.faults l.sink;
}
