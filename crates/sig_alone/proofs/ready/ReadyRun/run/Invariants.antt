use Rattle.sig_alone.proofs.{◌≤◌, HasRun, IsMachineOf, Lowers, longest_lines, outputs_of}
use Rattle.sig_alone.proofs.ready.ReadyRun.run.Given as goal

abbrev pub invariant-loop-done : goal.invariant-loop-done
invariant-loop-done g l = record {
  lowers : Lowers l.plan l.self.lowered;
  machine : IsMachineOf l.plan l.self.lowered l.inputs l.self.machine;
  run : HasRun l.plan l.inputs l.written g.S.Sink.took l.fn.sink l.sink l.done l.self.machine;
  room : longest_lines (outputs_of l.plan.kernel) ≤ l.self.lines.size;
  faults : g.S.Sink.faults l.fn.sink ≤ g.S.Sink.faults l.sink;
}
