-- the events so far happened
use Rattle.sig_play_command.proofs.{◌≤◌, map, take, IsCore, IsSameRun, happens, AllHappened}
use Rattle.sig_play_command.proofs.events.play_events.Given as goal

abbrev pub invariant-loop-event : goal.invariant-loop-event
invariant-loop-event g l = record {
  core : IsCore l.core;
  run : IsSameRun l.fn.core l.core;
  happened : AllHappened g.S.Sink.took (map happens (take l.event-index l.events)) l.fn.core l.core l.fn.out l.out;
  faults : g.S.Sink.faults l.fn.out ≤ g.S.Sink.faults l.out;
}
