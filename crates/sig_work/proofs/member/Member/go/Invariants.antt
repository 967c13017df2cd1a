use Rattle.sig_work.proofs.{◌≢◌, ◌≤◌, KeepsMember, KeepsSeat, ServesMember, Ended}
use Rattle.sig_work.proofs.member.Member.go.Given as goal

abbrev pub invariant-loop : goal.invariant-loop
invariant-loop g l = record {
  keeps : KeepsMember l.fn.self l.self;
  seat : KeepsSeat l.fn.seat l.seat;
  serves : ServesMember g.S.Sink.took l.plan l.inputs l.halt l.fn.self l.fn.seat l.self l.seat l.fn.sink l.sink;
  running : l.round ≢ Ended;
  faults : g.S.Sink.faults l.fn.sink ≤ g.S.Sink.faults l.sink;
}
