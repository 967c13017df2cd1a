use Rattle.sig_interleaving.proofs.{◌≤◌, length, IsCore, IsReached, IsSameRun, LeadsTo, RestBelow, left_behind}
use Rattle.sig_interleaving.proofs.state.Core.run_out.Given as goal

-- the actors below the next one rest
abbrev pub invariant-events : goal.invariant-events
invariant-events g l = record {
  core : IsCore l.self;
  run : IsSameRun l.fn.self l.self;
  reached : IsReached l.self;
  leads : LeadsTo g.S.Sink.took l.fn.self l.self l.fn.sink l.sink;
  within : l.k ≤ length l.self.states.items;
  rest : RestBelow l.k l.self;
  faults : g.S.Sink.faults l.fn.sink ≤ g.S.Sink.faults l.sink;
}

-- each event that changes something leaves less, and so does the next actor that rests
abbrev pub decreases-events : goal.decreases-events
decreases-events g l = left_behind l.self l.k
