-- the lines of the actors so far were taken
use Rattle.sig_play_command.proofs.{◌≤◌, take, TookOf, actor_line, lines_from}
use Rattle.sig_play_command.proofs.state.put_actors.Given as goal

abbrev pub invariant-loop-k : goal.invariant-loop-k
invariant-loop-k g l = record {
  taken : TookOf g.S.Sink.took l.core (λ m. lines_from actor_line 0 (take l.k m.actors)) l.fn.out l.out;
  faults : g.S.Sink.faults l.fn.out ≤ g.S.Sink.faults l.out;
}
