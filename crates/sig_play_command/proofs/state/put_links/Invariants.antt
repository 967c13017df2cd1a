-- the lines of the links so far were taken
use Rattle.sig_play_command.proofs.{◌≤◌, take, TookOf, link_line, lines_from}
use Rattle.sig_play_command.proofs.state.put_links.Given as goal

abbrev pub invariant-loop-j : goal.invariant-loop-j
invariant-loop-j g l = record {
  taken : TookOf g.S.Sink.took l.core (λ m. lines_from link_line 0 (take l.j m.links)) l.fn.out l.out;
  faults : g.S.Sink.faults l.fn.out ≤ g.S.Sink.faults l.out;
}
