use Rattle.sig_work.proofs.{◌≤◌, false, vec_capacity, HasNoEnds, LinkEnds}
use Rattle.sig_work.proofs.ends.LinkEnds.of_none.Given as goal

-- so many links so far, of which none has an end
abbrev pub invariant-loop : goal.invariant-loop
invariant-loop l = record {
  none : HasNoEnds l.counter (let ends : LinkEnds = record { puts = l.puts; takes = l.takes; holds = false } in ends);
  puts_room : l.links ≤ vec_capacity l.puts;
  takes_room : l.links ≤ vec_capacity l.takes;
}
