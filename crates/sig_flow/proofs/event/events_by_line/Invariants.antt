-- what is read and what is left are the whole file
use Rattle.sig_flow.proofs.{◌≡◌, ◌≤◌, ◌+◌, ◌++◌, length, wrong_from, events_from}
use Rattle.sig_flow.proofs.event.events_by_line.Given as goal

abbrev pub invariant-loop-rest : goal.invariant-loop-rest
invariant-loop-rest l = record {
  lines_left : l.number + length l.rest ≤ length l.bytes + 1;
  judged : wrong_from (length l.events.items) l.number l.rest ≡ wrong_from 0 1 l.bytes;
  events : l.events.items ++ events_from l.number l.rest ≡ events_from 1 l.bytes;
}

abbrev pub decreases-loop-rest : goal.decreases-loop-rest
decreases-loop-rest l = length l.rest
