-- what the names so far say
use Rattle.sig_judge.proofs.{◌≤◌, ◌+◌, length, Named}
use Rattle.sig_judge.proofs.header.header_of.Given as goal

abbrev pub invariant-loop-next : goal.invariant-loop-next
invariant-loop-next l = record {
  within : l.col + length l.rest ≤ 1 + length l.fn.start.line.now;
  named : Named l.signals l.fn.start.line.now l.kinds.items l.places.items l.col l.rest;
}

abbrev pub decreases-loop-next : goal.decreases-loop-next
decreases-loop-next l = length l.rest
