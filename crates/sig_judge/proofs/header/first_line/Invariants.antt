-- the lines so far are blank
use Rattle.sig_judge.proofs.{◌≡◌, ◌≤◌, ◌+◌, length, body_from}
use Rattle.sig_judge.proofs.header.first_line.Given as goal

abbrev pub invariant-loop-rest : goal.invariant-loop-rest
invariant-loop-rest l = record {
  within : l.number + length l.rest ≤ length l.bytes + 1;
  body : body_from l.number l.rest ≡ body_from 1 l.bytes;
}

abbrev pub decreases-loop-rest : goal.decreases-loop-rest
decreases-loop-rest l = length l.rest
