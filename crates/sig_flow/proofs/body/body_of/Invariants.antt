-- the lines so far are blank
use Rattle.sig_flow.proofs.{◌≡◌, ◌≤◌, ◌+◌, length, body_from}
use Rattle.sig_flow.proofs.body.body_of.Given as goal

abbrev pub invariant-lines : goal.invariant-lines
invariant-lines l = record {
  within : l.number + length l.rest ≤ length l.bytes + 1;
  body : body_from l.inputs l.number l.rest ≡ body_from l.inputs 1 l.bytes;
}

abbrev pub decreases-lines : goal.decreases-lines
decreases-lines l = length l.rest
