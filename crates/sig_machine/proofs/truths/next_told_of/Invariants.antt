use Rattle.sig_machine.proofs.{◌≡◌, ◌≤◌, length, AreNextFrom}
use Rattle.sig_machine.proofs.truths.next_told_of.Given as goal

abbrev pub decreases-loop-left : goal.decreases-loop-left
decreases-loop-left l = l.left

abbrev pub invariant-loop-left : goal.invariant-loop-left
invariant-loop-left l = record {
  within : l.left ≤ length l.instructions;
  count : length l.next.items ≡ length l.instructions;
  behind : AreNextFrom l.instructions l.variables l.next.items l.left;
}
