use Rattle.sig_solve.proofs.{◌≤◌, ◌+◌, length, AreRounds}
use Rattle.sig_solve.proofs.rounds.rounds_of.Given as goal

abbrev pub invariant-loop-round : goal.invariant-loop-round
invariant-loop-round l = record {
  rounds : AreRounds l.frame l.round l.numbers.items l.waiting.items;
  few : length l.waiting.items + l.round ≤ length l.frame.leaders.items;
}
