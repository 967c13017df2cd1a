-- the words so far and those that are left are all words
use Rattle.sig_judge.proofs.{◌≡◌, ◌≤◌, ◌+◌, length, words_from, words_of}
use Rattle.sig_judge.proofs.row.word_count.Given as goal

abbrev pub invariant-loop-next : goal.invariant-loop-next
invariant-loop-next l = record {
  within : l.col + length l.rest ≤ 1 + length l.line;
  few : l.count + length l.rest ≤ length l.line;
  counted : l.count + length (words_from l.col l.rest) ≡ length (words_of l.line);
}

abbrev pub decreases-loop-next : goal.decreases-loop-next
decreases-loop-next l = length l.rest
