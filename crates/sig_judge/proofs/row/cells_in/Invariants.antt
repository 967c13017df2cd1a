-- what is read and what is left are the whole line
use Rattle.sig_judge.proofs.{◌≡◌, ◌≤◌, ◌+◌, ◌++◌, length, map, drop, words_from, words_of, seen_of, cells_fault, cells_said}
use Rattle.sig_judge.proofs.row.cells_in.Given as goal

abbrev pub invariant-loop-next : goal.invariant-loop-next
invariant-loop-next l = record {
  within : l.col + length l.rest ≤ 1 + length l.line;
  few : l.place.before + length l.cells.items ≤ 4000000;
  width : length l.cells.items + length (words_from l.col l.rest) ≡ length l.kinds;
  judged : cells_fault l.place.number (l.place.before + length l.cells.items) (drop (length l.cells.items) l.kinds) (words_from l.col l.rest) ≡ cells_fault l.place.number l.place.before l.kinds (words_of l.line);
  read : map seen_of l.cells.items ++ cells_said (drop (length l.cells.items) l.kinds) (words_from l.col l.rest) ≡ cells_said l.kinds (words_of l.line);
}

abbrev pub decreases-loop-next : goal.decreases-loop-next
decreases-loop-next l = length l.rest
