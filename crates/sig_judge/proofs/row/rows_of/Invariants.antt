-- what is read and what is left are all lines
use Rattle.sig_judge.proofs.{◌≡◌, ◌≤◌, ◌+◌, ◌++◌, length, flat_map, lines, first_fault, numbered, words_of, instants_in, row_judge}
use Rattle.sig_judge.proofs.row.rows_of.Given as goal

abbrev pub invariant-loop-rest : goal.invariant-loop-rest
invariant-loop-rest l = record {
  within : l.line_number + length l.rest ≤ l.number + length l.bytes;
  few : l.before ≤ 4000000;
  worded : length l.rows.items ≤ l.before;
  judged : first_fault (row_judge l.header.kinds.items) l.before (numbered l.line_number (lines l.rest)) ≡ first_fault (row_judge l.header.kinds.items) 0 (numbered l.number (lines l.bytes));
  read : l.rows.items ++ flat_map (λ line. instants_in l.header (words_of line.text)) (numbered l.line_number (lines l.rest)) ≡ flat_map (λ line. instants_in l.header (words_of line.text)) (numbered l.number (lines l.bytes));
}

abbrev pub decreases-loop-rest : goal.decreases-loop-rest
decreases-loop-rest l = length l.rest
