-- what is read and what is left are the whole line
use Rattle.sig_flow.proofs.{◌≡◌, ◌≤◌, ◌+◌, ◌++◌, length, sum_by, first_fault, value_judge, values_of, words_from}
use Rattle.sig_flow.proofs.flow_line.read_values.Given as goal

abbrev pub invariant-loop-next : goal.invariant-loop-next
invariant-loop-next l = record {
  within : l.col + length l.rest ≤ l.fn.col + length l.line;
  judged : first_fault (value_judge l.context.version l.kind l.context.number) l.before (words_from l.col l.rest) ≡ first_fault (value_judge l.context.version l.kind l.context.number) l.context.before (words_from l.fn.col l.line);
  counted : l.before + sum_by (value_judge l.context.version l.kind 0).size (words_from l.col l.rest) ≡ l.context.before + sum_by (value_judge l.context.version l.kind 0).size (words_from l.fn.col l.line);
  few : l.before ≤ 4000000;
  flow : l.flow ++ values_of l.context.version l.kind (words_from l.col l.rest) ≡ l.fn.flow ++ values_of l.context.version l.kind (words_from l.fn.col l.line);
}

abbrev pub decreases-loop-next : goal.decreases-loop-next
decreases-loop-next l = length l.rest
