-- what is read and what is left are the whole body
use Rattle.sig_flow.proofs.{◌≡◌, ◌<◌, ◌≤◌, ◌+◌, ◌++◌, ℕ, [], length, get_or, lines, Signal, first_fault, flow_in, line_judge, numbered}
use Rattle.sig_flow.proofs.flow.flows_of.Given as goal

abbrev pub invariant-loop-rest : goal.invariant-loop-rest
invariant-loop-rest l = record {
  within : l.number + length l.rest ≤ l.fn.body.number + length l.fn.body.lines.now;
  same_length : length l.flows.items ≡ length l.inputs;
  few : l.before ≤ 4000000;
  judged : first_fault (line_judge l.fn.body.version l.inputs) l.before (numbered l.number (lines l.rest)) ≡ first_fault (line_judge l.fn.body.version l.inputs) 0 (numbered l.fn.body.number (lines l.fn.body.lines.now));
  read : (k : ℕ) (d : Signal) → k < length l.inputs → get_or l.flows.items k [] ++ flow_in l.fn.body.version (numbered l.number (lines l.rest)) (get_or l.inputs k d) ≡ flow_in l.fn.body.version (numbered l.fn.body.number (lines l.fn.body.lines.now)) (get_or l.inputs k d);
}

abbrev pub decreases-loop-rest : goal.decreases-loop-rest
decreases-loop-rest l = length l.rest
