-- where the draws began behind those of the integer input, the flows of the conditions so far are there
use Rattle.sig_load.proofs.{◌≡◌, ℕ, ◌+◌, ◌*◌, state_after, truths, Appends, each, FLOW_VALUES}
use Rattle.sig_load.proofs.flows.put_truth_flows.Given as goal

abbrev pub invariant-loop-before : goal.invariant-loop-before
invariant-loop-before l = record {
  text : (seed : ℕ) → l.initial.draws.state ≡ state_after seed FLOW_VALUES → Appends l.initial.text.items (each (truths seed) l.before) l.text.items;
  state : (seed : ℕ) → l.initial.draws.state ≡ state_after seed FLOW_VALUES → l.draws.state ≡ state_after seed ((l.before + 1) * FLOW_VALUES);
}
