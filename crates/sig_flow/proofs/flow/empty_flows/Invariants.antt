use Rattle.sig_flow.proofs.{◌≡◌, ℕ, [], vec_len, get_or}
use Rattle.sig_flow.proofs.flow.empty_flows.Given as goal

abbrev pub invariant-loop : goal.invariant-loop
invariant-loop l = record {
  count : vec_len l.flows ≡ l.counter;
  empty : (k : ℕ) → get_or l.flows.items k [] ≡ [];
}
