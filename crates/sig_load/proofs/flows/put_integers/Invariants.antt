-- the values of the draws so far are there
use Rattle.sig_load.proofs.{◌≡◌, draw, state_after, integer_value, Appends, each}
use Rattle.sig_load.proofs.flows.put_integers.Given as goal

abbrev pub invariant-loop : goal.invariant-loop
invariant-loop l = record {
  text : Appends l.initial.text.items (each (λ k. integer_value (draw l.initial.draws.state k)) l.counter) l.text.items;
  state : l.draws.state ≡ state_after l.initial.draws.state l.counter;
}
