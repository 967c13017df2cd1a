use Rattle.sig_values.proofs.{◌≡◌, ◌-◌, drop, length, initial_in, memories_in}
use Rattle.sig_values.proofs.initial.initial_values.Given as goal

abbrev pub invariant-loop-done : goal.invariant-loop-done
invariant-loop-done l = record {
  count : length l.values.items ≡ l.signals;
  initial : memories_in l.values.items ≡ initial_in (drop (length l.equations - l.done) l.equations);
}
