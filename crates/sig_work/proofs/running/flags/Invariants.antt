use Rattle.sig_work.proofs.{◌≡◌, ◌≤◌, length, vec_capacity}
use Rattle.sig_work.proofs.running.flags.Given as goal

abbrev pub invariant-loop : goal.invariant-loop
invariant-loop l = record {
  so_far : length l.flags.items ≡ l.counter;
  room : l.count ≤ vec_capacity l.flags;
}
