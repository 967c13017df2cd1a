use Rattle.sig_solve.proofs.{◌≡◌, ◌<◌, ◌≤◌, ℕ, length, get_or, drop, Contains, ArePassed}
use Rattle.sig_solve.proofs.rounds.enter.Given as goal

abbrev pub invariant-loop-class : goal.invariant-loop-class
invariant-loop-class l = record {
  passed : ArePassed l.frame l.round l.layers l.still.items (drop l.class-index l.waiting);
  few : length l.still.items ≤ l.class-index;
  stuck : length l.still.items ≡ l.class-index → (k : ℕ) → k < l.class-index → Contains l.still.items (get_or l.waiting k 0);
}
