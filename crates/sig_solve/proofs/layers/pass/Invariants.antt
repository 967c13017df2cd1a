use Rattle.sig_solve.proofs.{◌≡◌, ◌<◌, ◌≤◌, ◌+◌, ◌*◌, ℕ, length, get_or, drop, Contains, None, IsStore, Keeps, Share, variables_of, AreAwaited, ArePassed}
use Rattle.sig_solve.proofs.layers.pass.Given as goal

abbrev pub invariant-loop-class : goal.invariant-loop-class
invariant-loop-class l = record {
  store : IsStore l.store;
  kept : Keeps l.initial.store l.store;
  passed : ArePassed l.asked.frame l.round l.layers l.still.items (drop l.class-index l.waiting);
  few : length l.still.items ≤ l.class-index;
  stuck : length l.still.items ≡ l.class-index → (k : ℕ) → k < l.class-index → Contains l.still.items (get_or l.waiting k 0);
  awaited : AreAwaited l.store.nodes l.asked l.awaited;
  share : Share ((3 + 2 * l.asked.system.variables) * l.class-index) (variables_of l.asked.system) l.initial.store l.store None;
}
