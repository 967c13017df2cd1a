use Rattle.sig_solve.proofs.{◌≡◌, ◌<◌, ◌+◌, ◌*◌, ℕ, length, get_or, None, Some, slice_get, IsStore, Keeps, Share, Ref, variables_of, IsGuard}
use Rattle.sig_solve.proofs.guards.guards_of.Given as goal

abbrev pub invariant-loop-leader : goal.invariant-loop-leader
invariant-loop-leader l = record {
  store : IsStore l.store;
  kept : Keeps l.fn.store l.store;
  count : length l.guards.items ≡ length l.asked.frame.kernel.now.signals;
  each : (k : ℕ) → k < l.leader-index → (r : Ref) × (slice_get l.guards.items (get_or l.leader-items k 0) ≡ Some r) × IsGuard l.store.nodes l.asked.frame l.conditions (get_or l.leader-items k 0) r;
  share : Share ((2 + 2 * l.asked.system.variables) * l.leader-index) (variables_of l.asked.system) l.fn.store l.store None;
}
