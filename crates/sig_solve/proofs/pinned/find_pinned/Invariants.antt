use Rattle.sig_solve.proofs.{◌≡◌, ◌<◌, ◌+◌, ◌*◌, ℕ, None, Some, slice_get, SigId, IsFree, IsStore, Keeps, Share, variables_of}
use Rattle.sig_solve.proofs.pinned.find_pinned.Given as goal

abbrev pub invariant-loop-place : goal.invariant-loop-place
invariant-loop-place l = record {
  store : IsStore l.store;
  kept : Keeps l.initial.store l.store;
  free : (k : ℕ) (c : SigId) → k < l.place → slice_get l.conditions k ≡ Some c → IsFree l.asked.frame.kernel.now c.0;
  share : Share ((5 + 2 * l.asked.system.variables) * l.place) (variables_of l.asked.system) l.initial.store l.store None;
}
