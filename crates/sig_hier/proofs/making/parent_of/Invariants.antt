use Rattle.sig_hier.proofs.{ℕ, ◌<◌, ◌≤◌, IsWithin}
use Rattle.sig_hier.proofs.making.parent_of.Given as goal

abbrev pub invariant-loop-other : goal.invariant-loop-other
invariant-loop-other l = (k : ℕ) → l.other ≤ k → k < l.class → IsWithin l.store.nodes l.guards l.class k → ⊥
