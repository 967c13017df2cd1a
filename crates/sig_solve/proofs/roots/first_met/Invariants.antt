use Rattle.sig_solve.proofs.{ℕ, ◌<◌, get_or, Overlap}
use Rattle.sig_solve.proofs.roots.first_met.Given as goal

abbrev pub invariant-loop-leader : goal.invariant-loop-leader
invariant-loop-leader l = (k : ℕ) → k < l.leader-index → Overlap l.store.nodes l.part (get_or l.asked.system.present (get_or l.leader-items k 0) l.asked.system.residue) → ⊥
