use Rattle.sig_solve.proofs.{ℕ, ◌<◌, get_or, Implies}
use Rattle.sig_solve.proofs.roots.find_root.Given as goal

abbrev pub invariant-loop-leader : goal.invariant-loop-leader
invariant-loop-leader l = (k : ℕ) → k < l.leader-index → Implies l.store.nodes l.asked.solutions (get_or l.asked.system.present (get_or l.leader-items k 0) l.asked.system.residue) → ⊥
