use Rattle.sig_cells.proofs.Common.{◌≡◌, ◌<◌, ℕ, length, Depends, Holds, test, truths_of, registers_seen}
use Rattle.sig_cells.proofs.guard.View.holds.Given as goal

-- the walk keeps the value, and goes to earlier nodes
abbrev pub invariant-loop-node : goal.invariant-loop-node
invariant-loop-node l = record {
  held : Holds l.store.nodes l.r;
  value : test l.store.nodes l.r (truths_of l.conditions (registers_seen l.self)) ≡ test l.store.nodes l.fn.guard (truths_of l.conditions (registers_seen l.self));
  told : (v : ℕ) → Depends (test l.store.nodes l.r) v → v < length l.conditions;
}

abbrev pub decreases-loop-node : goal.decreases-loop-node
decreases-loop-node l = l.r.number
