use Rattle.sig_code.proofs.{ℕ, ◌<◌, ◌≤◌, length, IsWithin}
use Rattle.sig_code.proofs.slots.parent_of.Given as goal

abbrev pub invariant-loop-number : goal.invariant-loop-number
invariant-loop-number l = (k : ℕ) → l.number ≤ k → k < length l.slots → IsWithin l.store.nodes l.slots l.guard k → ⊥
