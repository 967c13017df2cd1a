-- What the questions that the solver asks are answered.
use Rattle.std.specs.Prelude.{◌≡◌}
use Rattle.sig_solve.specs.Prelude.{ℕ, true, List, Option, None, Some, SigId, is_condition, IsEarlier, IsFree, IsPinned, Kernel}

-- a condition that is pinned, and no earlier one is; or each one is free
abbrev pub FindsPinned : Kernel → List SigId → Option SigId → Type 0
FindsPinned kernel conditions None = (condition : ℕ) → is_condition kernel condition ≡ true → IsFree kernel condition
FindsPinned kernel conditions (Some b) = IsPinned kernel b.0 × ((other : ℕ) → IsEarlier kernel other b.0 → IsPinned kernel other → ⊥)
