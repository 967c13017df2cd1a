-- The least signals of a kernel's clock classes.
use Rattle.std.specs.Prelude.{◌≡◌, ◌<◌, ◌≤◌, ◌⊎◌}
use Rattle.sig_pace.specs.Prelude.{ℕ, List, length, Contains, AllPairs, IsSignal, SameClock, Kernel, IsUnknownCount}

-- the numbers stand in increasing order
abbrev pub AreIncreasing : List ℕ → Type 0
AreIncreasing numbers = AllPairs (λ x y. x < y) numbers

-- each signal is of the class of one of these, which is no greater; they are no more than the unknowns
pub record AreLeaders (kernel : Kernel) (leaders : List ℕ) : Type 0 where
  pub order : AreIncreasing leaders
  pub are : (x : ℕ) → Contains leaders x → IsSignal kernel x
  pub all : (s : ℕ) → IsSignal kernel s → (l : ℕ) × Contains leaders l × SameClock kernel s l × (l ≤ s)
  pub few : (unknowns : ℕ) → IsUnknownCount kernel unknowns → length leaders ≤ unknowns
  pub some : (unknowns : ℕ) → IsUnknownCount kernel unknowns → (unknowns ≡ 0) ⊎ (1 ≤ length leaders)
