-- Faults of programs of a system.
use Rattle.std.specs.Prelude.{◌≡◌, ◌++◌, ◌∷◌}
use Rattle.sig_system_laws.specs.Prelude.{ℕ, false, [], slice_get, Some, Bounded, Unbounded, Instant, is_silent, IsReaction, remembered, Kernel}
use Rattle.sig_system_laws.specs.Systems.{Given, State, carried, TakesFrom}

-- The program k is at a fault: the values that its next instant takes are there, but that instant has an integer outside 64 bits, or
-- a divisor that is 0.
pub record IsAtFault (given : Given) (s : State) (k : ℕ) (instant : Instant) : Type 0 where
  pub kernel : Kernel
  pub program : slice_get given.system.programs k ≡ Some kernel
  pub reacts : IsReaction Unbounded kernel (remembered (s k)) instant
  pub speaks : is_silent instant ≡ false
  pub there : TakesFrom kernel (carried given s k) (s k ++ instant ∷ [])
  pub beyond : IsReaction Bounded kernel (remembered (s k)) instant → ⊥
