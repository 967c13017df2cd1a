-- Pinned conditions: those whose truth is forced by what is known earlier.
use Rattle.std.specs.Prelude.{◌≡◌}
use Rattle.sig_clock.specs.Prelude.{ℕ, Bool, true, not, Some, Kernel}
use Rattle.sig_clock.specs.Reactions.{Reaction, IsReaction, status_at}
use Rattle.sig_clock.specs.Conditions.{is_condition}
use Rattle.sig_clock.specs.Layers.{AgreeOn, IsEarlier}

-- A condition is pinned: some reaction has it present, and no reaction that agrees with that one on all earlier
-- conditions gives it the other truth.
pub record IsPinned (kernel : Kernel) (condition : ℕ) : Type 0 where
  pub is : is_condition kernel condition ≡ true
  pub reaction : Reaction
  pub truth : Bool
  pub possible : IsReaction kernel reaction
  pub present : status_at reaction condition ≡ Some truth
  pub forced : (other : Reaction) → IsReaction kernel other
      → AgreeOn kernel (λ earlier. IsEarlier kernel earlier condition) reaction other
      → status_at other condition ≡ Some (not truth) → ⊥

-- A condition is free: to each reaction that has it present there is one that agrees on all earlier conditions
-- and gives it the other truth.
abbrev pub IsFree : Kernel → ℕ → Type 0
IsFree kernel condition = (reaction : Reaction) (truth : Bool) → IsReaction kernel reaction → status_at reaction condition ≡ Some truth
    → (other : Reaction) × IsReaction kernel other × AgreeOn kernel (λ earlier. IsEarlier kernel earlier condition) reaction other
    × (status_at other condition ≡ Some (not truth))
