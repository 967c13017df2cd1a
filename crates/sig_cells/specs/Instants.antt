-- What instructions make of cells in an instant, one after another.
use Rattle.std.specs.Prelude.{◌≡◌, ◌≤◌, ◌⊎◌}
use Rattle.sig_cells.specs.Prelude.{ℕ, zero, suc, ℤ, Bool, true, false, List, length, slice_get, Some, Cause, Ref}
use Rattle.sig_cells.specs.Guards.{Scope, holds_by}
use Rattle.sig_cells.specs.Instructions.{Cells, Fails, IsDone, cell, registers_in}
use Rattle.sig_cells.specs.declared.instruction.Instruction.{Instruction}
use Rattle.sig_cells.specs.declared.react.Fault.{Fault}

-- ---- one instruction

-- the instruction of a place is done
abbrev pub DoesAt : List Instruction → List (List ℤ) → ℕ → ℕ → Cells → Cells → Type 0
DoesAt instructions flows instant place s t =
    (instruction : Instruction) × (slice_get instructions place ≡ Some instruction) × IsDone flows instant instruction s t

-- it has no value, by this cause
abbrev pub FailsAt : List Instruction → List (List ℤ) → ℕ → Cells → Cause → Type 0
FailsAt instructions flows place s cause =
    (instruction : Instruction) × (slice_get instructions place ≡ Some instruction) × Fails flows instruction s cause

-- ---- under guards

-- the value of a guard by what was written in an instant
abbrev pub holds_at : Scope → ℕ → Ref → Cells → Bool
holds_at scope instant guard s = holds_by scope guard (registers_in scope.signals instant s)

-- the instruction of a place is done where its guard holds, and else passed over
pub record HandlesAt (scope : Scope) (guards : List Ref) (instructions : List Instruction) (flows : List (List ℤ)) (instant place : ℕ) (s t : Cells) : Type 0 where
  pub guard : Ref
  pub is : slice_get guards place ≡ Some guard
  pub does : ((holds_at scope instant guard s ≡ true) × DoesAt instructions flows instant place s t) ⊎ ((holds_at scope instant guard s ≡ false) × (t ≡ s))

-- the first ones are handled
abbrev pub Handles : Scope → List Ref → List Instruction → List (List ℤ) → ℕ → ℕ → Cells → Cells → Type 0
Handles scope guards instructions flows instant zero s t = t ≡ s
Handles scope guards instructions flows instant (suc n) s t =
    (middle : Cells) × Handles scope guards instructions flows instant n s middle × HandlesAt scope guards instructions flows instant n middle t

-- once an instant has come to a place, what its guard tells stands: it tells the same at each later place
abbrev pub Stands : Scope → List Ref → List Instruction → List (List ℤ) → ℕ → Cells → Type 0
Stands scope guards instructions flows instant s =
    (place later : ℕ) (guard : Ref) (t u : Cells) → slice_get guards place ≡ Some guard → place ≤ later → later ≤ length guards
    → Handles scope guards instructions flows instant place s t → Handles scope guards instructions flows instant later s u
    → holds_at scope instant guard u ≡ holds_at scope instant guard t

-- An instant ends at a place: those before it are handled, its guard holds then, and it has no value; so it leaves the cells.
pub record EndsAt (scope : Scope) (guards : List Ref) (instructions : List Instruction) (flows : List (List ℤ)) (instant : ℕ) (s t : Cells) (fault : Fault) : Type 0 where
  pub handles : Handles scope guards instructions flows instant fault.place s t
  pub guard : Ref
  pub is : slice_get guards fault.place ≡ Some guard
  pub holds : holds_at scope instant guard t ≡ true
  pub fails : FailsAt instructions flows fault.place t fault.cause

-- ---- whatever is done

-- Cells stay as many; those into which no instruction writes stay as they are, with their stamps, and each was written last when it
-- was before, or in the instant.
pub record Keeps (instructions : List Instruction) (instant : ℕ) (s t : Cells) : Type 0 where
  pub values : length t.values ≡ length s.values
  pub stamps : length t.stamps ≡ length s.stamps
  pub taken : length t.taken ≡ length s.taken
  pub others : (number : ℕ) → ((place : ℕ) (instruction : Instruction) → slice_get instructions place ≡ Some instruction → instruction.target ≡ number → ⊥)
      → cell t.values number ≡ cell s.values number
  pub other_stamps : (number : ℕ) → ((place : ℕ) (instruction : Instruction) → slice_get instructions place ≡ Some instruction → instruction.target ≡ number → ⊥)
      → slice_get t.stamps number ≡ slice_get s.stamps number
  pub written : (number stamp : ℕ) → slice_get t.stamps number ≡ Some stamp → (slice_get s.stamps number ≡ Some stamp) ⊎ (stamp ≡ instant)
