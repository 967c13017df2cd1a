-- How a code is made, one instruction after another.
use Rattle.std.specs.Prelude.{◌≡◌, ◌⊎◌, ◌==◌, ◌∷◌, ◌++◌}
use Rattle.sig_code.specs.Prelude.{ℕ, Bool, List, [], All, length, slice_get, Some, Holds, Implies, Node, Ref, AreSlots, CodeView, Instruction, IsLastBelow, IsStepOf, Slot, Step}

-- the guards of slots are held by the store
abbrev pub AreHeld : List Node → List Slot → Type 0
AreHeld nodes slots = All (λ slot. Holds nodes slot.guard) slots

-- a guard implies that of the slot at the place k
abbrev pub IsWithin : List Node → List Slot → Ref → ℕ → Type 0
IsWithin nodes slots guard k = (other : Slot) × (slice_get slots k ≡ Some other) × Implies nodes guard other.guard

abbrev pub has_guard : Ref → Slot → Bool
has_guard guard slot = slot.guard.number == guard.number

-- the slot of this number has the guard
pub record IsSlotOf (slots : List Slot) (guard : Ref) (number : ℕ) : Type 0 where
  pub slot : Slot
  pub has : slice_get slots number ≡ Some slot
  pub guarded : slot.guard ≡ guard

-- no slot has the guard
abbrev pub HasNoSlot : List Slot → Ref → Type 0
HasNoSlot slots guard = (number : ℕ) → IsSlotOf slots guard number → ⊥

-- a guard that had no slot got this one, behind the others, with its parent
pub record IsNewSlot (nodes : List Node) (old new : List Slot) (guard : Ref) (number : ℕ) : Type 0 where
  pub slot : Slot
  pub guarded : slot.guard ≡ guard
  pub added : new ≡ old ++ slot ∷ []
  pub place : number ≡ length old
  pub none : HasNoSlot old guard
  pub parent : IsLastBelow (IsWithin nodes old guard) (length old) slot.parent

-- the number of the slot of a guard: one that there was, and nothing changed, or that of a new one
abbrev pub FindsSlot : List Node → List Slot → List Slot → Ref → ℕ → Type 0
FindsSlot nodes old new guard number = ((new ≡ old) × IsSlotOf old guard number) ⊎ IsNewSlot nodes old new guard number

-- a code of these instructions
pub record IsCodeOf (nodes : List Node) (instructions : List Instruction) (code : CodeView) : Type 0 where
  pub count : length code.steps ≡ length instructions
  pub steps : (k : ℕ) (instruction : Instruction) (step : Step) → slice_get instructions k ≡ Some instruction
      → slice_get code.steps k ≡ Some step → IsStepOf nodes code.slots instruction step
  pub slots : AreSlots nodes code.steps code.slots

-- a code goes on with these instructions
pub record Adds (nodes : List Node) (more : List Instruction) (old new : CodeView) : Type 0 where
  pub held : AreHeld nodes new.slots
  pub goes_on : (before : List Instruction) → IsCodeOf nodes before old → IsCodeOf nodes (before ++ more) new

-- codes of so many actors
pub record AreCodesOf (nodes : List Node) (instructions : ℕ → List Instruction) (count : ℕ) (codes : List CodeView) : Type 0 where
  pub counted : length codes ≡ count
  pub each : (actor : ℕ) (code : CodeView) → slice_get codes actor ≡ Some code → IsCodeOf nodes (instructions actor) code
