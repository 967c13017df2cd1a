-- The truths of conditions, by the variables that stand for them.
use Rattle.std.specs.Prelude.{◌≡◌, ◌<◌, ◌≤◌, ◌⊎◌}
use Rattle.sig_machine.specs.Prelude.{ℕ, ℤ, Bool, is_one, List, length, slice_get, slice_set, Option, None, Some, SigId}
use Rattle.sig_cells.specs.Instructions.{cell}
use Rattle.sig_cells.specs.declared.instruction.Instruction.{Instruction}

-- the conditions are signals among so many
abbrev pub AreWithin : ℕ → List SigId → Type 0
AreWithin signals conditions = (variable : ℕ) (condition : SigId) → slice_get conditions variable ≡ Some condition → condition.0 < signals

-- no condition stands twice
abbrev pub AreDifferent : List SigId → Type 0
AreDifferent conditions = (i j : ℕ) (c d : SigId) → slice_get conditions i ≡ Some c → slice_get conditions j ≡ Some d → c.0 ≡ d.0 → i ≡ j

-- of the first variables, as many as were entered, a table gives each to the signal that is its condition
pub record AreEntered (conditions : List SigId) (signals entered : ℕ) (variables : List (Option ℕ)) : Type 0 where
  pub count : length variables ≡ signals
  pub is : (signal variable : ℕ) → slice_get variables signal ≡ Some (Some variable)
      → (condition : SigId) × (slice_get conditions variable ≡ Some condition) × (condition.0 ≡ signal) × (variable < entered)
  pub all : (variable : ℕ) (condition : SigId) → variable < entered → slice_get conditions variable ≡ Some condition
      → slice_get variables condition.0 ≡ Some (Some variable)

-- a table gives to each signal that is a condition its variable
pub record AreVariables (conditions : List SigId) (signals : ℕ) (variables : List (Option ℕ)) : Type 0 where
  pub count : length variables ≡ signals
  pub is : (signal variable : ℕ) → slice_get variables signal ≡ Some (Some variable)
      → (condition : SigId) × (slice_get conditions variable ≡ Some condition) × (condition.0 ≡ signal)
  pub all : (variable : ℕ) (condition : SigId) → slice_get conditions variable ≡ Some condition
      → slice_get variables condition.0 ≡ Some (Some variable)

-- truths with that of a variable, where one stands at this place of a table
abbrev pub told_at : Option (Option ℕ) → Bool → List Bool → List Bool
told_at None holds truths = truths
told_at (Some None) holds truths = truths
told_at (Some (Some variable)) holds truths = slice_set truths variable holds

-- an instruction writes no signal for which a table has a variable
abbrev pub TellsNone : List (Option ℕ) → Instruction → Type 0
TellsNone variables instruction = (variable : ℕ) → slice_get variables instruction.target ≡ Some (Some variable) → ⊥

-- from a place on this is the next one whose instruction tells a truth, or the end, or one before it
pub record IsNextTold (instructions : List Instruction) (variables : List (Option ℕ)) (place to : ℕ) : Type 0 where
  pub forth : place ≤ to
  pub within : to ≤ length instructions
  pub between : (number : ℕ) (instruction : Instruction) → place ≤ number → number < to → slice_get instructions number ≡ Some instruction
      → TellsNone variables instruction

-- these are such, by place, from a place on
abbrev pub AreNextFrom : List Instruction → List (Option ℕ) → List ℕ → ℕ → Type 0
AreNextFrom instructions variables next from = (place to : ℕ) → from ≤ place → slice_get next place ≡ Some to → IsNextTold instructions variables place to

-- these are such, for each place
pub record AreNextTold (instructions : List Instruction) (variables : List (Option ℕ)) (next : List ℕ) : Type 0 where
  pub count : length next ≡ length instructions
  pub each : AreNextFrom instructions variables next 0

-- an instruction of a place from one up to another tells a truth, by the cell that it writes
pub record TellsBetween (instructions : List Instruction) (variables : List (Option ℕ)) (cells : List ℤ) (from to variable : ℕ) (holds : Bool) : Type 0 where
  pub place : ℕ
  pub instruction : Instruction
  pub later : from ≤ place
  pub before : place < to
  pub is : slice_get instructions place ≡ Some instruction
  pub tells : slice_get variables instruction.target ≡ Some (Some variable)
  pub value : holds ≡ is_one (cell cells instruction.target)

-- no instruction of such a place tells a truth
abbrev pub TellNoneBetween : List Instruction → List (Option ℕ) → ℕ → ℕ → ℕ → Type 0
TellNoneBetween instructions variables from to variable = (place : ℕ) (instruction : Instruction) → from ≤ place → place < to → slice_get instructions place ≡ Some instruction
    → slice_get variables instruction.target ≡ Some (Some variable) → ⊥

-- the truths are those which the instructions from a place up to another one tell, and all others as before
pub record AreToldBetween (instructions : List Instruction) (variables : List (Option ℕ)) (cells : List ℤ) (from to : ℕ) (old new : List Bool) : Type 0 where
  pub count : length new ≡ length old
  pub each : (variable : ℕ) (holds : Bool) → slice_get new variable ≡ Some holds
      → TellsBetween instructions variables cells from to variable holds
      ⊎ ((slice_get old variable ≡ Some holds) × TellNoneBetween instructions variables from to variable)
