-- What an instruction comes to, and what it leaves.
use Rattle.std.specs.Prelude.{◌≡◌, ◌<◌, ◌+◌, ◌==◌, ◌∷◌, if◌then◌else◌}
use Rattle.sig_cells.specs.Prelude.{ℕ, ℤ, pos, nat_lt, List, [], slice_get, slice_set, slice_index_or, Option, None, Some, Result, Ok, Err, answered, Cause, EqId, SigId, Registers, Seen, function_of, Gives, Outcome, computed, next_of}
use Rattle.sig_cells.specs.declared.instruction.Instruction.{Instruction}
use Rattle.sig_cells.specs.declared.instruction.Work.{Work}
use Rattle.sig_cells.specs.declared.instruction.Work.TheVariants.{Next, Copy, One, Two}

-- What instructions work on: the values of cells, the instant in which each was written last, and how many values of each input
-- were taken.
pub record Cells : Type 0 where
  pub values : List ℤ
  pub stamps : List ℕ
  pub taken : List ℕ

abbrev pub cells_of : List ℤ → List ℕ → List ℕ → Cells
cells_of values stamps taken = record { values = values; stamps = stamps; taken = taken }

abbrev pub cell : List ℤ → ℕ → ℤ
cell values number = slice_index_or values number (pos 0)

-- what a cell with a stamp holds of an instant: nothing, where it was written in another one
abbrev pub stamped : ℕ → Option ℕ → ℤ → Seen
stamped instant None value = None
stamped instant (Some stamp) value = if stamp == instant then Some value else None

-- what each signal is in an instant, where the first cells are those of so many signals
abbrev pub registers_in : ℕ → ℕ → Cells → Registers
registers_in signals instant s signal =
    if nat_lt signal signals then stamped instant (slice_get s.stamps signal) (cell s.values signal) else None

-- an instruction does not know its equation, so its fault names this one
abbrev pub no_equation : EqId
no_equation = record { 0 = 0 }

abbrev pub input_id : ℕ → SigId
input_id input = record { 0 = input }

-- what a work comes to on these values, with so many values taken
abbrev pub came_to : List (List ℤ) → List ℤ → List ℕ → Work → Outcome
came_to flows values taken (Next input) = next_of (input_id input) (slice_get (slice_index_or flows input []) (slice_index_or taken input 0))
came_to flows values taken (Copy source) = Gives (cell values source)
came_to flows values taken (One function a) = computed no_equation (function_of function) (cell values a ∷ [])
came_to flows values taken (Two function a b) = computed no_equation (function_of function) (cell values a ∷ cell values b ∷ [])

abbrev pub answer_of : List (List ℤ) → List ℤ → List ℕ → Work → Result ℤ Cause
answer_of flows values taken work = answered (came_to flows values taken work)

-- the cells that a work reads are among so many, and its input among so many
abbrev pub ReadsWithin : ℕ → ℕ → Work → Type 0
ReadsWithin inputs cells (Next input) = input < inputs
ReadsWithin inputs cells (Copy source) = source < cells
ReadsWithin inputs cells (One function a) = a < cells
ReadsWithin inputs cells (Two function a b) = (a < cells) × (b < cells)

-- the input whose next value a work takes
abbrev pub input_taken : Work → Option SigId
input_taken (Next input) = Some (input_id input)
input_taken other = None

-- how many values were taken of each input, behind a work
abbrev pub taken_after : Work → List ℕ → List ℕ
taken_after (Next input) taken = slice_set taken input (slice_index_or taken input 0 + 1)
taken_after other taken = taken

-- the value of an instruction in its cell, with the stamp of the instant
abbrev pub left_by : Instruction → ℤ → ℕ → Cells → Cells
left_by instruction value instant s = record {
  values = slice_set s.values instruction.target value;
  stamps = slice_set s.stamps instruction.target instant;
  taken = taken_after instruction.work s.taken;
}

-- An instruction is done: the value that it comes to is in its cell, with the stamp of the instant.
pub record IsDone (flows : List (List ℤ)) (instant : ℕ) (instruction : Instruction) (s t : Cells) : Type 0 where
  pub value : ℤ
  pub gives : Ok value ≡ answer_of flows s.values s.taken instruction.work
  pub leaves : t ≡ left_by instruction value instant s

-- it has no value, by this cause
abbrev pub Fails : List (List ℤ) → Instruction → Cells → Cause → Type 0
Fails flows instruction s cause = Err cause ≡ answer_of flows s.values s.taken instruction.work
