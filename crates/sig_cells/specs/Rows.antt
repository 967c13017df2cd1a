-- Instructions in a row that are done whatever their guards are.
use Rattle.std.specs.Prelude.{◌≡◌, ◌<◌, ◌+◌}
use Rattle.sig_cells.specs.Prelude.{ℕ, zero, suc, ℤ, List, Cause, slice_get, Some}
use Rattle.sig_cells.specs.Instants.{DoesAt, FailsAt}
use Rattle.sig_cells.specs.Instructions.{Cells, ReadsWithin}
use Rattle.sig_cells.specs.Opcodes.{AreCoded}
use Rattle.sig_cells.specs.declared.instruction.Instruction.{Instruction}
use Rattle.sig_cells.specs.declared.instructions.Instructions.{Instructions}

-- ---- instructions with their opcodes

-- the instructions, in their order
abbrev pub listed : Instructions → List Instruction
listed all = all.listed.items

-- an instruction reads and writes cells among so many, and takes an input among so many
pub record IsWithin (inputs cells : ℕ) (instruction : Instruction) : Type 0 where
  pub reads : ReadsWithin inputs cells instruction.work
  pub target : instruction.target < cells

abbrev pub AreWithin : ℕ → ℕ → List Instruction → Type 0
AreWithin inputs cells instructions = (place : ℕ) (instruction : Instruction) → slice_get instructions place ≡ Some instruction → IsWithin inputs cells instruction

-- Instructions are within, and the same by their opcodes.
pub record AreInstructions (inputs cells : ℕ) (all : Instructions) : Type 0 where
  pub within : AreWithin inputs cells (listed all)
  pub coded : AreCoded (listed all) all.coded.items

-- ---- a row of them

-- from a place on so many are done
abbrev pub Does : List Instruction → List (List ℤ) → ℕ → ℕ → ℕ → Cells → Cells → Type 0
Does instructions flows instant from zero s t = t ≡ s
Does instructions flows instant from (suc n) s t =
    (middle : Cells) × Does instructions flows instant from n s middle × DoesAt instructions flows instant (from + n) middle t

-- All from one place up to another are done.
pub record GoesTo (instructions : List Instruction) (flows : List (List ℤ)) (instant from to : ℕ) (s t : Cells) : Type 0 where
  pub count : ℕ
  pub ends : from + count ≡ to
  pub does : Does instructions flows instant from count s t

-- the instruction of a place has no value
abbrev pub Stops : List Instruction → List (List ℤ) → ℕ → Cells → Type 0
Stops instructions flows place s = (cause : Cause) × FailsAt instructions flows place s cause
