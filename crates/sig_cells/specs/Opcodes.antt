-- Instructions by their opcodes.
use Rattle.std.specs.Prelude.{◌≡◌, ◌<◌}
use Rattle.sig_cells.specs.Prelude.{ℕ, List, length, slice_get, Option, None, Some, IfSome, FunOp}
use Rattle.sig_cells.specs.Instructions.{ReadsWithin}
use Rattle.sig_cells.specs.declared.coded.Coded.{Coded}
use Rattle.sig_cells.specs.declared.coded.Opcode.{Opcode}
use Rattle.sig_cells.specs.declared.instruction.Instruction.{Instruction}
use Rattle.sig_cells.specs.declared.instruction.Work.{Work}
use Rattle.sig_cells.specs.declared.instruction.Work.TheVariants.{Copy, One, Two}

-- the work that an opcode means on two cells, where it means one
abbrev pub work_of : Opcode → ℕ → ℕ → Option Work
work_of Opcode.Other a b = None
work_of Opcode.Copy a b = Some (Copy a)
work_of Opcode.Id a b = Some (One FunOp.Id a)
work_of Opcode.Not a b = Some (One FunOp.Not a)
work_of Opcode.And a b = Some (Two FunOp.And a b)
work_of Opcode.Or a b = Some (Two FunOp.Or a b)
work_of Opcode.Xor a b = Some (Two FunOp.Xor a b)
work_of Opcode.Eq a b = Some (Two FunOp.Eq a b)
work_of Opcode.Ne a b = Some (Two FunOp.Ne a b)
work_of Opcode.Lt a b = Some (Two FunOp.Lt a b)
work_of Opcode.Le a b = Some (Two FunOp.Le a b)
work_of Opcode.Gt a b = Some (Two FunOp.Gt a b)
work_of Opcode.Ge a b = Some (Two FunOp.Ge a b)
work_of Opcode.Add a b = Some (Two FunOp.Add a b)
work_of Opcode.Sub a b = Some (Two FunOp.Sub a b)
work_of Opcode.Mul a b = Some (Two FunOp.Mul a b)

-- what an instruction does by its opcode, is its work, and the cells are there wherever those are that it reads
pub record IsCoded (instruction : Instruction) (coded : Coded) : Type 0 where
  pub target : coded.target ≡ instruction.target
  pub work : IfSome (work_of coded.opcode coded.a coded.b) (λ work. work ≡ instruction.work)
  pub reads : (inputs cells : ℕ) → ReadsWithin inputs cells instruction.work → 0 < cells → (coded.a < cells) × (coded.b < cells)

-- each of these is the instruction of its place
pub record AreCoded (instructions : List Instruction) (coded : List Coded) : Type 0 where
  pub count : length coded ≡ length instructions
  pub each : (place : ℕ) (instruction : Instruction) (c : Coded) → slice_get instructions place ≡ Some instruction → slice_get coded place ≡ Some c
      → IsCoded instruction c
