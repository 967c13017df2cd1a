-- What an instruction comes to on a machine.
use Rattle.std.specs.Prelude.{◌≡◌}
use Rattle.sig_machine.specs.Prelude.{ℕ, ℤ, List, slice_set, Option, None, Some, EqId, Cause, Exhausted, Limit, Overflow, ZeroDivisor, Faults, Gives, Outcome}
use Rattle.sig_cells.specs.Instructions as cells
use Rattle.sig_cells.specs.Instructions.{taken_after}
use Rattle.sig_cells.specs.declared.instruction.Instruction.{Instruction}
use Rattle.sig_cells.specs.declared.instruction.Work.{Work}
use Rattle.sig_machine.specs.declared.machine.Machine.{Machine}

-- what a work comes to on the cells of a machine
abbrev pub came_to : List (List ℤ) → Machine → Work → Outcome
came_to flows m work = cells.came_to flows m.cells.items m.taken.items work

-- a cause, with the equation of the operation in place of the one that it names
abbrev pub named : Option EqId → Cause → Cause
named None cause = cause
named (Some e) (Exhausted x) = Exhausted x
named (Some e) (Overflow other) = Overflow e
named (Some e) (ZeroDivisor other) = ZeroDivisor e
named (Some e) Limit = Limit

abbrev pub as_named : Option EqId → Outcome → Outcome
as_named e (Gives v) = Gives v
as_named e (Faults cause) = Faults (named e cause)

-- the value of an instruction is in its cell, with the stamp of the instant
pub record IsKept (instruction : Instruction) (value : ℤ) (old new : Machine) : Type 0 where
  pub signals : new.signals ≡ old.signals
  pub instant : new.instant ≡ old.instant
  pub cells : new.cells.items ≡ slice_set old.cells.items instruction.target value
  pub stamps : new.stamps.items ≡ slice_set old.stamps.items instruction.target old.instant
  pub taken : new.taken.items ≡ taken_after instruction.work old.taken.items

-- a value is in a cell, with the stamp of the instant, and no input was taken
pub record IsPut (target : ℕ) (value : ℤ) (old new : Machine) : Type 0 where
  pub signals : new.signals ≡ old.signals
  pub instant : new.instant ≡ old.instant
  pub cells : new.cells.items ≡ slice_set old.cells.items target value
  pub stamps : new.stamps.items ≡ slice_set old.stamps.items target old.instant
  pub taken : new.taken.items ≡ old.taken.items
