-- What gives the value of a form, while the cells of constants are added.
use Rattle.std.specs.Prelude.{◌≡◌, ◌<◌, ◌≤◌, ◌+◌, ◌++◌, ◌∷◌}
use Rattle.sig_machine.specs.Prelude.{ℕ, ℤ, List, [], length, Some, Contains, EqId, SigId, Operand, Sig, Const, Registers, Outcome}
use Rattle.sig_machine.specs.Machines.{HaveConstants, cell, registers_of}
use Rattle.sig_machine.specs.inner.Works.{as_named, came_to}
use Rattle.sig_cells.specs.Instructions.{ReadsWithin}
use Rattle.sig_cells.specs.declared.instruction.Work.{Work}
use Rattle.sig_cells.specs.declared.instruction.Work.TheVariants.{Copy}
use Rattle.sig_machine.specs.declared.machine.Machine.{Machine}

-- cells were added
abbrev pub Grows : List ℤ → List ℤ → Type 0
Grows old new = (more : List ℤ) × (new ≡ old ++ more)

-- a cell was added that holds a constant, and this is its copy
abbrev pub IsConstant : ℤ → List ℤ → List ℤ → Work → Type 0
IsConstant value old new work = (new ≡ old ++ value ∷ []) × (work ≡ Copy (length old))

-- the cell of an operand: of a signal its own, of a constant one that holds it, behind those of signals and delays
abbrev pub IsCellOf : ℕ → List ℤ → Operand → ℕ → Type 0
IsCellOf signals cells (Sig x) number = number ≡ x.0
IsCellOf signals cells (Const value) number = (signals + signals ≤ number) × (number < length cells) × (cell cells number ≡ value)

-- signals are among so many
abbrev pub AreBelow : ℕ → List SigId → Type 0
AreBelow count xs = (x : SigId) → Contains xs x → x.0 < count

-- A work comes to an outcome of registers, for whatever equation, wherever a machine has the constants and these signals.
pub record IsSource (signals : ℕ) (cells : List ℤ) (needs : List SigId) (gives : Registers → EqId → Outcome) (work : Work) : Type 0 where
  pub reads : ReadsWithin 0 (length cells) work
  pub value : (flows : List (List ℤ)) (m : Machine) (e : EqId) → m.signals ≡ signals → HaveConstants m.signals cells m.cells.items
      → ((x : SigId) → Contains needs x → registers_of m x.0 ≡ Some (cell m.cells.items x.0))
      → as_named (Some e) (came_to flows m work) ≡ gives (registers_of m) e
