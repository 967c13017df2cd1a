-- The form of a plan in which a machine does it.
use Rattle.std.specs.Prelude.{◌≡◌, ◌<◌, ◌≤◌, ◌+◌, ◌⊎◌, ◌∷◌}
use Rattle.sig_machine.specs.Prelude.{ℕ, ℤ, List, [], length, slice_get, None, Some, Contains, EqId, SigId, Ref, Equation, Form, Fun, Delay, When, WhenConst, Default, Sync, Event, Kernel, signals_of, PlanView, Op, Read, Compute, initial_in, outcome, remembers, input_of, StandsAt}
use Rattle.sig_machine.specs.Machines.{HaveConstants, actor_at, cell, memories_at, registers_of}
use Rattle.sig_cells.specs.Codes.{IsCode, guards_in, instructions_in, scope_in}
use Rattle.sig_cells.specs.Guards.{scope_of}
use Rattle.sig_cells.specs.Instructions.{ReadsWithin, input_taken}
use Rattle.sig_cells.specs.declared.instruction.Instruction.{Instruction}
use Rattle.sig_cells.specs.declared.instruction.Work.{Work}
use Rattle.sig_machine.specs.inner.Works.{as_named, came_to}
use Rattle.sig_machine.specs.declared.lowered.Lowered.{Lowered}
use Rattle.sig_machine.specs.declared.machine.Machine.{Machine}

-- the signals whose values an equation of this form takes
abbrev pub taken_by_form : Form → List SigId
taken_by_form (Fun y op operands) = signals_of operands
taken_by_form (When y x b) = x ∷ []
taken_by_form (WhenConst y constant b) = []
taken_by_form (Default y u v) = []
taken_by_form (Delay y x initial) = []
taken_by_form (Sync x y) = []
taken_by_form (Event y x) = []

-- A cell is that of what an operation writes: the cell of a signal, or that of the delay into which it stores.
abbrev pub IsTarget : Kernel → Op → ℕ → Type 0
IsTarget kernel op target =
    ((x : SigId) × (op.writes ≡ Some x) × (remembers kernel op.kind ≡ None) × (x.0 < length kernel.signals) × (target ≡ x.0))
    ⊎ ((y : SigId) × (op.writes ≡ None) × (remembers kernel op.kind ≡ Some y) × (y.0 < length kernel.signals) × (target ≡ length kernel.signals + y.0))

-- What is so of each operation of a plan.
pub record HasShape (kernel : Kernel) (op : Op) : Type 0 where
  pub target : (target : ℕ) × IsTarget kernel op target
  pub reads : op.kind ≡ Compute → (e : EqId) → op.eq ≡ Some e → (equation : Equation) → slice_get kernel.equations e.0 ≡ Some equation
      → (x : SigId) → Contains (taken_by_form equation.form) x → Contains op.reads x
  pub within : (x : SigId) → Contains op.reads x → x.0 < length kernel.signals
  pub input : (x : SigId) → op.kind ≡ Read x → x.0 < kernel.inputs

-- a machine has what an operation reads
abbrev pub HasReads : Op → Machine → Type 0
HasReads op m = (x : SigId) → Contains op.reads x → registers_of m x.0 ≡ Some (cell m.cells.items x.0)

-- A work is that of an operation: it comes to what the operation comes to, wherever a machine has the constants and what the
-- operation reads.
pub record IsWorkOf (kernel : Kernel) (cells : List ℤ) (op : Op) (work : Work) : Type 0 where
  pub reads : ReadsWithin kernel.inputs (length cells) work
  pub takes : input_taken work ≡ input_of op.kind
  pub value : (flows : List (List ℤ)) (m : Machine) → m.signals ≡ length kernel.signals → HaveConstants m.signals cells m.cells.items
      → HasReads op m → (step : ℕ) → as_named op.eq (came_to flows m work) ≡ outcome kernel flows (actor_at m step) op

-- an instruction is for an operation
pub record IsFor (kernel : Kernel) (cells : List ℤ) (op : Op) (instruction : Instruction) : Type 0 where
  pub target : IsTarget kernel op instruction.target
  pub work : IsWorkOf kernel cells op instruction.work

-- Instructions are for the operations of a plan, in its order.
pub record AreFor (plan : PlanView) (cells : List ℤ) (instructions : List Instruction) : Type 0 where
  pub count : length instructions ≡ length plan.order
  pub each : (place : ℕ) (instruction : Instruction) → slice_get instructions place ≡ Some instruction → (op : Op) → StandsAt plan place op
      → IsFor plan.kernel cells op instruction

-- Guards are those of the operations of a plan, in its order.
pub record AreGuardsOf (plan : PlanView) (guards : List Ref) : Type 0 where
  pub count : length guards ≡ length plan.order
  pub each : (place : ℕ) (guard : Ref) → slice_get guards place ≡ Some guard → (op : Op) → StandsAt plan place op → guard ≡ op.guard

-- The instructions of a plan.
pub record Lowers (plan : PlanView) (lowered : Lowered) : Type 0 where
  pub signals : lowered.signals ≡ length plan.kernel.signals
  pub cells : lowered.signals + lowered.signals ≤ length lowered.cells.items
  pub opening : memories_at lowered.signals lowered.cells.items ≡ initial_in plan.kernel.equations
  pub instructions : AreFor plan lowered.cells.items (instructions_in lowered.code)
  pub guards : AreGuardsOf plan (guards_in lowered.code)
  pub asks : scope_in plan.store.nodes lowered.code ≡ scope_of plan.store.nodes plan.clocks.conditions (length plan.kernel.signals)
  pub code : IsCode plan.store.nodes plan.kernel.inputs (length lowered.cells.items) lowered.code
