-- The machine of one actor of a plan.
use Rattle.std.specs.Prelude.{◌≡◌, ◌≤◌, ◌+◌, ◌-◌, ◌&&◌, if◌then◌else◌}
use Rattle.sig_machine.specs.Prelude.{ℕ, ℤ, Bool, true, false, List, length, nat_lt, slice_get, None, Some, Kernel, PlanView, Step, StepKind, Do, OpId, Op, Actor, Registers, Cause, Faults, Gives, code_of, operated, outcome, truths_of, IsAccepted}
use Rattle.sig_machine.specs.Lowerings.{IsFor}
use Rattle.sig_machine.specs.Machines.{AbsentAreZero, IsMachineFor, actor_at, registers_of}
use Rattle.sig_machine.specs.inner.Own.{AreOwnBelow, WritesOwn, is_own}
use Rattle.sig_machine.specs.inner.Truths.{AreNextTold, AreVariables}
use Rattle.sig_machine.specs.declared.actor.ActorMachine.{ActorMachine}
use Rattle.sig_cells.specs.Instructions.{cells_of, registers_in}
use Rattle.sig_cells.specs.Rows.{AreInstructions, listed}
use Rattle.sig_cells.specs.declared.instruction.Instruction.{Instruction}

abbrev pub instant_of : ActorMachine → ℕ
instant_of a = a.machine.instant

-- whether what is in the cell of a signal is kept for the next instant
abbrev pub is_kept : ActorMachine → ℕ → Bool
is_kept a signal = (nat_lt signal (length a.machine.cells.items) && nat_lt signal (length a.last.items)) && is_own a.own signal

-- what each signal is in this instant, as far as it was written, and what it was in the one before, by the cells of that: they
-- are kept for all signals that the actor writes, and those of the others are as they were
abbrev pub seen_in : ActorMachine → Registers
seen_in a = registers_of a.machine

abbrev pub last_in : ActorMachine → Registers
last_in a signal =
    registers_in a.machine.signals (a.machine.instant - 1)
    (cells_of (if is_kept a signal then a.last.items else a.machine.cells.items) a.machine.stamps.items a.machine.taken.items) signal

-- the truths of the conditions
abbrev pub truths_in : ActorMachine → List Bool
truths_in a = a.truths.items

-- the actor that has what the machine has, and stands before a step
abbrev pub actor_in : ActorMachine → ℕ → Actor
actor_in a step = actor_at a.machine step

-- a step of this kind does this operation
pub record DoesOp (plan : PlanView) (kind : StepKind) (op : Op) : Type 0 where
  pub number : OpId
  pub does : kind ≡ Do number
  pub is : slice_get plan.ops number.0 ≡ Some op

-- the step of a number of an actor does this operation
pub record IsOpOfStep (plan : PlanView) (k number : ℕ) (op : Op) : Type 0 where
  pub step : Step
  pub is : slice_get (code_of plan k).steps number ≡ Some step
  pub does : DoesOp plan step.kind op

-- an instruction is for the operation of a step of this kind, if it does one
abbrev pub IsForKind : PlanView → StepKind → List ℤ → Instruction → Type 0
IsForKind plan kind cells instruction = (op : Op) → DoesOp plan kind op → IsFor plan.kernel cells op instruction

-- instructions are for the operations of steps
abbrev pub AreForSteps : PlanView → List Step → List ℤ → List Instruction → Type 0
AreForSteps plan steps cells instructions = (number : ℕ) (step : Step) (instruction : Instruction) → slice_get steps number ≡ Some step
    → slice_get instructions number ≡ Some instruction → IsForKind plan step.kind cells instruction

-- what a machine has of an actor of this plan, over these flows
pub record HasActor (plan : PlanView) (k : ℕ) (flows : List (List ℤ)) (a : ActorMachine) : Type 0 where
  pub accepted : IsAccepted plan
  -- what is in the cells of constants
  pub constants : List ℤ
  pub room : length plan.kernel.signals + length plan.kernel.signals ≤ length constants
  pub machine : IsMachineFor (length plan.kernel.signals) constants flows a.machine
  pub absent : AbsentAreZero a.machine
  pub last : length a.last.items ≡ length constants
  pub below : AreOwnBelow (length plan.kernel.signals) a.own
  pub writes : WritesOwn a.own (length plan.kernel.signals) (listed a.instructions)
  -- no other signal is written
  pub others : (signal : ℕ) → is_own a.own signal ≡ false → registers_of a.machine signal ≡ None
  pub inputs : plan.kernel.inputs ≤ length flows
  pub instructions : AreInstructions (length flows) (length constants) a.instructions
  pub count : length (listed a.instructions) ≡ length (code_of plan k).steps
  pub each : AreForSteps plan (code_of plan k).steps constants (listed a.instructions)
  pub table : AreVariables plan.clocks.conditions (length plan.kernel.signals) a.variables.items
  pub next : AreNextTold (listed a.instructions) a.variables.items a.next_told.items
  pub told : truths_in a ≡ truths_of plan.clocks.conditions (seen_in a)

-- A machine is that of an actor of this plan, over these flows.
unfoldable pub IsMachineOfActor : PlanView → ℕ → List (List ℤ) → ActorMachine → Type 0
IsMachineOfActor plan k flows a = HasActor plan k flows a

-- The operation of a step was done, and this tells whether it has a value: then that is kept, and else nothing changed.
abbrev pub IsStepDone : Kernel → List (List ℤ) → Op → Bool → ActorMachine → ActorMachine → Type 0
IsStepDone kernel flows op true old new =
    (v : ℤ) × ((step : ℕ) → outcome kernel flows (actor_in old step) op ≡ Gives v)
    × ((step : ℕ) → actor_in new step ≡ operated kernel op v (actor_in old step))
IsStepDone kernel flows op false old new =
    (cause : Cause) × ((step : ℕ) → outcome kernel flows (actor_in old step) op ≡ Faults cause) × (new ≡ old)
