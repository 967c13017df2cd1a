-- The state of one actor: how far it is in its code, and what it has of the signals, the delays and the inputs.
use Rattle.std.specs.Prelude.{◌+◌, ◌==◌, ◌∷◌, if◌then◌else◌}
use Rattle.sig_model.specs.Prelude.{ℕ, ℤ, pos, Bool, true, false, nat_lt, List, [], map, slice_get, Option, None, Some, unwrap_or, Seen, SigId, Place, test, Node, Equation, Form, Fun, Delay, When, WhenConst, Default, Sync, Event, Kernel, CodeView, PlanView, Slot, Step}
use Rattle.sig_model.specs.Results.{is_one}

-- what an actor has of each signal in an instant: absent as long as it has not written or received it there
abbrev pub Registers : Type 0
Registers = ℕ → Seen

pub record Actor : Type 0 where
  -- the instant, from 1, and the place of the next step in the code, from 0
  pub instant : ℕ
  pub step : ℕ
  pub registers : Registers
  -- what is remembered for the delay that defines a signal
  pub memories : ℕ → ℤ
  -- how many values of an input were read
  pub taken : ℕ → ℕ
  pub ended : Bool

-- a function, with another value at one number
abbrev pub with_at : {A : Type 0} → ℕ → A → (ℕ → A) → ℕ → A
with_at number value f other = if other == number then value else f other

-- the same at the number of a signal, where there is one
abbrev pub with_signal : {A : Type 0} → Option SigId → A → (ℕ → A) → ℕ → A
with_signal None value f = f
with_signal (Some x) value f = with_at x.0 value f

-- no signal is there yet
abbrev pub no_registers : Registers
no_registers signal = None

-- the initial value of a delay that defines the signal, and otherwise the one given
abbrev pub initial_by : ℕ → Form → ℤ → ℤ
initial_by signal (Delay y x initial) other = if y.0 == signal then initial else other
initial_by signal (Fun y op operands) other = other
initial_by signal (When y x b) other = other
initial_by signal (WhenConst y constant b) other = other
initial_by signal (Default y u v) other = other
initial_by signal (Sync x y) other = other
initial_by signal (Event y x) other = other

-- the initial value of the delay that defines a signal
abbrev pub initial_in : List Equation → ℕ → ℤ
initial_in [] signal = pos 0
initial_in (equation ∷ equations) signal = initial_by signal equation.form (initial_in equations signal)

-- an actor at the opening: at the first step of instant 1, with the initial values in its memories
abbrev pub opening_actor : Kernel → Actor
opening_actor kernel = record {
  instant = 1;
  step = 0;
  registers = no_registers;
  memories = initial_in kernel.equations;
  taken = λ input. 0;
  ended = false;
}

-- an actor that has ended where it stands
abbrev pub ended_at : Actor → Actor
ended_at actor = record actor { ended = true }

-- an actor behind a step of a code of so many steps: at the next step, or at the first of the next instant
abbrev pub moved_on : ℕ → Actor → Actor
moved_on count actor =
    if nat_lt (actor.step + 1) count then record actor { step = actor.step + 1 }
    else record actor { instant = actor.instant + 1; step = 0; registers = no_registers }

-- the value of a register, or 0
abbrev pub value_in : Registers → SigId → ℤ
value_in registers x = unwrap_or (registers x.0) (pos 0)

-- a signal is present and true
abbrev pub is_true : Seen → Bool
is_true None = false
is_true (Some v) = is_one v

-- the truths of conditions, false where a condition is absent
abbrev pub truths_of : List SigId → Registers → List Bool
truths_of conditions registers = map (λ condition. is_true (registers condition.0)) conditions

-- the guard of a slot holds of truths
abbrev pub slot_holds : List Node → List Bool → Option Slot → Bool
slot_holds nodes truths None = false
slot_holds nodes truths (Some slot) = test nodes slot.guard truths

-- the guard of a step holds of the registers
abbrev pub guard_holds : PlanView → CodeView → Registers → Step → Bool
guard_holds plan code registers step =
    slot_holds plan.store.nodes (truths_of plan.clocks.conditions registers) (slice_get code.slots step.slot)

abbrev pub no_code : CodeView
no_code = record { steps = []; slots = [] }

-- the code of an actor
abbrev pub code_of : PlanView → ℕ → CodeView
code_of plan k = unwrap_or (slice_get plan.codes k) no_code

abbrev pub position_of : Option Step → ℕ
position_of None = 0
position_of (Some step) = step.pos

-- the place of an actor's next step
abbrev pub next_place : CodeView → Actor → Place
next_place code actor = record { instant = actor.instant; pos = position_of (slice_get code.steps actor.step) }
