-- The turn of one actor: what it does next. Its own state determines it; of a link it waits for an answer alone.
use Rattle.std.specs.Prelude.{if◌then◌else◌}
use Rattle.sig_model.specs.Prelude.{ℕ, ℤ, pos, List, length, map, nat_lt, slice_get, Option, None, Some, option_and_then, range_with_len, Seen, SigId, Place, Kernel, CodeView, PlanView, Step, StepKind, Do, Send, Receive, Report, Collect, Commit, Op, LinkInfo}
use Rattle.sig_model.specs.Actors.{Actor, Registers, code_of, guard_holds, moved_on, next_place, value_in, with_signal}
use Rattle.sig_model.specs.Operating.{Faults, Gives, Outcome, operated, outcome}

-- a reaction: what each output is
abbrev pub Reaction : Type 0
Reaction = List Seen

pub data Turn : Type 0 where
  -- it has ended before
  Stopped : Turn
  -- it ends, since its instant is past the limit
  AtLimit : Turn
  -- it ends, since its operation has no value, and this place is recorded
  Fails : Place → Turn
  -- it goes on: the step is passed over, or the operation is done
  Goes : Actor → Turn
  -- it commits a reaction and goes on
  Commits : Reaction → Actor → Turn
  -- it goes on once the link has taken this item
  Puts : ℕ → ℤ → Actor → Turn
  -- it goes on with an item, once the link has given one
  Takes : ℕ → (ℤ → Actor) → Turn

-- the signal that a link carries
abbrev pub carried : List LinkInfo → ℕ → Option SigId
carried links j = option_and_then (λ link. link.signal) (slice_get links j)

-- the value of the register of a signal; a report has the item 0
abbrev pub item_of : Registers → Option SigId → ℤ
item_of registers None = pos 0
item_of registers (Some x) = value_in registers x

-- an actor with an item in the register of a signal
abbrev pub received : Option SigId → ℤ → Actor → Actor
received x item actor = record actor { registers = with_signal x (Some item) actor.registers }

-- what each output is by the registers
abbrev pub reaction_in : Kernel → Registers → Reaction
reaction_in kernel registers = map registers (range_with_len kernel.inputs kernel.outputs)

-- an operation came to an outcome at an actor that then has so many steps in its code
abbrev pub turn_with : PlanView → CodeView → Actor → Op → Outcome → Turn
turn_with plan code actor op (Gives v) = Goes (moved_on (length code.steps) (operated plan.kernel op v actor))
turn_with plan code actor op (Faults cause) = Fails (next_place code actor)

abbrev pub turn_of_op : PlanView → List (List ℤ) → CodeView → Actor → Option Op → Turn
turn_of_op plan flows code actor None = Stopped
turn_of_op plan flows code actor (Some op) = turn_with plan code actor op (outcome plan.kernel flows actor op)

-- the turn of an actor at a step whose guard holds
abbrev pub turn_by : PlanView → List (List ℤ) → CodeView → Actor → StepKind → Turn
turn_by plan flows code actor (Do o) = turn_of_op plan flows code actor (slice_get plan.ops o.0)
turn_by plan flows code actor (Send j) = Puts j (item_of actor.registers (carried plan.links j)) (moved_on (length code.steps) actor)
turn_by plan flows code actor (Report j) = Puts j (pos 0) (moved_on (length code.steps) actor)
turn_by plan flows code actor (Receive j) = Takes j (λ item. moved_on (length code.steps) (received (carried plan.links j) item actor))
turn_by plan flows code actor (Collect j) = Takes j (λ item. moved_on (length code.steps) actor)
turn_by plan flows code actor Commit = Commits (reaction_in plan.kernel actor.registers) (moved_on (length code.steps) actor)

-- the turn at a step, which is passed over where its guard does not hold
abbrev pub turn_at : PlanView → List (List ℤ) → CodeView → Actor → Option Step → Turn
turn_at plan flows code actor None = Stopped
turn_at plan flows code actor (Some step) =
    if guard_holds plan code actor.registers step then turn_by plan flows code actor step.kind else Goes (moved_on (length code.steps) actor)

-- The turn of an actor with this code.
abbrev pub turn_in : PlanView → List (List ℤ) → ℕ → CodeView → Actor → Turn
turn_in plan flows limit code actor =
    if actor.ended then Stopped else if nat_lt limit actor.instant then AtLimit
    else turn_at plan flows code actor (slice_get code.steps actor.step)

-- The turn of the actor k of a plan, over flows and up to a limit of instants.
abbrev pub turn : PlanView → List (List ℤ) → ℕ → ℕ → Actor → Turn
turn plan flows limit k actor = turn_in plan flows limit (code_of plan k) actor
