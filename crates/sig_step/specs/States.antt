-- What the state of an actor means, and when it is one of an actor of a plan.
use Rattle.std.specs.Prelude.{◌≡◌, ◌<◌, ◌≤◌, ◌+◌, ◌^◌, ◌==◌, if◌then◌else◌}
use Rattle.sig_step.specs.Prelude.{ℕ, ℤ, Bool, true, List, length, slice_get, Option, None, Some, Place, Kernel, Actor, Registers, code_of, position_of, slot_holds, truths_of, Faults, Gives, Outcome, outcome, Reaction, reaction_in, PlanView, Step, StepKind, Do, Cause, Limit, Op, OpId, IsMachineOfActor, actor_in, instant_of, last_in, seen_in}
use Rattle.sig_step.specs.declared.state.ClusterState.{ClusterState}
use Rattle.sig_step.specs.declared.state.Mark.{Mark}

-- the actor that a state is
abbrev pub actor_of : ClusterState → Actor
actor_of s = record (actor_in s.values s.step) { ended = s.ended }

-- which actor of the plan it is, and up to which instant it runs
abbrev pub number_of : ClusterState → ℕ
number_of s = s.actor

abbrev pub limit_of : ClusterState → ℕ
limit_of s = s.limit

-- the place of its next step
abbrev pub place_of : ClusterState → Place
place_of s = record { instant = instant_of s.values; pos = s.pos }

-- the reaction of the instant before, which the collector has just committed
abbrev pub last_reaction : Kernel → ClusterState → Reaction
last_reaction kernel s = reaction_in kernel (last_in s.values)

-- a mark of this instant knows whether the guard of its slot holds, and a step of the slot was reached
abbrev pub KnowsGuard : PlanView → ℕ → ℕ → ℕ → Registers → ℕ → Mark → Type 0
KnowsGuard plan actor instant next registers slot mark = mark.instant ≡ instant
    → (mark.holds ≡ slot_holds plan.store.nodes (truths_of plan.clocks.conditions registers) (slice_get (code_of plan actor).slots slot))
    × ((number : ℕ) × (step : Step) × (number ≤ next) × (slice_get (code_of plan actor).steps number ≡ Some step) × (step.slot ≡ slot))

-- the marks of an actor that is at an instant before a next step, with these registers
pub record AreMarksAt (plan : PlanView) (actor instant next : ℕ) (registers : Registers) (marks : List Mark) : Type 0 where
  pub count : length marks ≡ length (code_of plan actor).slots
  pub past : (slot : ℕ) (mark : Mark) → slice_get marks slot ≡ Some mark → mark.instant ≤ instant
  pub known : (slot : ℕ) (mark : Mark) → slice_get marks slot ≡ Some mark → KnowsGuard plan actor instant next registers slot mark
  -- the slots of the steps before the next one were met
  pub reached : (number : ℕ) (step : Step) → number < next → slice_get (code_of plan actor).steps number ≡ Some step
      → (mark : Mark) × (slice_get marks step.slot ≡ Some mark) × (mark.instant ≡ instant)

abbrev pub AreMarks : PlanView → ClusterState → Type 0
AreMarks plan s = AreMarksAt plan s.actor (instant_of s.values) s.step (seen_in s.values) s.marks.items

-- a step does an operation, and has this slot
pub record IsInRow (number : ℕ) (step : Step) : Type 0 where
  pub operation : OpId
  pub does : step.kind ≡ Do operation
  pub of : step.slot ≡ number

-- From a step on, up to another one that is not behind the last, all do operations and have the slot of the first.
pub record IsRow (steps : List Step) (from to : ℕ) : Type 0 where
  pub forth : from ≤ to
  pub inside : to < length steps
  pub each : (number : ℕ) (first step : Step) → from ≤ number → number < to → slice_get steps from ≡ Some first → slice_get steps number ≡ Some step
      → IsInRow first.slot step

-- these are ends of rows, by the steps at which they begin
abbrev pub AreRows : List Step → List ℕ → Type 0
AreRows steps rows = (from to : ℕ) → slice_get rows from ≡ Some to → IsRow steps from to

-- A state is one of an actor of this plan, over these flows.
pub record IsStateOf (plan : PlanView) (flows : List (List ℤ)) (s : ClusterState) : Type 0 where
  pub actor : s.actor < length plan.codes
  pub limit : s.limit + 1 < 2 ^ 32
  pub from : 1 ≤ instant_of s.values
  pub within : instant_of s.values ≤ s.limit + 1
  pub step : s.step < length (code_of plan s.actor).steps
  pub short : length (code_of plan s.actor).steps < 2 ^ 32
  pub position : s.pos ≡ position_of (slice_get (code_of plan s.actor).steps s.step)
  pub values : IsMachineOfActor plan s.actor flows s.values
  pub marks : AreMarks plan s
  pub row_count : length s.rows.items ≡ length (code_of plan s.actor).steps
  pub rows : AreRows (code_of plan s.actor).steps s.rows.items

-- whether a guard holds, where that is known in this instant
abbrev pub known_in : ℕ → Option Mark → Option Bool
known_in instant None = None
known_in instant (Some mark) = if mark.instant == instant then Some mark.holds else None

-- the guard of the slot of this number was met in this instant
abbrev pub mark_is_met : ℕ → Option Mark → Bool
mark_is_met instant None = true
mark_is_met instant (Some mark) = mark.instant == instant

abbrev pub is_met : ClusterState → ℕ → Bool
is_met s slot = mark_is_met (instant_of s.values) (slice_get s.marks.items slot)

-- the guard of the parent holds, where there is one
abbrev pub mark_holds : Option Mark → Bool
mark_holds None = true
mark_holds (Some mark) = mark.holds

abbrev pub parent_holds : ClusterState → Option ℕ → Bool
parent_holds s None = true
parent_holds s (Some parent) = mark_holds (slice_get s.marks.items parent)

-- why an outcome is no value; the limit, where it is one
abbrev pub cause_by : Outcome → Cause
cause_by (Gives v) = Limit
cause_by (Faults cause) = cause

abbrev pub cause_of_op : PlanView → List (List ℤ) → Actor → Option Op → Cause
cause_of_op plan flows actor None = Limit
cause_of_op plan flows actor (Some op) = cause_by (outcome plan.kernel flows actor op)

-- why a step of this kind has no value; the limit, where it does no operation
abbrev pub cause_of_kind : PlanView → List (List ℤ) → Actor → StepKind → Cause
cause_of_kind plan flows actor (Do o) = cause_of_op plan flows actor (slice_get plan.ops o.0)
cause_of_kind plan flows actor other = Limit

abbrev pub cause_at : PlanView → List (List ℤ) → Actor → Option Step → Cause
cause_at plan flows actor None = Limit
cause_at plan flows actor (Some step) = cause_of_kind plan flows actor step.kind

-- Why the operation of the next step has no value.
abbrev pub cause_of : PlanView → List (List ℤ) → ClusterState → Cause
cause_of plan flows s = cause_at plan flows (actor_of s) (slice_get (code_of plan s.actor).steps s.step)
