-- A state on the reference: what every state that events reach has to do with the extended reference.
use Rattle.std.specs.Prelude.{◌≡◌, ◌<◌, ◌≤◌, ◌-◌, ◌⊎◌, ◌==◌, ◌&&◌, ◌++◌, if◌then◌else◌}
use Rattle.sig_model.specs.Prelude.{ℕ, ℤ, pos, Bool, true, false, not, List, [], length, map, take, flat_map, slice_get, slice_index_or, Option, None, Some, filter_map, list_any, Instant, Seen, Trace, seen_at, SigId, Place, last_of, Kernel, CodeView, operations_in, PlanView, numbers_of, Step, StepKind, Do, Send, Receive, Report, Collect, Commit, Cause, Op, OpKind, Read, Compute, Left, Right, DelayRead, Store, LinkInfo}
use Rattle.sig_model.specs.Actors.{Actor, code_of, guard_holds, initial_in, next_place}
use Rattle.sig_model.specs.Causes.{HasFault, MeetsAt, place_at}
use Rattle.sig_model.specs.Cores.{Core, Given, is_before, word_before}
use Rattle.sig_model.specs.Operating.{first_in, remembers}
use Rattle.sig_model.specs.References.{IsReference}
use Rattle.sig_model.specs.Turns.{carried, item_of, reaction_in}

-- What a step gives at an instant of the reference, if it is done there: a value, or nothing.
abbrev pub Yield : Type 0
Yield = Instant → StepKind → Option ℤ

-- what the steps that are done at an instant give, in order
abbrev pub yielded_in : PlanView → CodeView → Yield → Instant → List Step → List ℤ
yielded_in plan code yield instant steps =
    filter_map (λ step. if guard_holds plan code (seen_at instant) step then yield instant step.kind else None) steps

-- the instant of a number, from 1
abbrev pub instant_at : Trace → ℕ → Instant
instant_at reference i = slice_index_or reference (i - 1) []

-- what all steps of a code give before the step s of the instant i
abbrev pub yielded_before : PlanView → CodeView → Yield → Trace → ℕ → ℕ → List ℤ
yielded_before plan code yield reference i s =
    flat_map (λ instant. yielded_in plan code yield instant code.steps) (take (i - 1) reference)
    ++ yielded_in plan code yield (instant_at reference i) (take s code.steps)

-- the item of the link j, where the step sends on it
abbrev pub sent_on : List LinkInfo → ℕ → Yield
sent_on links j instant (Send l) = if l == j then Some (item_of (seen_at instant) (carried links j)) else None
sent_on links j instant (Report l) = if l == j then Some (pos 0) else None
sent_on links j instant (Receive l) = None
sent_on links j instant (Collect l) = None
sent_on links j instant (Do o) = None
sent_on links j instant Commit = None

-- and where it takes one from it
abbrev pub taken_from : List LinkInfo → ℕ → Yield
taken_from links j instant (Receive l) = if l == j then Some (item_of (seen_at instant) (carried links j)) else None
taken_from links j instant (Collect l) = if l == j then Some (pos 0) else None
taken_from links j instant (Send l) = None
taken_from links j instant (Report l) = None
taken_from links j instant (Do o) = None
taken_from links j instant Commit = None

-- the operation that a step does
abbrev pub op_of : List Op → StepKind → Option Op
op_of ops (Do o) = slice_get ops o.0
op_of ops (Send l) = None
op_of ops (Report l) = None
op_of ops (Receive l) = None
op_of ops (Collect l) = None
op_of ops Commit = None

-- two signals are one, where there is one
abbrev pub names : ℕ → Option SigId → Bool
names number None = false
names number (Some x) = x.0 == number

abbrev pub input_of : OpKind → Option SigId
input_of (Read x) = Some x
input_of (Store e) = None
input_of Compute = None
input_of Left = None
input_of Right = None
input_of DelayRead = None

-- the value of an input, where an operation reads it
abbrev pub read_by : ℕ → Instant → Option Op → Option ℤ
read_by input instant None = None
read_by input instant (Some op) = if names input (input_of op.kind) then seen_at instant input else None

-- the value that is stored for the delay that defines a signal, where an operation stores it
abbrev pub stored_by : Kernel → ℕ → Instant → Option Op → Option ℤ
stored_by kernel signal instant None = None
stored_by kernel signal instant (Some op) = if names signal (remembers kernel op.kind) then Some (first_in (seen_at instant) op.reads) else None

abbrev pub read_at : PlanView → ℕ → Yield
read_at plan input instant kind = read_by input instant (op_of plan.ops kind)

abbrev pub stored_at : PlanView → ℕ → Yield
stored_at plan signal instant kind = stored_by plan.kernel signal instant (op_of plan.ops kind)

abbrev pub target_of_op : Option Op → Option SigId
target_of_op None = None
target_of_op (Some op) = op.writes

-- the signal whose register a step writes
abbrev pub fills : PlanView → StepKind → Option SigId
fills plan (Do o) = target_of_op (slice_get plan.ops o.0)
fills plan (Receive l) = carried plan.links l
fills plan (Send l) = None
fills plan (Report l) = None
fills plan (Collect l) = None
fills plan Commit = None

-- some of the steps writes the register of a signal at an instant
abbrev pub is_filled : PlanView → CodeView → Instant → List Step → ℕ → Bool
is_filled plan code instant steps signal =
    list_any (λ step. guard_holds plan code (seen_at instant) step && names signal (fills plan step.kind)) steps

-- what the steps before the step s leave in a register at an instant: what the signal is, where one of them writes it
abbrev pub register_before : PlanView → CodeView → Instant → ℕ → ℕ → Seen
register_before plan code instant s signal = if is_filled plan code instant (take s code.steps) signal then seen_at instant signal else None

-- An actor is on the reference: its registers, its memories and the number of values that it read are those that the
-- reference's steps before its next step leave.
pub record IsActorOn (plan : PlanView) (reference : Trace) (code : CodeView) (actor : Actor) : Type 0 where
  pub from : 1 ≤ actor.instant
  pub within : actor.instant ≤ length reference
  pub step : actor.step < length code.steps
  pub registers : (signal : ℕ) → actor.registers signal ≡ register_before plan code (instant_at reference actor.instant) actor.step signal
  pub memories : (signal : ℕ) → actor.memories signal
      ≡ last_of (initial_in plan.kernel.equations signal) (yielded_before plan code (stored_at plan signal) reference actor.instant actor.step)
  pub taken : (input : ℕ) → actor.taken input ≡ length (yielded_before plan code (read_at plan input) reference actor.instant actor.step)

-- A link is on the reference: it holds what the writer's steps before its next step send and the reader's do not take.
abbrev pub IsLinkOn : PlanView → Trace → ℕ → LinkInfo → Actor → Actor → List ℤ → Type 0
IsLinkOn plan reference j link writer reader items =
    yielded_before plan (code_of plan link.writer) (sent_on plan.links j) reference writer.instant writer.step
    ≡ yielded_before plan (code_of plan link.reader) (taken_from plan.links j) reference reader.instant reader.step ++ items

-- the reference has a fault at a place: an operation is done there that meets it
pub record IsFaulty (plan : PlanView) (flows : List (List ℤ)) (reference : Trace) (place : Place) : Type 0 where
  pub from : 1 ≤ place.instant
  pub within : place.instant ≤ length reference
  pub cause : Cause
  pub at : ℕ
  pub meets : MeetsAt (operations_in plan.store.nodes plan.ops) (numbers_of plan.order) at cause
  pub is : place ≡ place_at place.instant at
  pub fault : HasFault plan.kernel flows (take (place.instant - 1) reference) (instant_at reference place.instant) cause

-- the word is a place, or before it
abbrev pub reached_by : Option Place → Place → Bool
reached_by None place = false
reached_by (Some word) place = not (is_before place word)

-- An actor has ended for one of three reasons: its instant is past the limit, its operation has a fault at a place that was
-- recorded, or the word is before its next place.
abbrev pub HasReason : Given → Trace → Option Place → CodeView → Actor → Type 0
HasReason given reference word code actor =
    (given.limit < actor.instant)
    ⊎ ((IsFaulty given.plan given.flows reference (next_place code actor) × (reached_by word (next_place code actor) ≡ true))
    ⊎ (word_before word (next_place code actor) ≡ true))

-- the word is none, or a place where the reference has a fault
abbrev pub IsWordOn : Given → Trace → Option Place → Type 0
IsWordOn given reference None = Unit {0}
IsWordOn given reference (Some place) = IsFaulty given.plan given.flows reference place

-- the reactions of the first instants of a trace
abbrev pub reactions_of : Kernel → Trace → List (List Seen)
reactions_of kernel trace = map (λ instant. reaction_in kernel (seen_at instant)) trace

-- A state is on the reference, which is long enough for all its actors.
pub record IsOnReference (given : Given) (reference : Trace) (core : Core) : Type 0 where
  pub is : IsReference given.plan.kernel given.flows (length reference) reference
  pub actors : length core.actors ≡ length given.plan.codes
  pub links : length core.links ≡ length given.plan.links
  pub each : (k : ℕ) (actor : Actor) → slice_get core.actors k ≡ Some actor → IsActorOn given.plan reference (code_of given.plan k) actor
  pub ended : (k : ℕ) (actor : Actor) → slice_get core.actors k ≡ Some actor → actor.ended ≡ true
      → HasReason given reference core.word (code_of given.plan k) actor
  pub carried : (j : ℕ) (link : LinkInfo) (writer reader : Actor) → slice_get given.plan.links j ≡ Some link
      → slice_get core.actors link.writer ≡ Some writer → slice_get core.actors link.reader ≡ Some reader
      → IsLinkOn given.plan reference j link writer reader (slice_index_or core.links j [])
  pub room : (j : ℕ) → j < length core.links → length (slice_index_or core.links j []) ≤ given.capacity
  pub word : IsWordOn given reference core.word
  -- the collector has the last code, and has committed each instant before its own
  pub committed : (collector : Actor) → slice_get core.actors (length given.plan.codes - 1) ≡ Some collector
      → core.committed ≡ reactions_of given.plan.kernel (take (collector.instant - 1) reference)
