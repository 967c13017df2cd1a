-- What a call of an actor's step leaves: its turn, done as the links answer.
use Rattle.std.specs.Prelude.{◌≡◌, ◌≤◌, ◌<◌, ◌+◌, ◌⊎◌}
use Rattle.sig_step.specs.Prelude.{ℕ, ℤ, true, false, List, length, slice_get, Option, None, Some, Result, Ok, Err, Place, Contains, Spans, Node, Ref, Kernel, Actor, code_of, ended_at, AtLimit, Commits, Fails, Goes, Puts, Stopped, Takes, Turn, PlanView, Slot, Step, StepKind, Do, Send, Receive, Report, Collect, Commit as CommitStep, instant_of}
use Rattle.sig_step.specs.LinkEnds.{Asked, Asks, FoundEmpty, FoundFull, Nothing, Past, Popped, Pushed, Queues}
use Rattle.sig_step.specs.States.{actor_of, is_met, last_reaction, parent_holds}
use Rattle.sig_step.specs.declared.answer.Acted.{Acted}
use Rattle.sig_step.specs.declared.answer.Acted.TheVariants.{Done, Commit, Empty, Full, Failed, AtLimit as AtTheLimit, Stopped as HasStopped}
use Rattle.sig_step.specs.declared.state.ClusterState.{ClusterState}

-- a call answered this, left this actor and asked this of the links
pub record Leaves (acted wanted : Acted) (actor next : Actor) (asked question : Asked) : Type 0 where
  pub answers : acted ≡ wanted
  pub is : actor ≡ next
  pub asks : asked ≡ question

-- What a call does by the turn of its actor. A link that refuses leaves the actor as it was.
abbrev pub Acts : Kernel → Turn → Acted → ClusterState → ClusterState → Asked → Type 0
Acts kernel Stopped acted old new asked = Leaves acted HasStopped (actor_of new) (actor_of old) asked Nothing
Acts kernel AtLimit acted old new asked = Leaves acted AtTheLimit (actor_of new) (ended_at (actor_of old)) asked Nothing
Acts kernel (Fails place) acted old new asked = Leaves acted (Failed place) (actor_of new) (ended_at (actor_of old)) asked Nothing
Acts kernel (Goes next) acted old new asked = Leaves acted Done (actor_of new) next asked Nothing
Acts kernel (Commits reaction next) acted old new asked =
    Leaves acted Commit (actor_of new) next asked Nothing × (last_reaction kernel new ≡ reaction)
Acts kernel (Puts j item next) acted old new asked =
    Leaves acted Done (actor_of new) next asked (Pushed j item) ⊎ Leaves acted (Full j) (actor_of new) (actor_of old) asked (FoundFull j)
Acts kernel (Takes j next) acted old new asked =
    ((item : ℤ) × Leaves acted Done (actor_of new) (next item) asked (Popped j item))
    ⊎ Leaves acted (Empty j) (actor_of new) (actor_of old) asked (FoundEmpty j)

-- A call did this turn of its actor: so it answered, so it left the actor, and so it asked its ends.
pub record TakesTurn {E : Type 0} (past : E → Option Past) (queues : E → Option Queues) (kernel : Kernel) (turn : Turn) (acted : Acted)
    (old new : ClusterState) (before after : E) : Type 0 where
  pub asked : Asked
  pub acts : Acts kernel turn acted old new asked
  pub asks : Asks past queues asked before after

-- A call that answers that a link had no room, or no item, found that link full, or empty.
abbrev pub Finds : {E : Type 0} → (ℕ → E → E → Type 0) → (ℕ → E → E → Type 0) → Acted → E → E → Type 0
Finds found_full found_empty (Full j) before after = found_full j before after
Finds found_full found_empty (Empty j) before after = found_empty j before after
Finds found_full found_empty other before after = Unit {0}

-- what a call answers of an operation: it was done, or it has no value
abbrev pub done_as : {U : Type 0} → Result U Place → Acted
done_as (Ok done) = Done
done_as (Err place) = Failed place

-- an answer names no link
abbrev pub NamesNoLink : Acted → Type 0
NamesNoLink (Full j) = ⊥
NamesNoLink (Empty j) = ⊥
NamesNoLink other = Unit {0}

-- a count of visited nodes rises by no more than the variables that a guard needs
pub record CountsNeeds (nodes : List Node) (guard : Ref) (before after : ℕ) : Type 0 where
  pub grows : before ≤ after
  pub needed : (variables : List ℕ) → Spans nodes guard variables → after ≤ before + length variables

-- The count of a step of a slot: it rises only where the slot was not met before in this instant and the guard of its parent
-- holds.
pub record CountsWalk (plan : PlanView) (s : ClusterState) (number : ℕ) (slot : Slot) (before after : ℕ) : Type 0 where
  pub needs : CountsNeeds plan.store.nodes slot.guard before after
  pub met : is_met s number ≡ true → after ≡ before
  pub parent : parent_holds s slot.parent ≡ false → after ≡ before

abbrev pub CountsAt : PlanView → ClusterState → Option Step → ℕ → ℕ → Type 0
CountsAt plan s None before after = after ≡ before
CountsAt plan s (Some step) before after =
    (slot : Slot) → slice_get (code_of plan s.actor).slots step.slot ≡ Some slot → CountsWalk plan s step.slot slot before after

-- The count of a call.
abbrev pub Counts : PlanView → ClusterState → ℕ → ℕ → Type 0
Counts plan s before after = CountsAt plan s (slice_get (code_of plan s.actor).steps s.step) before after

-- a call that finds the actor ended, or its instant past the limit, walks no guard
abbrev pub CountsNone : ClusterState → ℕ → ℕ → Type 0
CountsNone s before after = (s.ended ≡ true) ⊎ (s.limit < instant_of s.values) → after ≡ before

-- the links of an actor's steps are among those to which its ends can push, and those from which they can pop
abbrev pub MayDo : List ℕ → List ℕ → StepKind → Type 0
MayDo pushes pops (Send j) = Contains pushes j
MayDo pushes pops (Report j) = Contains pushes j
MayDo pushes pops (Receive j) = Contains pops j
MayDo pushes pops (Collect j) = Contains pops j
MayDo pushes pops (Do o) = Unit {0}
MayDo pushes pops CommitStep = Unit {0}

abbrev pub MayUse : PlanView → ℕ → List ℕ → List ℕ → Type 0
MayUse plan k pushes pops = (number : ℕ) (step : Step) → slice_get (code_of plan k).steps number ≡ Some step → MayDo pushes pops step.kind
