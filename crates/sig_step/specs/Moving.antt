-- How a state goes on to the next step.
use Rattle.std.specs.Prelude.{◌≡◌, ◌≤◌}
use Rattle.sig_step.specs.Prelude.{ℕ, ℤ, List, false, length, slice_get, Some, code_of, moved_on, position_of, IsRunnable, IsAccepted, PlanView, Step, StepKind, IsMachineOfActor, instant_of, last_in, seen_in}
use Rattle.sig_step.specs.States.{IsStateOf, actor_of}
use Rattle.sig_step.specs.declared.answer.Acted.{Acted}
use Rattle.sig_step.specs.declared.answer.Acted.TheVariants.{Empty, Full}
use Rattle.sig_step.specs.declared.state.ClusterState.{ClusterState}
use Rattle.sig_step.specs.declared.state.Mark.{Mark}

-- the slot of this number was met in this instant
abbrev pub IsSlotMet : ClusterState → ℕ → Type 0
IsSlotMet s slot = (mark : Mark) × (slice_get s.marks.items slot ≡ Some mark) × (mark.instant ≡ instant_of s.values)

-- that of the next step was met
abbrev pub IsMet : PlanView → ClusterState → Type 0
IsMet plan s = (step : Step) → slice_get (code_of plan s.actor).steps s.step ≡ Some step → IsSlotMet s step.slot

-- where a link refused a step, the slot of that step, which is still the next one, was met
abbrev pub StaysMet : PlanView → Acted → ClusterState → Type 0
StaysMet plan (Empty j) s = IsMet plan s
StaysMet plan (Full j) s = IsMet plan s
StaysMet plan other s = Unit {0}

-- A state within its limit may go on once the guard of its next step was met.
pub record MayGoOn (plan : PlanView) (flows : List (List ℤ)) (s : ClusterState) : Type 0 where
  pub state : IsStateOf plan flows s
  pub runs : instant_of s.values ≤ s.limit
  pub met : IsMet plan s

-- a plan that can be run
pub record CanRun (plan : PlanView) : Type 0 where
  pub accepted : IsAccepted plan
  pub runnable : IsRunnable plan

-- A state that has not ended stands before a step of this kind, whose guard was met.
pub record IsReady (plan : PlanView) (flows : List (List ℤ)) (s : ClusterState) (kind : StepKind) : Type 0 where
  pub plan_runs : CanRun plan
  pub may : MayGoOn plan flows s
  pub runs : s.ended ≡ false
  pub step : Step
  pub at : slice_get (code_of plan s.actor).steps s.step ≡ Some step
  pub does : step.kind ≡ kind

-- both are states of one actor, up to one limit
pub record IsSameActor (old new : ClusterState) : Type 0 where
  pub actor : new.actor ≡ old.actor
  pub limit : new.limit ≡ old.limit

-- A state goes on to the next step, or to the first one of the next instant.
pub record MovesOn (plan : PlanView) (old new : ClusterState) : Type 0 where
  pub actor : actor_of new ≡ moved_on (length (code_of plan old.actor).steps) (actor_of old)
  pub same : IsSameActor old new
  pub position : new.pos ≡ position_of (slice_get (code_of plan old.actor).steps new.step)
  pub values : (flows : List (List ℤ)) → IsMachineOfActor plan old.actor flows old.values → IsMachineOfActor plan old.actor flows new.values
  pub marks : new.marks ≡ old.marks
  -- at a next instant what was seen in this one is what was seen last
  pub last : new.step ≡ 0 → last_in new.values ≡ seen_in old.values
