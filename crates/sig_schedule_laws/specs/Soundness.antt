-- Beside a state on the reference: no actor has gone past a fault.
use Rattle.std.specs.Prelude.{◌≡◌, ◌<◌, ◌≤◌, ◌⊎◌}
use Rattle.sig_schedule_laws.specs.Prelude.{ℕ, ℤ, List, slice_get, Some, Trace, OpId, Place, Actor, code_of, Core, Given, IsFaulty, CodeView, PlanView, Step, Do}

-- the actor is behind the step s of the instant i
abbrev pub IsPast : ℕ → ℕ → Actor → Type 0
IsPast i s actor = (i < actor.instant) ⊎ ((i ≡ actor.instant) × (s < actor.step))

-- no operation that is behind an actor has a fault at the reference
abbrev pub IsSoundActor : PlanView → List (List ℤ) → Trace → CodeView → Actor → Type 0
IsSoundActor plan flows reference code actor = (i s : ℕ) (step : Step) (o : OpId) → slice_get code.steps s ≡ Some step → step.kind ≡ Do o → IsPast i s actor
    → IsFaulty plan flows reference (record { instant = i; pos = step.pos }) → ⊥

-- A state is sound: no actor has gone past a fault, and the word names an instant within the limit.
pub record IsSound (given : Given) (reference : Trace) (core : Core) : Type 0 where
  pub actors : (k : ℕ) (actor : Actor) → slice_get core.actors k ≡ Some actor → IsSoundActor given.plan given.flows reference (code_of given.plan k) actor
  pub word : (place : Place) → core.word ≡ Some place → place.instant ≤ given.limit
