-- What a turn does to its actor, and which link it names.
use Rattle.sig_interleaving.proofs.Common.{◌≡◌, ◌<◌, ◌≤◌, ℕ, ℤ, Bool, true, false, cond, length, refl, None, Option, Some, nat_lt, slice_get, ltb-false, Place, Actor, code_of, ended_at, guard_holds, moved_on, next_place, Given, Faults, Gives, Outcome, operated, outcome, AtLimit, Commits, Fails, Goes, Puts, Stopped, Takes, Turn, carried, received, turn, turn_at, turn_by, turn_of_op, turn_with, NamesWithin, IsAccepted, PlanView, Step, StepKind, Do, Send, Receive, Report, Collect, Commit, Op, step_names, step_coded}
use Rattle.sig_interleaving.proofs.WhatIsLeft.{Falls, end_falls, moved_falls}

-- the place of a failure of an actor within the limit
pub record IsFailure (given : Given) (k : ℕ) (a : Actor) (place : Place) : Type 0 where
  pub is : place ≡ next_place (code_of given.plan k) a
  pub within : a.instant ≤ given.limit

module _ (given : Given) (accepted : IsAccepted given.plan) (k : ℕ) (a : Actor) (inside : a.step < length (code_of given.plan k).steps) where
  abbrev plan : PlanView
  plan = given.plan

  abbrev count : ℕ
  count = length (code_of plan k).steps

  abbrev pub Less : Actor → Type 0
  Less next = Falls given.limit count a next

  -- what a turn does to its actor
  abbrev pub IsTurnOf : Turn → Type 0
  IsTurnOf Stopped = Unit {0}
  IsTurnOf AtLimit = Less (ended_at a)
  IsTurnOf (Fails place) = Less (ended_at a) × IsFailure given k a place
  IsTurnOf (Goes next) = Less next
  IsTurnOf (Commits reaction next) = Less next
  IsTurnOf (Puts j item next) = Less next × (j < length plan.links)
  IsTurnOf (Takes j next) = ((item : ℤ) → Less (next item)) × (j < length plan.links)

  module _ (runs : a.ended ≡ false) (within : a.instant ≤ given.limit) where
    moved : (b : Actor) → b.instant ≡ a.instant → b.step ≡ a.step → b.ended ≡ a.ended → Less (moved_on count b)
    moved b instant step ended = moved_falls given.limit count a b within inside instant step ended

    op_turn : (op : Op) (r : Outcome) → IsTurnOf (turn_with plan (code_of plan k) a op r)
    op_turn op (Gives v) = moved (operated plan.kernel op v a) refl refl refl
    op_turn op (Faults cause) = (end_falls given.limit count a runs, record { is = refl; within = within })

    some_op : (found : Option Op) → IsTurnOf (turn_of_op plan given.flows (code_of plan k) a found)
    some_op None = tt
    some_op (Some op) = op_turn op (outcome plan.kernel given.flows a op)

    kind_turn : (kind : StepKind) → NamesWithin (length plan.ops) (length plan.links) kind → IsTurnOf (turn_by plan given.flows (code_of plan k) a kind)
    kind_turn (Do o) named = some_op (slice_get plan.ops o.0)
    kind_turn (Send j) named = (moved a refl refl refl, named)
    kind_turn (Report j) named = (moved a refl refl refl, named)
    kind_turn (Receive j) named = ((λ item. moved (received (carried plan.links j) item a) refl refl refl), named)
    kind_turn (Collect j) named = ((λ item. moved a refl refl refl), named)
    kind_turn Commit named = moved a refl refl refl

    step_turn : (step : Option Step) → slice_get (code_of plan k).steps a.step ≡ step → IsTurnOf (turn_at plan given.flows (code_of plan k) a step)
    step_turn None at = tt
    step_turn (Some step) at = by (guard_holds plan (code_of plan k) a.registers step) where
      by : (b : Bool) → IsTurnOf (cond b (turn_by plan given.flows (code_of plan k) a step.kind) (Goes (moved_on count a)))
      by true = kind_turn step.kind (step_names plan accepted k (code_of plan k) (step_coded plan k a.step step at) a.step step at)
      by false = moved a refl refl refl

  pub turn_is : IsTurnOf (turn plan given.flows given.limit k a)
  turn_is = by a.ended refl where
    going : a.ended ≡ false → (b : Bool) → nat_lt given.limit a.instant ≡ b → IsTurnOf (cond b AtLimit (turn_at plan given.flows (code_of plan k) a (slice_get (code_of plan k).steps a.step)))
    going runs true over = end_falls given.limit count a runs
    going runs false within = step_turn runs (ltb-false given.limit a.instant within) (slice_get (code_of plan k).steps a.step) refl

    by : (b : Bool) → a.ended ≡ b → IsTurnOf (cond b Stopped (cond (nat_lt given.limit a.instant) AtLimit (turn_at plan given.flows (code_of plan k) a (slice_get (code_of plan k).steps a.step))))
    by true ended = tt
    by false runs = going runs (nat_lt given.limit a.instant) refl
