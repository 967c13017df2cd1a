-- Operations that an actor does.
use Rattle.sig_step.proofs.Common.{◌≡◌, ◌∙◌, ℕ, ℤ, Bool, true, List, length, slice_get, Option, None, Some, refl, sym, ap, subst, OpId, SigId, Place, Kernel, Actor, code_of, moved_on, next_place, Faults, Gives, Outcome, memory_of, operated, outcome, outcome_by, fills, target_of_op, FillsAt, Fails, Goes, Turn, turn_by, turn_of_op, turn_with, PlanView, Do, Cause, Op, OpKind, DelayRead, Acts, Nothing, IsReady, MayGoOn, MovesOn, actor_of, cause_by, cause_of_op, place_of, Acted, Done, Failed, ClusterState, IsMachineOfActor, IsOpOfStep, NamesWithin, StepKind, step_names, ◌<◌, actor_in, instant_of, ActorMachine, some_at}
use Rattle.sig_step.proofs.StateLemmas.{may_with}
use Rattle.sig_step.proofs.CallsByTurn.{coded}

-- what is remembered does not depend on whether the actor has ended
same_memory : (actor : Actor) (ended : Bool) (y : Option SigId) → Gives (memory_of (record actor { ended = ended }) y) ≡ Gives (memory_of actor y)
same_memory actor ended None = refl
same_memory actor ended (Some y) = refl

-- what an operation comes to does not depend on whether the actor has ended
outcome_of_kind : (kernel : Kernel) (flows : List (List ℤ)) (actor : Actor) (ended : Bool) (op : Op) (kind : OpKind)
    → outcome_by kernel flows (record actor { ended = ended }) op kind ≡ outcome_by kernel flows actor op kind
outcome_of_kind kernel flows actor ended op DelayRead = same_memory actor ended op.writes
outcome_of_kind kernel flows actor ended op other = refl

pub same_outcome : (kernel : Kernel) (flows : List (List ℤ)) (s : ClusterState) (op : Op)
    → outcome kernel flows (actor_of s) op ≡ outcome kernel flows (actor_in s.values s.step) op
same_outcome kernel flows s op = outcome_of_kind kernel flows (actor_in s.values s.step) s.ended op op.kind

-- the operation of the next step is there
pub op_there : (plan : PlanView) (flows : List (List ℤ)) (s : ClusterState) (o : OpId) → IsReady plan flows s (Do o) → (op : Op) × (slice_get plan.ops o.0 ≡ Some op)
op_there plan flows s o ready =
    let named = step_names plan ready.plan_runs.accepted s.actor (code_of plan s.actor) (coded plan s.actor ready.may.state.actor) s.step ready.step ready.at in
    let below : o.0 < length plan.ops = subst (λ (kind : StepKind). NamesWithin (length plan.ops) (length plan.links) kind) ready.does named in
    some_at plan.ops o.0 below

pub does_op : (plan : PlanView) (flows : List (List ℤ)) (s : ClusterState) (o : OpId) → IsReady plan flows s (Do o) → (op : Op) → slice_get plan.ops o.0 ≡ Some op
    → IsOpOfStep plan s.actor s.step op
does_op plan flows s o ready op there = record { step = ready.step; is = ready.at; does = record { number = o; does = ready.does; is = there } }

-- the answer of a failure at a place
abbrev failed_at : ℕ → ℕ → Acted
failed_at instant position = Failed (record { instant = instant; pos = position })

module _ (plan : PlanView) (flows : List (List ℤ)) (s : ClusterState) (o : OpId) (ready : IsReady plan flows s (Do o)) (op : Op) (there : slice_get plan.ops o.0 ≡ Some op) where
  fills_it : (x : SigId) → op.writes ≡ Some x → FillsAt plan s.actor s.step x
  fills_it x writes = record { step = ready.step; is = ready.at; does = ap (fills plan) ready.does ∙ ap target_of_op there ∙ writes }

  -- the turn, where the operation gives a value, and where it has none
  turn_is : (outcome_is : Turn) → turn_with plan (code_of plan s.actor) (actor_of s) op (outcome plan.kernel flows (actor_of s) op) ≡ outcome_is
      → turn_by plan flows (code_of plan s.actor) (actor_of s) (Do o) ≡ outcome_is
  turn_is outcome_is is = ap (turn_of_op plan flows (code_of plan s.actor) (actor_of s)) there ∙ is

  module _ (v : ActorMachine) (value : ℤ) (behind : (step : ℕ) → actor_in v step ≡ operated plan.kernel op value (actor_in s.values step)) where
    pub done_may_go_on : IsMachineOfActor plan s.actor flows v → MayGoOn plan flows (record s { values = v })
    done_may_go_on are =
        may_with plan flows s ready.plan_runs.runnable ready.may v are (ap (λ (a : Actor). a.instant) (behind 0)) op.writes value (ap (λ (a : Actor). a.registers) (behind 0)) fills_it

    pub op_done : ((step : ℕ) → outcome plan.kernel flows (actor_in s.values step) op ≡ Gives value) → (new : ClusterState) → MovesOn plan (record s { values = v }) new
        → Acts plan.kernel (turn_by plan flows (code_of plan s.actor) (actor_of s) (Do o)) Done s new Nothing
    op_done gives new moves =
        let next : Actor = moved_on (length (code_of plan s.actor).steps) (operated plan.kernel op value (actor_of s)) in
        let outcome_is = same_outcome plan.kernel flows s op ∙ gives s.step in
        let turned = turn_is (Goes next) (ap (turn_with plan (code_of plan s.actor) (actor_of s) op) outcome_is) in
        let mid : actor_of (record s { values = v }) ≡ operated plan.kernel op value (actor_of s) = ap (λ (a : Actor). record a { ended = s.ended }) (behind s.step) in
        subst (λ (t : Turn). Acts plan.kernel t Done s new Nothing) (sym turned)
        (record { answers = refl; is = moves.actor ∙ ap (moved_on (length (code_of plan s.actor).steps)) mid; asks = refl })

  pub op_failed : (cause : Cause) → ((step : ℕ) → outcome plan.kernel flows (actor_in s.values step) op ≡ Faults cause)
      → Acts plan.kernel (turn_by plan flows (code_of plan s.actor) (actor_of s) (Do o)) (Failed (place_of s)) s (record s { ended = true }) Nothing
  op_failed cause faults =
      let place : Place = next_place (code_of plan s.actor) (actor_of s) in
      let outcome_is = same_outcome plan.kernel flows s op ∙ faults s.step in
      let turned = turn_is (Fails place) (ap (turn_with plan (code_of plan s.actor) (actor_of s) op) outcome_is) in
      let at : Failed (place_of s) ≡ Failed place = ap (λ n. failed_at (instant_of s.values) n) ready.may.state.position in
      subst (λ (t : Turn). Acts plan.kernel t (Failed (place_of s)) s (record s { ended = true }) Nothing) (sym turned)
      (record { answers = at; is = refl; asks = refl })

  -- the same, where the values are as they were
  pub op_failed_with : (cause : Cause) → ((step : ℕ) → outcome plan.kernel flows (actor_in s.values step) op ≡ Faults cause)
      → (v : ActorMachine) → v ≡ s.values → (place : Place) → place ≡ place_of (record s { values = v; ended = true })
      → Acts plan.kernel (turn_by plan flows (code_of plan s.actor) (actor_of s) (Do o)) (Failed place) s (record s { values = v; ended = true }) Nothing
  op_failed_with cause faults v same place is =
      let t : Turn = turn_by plan flows (code_of plan s.actor) (actor_of s) (Do o) in
      subst (λ (p : Place). Acts plan.kernel t (Failed p) s (record s { values = v; ended = true }) Nothing) (sym is)
      (subst (λ (w : ActorMachine). Acts plan.kernel t (Failed (place_of (record s { values = w; ended = true }))) s (record s { values = w; ended = true }) Nothing) (sym same)
      (op_failed cause faults))

-- why an operation has no value
pub cause_is : (plan : PlanView) (flows : List (List ℤ)) (s : ClusterState) (o : OpId) (op : Op) → slice_get plan.ops o.0 ≡ Some op
    → (out : Outcome) → outcome plan.kernel flows (actor_in s.values s.step) op ≡ out
    → cause_by out ≡ cause_of_op plan flows (actor_of s) (slice_get plan.ops o.0)
cause_is plan flows s o op there out is =
    ap cause_by (sym is) ∙ ap cause_by (sym (same_outcome plan.kernel flows s op)) ∙ sym (ap (cause_of_op plan flows (actor_of s)) there)
