-- Operations of an actor that are done in a row.
use Rattle.sig_step.proofs.Common.{◌≡◌, ◌<◌, ◌≤◌, ◌+◌, ◌∙◌, inl, inr, ℕ, zero, suc, ℤ, Bool, true, false, List, length, nat_lt, slice_get, Some, refl, sym, ap, subst, arith, cond, eqb_tells, same_Some, some_at, step_names, Actor, code_of, moved_on, position_of, guard_holds, Goes, Turn, turn, turn_at, turn_by, IsAccepted, NamesWithin, PlanView, Step, StepKind, Op, OpId, Do, Acts, Nothing, CanRun, IsReady, IsSlotMet, MayGoOn, MovesOn, IsStateOf, AreMarks, IsRow, actor_of, Done, ClusterState, instant_of, seen_in, ActorMachine, AreFollowed, DoOperations, IsMachineOfActor, IsOpOfStep, IsStepDone, IsKnown, Passes, PassesOver, PassesSo}
use Rattle.sig_step.proofs.CallsByTurn.{coded}
use Rattle.sig_step.proofs.OperationsOfActor.{done_may_go_on, op_done}
use Rattle.sig_step.proofs.Within.{turn_within}

further : (m n : ℕ) → m < n → nat_lt m n ≡ true
further m n less = grind (arith, less)

-- the operation of a step is there
op_at : (plan : PlanView) → IsAccepted plan → (k : ℕ) → k < length plan.codes → (number : ℕ) (step : Step) → slice_get (code_of plan k).steps number ≡ Some step
    → (o : OpId) → step.kind ≡ Do o → (op : Op) × (slice_get plan.ops o.0 ≡ Some op)
op_at plan accepted k within number step at o does =
    let named = step_names plan accepted k (code_of plan k) (coded plan k within) number step at in
    let below : o.0 < length plan.ops = subst (λ (kind : StepKind). NamesWithin (length plan.ops) (length plan.links) kind) does named in
    some_at plan.ops o.0 below

-- the steps of a row do operations
pub row_operates : (plan : PlanView) → IsAccepted plan → (k : ℕ) → k < length plan.codes → (from to count : ℕ) → IsRow (code_of plan k).steps from to → from + count ≤ to → DoOperations plan k from count
row_operates plan accepted k within from to count row short n below =
    let inside = row.inside in
    let (first, begins) = some_at (code_of plan k).steps from (omega (arith, short, inside, below)) in
    let (step, at) = some_at (code_of plan k).steps (from + n) (omega (arith, short, inside, below)) in
    let is = row.each (from + n) first step (omega arith) (omega (arith, short, below)) begins at in
    let (op, there) = op_at plan accepted k within (from + n) step at is.operation is.does in
    (op, record { step = step; is = at; does = record { number = is.operation; does = is.does; is = there } })

module _ (plan : PlanView) (flows : List (List ℤ)) (can : CanRun plan) where
  module _ (s : ClusterState) (state : IsStateOf plan flows s) (runs : s.ended ≡ false) (within : instant_of s.values ≤ s.limit) (step : Step)
      (at : slice_get (code_of plan s.actor).steps s.step ≡ Some step) (known : IsKnown step.slot true s) (o : OpId) (does : step.kind ≡ Do o) where
    may : MayGoOn plan flows s
    may = record { state = state; runs = within; met = λ other there. (let (mark, marked, now, is) = known in let met : IsSlotMet s step.slot = (mark, marked, now) in subst (λ (n : ℕ). IsSlotMet s n) (ap (λ (t : Step). t.slot) (same_Some step other (sym at ∙ there))) met) }

    ready : IsReady plan flows s (Do o)
    ready = record { plan_runs = can; may = may; runs = runs; step = step; at = at; does = does }

    -- the turn of an actor before an operation whose guard is known to hold
    does_turn : turn plan flows s.limit s.actor (actor_of s) ≡ turn_by plan flows (code_of plan s.actor) (actor_of s) (Do o)
    does_turn =
        let (mark, marked, now, holds_is) = known in
        let value = (state.marks.known step.slot mark marked now).0 in
        let guard : guard_holds plan (code_of plan s.actor) (seen_in s.values) step ≡ true = sym value ∙ holds_is in
        turn_within plan flows s runs within
        ∙ ap (turn_at plan flows (code_of plan s.actor) (actor_of s)) at
        ∙ ap (λ (b : Bool). cond b (turn_by plan flows (code_of plan s.actor) (actor_of s) step.kind) (Goes (moved_on (length (code_of plan s.actor).steps) (actor_of s)))) guard
        ∙ ap (turn_by plan flows (code_of plan s.actor) (actor_of s)) does

    module _ (op : Op) (there : slice_get plan.ops o.0 ≡ Some op) (v : ActorMachine) (done : IsStepDone plan.kernel flows op true s.values v) (machine : IsMachineOfActor plan s.actor flows v)
        (more : s.step + 1 < length (code_of plan s.actor).steps) where
      on : MayGoOn plan flows (record s { values = v })
      on = done_may_go_on plan flows s o ready op there v done.0 done.2 machine

      abbrev next : ClusterState
      next = record s { values = v; step = s.step + 1; pos = position_of (slice_get (code_of plan s.actor).steps (s.step + 1)) }

      moves : MovesOn plan (record s { values = v }) next
      moves = record {
        actor = rw (further (s.step + 1) (length (code_of plan s.actor).steps) more) refl;
        same = record { actor = refl; limit = refl };
        position = refl;
        values = λ others is. is;
        marks = refl;
        last = λ first. absurd (omega (arith, first));
      }

      marks_on : AreMarks plan next
      marks_on = record {
        count = on.state.marks.count;
        past = on.state.marks.past;
        known = λ slot mark marked now.
            let (value, (number, one, before, one_at, in_slot)) = on.state.marks.known slot mark marked now in
            (value, (number, one, omega (arith, before), one_at, in_slot));
        reached = λ number other below other_at. elim (eqb_tells number s.step) [
          | inl same ↦ on.met other (ap (slice_get (code_of plan s.actor).steps) (sym same.1) ∙ other_at)
          | inr differ ↦ on.state.marks.reached number other (omega (arith, below, differ.1)) other_at
        ];
      }

      state_on : IsStateOf plan flows next
      state_on = record {
        actor = on.state.actor;
        limit = on.state.limit;
        from = on.state.from;
        within = on.state.within;
        step = more;
        short = on.state.short;
        position = refl;
        values = machine;
        marks = marks_on;
        row_count = state.row_count;
        rows = state.rows;
      }

      -- it is done, and no guard is met
      passes_on : Passes plan flows s next
      passes_on = record {
        state = state_on;
        actor = record { actor = refl; limit = refl };
        acts = subst (λ (t : Turn). Acts plan.kernel t Done s next Nothing) (sym does_turn) (op_done plan flows s o ready op there v done.0 done.2 done.1 next moves);
        ended = refl;
        instant = ap (λ (a : Actor). a.instant) (done.2 s.step);
        step = refl;
      }

  module _ (s : ClusterState) (state : IsStateOf plan flows s) (runs : s.ended ≡ false) (within : instant_of s.values ≤ s.limit) (to : ℕ) (row : IsRow (code_of plan s.actor).steps s.step to)
      (first : Step) (at : slice_get (code_of plan s.actor).steps s.step ≡ Some first) (known : IsKnown first.slot true s) where
    -- the state with these values before a step
    abbrev before : ActorMachine → ℕ → ClusterState
    before v number = record s { values = v; step = number; pos = position_of (slice_get (code_of plan s.actor).steps number) }

    unmoved : (number : ℕ) → s.step ≡ number → (v : ActorMachine) → v ≡ s.values → before v number ≡ s
    unmoved number same v is =
        subst (λ (m : ℕ). before v m ≡ s) same
        (subst (λ (w : ActorMachine). before w s.step ≡ s) (sym is) (ap (λ (p : ℕ). let t : ClusterState = record s { pos = p } in t) (sym state.position)))

    -- so many operations in a row
    pub done_in_a_row : (n : ℕ) (v : ActorMachine) → s.step + n ≤ to → AreFollowed plan s.actor flows s.step n s.values v
        → PassesSo plan flows n s (before v (s.step + n)) × IsStateOf plan flows (before v (s.step + n)) × (instant_of v ≡ instant_of s.values)
    done_in_a_row zero v below is =
        let same : before v (s.step + 0) ≡ s = unmoved (s.step + 0) (omega arith) v is in
        (same, subst (IsStateOf plan flows) (sym same) state, ap instant_of is)
    done_in_a_row (suc n) v below (mid, so_far, one) =
        let (passed, state_mid, same) = done_in_a_row n mid (omega (arith, below)) so_far in
        let inside = row.inside in
        let (step, there) = some_at (code_of plan s.actor).steps (s.step + n) (omega (arith, below, inside)) in
        let is = row.each (s.step + n) first step (omega arith) (omega (arith, below)) at there in
        let (mark, marked, now, holds) = known in
        let known_mid : IsKnown step.slot true (before mid (s.step + n)) = subst (λ (k : ℕ). IsKnown k true (before mid (s.step + n))) (sym is.of) (mark, marked, now ∙ sym same, holds) in
        let (op, op_is) = op_at plan can.accepted s.actor state.actor (s.step + n) step there is.operation is.does in
        let does : IsOpOfStep plan s.actor (s.step + n) op = record { step = step; is = there; does = record { number = is.operation; does = is.does; is = op_is } } in
        let early : instant_of mid ≤ s.limit = omega (arith, within, same) in
        let more : s.step + n + 1 < length (code_of plan s.actor).steps = omega (arith, below, inside) in
        let e : s.step + n + 1 ≡ s.step + suc n = omega arith in
        let passes : Passes plan flows (before mid (s.step + n)) (before v (s.step + n + 1)) =
        passes_on (before mid (s.step + n)) state_mid runs early step there known_mid is.operation is.does op op_is v (one.done op does) one.machine more in
        let on : Passes plan flows (before mid (s.step + n)) (before v (s.step + suc n)) = subst (λ (m : ℕ). Passes plan flows (before mid (s.step + n)) (before v m)) e passes in
        ((before mid (s.step + n), passed, on), on.state, on.instant ∙ same)

    pub stretch_over : (n : ℕ) (v : ActorMachine) → s.step + n ≤ to → AreFollowed plan s.actor flows s.step n s.values v → (new : ClusterState) → new ≡ before v (s.step + n)
        → (over : PassesOver plan flows s new) × (over.count ≡ n)
    stretch_over n v below followed new is =
        let (passed, state_new, same) = done_in_a_row n v below followed in
        subst (λ (t : ClusterState). (over : PassesOver plan flows s t) × (over.count ≡ n)) (sym is)
        (record { count = n; turns = passed; state = state_new; actor = record { actor = refl; limit = refl }; ended = refl; instant = same }, refl)
