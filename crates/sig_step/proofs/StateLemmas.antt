-- A state stays one of its actor while the actor does its steps.
use Rattle.sig_step.proofs.Common.{◌≡◌, ◌<◌, ◌≤◌, ◌+◌, ◌∙◌, ℕ, ℤ, true, List, length, IfSome, IsThere, None, Option, Some, refl, sym, subst, SigId, with_signal, FillsAt, IsRunnable, PlanView, MayGoOn, IsStateOf, ClusterState, IsMachineOfActor, instant_of, seen_in, ActorMachine}
use Rattle.sig_step.proofs.MarkLemmas.{marks_filled, same_marks}

-- an actor may go on with values in which the signal of its step is filled, if there is one
pub may_with : (plan : PlanView) (flows : List (List ℤ)) (s : ClusterState) → IsRunnable plan → MayGoOn plan flows s
    → (v : ActorMachine) → IsMachineOfActor plan s.actor flows v → instant_of v ≡ instant_of s.values
    → (target : Option SigId) (value : ℤ) → seen_in v ≡ with_signal target (Some value) (seen_in s.values)
    → ((x : SigId) → target ≡ Some x → FillsAt plan s.actor s.step x) → MayGoOn plan flows (record s { values = v })
may_with plan flows s runnable may v are same target value seen filled = record {
  state = record {
    actor = may.state.actor;
    limit = may.state.limit;
    from = subst (λ (n : ℕ). 1 ≤ n) (sym same) may.state.from;
    within = subst (λ (n : ℕ). n ≤ s.limit + 1) (sym same) may.state.within;
    step = may.state.step;
    short = may.state.short;
    position = may.state.position;
    values = are;
    marks = same_marks plan s.actor s.actor (instant_of s.values) (instant_of v) s.step s.step (with_signal target (Some value) (seen_in s.values)) (seen_in v)
        s.marks.items s.marks.items refl (sym same) refl (sym seen) refl (marks_filled plan s runnable may.state.marks target value filled);
    row_count = may.state.row_count;
    rows = may.state.rows;
  };
  runs = subst (λ (n : ℕ). n ≤ s.limit) (sym same) may.runs;
  met = λ step at. let (mark, marked, now) = may.met step at in (mark, marked, now ∙ sym same);
}

-- a state that has ended is one of its actor still
pub state_ended : (plan : PlanView) (flows : List (List ℤ)) (s : ClusterState) → IsStateOf plan flows s → (v : ActorMachine) → v ≡ s.values
    → IsStateOf plan flows (record s { values = v; ended = true })
state_ended plan flows s state v same =
    subst (λ (w : ActorMachine). IsStateOf plan flows (record s { values = w; ended = true })) (sym same) (record {
      actor = state.actor;
      limit = state.limit;
      from = state.from;
      within = state.within;
      step = state.step;
      short = state.short;
      position = state.position;
      values = state.values;
      marks = state.marks;
      row_count = state.row_count;
      rows = state.rows;
    })

-- a signal that is there, where there is one
pub if_signal : (plan : PlanView) (target : Option SigId) → IsThere plan target → IfSome target (λ x. x.0 < length plan.kernel.signals)
if_signal plan None there = tt
if_signal plan (Some x) there = there x refl
