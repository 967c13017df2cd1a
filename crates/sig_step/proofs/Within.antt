-- Steps of an actor that runs within its limit.
use Rattle.sig_step.proofs.Common.{◌≡◌, ◌≢◌, ◌≤◌, ◌+◌, ◌∙◌, inl, inr, ℕ, ℤ, Bool, true, false, List, length, nat_lt, slice_get, if◌then◌else◌, Option, None, Some, refl, sym, ap, subst, cond, Kernel, Actor, code_of, guard_holds, moved_on, no_registers, Faults, Gives, Outcome, operated, outcome, AtLimit, Commits, Fails, Goes, Puts, Stopped, Takes, Turn, carried, received, turn, turn_at, turn_by, turn_of_op, turn_with, PlanView, Step, StepKind, Do, Send, Receive, Report, Collect, Commit, Op, Acts, TakesTurn, Asked, actor_of, Past, Queues, Acted, AtTheLimit, CommitDone, Done, Failed, Full, Empty, HasStopped, ClusterState, instant_of}
use Rattle.sig_step.proofs.WayInTheCode.{no_further}

-- an actor that a step leaves amid its instant runs on in it
abbrev pub StaysAmid : Actor → Actor → Type 0
StaysAmid a next = next.step ≢ 0 → (next.ended ≡ a.ended) × (next.instant ≡ a.instant)

moved_amid : (count : ℕ) (a b : Actor) → b.instant ≡ a.instant → b.ended ≡ a.ended → StaysAmid a (moved_on count b)
moved_amid count a b instant ended = by (nat_lt (b.step + 1) count) where
  by : (on : Bool) → StaysAmid a (if on then record b { step = b.step + 1 } else record b { instant = b.instant + 1; step = 0; registers = no_registers })
  by true amid = (ended, instant)
  by false amid = absurd (amid refl)

module _ (plan : PlanView) (flows : List (List ℤ)) (k : ℕ) (a : Actor) where
  -- what a turn does to its actor
  abbrev pub TurnStaysAmid : Turn → Type 0
  TurnStaysAmid (Goes next) = StaysAmid a next
  TurnStaysAmid (Puts j item next) = StaysAmid a next
  TurnStaysAmid (Takes j next) = (item : ℤ) → StaysAmid a (next item)
  TurnStaysAmid other = Unit {0}

  abbrev count : ℕ
  count = length (code_of plan k).steps

  op_amid : (op : Op) (r : Outcome) → TurnStaysAmid (turn_with plan (code_of plan k) a op r)
  op_amid op (Gives v) = moved_amid count a (operated plan.kernel op v a) refl refl
  op_amid op (Faults cause) = tt

  some_op : (found : Option Op) → TurnStaysAmid (turn_of_op plan flows (code_of plan k) a found)
  some_op None = tt
  some_op (Some op) = op_amid op (outcome plan.kernel flows a op)

  kind_amid : (kind : StepKind) → TurnStaysAmid (turn_by plan flows (code_of plan k) a kind)
  kind_amid (Do o) = some_op (slice_get plan.ops o.0)
  kind_amid (Send j) = moved_amid count a a refl refl
  kind_amid (Report j) = moved_amid count a a refl refl
  kind_amid (Receive j) = λ item. moved_amid count a (received (carried plan.links j) item a) refl refl
  kind_amid (Collect j) = λ item. moved_amid count a a refl refl
  kind_amid Commit = tt

  pub step_amid : (step : Option Step) → TurnStaysAmid (turn_at plan flows (code_of plan k) a step)
  step_amid None = tt
  step_amid (Some step) = by (guard_holds plan (code_of plan k) a.registers step) where
    by : (b : Bool) → TurnStaysAmid (cond b (turn_by plan flows (code_of plan k) a step.kind) (Goes (moved_on count a)))
    by true = kind_amid step.kind
    by false = moved_amid count a a refl refl

  -- a step that was done leaves its actor so
  done_amid : (kernel : Kernel) (t : Turn) → TurnStaysAmid t → (old new : ClusterState) (asked : Asked) → Acts kernel t Done old new asked → StaysAmid a (actor_of new)
  done_amid kernel Stopped stays old new asked acts = absurd (let e : Done ≡ HasStopped = acts.answers in cc)
  done_amid kernel AtLimit stays old new asked acts = absurd (let e : Done ≡ AtTheLimit = acts.answers in cc)
  done_amid kernel (Fails place) stays old new asked acts = absurd (let e : Done ≡ Failed place = acts.answers in cc)
  done_amid kernel (Goes next) stays old new asked acts = subst (StaysAmid a) (sym acts.is) stays
  done_amid kernel (Commits reaction next) stays old new asked acts = absurd (let e : Done ≡ CommitDone = acts.0.answers in cc)
  done_amid kernel (Puts j item next) stays old new asked (inl done) = subst (StaysAmid a) (sym done.is) stays
  done_amid kernel (Puts j item next) stays old new asked (inr full) = absurd (let e : Done ≡ Full j = full.answers in cc)
  done_amid kernel (Takes j next) stays old new asked (inl (item, done)) = subst (StaysAmid a) (sym done.is) (stays item)
  done_amid kernel (Takes j next) stays old new asked (inr empty) = absurd (let e : Done ≡ Empty j = empty.answers in cc)

module _ (plan : PlanView) (flows : List (List ℤ)) (s : ClusterState) (runs : s.ended ≡ false) (within : instant_of s.values ≤ s.limit) where
  -- the turn is that of the next step
  pub turn_within : turn plan flows s.limit s.actor (actor_of s) ≡ turn_at plan flows (code_of plan s.actor) (actor_of s) (slice_get (code_of plan s.actor).steps s.step)
  turn_within =
      ap (λ (b : Bool). cond b Stopped (cond (nat_lt s.limit (instant_of s.values)) AtLimit
      (turn_at plan flows (code_of plan s.actor) (actor_of s) (slice_get (code_of plan s.actor).steps s.step)))) runs
      ∙ ap (λ (b : Bool). cond b AtLimit (turn_at plan flows (code_of plan s.actor) (actor_of s) (slice_get (code_of plan s.actor).steps s.step))) (no_further s.limit (instant_of s.values) within)

  -- behind a step that was done, the actor runs on, where it is amid its instant
  pub runs_on : {E : Type 0} (past : E → Option Past) (queues : E → Option Queues) (acted : Acted) → acted ≡ Done → (new : ClusterState) (before after : E)
      → TakesTurn past queues plan.kernel (turn plan flows s.limit s.actor (actor_of s)) acted s new before after → new.step ≢ 0
      → (new.ended ≡ false) × (instant_of new.values ≡ instant_of s.values)
  runs_on past queues acted is new before after takes amid =
      let acts = subst (λ (t : Turn). Acts plan.kernel t Done s new takes.asked) turn_within (subst (λ (b : Acted). Acts plan.kernel (turn plan flows s.limit s.actor (actor_of s)) b s new takes.asked) is takes.acts) in
      let stays = done_amid plan flows s.actor (actor_of s) plan.kernel (turn_at plan flows (code_of plan s.actor) (actor_of s) (slice_get (code_of plan s.actor).steps s.step))
      (step_amid plan flows s.actor (actor_of s) (slice_get (code_of plan s.actor).steps s.step)) s new takes.asked acts amid in
      (stays.0 ∙ runs, stays.1)
