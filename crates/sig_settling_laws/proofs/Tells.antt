-- What the turn of an actor on the reference tells of the links.
use Rattle.sig_settling_laws.proofs.Common.{◌≡◌, ◌≤◌, ◌+◌, ◌-◌, ◌⊎◌, inl, inr, ℕ, ℤ, pos, Bool, true, false, cond, length, refl, ap, sym, subst, ◌∙◌, arith, None, Option, Some, nat_lt, slice_get, eq-eqb, ltb-false, Instant, Trace, seen_at, AreFlowsFor, Actor, code_of, guard_holds, moved_on, Core, Given, Faults, Gives, Outcome, outcome, IsActorOn, IsOnReference, Yield, instant_at, sent_on, taken_from, AtLimit, Commits, Goes, Puts, Stopped, Takes, Turn, carried, item_of, turn, turn_at, turn_by, turn_of_op, turn_with, CodeView, NamesWithin, IsAccepted, Step, StepKind, Do, Send, Receive, Report, Collect, Commit, Op, LinkInfo, step_names, guard_known, commits_alone, done_chosen, reader_is, writer_is, chosen_of, actor_on, coded, some_at}

module _ (given : Given) (accepted : IsAccepted given.plan) (fit : AreFlowsFor given.plan.kernel given.flows) (reference : Trace) (long : given.limit + 1 ≤ length reference) (core : Core) (on : IsOnReference given reference core)
    (k : ℕ) (actor : Actor) (at_k : slice_get core.actors k ≡ Some actor) where
  abbrev code : CodeView
  code = code_of given.plan k

  abbrev my_code : slice_get given.plan.codes k ≡ Some code
  my_code = coded given accepted fit reference core on k actor at_k

  abbrev is_on : IsActorOn given.plan reference code actor
  is_on = actor_on given accepted fit reference core on k actor at_k

  abbrev now : Instant
  now = instant_at reference actor.instant

  -- it is to send on the link l
  pub record IsPutting (l : ℕ) : Type 0 where
    pub within : actor.instant ≤ given.limit
    pub step : Step
    pub at_s : slice_get code.steps actor.step ≡ Some step
    pub holds : guard_holds given.plan code (seen_at now) step ≡ true
    pub info : LinkInfo
    pub at_l : slice_get given.plan.links l ≡ Some info
    pub writer : info.writer ≡ k
    pub kind : (step.kind ≡ Send l) ⊎ (step.kind ≡ Report l)
    pub item : ℤ
    pub gives : chosen_of given.plan code reference (sent_on given.plan.links l) now step ≡ Some item

  -- it is to take from the link l
  pub record IsTaking (l : ℕ) : Type 0 where
    pub within : actor.instant ≤ given.limit
    pub step : Step
    pub at_s : slice_get code.steps actor.step ≡ Some step
    pub holds : guard_holds given.plan code (seen_at now) step ≡ true
    pub info : LinkInfo
    pub at_l : slice_get given.plan.links l ≡ Some info
    pub reader : info.reader ≡ k
    pub kind : (step.kind ≡ Receive l) ⊎ (step.kind ≡ Collect l)
    pub item : ℤ
    pub takes : chosen_of given.plan code reference (taken_from given.plan.links l) now step ≡ Some item

  abbrev pub Tells : Turn → Type 0
  Tells (Commits reaction next) = k ≡ length given.plan.codes - 1
  Tells (Puts l item next) = IsPutting l
  Tells (Takes l next) = IsTaking l
  Tells _ = Unit {0}

  module _ (runs : actor.ended ≡ false) where
    module _ (within : actor.instant ≤ given.limit) (step : Step) (at_s : slice_get code.steps actor.step ≡ Some step) (holds : guard_holds given.plan code (seen_at now) step ≡ true) where
      names : (kind : StepKind) → step.kind ≡ kind → NamesWithin (length given.plan.ops) (length given.plan.links) kind
      names kind is = subst (λ (kd : StepKind). NamesWithin (length given.plan.ops) (length given.plan.links) kd) is (step_names given.plan accepted k code my_code actor.step step at_s)

      some_chosen : (yield : Yield) (item : ℤ) → yield now step.kind ≡ Some item → chosen_of given.plan code reference yield now step ≡ Some item
      some_chosen yield item some = done_chosen given.plan accepted given.flows fit reference on.is k code my_code actor is_on step at_s holds yield (Some item) some

      does_op : (op : Op) (r : Outcome) → Tells (turn_with given.plan code actor op r)
      does_op op (Gives v) = tt
      does_op op (Faults cause) = tt

      puts : (l : ℕ) → NamesWithin (length given.plan.ops) (length given.plan.links) (Send l) → (step.kind ≡ Send l) ⊎ (step.kind ≡ Report l) → (item : ℤ) → sent_on given.plan.links l now step.kind ≡ Some item → IsPutting l
      puts l there kind item gives =
          let found = some_at given.plan.links l there in
          record {
            within = within;
            step = step;
            at_s = at_s;
            holds = holds;
            info = found.0;
            at_l = found.1;
            writer = writer_is given accepted fit reference long core on k actor at_k runs within step at_s holds l found.0 found.1 kind;
            kind = kind;
            item = item;
            gives = some_chosen (sent_on given.plan.links l) item gives;
          }

      takes : (l : ℕ) → NamesWithin (length given.plan.ops) (length given.plan.links) (Receive l) → (step.kind ≡ Receive l) ⊎ (step.kind ≡ Collect l) → (item : ℤ) → taken_from given.plan.links l now step.kind ≡ Some item → IsTaking l
      takes l there kind item gives =
          let found = some_at given.plan.links l there in
          record {
            within = within;
            step = step;
            at_s = at_s;
            holds = holds;
            info = found.0;
            at_l = found.1;
            reader = reader_is given accepted fit reference long core on k actor at_k runs within step at_s holds l found.0 found.1 kind;
            kind = kind;
            item = item;
            takes = some_chosen (taken_from given.plan.links l) item gives;
          }

      by_kind : (kind : StepKind) → step.kind ≡ kind → Tells (turn_by given.plan given.flows code actor kind)
      by_kind (Do o) kind =
          let found = some_at given.plan.ops o.0 (names (Do o) kind) in
          subst (λ (found : Option Op). Tells (turn_of_op given.plan given.flows code actor found)) (sym found.1) (does_op found.0 (outcome given.plan.kernel given.flows actor found.0))
      by_kind (Send l) kind =
          puts l (names (Send l) kind) (inl kind) (item_of (seen_at now) (carried given.plan.links l))
          (ap (sent_on given.plan.links l now) kind ∙ ap (λ b. cond b (Some (item_of (seen_at now) (carried given.plan.links l))) None) (eq-eqb l l refl))
      by_kind (Report l) kind = puts l (names (Report l) kind) (inr kind) (pos 0) (ap (sent_on given.plan.links l now) kind ∙ ap (λ b. cond b (Some (pos 0)) None) (eq-eqb l l refl))
      by_kind (Receive l) kind =
          takes l (names (Receive l) kind) (inl kind) (item_of (seen_at now) (carried given.plan.links l))
          (ap (taken_from given.plan.links l now) kind ∙ ap (λ b. cond b (Some (item_of (seen_at now) (carried given.plan.links l))) None) (eq-eqb l l refl))
      by_kind (Collect l) kind = takes l (names (Collect l) kind) (inr kind) (pos 0) (ap (taken_from given.plan.links l now) kind ∙ ap (λ b. cond b (Some (pos 0)) None) (eq-eqb l l refl))
      by_kind Commit kind =
          let own = commits_alone given.plan accepted k code my_code actor.step step at_s kind in
          let actors = accepted.codes.actors in
          omega (arith, own, actors)

    at_step : actor.instant ≤ given.limit → (step : Step) → slice_get code.steps actor.step ≡ Some step → Tells (turn_at given.plan given.flows code actor (Some step))
    at_step within step at_s = by (guard_holds given.plan code actor.registers step) refl where
      by : (b : Bool) → guard_holds given.plan code actor.registers step ≡ b → Tells (cond b (turn_by given.plan given.flows code actor step.kind) (Goes (moved_on (length code.steps) actor)))
      by true holds = by_kind within step at_s (sym (guard_known given.plan accepted given.flows fit reference on.is k code my_code actor is_on step at_s) ∙ holds) step.kind refl
      by false passed = tt

    -- the turn of an actor that runs
    pub turn_tells : Tells (turn given.plan given.flows given.limit k actor)
    turn_tells = subst (λ b. Tells (cond b Stopped (cond (nat_lt given.limit actor.instant) AtLimit (turn_at given.plan given.flows code actor (slice_get code.steps actor.step))))) (sym runs)
        (going (nat_lt given.limit actor.instant) refl) where
          going : (b : Bool) → nat_lt given.limit actor.instant ≡ b → Tells (cond b AtLimit (turn_at given.plan given.flows code actor (slice_get code.steps actor.step)))
          going true over = tt
          going false within =
              let step = some_at code.steps actor.step is_on.step in
              subst (λ (o : Option Step). Tells (turn_at given.plan given.flows code actor o)) (sym step.1) (at_step (ltb-false given.limit actor.instant within) step.0 step.1)
