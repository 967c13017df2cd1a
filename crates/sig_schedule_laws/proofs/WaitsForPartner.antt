-- An actor that cannot go on waits for room on a link, or for an item.
use Rattle.sig_schedule_laws.proofs.Common.{◌≡◌, ◌<◌, ◌≤◌, ◌+◌, ◌++◌, ◌⊎◌, inl, inr, ℕ, ℤ, pos, Bool, true, false, cond, List, [], ◌∷◌, length, set, refl, ap, sym, subst, ◌∙◌, arith, None, Option, Some, nat_lt, slice_get, eq-eqb, ltb-false, length-append, Instant, Trace, seen_at, AreFlowsFor, at_most_or, Actor, code_of, ended_at, guard_holds, moved_on, Core, Given, items_on, take_first, turned, with_actor, with_items, Faults, Gives, Outcome, operated, outcome, IsActorOn, IsOnReference, Yield, instant_at, sent_on, taken_from, yielded_before, AtLimit, Goes, Stopped, carried, item_of, received, turn, turn_at, turn_by, turn_of_op, turn_with, CodeView, NamesWithin, IsAccepted, PlanView, Step, StepKind, Do, Send, Receive, Report, Collect, Commit, Op, LinkInfo, step_names, some_at, set_here}
use Rattle.sig_schedule_laws.proofs.Amid.{guard_known}
use Rattle.sig_schedule_laws.proofs.Counts.{all_given, carried_next, carried_rises, counted, given_behind, none_before}
use Rattle.sig_schedule_laws.proofs.NextOnReference.{done_chosen}
use Rattle.sig_schedule_laws.proofs.EndsOfLinks.{reader_end, writer_end}
use Rattle.sig_schedule_laws.proofs.Moved.{chosen_of, moved_cases}
use Rattle.sig_schedule_laws.proofs.TurnsOnReference.{actor_on, coded}

-- ---- what the ends of a link have to do with each other

module _ (given : Given) (accepted : IsAccepted given.plan) (fit : AreFlowsFor given.plan.kernel given.flows) (reference : Trace) (core : Core) (on : IsOnReference given reference core)
    (l : ℕ) (info : LinkInfo) (at_l : slice_get given.plan.links l ≡ Some info) (w r : Actor) (at_w : slice_get core.actors info.writer ≡ Some w) (at_r : slice_get core.actors info.reader ≡ Some r) where
  abbrev w_on : IsActorOn given.plan reference (code_of given.plan info.writer) w
  w_on = on.each info.writer w at_w

  abbrev r_on : IsActorOn given.plan reference (code_of given.plan info.reader) r
  r_on = on.each info.reader r at_r

  abbrev sent : ℕ
  sent = length (yielded_before given.plan (code_of given.plan info.writer) (sent_on given.plan.links l) reference w.instant w.step)

  abbrev taken : ℕ
  taken = length (yielded_before given.plan (code_of given.plan info.reader) (taken_from given.plan.links l) reference r.instant r.step)

  pub balance : sent ≡ taken + length (items_on core l)
  balance = ap (λ (xs : List ℤ). length xs) (on.carried l info w r at_l at_w at_r)
      ∙ length-append (yielded_before given.plan (code_of given.plan info.reader) (taken_from given.plan.links l) reference r.instant r.step) (items_on core l)

  -- the reader of a link with an item, on which the writer is to send, is in an earlier instant
  pub reader_earlier : (step : Step) → slice_get (code_of given.plan info.writer).steps w.step ≡ Some step → (v : ℤ)
      → chosen_of given.plan (code_of given.plan info.writer) reference (sent_on given.plan.links l) (instant_at reference w.instant) step ≡ Some v → 1 ≤ length (items_on core l) → r.instant < w.instant
  reader_earlier step at_s v gives some = by (at_most_or w.instant r.instant) where
    cw : slice_get given.plan.codes info.writer ≡ Some (code_of given.plan info.writer)
    cw = coded given accepted fit reference core on info.writer w at_w

    cr : slice_get given.plan.codes info.reader ≡ Some (code_of given.plan info.reader)
    cr = coded given accepted fit reference core on info.reader r at_r

    by : (w.instant ≤ r.instant) ⊎ (r.instant < w.instant) → r.instant < w.instant
    by (inr lt) = lt
    by (inl le) =
        let theirs = counted given.plan accepted given.flows fit reference on.is l info at_l info.writer (code_of given.plan info.writer) cw (sent_on given.plan.links l) (Send l) (Report l) (writer_end given.plan accepted l info at_l) w.instant w_on.from w_on.within w.step in
        let none = none_before given.plan accepted given.flows fit reference on.is l info at_l info.writer (code_of given.plan info.writer) cw (sent_on given.plan.links l) (Send l) (Report l) (writer_end given.plan accepted l info at_l) w.instant w_on.from w_on.within w.step step at_s v gives in
        let mine = counted given.plan accepted given.flows fit reference on.is l info at_l info.reader (code_of given.plan info.reader) cr (taken_from given.plan.links l) (Receive l) (Collect l) (reader_end given.plan accepted l info at_l) r.instant r_on.from r_on.within r.step in
        let rise = carried_rises given.plan accepted given.flows fit reference on.is l info at_l w.instant r.instant le in
        absurd (omega (arith, balance, theirs, none, mine, rise, some))

  -- the writer of an empty link, from which the reader is to take, is in an earlier instant, or in this one and not past the step that sends
  pub writer_no_later : (step : Step) → slice_get (code_of given.plan info.reader).steps r.step ≡ Some step → (v : ℤ)
      → chosen_of given.plan (code_of given.plan info.reader) reference (taken_from given.plan.links l) (instant_at reference r.instant) step ≡ Some v → length (items_on core l) ≡ 0
      → (t : ℕ) (other : Step) (u : ℤ) → slice_get (code_of given.plan info.writer).steps t ≡ Some other → chosen_of given.plan (code_of given.plan info.writer) reference (sent_on given.plan.links l) (instant_at reference r.instant) other ≡ Some u
      → (w.instant < r.instant) ⊎ ((w.instant ≡ r.instant) × (w.step ≤ t))
  writer_no_later step at_s v gives empty t other u at_t sends = by (at_most_or r.instant w.instant) where
    cw : slice_get given.plan.codes info.writer ≡ Some (code_of given.plan info.writer)
    cw = coded given accepted fit reference core on info.writer w at_w

    cr : slice_get given.plan.codes info.reader ≡ Some (code_of given.plan info.reader)
    cr = coded given accepted fit reference core on info.reader r at_r

    by : (r.instant ≤ w.instant) ⊎ (w.instant < r.instant) → (w.instant < r.instant) ⊎ ((w.instant ≡ r.instant) × (w.step ≤ t))
    by (inr lt) = inl lt
    by (inl le) =
        let mine = counted given.plan accepted given.flows fit reference on.is l info at_l info.reader (code_of given.plan info.reader) cr (taken_from given.plan.links l) (Receive l) (Collect l) (reader_end given.plan accepted l info at_l) r.instant r_on.from r_on.within r.step in
        let none = none_before given.plan accepted given.flows fit reference on.is l info at_l info.reader (code_of given.plan info.reader) cr (taken_from given.plan.links l) (Receive l) (Collect l) (reader_end given.plan accepted l info at_l) r.instant r_on.from r_on.within r.step step at_s v gives in
        let one = all_given given.plan accepted given.flows fit reference on.is l info at_l info.reader (code_of given.plan info.reader) cr (taken_from given.plan.links l) (Receive l) (Collect l) (reader_end given.plan accepted l info at_l) r.instant r_on.from r_on.within r.step step at_s v gives in
        let more = carried_next given.plan accepted given.flows fit reference on.is l info at_l r.instant r_on.from r_on.within in
        let theirs = counted given.plan accepted given.flows fit reference on.is l info at_l info.writer (code_of given.plan info.writer) cw (sent_on given.plan.links l) (Send l) (Report l) (writer_end given.plan accepted l info at_l) w.instant w_on.from w_on.within w.step in
        let same : w.instant ≡ r.instant = elim (at_most_or w.instant r.instant) [
          | inl ge ↦ omega (arith, le, ge)
          | inr gt ↦ absurd (omega (arith, mine, none, one, more, theirs, balance, empty, carried_rises given.plan accepted given.flows fit reference on.is l info at_l (r.instant + 1) w.instant (omega (arith, gt))))
        ] in
        let rise = carried_rises given.plan accepted given.flows fit reference on.is l info at_l r.instant w.instant le in
        inr (
          same,
          elim (at_most_or w.step t) [
            | inl before ↦ before
            | inr behind ↦
                let given_there = given_behind given.plan accepted given.flows fit reference on.is l info at_l info.writer (code_of given.plan info.writer) cw (sent_on given.plan.links l) (Send l) (Report l) (writer_end given.plan accepted l info at_l) w.instant w_on.from w_on.within t other at_t u
                (ap (λ n. chosen_of given.plan (code_of given.plan info.writer) reference (sent_on given.plan.links l) (instant_at reference n) other) same ∙ sends) w.step behind in
                absurd (omega (arith, mine, none, theirs, balance, empty, rise, given_there))
          ],
        )

-- ---- what an actor waits for

module _ (given : Given) (accepted : IsAccepted given.plan) (fit : AreFlowsFor given.plan.kernel given.flows) (reference : Trace) (core : Core) (on : IsOnReference given reference core)
    (k : ℕ) (actor : Actor) (at_k : slice_get core.actors k ≡ Some actor) where
  abbrev my_plan : PlanView
  my_plan = given.plan

  abbrev code : CodeView
  code = code_of my_plan k

  abbrev my_code : slice_get my_plan.codes k ≡ Some code
  my_code = coded given accepted fit reference core on k actor at_k

  abbrev is_on : IsActorOn my_plan reference code actor
  is_on = actor_on given accepted fit reference core on k actor at_k

  abbrev now : Instant
  now = instant_at reference actor.instant

  -- it waits for room on the link l
  pub record WaitsToPut : Type 0 where
    pub within : actor.instant ≤ given.limit
    pub step : Step
    pub at_s : slice_get code.steps actor.step ≡ Some step
    pub holds : guard_holds my_plan code (seen_at now) step ≡ true
    pub l : ℕ
    pub info : LinkInfo
    pub at_l : slice_get my_plan.links l ≡ Some info
    pub kind : (step.kind ≡ Send l) ⊎ (step.kind ≡ Report l)
    pub item : ℤ
    pub gives : chosen_of my_plan code reference (sent_on my_plan.links l) now step ≡ Some item
    pub full : given.capacity ≤ length (items_on core l)

  -- it waits for an item of the link l
  pub record WaitsToTake : Type 0 where
    pub within : actor.instant ≤ given.limit
    pub step : Step
    pub at_s : slice_get code.steps actor.step ≡ Some step
    pub holds : guard_holds my_plan code (seen_at now) step ≡ true
    pub l : ℕ
    pub info : LinkInfo
    pub at_l : slice_get my_plan.links l ≡ Some info
    pub kind : (step.kind ≡ Receive l) ⊎ (step.kind ≡ Collect l)
    pub item : ℤ
    pub takes : chosen_of my_plan code reference (taken_from my_plan.links l) now step ≡ Some item
    pub empty : items_on core l ≡ []

  -- a state is another one, where the actor is
  pub differs : (after : Core) (next : Actor) → slice_get after.actors k ≡ Some next → (next ≡ actor → ⊥) → after ≡ core → ⊥
  differs after next at apart same =
      let e : Some next ≡ Some actor = sym at ∙ ap (λ (c : Core). slice_get c.actors k) same ∙ at_k in
      let one : next ≡ actor = cc in
      apart one

  pub put_there : (next : Actor) → slice_get (set core.actors k next) k ≡ Some next
  put_there next = set_here core.actors k next actor at_k

  abbrev Moves : Core → Type 0
  Moves after = (after ≡ core → ⊥) ⊎ (WaitsToPut ⊎ WaitsToTake)

  module _ (runs : actor.ended ≡ false) where
    pub ended_apart : ended_at actor ≡ actor → ⊥
    ended_apart same = let clash : true ≡ false = ap (λ (a : Actor). a.ended) same ∙ runs in cc

    moved_apart : (b : Actor) → b.instant ≡ actor.instant → b.step ≡ actor.step → moved_on (length code.steps) b ≡ actor → ⊥
    moved_apart b same_instant same_step = moved_cases (λ m. m ≡ actor → ⊥) (length code.steps) b
        (λ less same. let e : b.step + 1 ≡ actor.step = ap (λ (a : Actor). a.step) same in omega (arith, e, same_step))
        (λ over same. let e : b.instant + 1 ≡ actor.instant = ap (λ (a : Actor). a.instant) same in omega (arith, e, same_instant))

    ends : Moves (with_actor k (ended_at actor) core)
    ends = inl (differs (with_actor k (ended_at actor) core) (ended_at actor) (put_there (ended_at actor)) ended_apart)

    goes : (b : Actor) → b.instant ≡ actor.instant → b.step ≡ actor.step → Moves (with_actor k (moved_on (length code.steps) b) core)
    goes b same_instant same_step = inl (differs (with_actor k (moved_on (length code.steps) b) core) (moved_on (length code.steps) b) (put_there (moved_on (length code.steps) b)) (moved_apart b same_instant same_step))

    module _ (within : actor.instant ≤ given.limit) (step : Step) (at_s : slice_get code.steps actor.step ≡ Some step) (holds : guard_holds my_plan code (seen_at now) step ≡ true) where
      names : (kind : StepKind) → step.kind ≡ kind → NamesWithin (length my_plan.ops) (length my_plan.links) kind
      names kind is = subst (λ (kd : StepKind). NamesWithin (length my_plan.ops) (length my_plan.links) kd) is (step_names my_plan accepted k code my_code actor.step step at_s)

      some_chosen : (yield : Yield) (item : ℤ) → yield now step.kind ≡ Some item → chosen_of my_plan code reference yield now step ≡ Some item
      some_chosen yield item some = done_chosen my_plan accepted given.flows fit reference on.is k code my_code actor is_on step at_s holds yield (Some item) some

      does_op : (op : Op) → Moves (turned given k actor (turn_with my_plan code actor op (outcome my_plan.kernel given.flows actor op)) core)
      does_op op = by (outcome my_plan.kernel given.flows actor op) where
        by : (r : Outcome) → Moves (turned given k actor (turn_with my_plan code actor op r) core)
        by (Gives v) = goes (operated my_plan.kernel op v actor) refl refl
        by (Faults cause) = inl (differs _ (ended_at actor) (put_there (ended_at actor)) ended_apart)

      puts : (l : ℕ) (info : LinkInfo) → slice_get my_plan.links l ≡ Some info → (step.kind ≡ Send l) ⊎ (step.kind ≡ Report l) → (value item : ℤ) → sent_on my_plan.links l now step.kind ≡ Some item
          → Moves (cond (nat_lt (length (items_on core l)) given.capacity) (with_items l (items_on core l ++ value ∷ []) (with_actor k (moved_on (length code.steps) actor) core)) core)
      puts l info at_l kind value item gives = by (nat_lt (length (items_on core l)) given.capacity) refl where
        by : (b : Bool) → nat_lt (length (items_on core l)) given.capacity ≡ b → Moves (cond b (with_items l (items_on core l ++ value ∷ []) (with_actor k (moved_on (length code.steps) actor) core)) core)
        by true less = inl (differs (with_items l (items_on core l ++ value ∷ []) (with_actor k (moved_on (length code.steps) actor) core)) (moved_on (length code.steps) actor) (put_there (moved_on (length code.steps) actor)) (moved_apart actor refl refl))
        by false full = inr (inl (record {
          within = within;
          step = step;
          at_s = at_s;
          holds = holds;
          l = l;
          info = info;
          at_l = at_l;
          kind = kind;
          item = item;
          gives = some_chosen (sent_on my_plan.links l) item gives;
          full = ltb-false (length (items_on core l)) given.capacity full;
        }))

      takes : (l : ℕ) (info : LinkInfo) → slice_get my_plan.links l ≡ Some info → (step.kind ≡ Receive l) ⊎ (step.kind ≡ Collect l) → (item : ℤ) → taken_from my_plan.links l now step.kind ≡ Some item
          → (next : ℤ → Actor) → ((v : ℤ) → ((next v).instant ≡ actor.instant) × ((next v).step ≡ actor.step)) → Moves (take_first k l (λ v. moved_on (length code.steps) (next v)) core (items_on core l))
      takes l info at_l kind item given_there next stays = by (items_on core l) refl where
        by : (xs : List ℤ) → items_on core l ≡ xs → Moves (take_first k l (λ v. moved_on (length code.steps) (next v)) core xs)
        by [] empty = inr (inr (record {
          within = within;
          step = step;
          at_s = at_s;
          holds = holds;
          l = l;
          info = info;
          at_l = at_l;
          kind = kind;
          item = item;
          takes = some_chosen (taken_from my_plan.links l) item given_there;
          empty = empty;
        }))
        by (v ∷ items) is = inl (differs (with_items l items (with_actor k (moved_on (length code.steps) (next v)) core)) (moved_on (length code.steps) (next v)) (put_there (moved_on (length code.steps) (next v))) (moved_apart (next v) (stays v).0 (stays v).1))

      by_kind : (kind : StepKind) → step.kind ≡ kind → Moves (turned given k actor (turn_by my_plan given.flows code actor kind) core)
      by_kind (Do o) kind =
          let found = some_at my_plan.ops o.0 (names (Do o) kind) in
          subst (λ (found : Option Op). Moves (turned given k actor (turn_of_op my_plan given.flows code actor found) core)) (sym found.1) (does_op found.0)
      by_kind (Send l) kind =
          let found = some_at my_plan.links l (names (Send l) kind) in
          puts l found.0 found.1 (inl kind) (item_of actor.registers (carried my_plan.links l)) (item_of (seen_at now) (carried my_plan.links l))
          (ap (sent_on my_plan.links l now) kind ∙ ap (λ b. cond b (Some (item_of (seen_at now) (carried my_plan.links l))) None) (eq-eqb l l refl))
      by_kind (Report l) kind =
          let found = some_at my_plan.links l (names (Report l) kind) in
          puts l found.0 found.1 (inr kind) (pos 0) (pos 0) (ap (sent_on my_plan.links l now) kind ∙ ap (λ b. cond b (Some (pos 0)) None) (eq-eqb l l refl))
      by_kind (Receive l) kind =
          let found = some_at my_plan.links l (names (Receive l) kind) in
          takes l found.0 found.1 (inl kind) (item_of (seen_at now) (carried my_plan.links l))
          (ap (taken_from my_plan.links l now) kind ∙ ap (λ b. cond b (Some (item_of (seen_at now) (carried my_plan.links l))) None) (eq-eqb l l refl))
          (λ v. received (carried my_plan.links l) v actor) (λ v. (refl, refl))
      by_kind (Collect l) kind =
          let found = some_at my_plan.links l (names (Collect l) kind) in
          takes l found.0 found.1 (inr kind) (pos 0) (ap (taken_from my_plan.links l now) kind ∙ ap (λ b. cond b (Some (pos 0)) None) (eq-eqb l l refl)) (λ v. actor) (λ v. (refl, refl))
      by_kind Commit kind = inl (differs _ (moved_on (length code.steps) actor) (put_there (moved_on (length code.steps) actor)) (moved_apart actor refl refl))

    at_step : actor.instant ≤ given.limit → (step : Step) → slice_get code.steps actor.step ≡ Some step → Moves (turned given k actor (turn_at my_plan given.flows code actor (Some step)) core)
    at_step within step at_s = by (guard_holds my_plan code actor.registers step) refl where
      by : (b : Bool) → guard_holds my_plan code actor.registers step ≡ b
          → Moves (turned given k actor (cond b (turn_by my_plan given.flows code actor step.kind) (Goes (moved_on (length code.steps) actor))) core)
      by true holds = by_kind within step at_s (sym (guard_known my_plan accepted given.flows fit reference on.is k code my_code actor is_on step at_s) ∙ holds) step.kind refl
      by false passed = goes actor refl refl

    -- an actor that runs changes the state by its turn, or waits
    pub acts_or_waits : Moves (turned given k actor (turn my_plan given.flows given.limit k actor) core)
    acts_or_waits = subst (λ b. Moves (turned given k actor (cond b Stopped (cond (nat_lt given.limit actor.instant) AtLimit (turn_at my_plan given.flows code actor (slice_get code.steps actor.step)))) core)) (sym runs)
        (going (nat_lt given.limit actor.instant) refl) where
          going : (b : Bool) → nat_lt given.limit actor.instant ≡ b → Moves (turned given k actor (cond b AtLimit (turn_at my_plan given.flows code actor (slice_get code.steps actor.step))) core)
          going true over = ends
          going false within =
              let step = some_at code.steps actor.step is_on.step in
              subst (λ (o : Option Step). Moves (turned given k actor (turn_at my_plan given.flows code actor o) core)) (sym step.1) (at_step (ltb-false given.limit actor.instant within) step.0 step.1)
