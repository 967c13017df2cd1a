-- What an actor has put out is what its steps before its next step put out at the reference.
use Rattle.sig_output_laws.proofs.Common.{◌≡◌, ◌<◌, ◌≤◌, ◌-◌, ◌+◌, ◌++◌, ◌⊎◌, inl, inr, ℕ, suc, ℤ, pos, Bool, true, false, cond, List, [], ◌∷◌, length, set, take, refl, ap, sym, subst, ◌∙◌, arith, append-nil, append_assoc, Option, None, Some, option_to_list, slice_get, nat_lt, ltb-false, eq-eqb, ne_eqb, ◌==◌, fold, cases_eq, some_at, get_set_other, get_set_same, slice_get_within, repeated, Instant, Trace, seen_at, signal_id, AreFlowsFor, IsReference, Actor, code_of, ended_at, guard_holds, moved_on, next_place, opening_actor, Core, Given, acted, after, items_on, looked, opening, stepped, take_first, turned, with_actor, with_items, word_before, Faults, Gives, Outcome, operated, outcome, Yield, instant_at, names, op_of, IsActorOn, IsOnReference, yielded_before, AtLimit, Commits, Fails, Goes, Puts, Stopped, Takes, Turn, carried, item_of, received, turn, turn_at, turn_by, turn_of_op, turn_with, IsOutcome, Event, Act, Look, CodeView, OpId, operation_in, IsAccepted, Step, StepKind, Do, Send, Receive, Report, Collect, Commit, Op, put_at, put_at_event, put_by, put_by_actor, put_from, put_in_turn, put_out, value_of, guard_known, actor_coded, stepped_on, opening_on, chosen_of, moved_cases, yields_moved, behind_is, done_chosen, kind_chosen, outcome_is, passed_chosen}
use Rattle.sig_output_laws.proofs.Written.{named_is, written_at, written_by}

no_choice : {A : Type 0} (b : Bool) → (let none : List A = [] in cond b none none) ≡ []
no_choice true = refl
no_choice false = refl

module _ (given : Given) (accepted : IsAccepted given.plan) (fit : AreFlowsFor given.plan.kernel given.flows) (reference : Trace) (long : given.limit + 1 ≤ length reference) (signal k : ℕ) where
  abbrev code : CodeView
  code = code_of given.plan k

  abbrev yield : Yield
  yield = written_at given.plan signal

  -- what the steps before the next step of an actor put out
  abbrev pub put_before : Actor → List ℤ
  put_before a = yielded_before given.plan code yield reference a.instant a.step

  -- an actor is within the limit, or at the first step after it
  abbrev pub IsWithin : Actor → Type 0
  IsWithin a = (a.instant ≤ given.limit) ⊎ ((a.instant ≡ given.limit + 1) × (a.step ≡ 0))

  -- the actor k has put out more, in a later state
  pub record Went (core : Core) (actor : Actor) (more : List ℤ) : Type 0 where
    pub next : Actor
    pub at : slice_get core.actors k ≡ Some next
    pub is : put_before next ≡ put_before actor ++ more
    pub within : IsWithin actor → IsWithin next

  stays : (core : Core) (actor : Actor) → slice_get core.actors k ≡ Some actor → Went core actor []
  stays core actor at = record { next = actor; at = at; is = sym (append-nil (put_before actor)); within = λ w. w }

  module _ (core : Core) (on : IsOnReference given reference core) (actor : Actor) (at_k : slice_get core.actors k ≡ Some actor) where
    lt : k < length core.actors
    lt = slice_get_within core.actors k actor at_k

    is_coded : slice_get given.plan.codes k ≡ Some code
    is_coded = let count = on.actors in actor_coded given.plan k (omega (arith, lt, count))

    abbrev is_on : IsActorOn given.plan reference code actor
    is_on = on.each k actor at_k

    -- the actor k is another one now
    placed : (core' : Core) (a : Actor) → core'.actors ≡ set core.actors k a → slice_get core'.actors k ≡ Some a
    placed core' a same = ap (λ actors. slice_get actors k) same ∙ get_set_same core.actors k a lt

    ends : (core' : Core) → core'.actors ≡ set core.actors k (ended_at actor) → Went core' actor []
    ends core' same = record { next = ended_at actor; at = placed core' (ended_at actor) same; is = sym (append-nil (put_before actor)); within = λ w. w }

    module _ (runs : actor.ended ≡ false) (le : actor.instant ≤ given.limit) (step : Step) (at_s : slice_get code.steps actor.step ≡ Some step) where
      abbrev now : Instant
      now = instant_at reference actor.instant

      abbrev chosen : Option ℤ
      chosen = chosen_of given.plan code reference yield now step

      goes : (core' : Core) (b : Actor) → b.instant ≡ actor.instant → b.step ≡ actor.step → core'.actors ≡ set core.actors k (moved_on (length code.steps) b)
          → (o : Option ℤ) → chosen ≡ o → Went core' actor (option_to_list o)
      goes core' b same_instant same_step same o is = record {
        next = moved_on (length code.steps) b;
        at = placed core' (moved_on (length code.steps) b) same;
        is = yields_moved given.plan code reference yield b (let from = is_on.from in omega (arith, from, same_instant)) (let within = is_on.within in omega (arith, within, same_instant)) (let less = is_on.step in omega (arith, less, same_step))
            ∙ (λ t. yielded_before given.plan code yield reference (same_instant t) (suc (same_step t)))
            ∙ behind_is given.plan accepted given.flows fit reference on.is k code is_coded actor is_on step at_s yield o is;
        within = λ w. moved_cases IsWithin (length code.steps) b (λ less. inl (omega (arith, le, same_instant))) (λ over. elim (cases_eq actor.instant given.limit) [
          | inl last ↦ inr (omega (arith, last, same_instant), refl)
          | inr apart ↦ inl (omega (arith, apart, le, same_instant))
        ]);
      }

      -- a step that does no operation puts out nothing
      quiet : op_of given.plan.ops step.kind ≡ None → chosen ≡ None
      quiet none = kind_chosen given.plan accepted given.flows fit reference on.is k code is_coded actor is_on step at_s yield (ap (written_by signal now) none)

      module _ (holds : guard_holds given.plan code (seen_at now) step ≡ true) where
        -- an operation that came to a value
        gave : (o : OpId) (op : Op) → step.kind ≡ Do o → slice_get given.plan.ops o.0 ≡ Some op → (v : ℤ) → outcome given.plan.kernel given.flows actor op ≡ Gives v
            → (b : Bool) → names signal op.writes ≡ b → chosen ≡ cond b (Some v) None
        gave o op kind at v gives true named =
            let writes : op.writes ≡ Some (signal_id signal) = named_is (signal_id signal) op.writes named in
            let seen : seen_at now signal ≡ Some v =
            subst (IsOutcome given.plan.kernel given.flows (take (actor.instant - 1) reference) now (operation_in given.plan.store.nodes op)) gives
            (outcome_is given.plan accepted given.flows fit reference on.is k code is_coded actor is_on step at_s holds o op kind at) (signal_id signal) writes in
            done_chosen given.plan accepted given.flows fit reference on.is k code is_coded actor is_on step at_s holds yield (Some v)
            (ap (written_at given.plan signal now) kind ∙ ap (written_by signal now) at ∙ ap (λ c. cond c (seen_at now signal) None) named ∙ seen)
        gave o op kind at v gives false named =
            kind_chosen given.plan accepted given.flows fit reference on.is k code is_coded actor is_on step at_s yield
            (ap (written_at given.plan signal now) kind ∙ ap (written_by signal now) at ∙ ap (λ c. cond c (seen_at now signal) None) named)

        does_op : (o : OpId) (op : Op) → step.kind ≡ Do o → slice_get given.plan.ops o.0 ≡ Some op
            → Went (turned given k actor (turn_with given.plan code actor op (outcome given.plan.kernel given.flows actor op)) core) actor (put_by given signal actor (Some op))
        does_op o op kind at = by (outcome given.plan.kernel given.flows actor op) refl where
          named : (v : ℤ) → outcome given.plan.kernel given.flows actor op ≡ Gives v → (b : Bool) → names signal op.writes ≡ b
              → Went (turned given k actor (turn_with given.plan code actor op (Gives v)) core) actor (cond b (v ∷ []) [])
          named v gives true is = goes (turned given k actor (turn_with given.plan code actor op (Gives v)) core) (operated given.plan.kernel op v actor) refl refl refl (Some v) (gave o op kind at v gives true is)
          named v gives false is = goes (turned given k actor (turn_with given.plan code actor op (Gives v)) core) (operated given.plan.kernel op v actor) refl refl refl None (gave o op kind at v gives false is)

          by : (r : Outcome) → outcome given.plan.kernel given.flows actor op ≡ r → Went (turned given k actor (turn_with given.plan code actor op r) core) actor (cond (names signal op.writes) (value_of r) [])
          by (Gives v) gives = named v gives (names signal op.writes) refl
          by (Faults cause) fails = subst (Went (turned given k actor (turn_with given.plan code actor op (Faults cause)) core) actor) (sym (no_choice (names signal op.writes)))
              (ends (turned given k actor (turn_with given.plan code actor op (Faults cause)) core) refl)

        puts : (j : ℕ) (item : ℤ) → op_of given.plan.ops step.kind ≡ None → Went (turned given k actor (Puts j item (moved_on (length code.steps) actor)) core) actor []
        puts j item none = by (nat_lt (length (items_on core j)) given.capacity) where
          by : (b : Bool) → Went (cond b (with_items j (items_on core j ++ item ∷ []) (with_actor k (moved_on (length code.steps) actor) core)) core) actor []
          by true = goes (with_items j (items_on core j ++ item ∷ []) (with_actor k (moved_on (length code.steps) actor) core)) actor refl refl refl None (quiet none)
          by false = stays core actor at_k

        takes : (j : ℕ) (b : ℤ → Actor) → ((item : ℤ) → ((b item).instant ≡ actor.instant) × ((b item).step ≡ actor.step)) → op_of given.plan.ops step.kind ≡ None
            → Went (turned given k actor (Takes j (λ item. moved_on (length code.steps) (b item))) core) actor []
        takes j b same none = by (items_on core j) where
          by : (items : List ℤ) → Went (take_first k j (λ item. moved_on (length code.steps) (b item)) core items) actor []
          by [] = stays core actor at_k
          by (item ∷ items) = goes (with_items j items (with_actor k (moved_on (length code.steps) (b item)) core)) (b item) (same item).0 (same item).1 refl None (quiet none)

        by_kind : (kind : StepKind) → step.kind ≡ kind → Went (turned given k actor (turn_by given.plan given.flows code actor kind) core) actor (put_by given signal actor (op_of given.plan.ops kind))
        by_kind (Do o) kind = by (slice_get given.plan.ops o.0) refl where
          by : (found : Option Op) → slice_get given.plan.ops o.0 ≡ found → Went (turned given k actor (turn_of_op given.plan given.flows code actor found) core) actor (put_by given signal actor found)
          by None none = stays core actor at_k
          by (Some op) at = does_op o op kind at
        by_kind (Send j) kind = puts j (item_of actor.registers (carried given.plan.links j)) (ap (op_of given.plan.ops) kind)
        by_kind (Report j) kind = puts j (pos 0) (ap (op_of given.plan.ops) kind)
        by_kind (Receive j) kind = takes j (λ item. received (carried given.plan.links j) item actor) (λ item. (refl, refl)) (ap (op_of given.plan.ops) kind)
        by_kind (Collect j) kind = takes j (λ item. actor) (λ item. (refl, refl)) (ap (op_of given.plan.ops) kind)
        by_kind Commit kind = goes (turned given k actor (turn_by given.plan given.flows code actor Commit) core) actor refl refl refl None (quiet (ap (op_of given.plan.ops) kind))

      at_step : Went (turned given k actor (turn_at given.plan given.flows code actor (Some step)) core) actor (put_at given signal code actor (Some step))
      at_step = by (guard_holds given.plan code actor.registers step) refl where
        by : (b : Bool) → guard_holds given.plan code actor.registers step ≡ b
            → Went (turned given k actor (cond b (turn_by given.plan given.flows code actor step.kind) (Goes (moved_on (length code.steps) actor))) core) actor (cond b (put_by given signal actor (op_of given.plan.ops step.kind)) [])
        by true holds = by_kind (sym (guard_known given.plan accepted given.flows fit reference on.is k code is_coded actor is_on step at_s) ∙ holds) step.kind refl
        by false passed = goes (with_actor k (moved_on (length code.steps) actor) core) actor refl refl refl None
            (passed_chosen given.plan accepted given.flows fit reference on.is k code is_coded actor is_on step at_s passed yield)

    acts : Went (turned given k actor (turn given.plan given.flows given.limit k actor) core) actor (put_in_turn given signal code actor)
    acts = by actor.ended refl where
      going : (b : Bool) → actor.ended ≡ false → nat_lt given.limit actor.instant ≡ b
          → Went (turned given k actor (cond b AtLimit (turn_at given.plan given.flows code actor (slice_get code.steps actor.step))) core) actor (cond b [] (put_at given signal code actor (slice_get code.steps actor.step)))
      going true runs over = ends (with_actor k (ended_at actor) core) refl
      going false runs within =
          let step = some_at code.steps actor.step is_on.step in
          subst (λ (o : Option Step). Went (turned given k actor (turn_at given.plan given.flows code actor o) core) actor (put_at given signal code actor o)) (sym step.1)
          (at_step runs (ltb-false given.limit actor.instant within) step.0 step.1)

      by : (b : Bool) → actor.ended ≡ b
          → Went (turned given k actor (cond b Stopped (cond (nat_lt given.limit actor.instant) AtLimit (turn_at given.plan given.flows code actor (slice_get code.steps actor.step)))) core) actor
          (cond b [] (cond (nat_lt given.limit actor.instant) [] (put_at given signal code actor (slice_get code.steps actor.step))))
      by true ended = stays core actor at_k
      by false runs = going (nat_lt given.limit actor.instant) runs refl

    looks : Went (looked given.plan k core (Some actor)) actor []
    looks = by actor.ended (word_before core.word (next_place code actor)) where
      by : (b less : Bool) → Went (cond b core (cond less (with_actor k (ended_at actor) core) core)) actor []
      by false true = ends (with_actor k (ended_at actor) core) refl
      by false false = stays core actor at_k
      by true less = stays core actor at_k

    -- ---- another actor's event

    elsewhere : (j : ℕ) (a : Actor) → (j ≡ k → ⊥) → slice_get (set core.actors j a) k ≡ Some actor
    elsewhere j a apart = get_set_other core.actors j k a (λ e. apart (sym e)) ∙ at_k

    turned_elsewhere : (j : ℕ) → (j ≡ k → ⊥) → (a : Actor) (t : Turn) → Went (turned given j a t core) actor []
    turned_elsewhere j apart a Stopped = stays core actor at_k
    turned_elsewhere j apart a AtLimit = stays (with_actor j (ended_at a) core) actor (elsewhere j (ended_at a) apart)
    turned_elsewhere j apart a (Fails place) = stays (turned given j a (Fails place) core) actor (elsewhere j (ended_at a) apart)
    turned_elsewhere j apart a (Goes next) = stays (with_actor j next core) actor (elsewhere j next apart)
    turned_elsewhere j apart a (Commits reaction next) = stays (turned given j a (Commits reaction next) core) actor (elsewhere j next apart)
    turned_elsewhere j apart a (Puts l item next) = by (nat_lt (length (items_on core l)) given.capacity) where
      by : (b : Bool) → Went (cond b (with_items l (items_on core l ++ item ∷ []) (with_actor j next core)) core) actor []
      by true = stays (with_items l (items_on core l ++ item ∷ []) (with_actor j next core)) actor (elsewhere j next apart)
      by false = stays core actor at_k
    turned_elsewhere j apart a (Takes l next) = by (items_on core l) where
      by : (items : List ℤ) → Went (take_first j l next core items) actor []
      by [] = stays core actor at_k
      by (item ∷ items) = stays (with_items l items (with_actor j (next item) core)) actor (elsewhere j (next item) apart)

    acted_elsewhere : (j : ℕ) → (j ≡ k → ⊥) → (o : Option Actor) → Went (acted given j core o) actor []
    acted_elsewhere j apart None = stays core actor at_k
    acted_elsewhere j apart (Some a) = turned_elsewhere j apart a (turn given.plan given.flows given.limit j a)

    looked_elsewhere : (j : ℕ) → (j ≡ k → ⊥) → (o : Option Actor) → Went (looked given.plan j core o) actor []
    looked_elsewhere j apart None = stays core actor at_k
    looked_elsewhere j apart (Some a) = by a.ended (word_before core.word (next_place (code_of given.plan j) a)) where
      by : (b less : Bool) → Went (cond b core (cond less (with_actor j (ended_at a) core) core)) actor []
      by false true = stays (with_actor j (ended_at a) core) actor (elsewhere j (ended_at a) apart)
      by false false = stays core actor at_k
      by true less = stays core actor at_k

    -- ---- an event

    own_act : Went (acted given k core (slice_get core.actors k)) actor (put_by_actor given signal k (slice_get core.actors k))
    own_act = subst (λ (o : Option Actor). Went (acted given k core o) actor (put_by_actor given signal k o)) (sym at_k) acts

    own_look : Went (looked given.plan k core (slice_get core.actors k)) actor []
    own_look = subst (λ (o : Option Actor). Went (looked given.plan k core o) actor []) (sym at_k) looks

    event_went : (event : Event) → Went (stepped given core event) actor (put_at_event given signal k core event)
    event_went (Act j) = elim (cases_eq j k) [
      | inl same ↦
          subst (λ (b : Bool). Went (acted given j core (slice_get core.actors j)) actor (cond b (put_by_actor given signal k (slice_get core.actors k)) [])) (sym (eq-eqb j k same))
          (subst (λ n. Went (acted given n core (slice_get core.actors n)) actor (put_by_actor given signal k (slice_get core.actors k))) (sym same) own_act)
      | inr apart ↦
          subst (λ (b : Bool). Went (acted given j core (slice_get core.actors j)) actor (cond b (put_by_actor given signal k (slice_get core.actors k)) [])) (sym (ne_eqb j k apart))
          (acted_elsewhere j apart (slice_get core.actors j))
    ]
    event_went (Look j) = elim (cases_eq j k) [
      | inl same ↦ subst (λ n. Went (looked given.plan n core (slice_get core.actors n)) actor []) (sym same) own_look
      | inr apart ↦ looked_elsewhere j apart (slice_get core.actors j)
    ]

  -- ---- an interleaving

  went_on : (events : List Event) (core : Core) → IsOnReference given reference core → (actor : Actor) → slice_get core.actors k ≡ Some actor → Went (fold (stepped given) core events) actor (put_from given signal k core events)
  went_on [] core on actor at = stays core actor at
  went_on (event ∷ events) core on actor at =
      let one = event_went core on actor at event in
      let rest = went_on events (stepped given core event) (stepped_on given accepted fit reference long core on event) one.next one.at in
      record {
        next = rest.next;
        at = rest.at;
        is = rest.is ∙ ap (λ items. items ++ put_from given signal k (stepped given core event) events) one.is
            ∙ append_assoc (put_before actor) (put_at_event given signal k core event) (put_from given signal k (stepped given core event) events);
        within = λ w. rest.within (one.within w);
      }

  module _ (is : IsReference given.plan.kernel given.flows (length reference) reference) where
    abbrev opened : IsOnReference given reference (opening given.plan)
    opened = opening_on given accepted reference is (omega (arith, long))

    -- what an actor has put out after an interleaving
    pub record HasPutOut (events : List Event) : Type 0 where
      pub actor : Actor
      pub at : slice_get (after given events).actors k ≡ Some actor
      pub puts : put_out given signal k events ≡ put_before actor
      pub within : IsWithin actor

    pub has_put_out : (events : List Event) → k < length given.plan.codes → HasPutOut events
    has_put_out events lt =
        let first = some_at (opening given.plan).actors k (let count = opened.actors in omega (arith, lt, count)) in
        let there = repeated (length given.plan.codes) k (opening_actor given.plan.kernel) first.0 first.1 in
        let none : put_before first.0 ≡ [] = ap put_before there.1 in
        let within : IsWithin first.0 = subst IsWithin (sym there.1) (elim (cases_eq given.limit 0) [
          | inl none ↦ inr (omega (arith, none), refl)
          | inr some ↦ inl (omega (arith, some))
        ]) in
        let went = went_on events (opening given.plan) opened first.0 first.1 in
        record {
          actor = went.next;
          at = went.at;
          puts = sym (went.is ∙ ap (λ items. items ++ put_out given signal k events) none);
          within = went.within within;
        }

    -- there is no such actor
    pub none_puts : (events : List Event) → length given.plan.codes ≤ k → put_out given signal k events ≡ []
    none_puts events ge = from events (opening given.plan) opened where
      no_actor : (core : Core) → IsOnReference given reference core → slice_get core.actors k ≡ None
      no_actor core on = by (slice_get core.actors k) refl where
        by : (o : Option Actor) → slice_get core.actors k ≡ o → o ≡ None
        by None at = refl
        by (Some a) at = absurd (let less = slice_get_within core.actors k a at in let count = on.actors in omega (arith, less, count, ge))

      one : (core : Core) → IsOnReference given reference core → (event : Event) → put_at_event given signal k core event ≡ []
      one core on (Act j) = ap (λ o. cond (j == k) (put_by_actor given signal k o) []) (no_actor core on) ∙ no_choice (j == k)
      one core on (Look j) = refl

      from : (events : List Event) (core : Core) → IsOnReference given reference core → put_from given signal k core events ≡ []
      from [] core on = refl
      from (event ∷ events) core on = ap (λ items. items ++ put_from given signal k (stepped given core event) events) (one core on event) ∙ from events (stepped given core event) (stepped_on given accepted fit reference long core on event)
