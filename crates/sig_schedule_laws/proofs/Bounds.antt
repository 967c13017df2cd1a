-- A list of events that each change the state is bounded: each moves one actor on, or ends one.
use Rattle.sig_schedule_laws.proofs.Common.{◌≡◌, ◌<◌, ◌≤◌, ◌-◌, ◌+◌, ◌*◌, ◌++◌, ◌⊎◌, inl, inr, ℕ, zero, suc, ℤ, Bool, true, false, cond, List, [], ◌∷◌, length, set, refl, ap, sym, subst, ◌∙◌, arith, None, Option, Some, fold, nat_lt, slice_get, mul-add, suc-mul, ltb-false, length-replicate, length-set, mul-le, Actor, code_of, ended_at, guard_holds, moved_on, next_place, opening_actor, Core, Given, IsEnabled, acted, after, items_on, looked, opening, stepped, take_first, turned, with_actor, with_items, word_before, Faults, Gives, Outcome, operated, outcome, AtLimit, Commits, Goes, Puts, Stopped, Takes, Turn, carried, received, turn, turn_at, turn_by, turn_of_op, turn_with, Event, Act, Look, CodeView, IsAccepted, Step, StepKind, Do, Receive, Collect, Op, one_of, AllChange, all_gone, gone_by, steps_in, slice_get_within, cases_eq, repeated}
use Rattle.sig_schedule_laws.proofs.Coded.{actor_coded, code_is}
use Rattle.sig_schedule_laws.proofs.Lists.{put_elsewhere, put_here, set_get}
use Rattle.sig_schedule_laws.proofs.Moved.{moved_cases}
use Rattle.sig_schedule_laws.proofs.Runnables.{is_runnable}

-- ---- how far an actor has gone

one_more : (i count : ℕ) → 1 ≤ i → (i + 1 - 1) * count ≡ (i - 1) * count + count
one_more zero count le = absurd (omega (arith, le))
one_more (suc i) count le =
    let first : suc i + 1 - 1 ≡ suc i = omega arith in
    let second : suc i - 1 ≡ i = omega arith in
    ap (λ n. n * count) first ∙ suc-mul i count ∙ ap (λ n. n * count + count) (sym second)

at_most_one : (b : Bool) → one_of b ≤ 1
at_most_one true = omega arith
at_most_one false = omega arith

module _ (limit : ℕ) where
  -- an actor is within its code, and within the limit, or at the first step behind that
  record IsKept (count : ℕ) (a : Actor) : Type 0 where
    from : 1 ≤ a.instant
    step : a.step < count
    within : (a.instant ≤ limit) ⊎ ((a.instant ≡ limit + 1) × (a.step ≡ 0))

  kept_weight : (count : ℕ) (a : Actor) → IsKept count a → gone_by count a ≤ limit * count + 1
  kept_weight count a kept = by kept.within where
    by : (a.instant ≤ limit) ⊎ ((a.instant ≡ limit + 1) × (a.step ≡ 0)) → gone_by count a ≤ limit * count + 1
    by (inl le) =
        let whole : a.instant * count ≡ (a.instant - 1) * count + count = (let same : a.instant ≡ a.instant + 1 - 1 = omega arith in ap (λ n. n * count) same ∙ one_more a.instant count kept.from) in
        let most = mul-le a.instant count limit count le (omega arith) in
        let step = kept.step in
        omega (arith, whole, most, step, at_most_one a.ended)
    by (inr both) =
        let same : a.instant - 1 ≡ limit = omega (arith, both.0) in
        let first : (a.instant - 1) * count ≡ limit * count = ap (λ n. n * count) same in
        omega (arith, first, both.1, at_most_one a.ended)

  -- an actor that moved on from a step
  record IsMoved (count : ℕ) (a next : Actor) : Type 0 where
    runs : a.ended ≡ false
    within : a.instant ≤ limit
    b : Actor
    is : next ≡ moved_on count b
    same_instant : b.instant ≡ a.instant
    same_step : b.step ≡ a.step
    goes : b.ended ≡ false

  moved_kept : (count : ℕ) (a next : Actor) → IsKept count a → IsMoved count a next → IsKept count next × (gone_by count next ≡ gone_by count a + 1)
  moved_kept count a next kept m = subst (λ (z : Actor). IsKept count z × (gone_by count z ≡ gone_by count a + 1)) (sym m.is)
      (moved_cases (λ z. IsKept count z × (gone_by count z ≡ gone_by count a + 1)) count m.b
      (λ less. (
        record { from = omega (arith, from, instant); step = less; within = inl (omega (arith, within, instant)) },
        (let x : (m.b.instant - 1) * count ≡ (a.instant - 1) * count = ap (λ n. (n - 1) * count) instant in omega (arith, x, step, ended)),
      ))
      (λ over. (
        record {
          from = omega (arith, from, instant);
          step = omega (arith, inside);
          within = elim (cases_eq a.instant limit) [
            | inl full ↦ inr (omega (arith, full, instant), refl)
            | inr apart ↦ inl (omega (arith, apart, within, instant))
          ];
        },
        (let x : (m.b.instant + 1 - 1) * count ≡ (a.instant - 1) * count + count = ap (λ n. (n + 1 - 1) * count) instant ∙ one_more a.instant count from in omega (arith, x, over, inside, step, ended)),
      ))) where
        from : 1 ≤ a.instant
        from = kept.from

        inside : a.step < count
        inside = kept.step

        within : a.instant ≤ limit
        within = m.within

        instant : m.b.instant ≡ a.instant
        instant = m.same_instant

        step : m.b.step ≡ a.step
        step = m.same_step

        ended : one_of m.b.ended ≡ one_of a.ended
        ended = ap one_of (m.goes ∙ sym m.runs)

  ended_kept : (count : ℕ) (a : Actor) → IsKept count a → a.ended ≡ false → IsKept count (ended_at a) × (gone_by count (ended_at a) ≡ gone_by count a + 1)
  ended_kept count a kept runs = (
    record { from = kept.from; step = kept.step; within = kept.within },
    (let none : one_of a.ended ≡ 0 = ap one_of runs in omega (arith, none)),
  )

-- ---- how far all have gone

total_set : (codes : List CodeView) (xs : List Actor) (k : ℕ) (code : CodeView) (a next : Actor) → slice_get codes k ≡ Some code → slice_get xs k ≡ Some a → gone_by (length code.steps) next ≡ gone_by (length code.steps) a + 1
    → all_gone codes (set xs k next) ≡ all_gone codes xs + 1
total_set [] xs k code a next at_c at_a more = absurd (let e : None ≡ Some code = at_c in cc)
total_set (c ∷ codes) [] k code a next at_c at_a more = absurd (let e : None ≡ Some a = at_a in cc)
total_set (c ∷ codes) (x ∷ xs) zero code a next at_c at_a more =
    let e : Some c ≡ Some code = at_c in
    let f : Some x ≡ Some a = at_a in
    let one : c ≡ code = cc in
    let two : x ≡ a = cc in
    let here : gone_by (length c.steps) next ≡ gone_by (length c.steps) x + 1 =
    ap (λ (z : CodeView). gone_by (length z.steps) next) one ∙ more ∙ (λ t. gone_by (length (sym one t).steps) (sym two t) + 1) in
    omega (arith, here)
total_set (c ∷ codes) (x ∷ xs) (suc k) code a next at_c at_a more = omega (arith, total_set codes xs k code a next at_c at_a more)

total_within : (limit : ℕ) (codes : List CodeView) (xs : List Actor) → ((k : ℕ) (code : CodeView) (a : Actor) → slice_get codes k ≡ Some code → slice_get xs k ≡ Some a → gone_by (length code.steps) a ≤ limit * length code.steps + 1)
    → all_gone codes xs ≤ limit * steps_in codes + length codes
total_within limit (code ∷ codes) (a ∷ xs) each =
    let rest = total_within limit codes xs (λ k c b at_c at_b. each (suc k) c b at_c at_b) in
    omega (arith, rest, each 0 code a refl refl, mul-add limit (length code.steps) (steps_in codes))
total_within limit _ _ each = omega arith

-- ---- what an event does

module _ (given : Given) where
  abbrev count : ℕ → ℕ
  count k = length (code_of given.plan k).steps

  abbrev Moved : ℕ → Actor → Actor → Type 0
  Moved k a next = IsMoved given.limit (count k) a next

  -- what a turn does to its actor
  abbrev IsTurnOf : ℕ → Actor → Turn → Type 0
  IsTurnOf k a Stopped = Unit {0}
  IsTurnOf k a (Goes next) = Moved k a next
  IsTurnOf k a (Commits reaction next) = Moved k a next
  IsTurnOf k a (Puts j item next) = Moved k a next
  IsTurnOf k a (Takes j next) = (item : ℤ) → Moved k a (next item)
  IsTurnOf k a _ = a.ended ≡ false

  module _ (k : ℕ) (a : Actor) (runs : a.ended ≡ false) (within : a.instant ≤ given.limit) where
    moved : (b : Actor) → b.instant ≡ a.instant → b.step ≡ a.step → b.ended ≡ a.ended → Moved k a (moved_on (count k) b)
    moved b same_instant same_step same_end = record { runs = runs; within = within; b = b; is = refl; same_instant = same_instant; same_step = same_step; goes = same_end ∙ runs }

    op_turn : (op : Op) (r : Outcome) → IsTurnOf k a (turn_with given.plan (code_of given.plan k) a op r)
    op_turn op (Gives v) = moved (operated given.plan.kernel op v a) refl refl refl
    op_turn op (Faults cause) = runs

    some_op : (found : Option Op) → IsTurnOf k a (turn_of_op given.plan given.flows (code_of given.plan k) a found)
    some_op None = tt
    some_op (Some op) = op_turn op (outcome given.plan.kernel given.flows a op)

    kind_turn : (kind : StepKind) → IsTurnOf k a (turn_by given.plan given.flows (code_of given.plan k) a kind)
    kind_turn (Do o) = some_op (slice_get given.plan.ops o.0)
    kind_turn (Receive j) = λ item. moved (received (carried given.plan.links j) item a) refl refl refl
    kind_turn (Collect j) = λ item. moved a refl refl refl
    kind_turn _ = moved a refl refl refl

    step_turn : (step : Option Step) → IsTurnOf k a (turn_at given.plan given.flows (code_of given.plan k) a step)
    step_turn None = tt
    step_turn (Some step) = by (guard_holds given.plan (code_of given.plan k) a.registers step) where
      by : (b : Bool) → IsTurnOf k a (cond b (turn_by given.plan given.flows (code_of given.plan k) a step.kind) (Goes (moved_on (count k) a)))
      by true = kind_turn step.kind
      by false = moved a refl refl refl

  turn_is : (k : ℕ) (a : Actor) → IsTurnOf k a (turn given.plan given.flows given.limit k a)
  turn_is k a = by a.ended refl where
    going : a.ended ≡ false → (b : Bool) → nat_lt given.limit a.instant ≡ b → IsTurnOf k a (cond b AtLimit (turn_at given.plan given.flows (code_of given.plan k) a (slice_get (code_of given.plan k).steps a.step)))
    going runs true over = runs
    going runs false within = step_turn k a runs (ltb-false given.limit a.instant within) (slice_get (code_of given.plan k).steps a.step)

    by : (b : Bool) → a.ended ≡ b → IsTurnOf k a (cond b Stopped (cond (nat_lt given.limit a.instant) AtLimit (turn_at given.plan given.flows (code_of given.plan k) a (slice_get (code_of given.plan k).steps a.step))))
    by true ended = tt
    by false runs = going runs (nat_lt given.limit a.instant) refl

  -- one actor went on by a step, or ended
  record IsMove (core after : Core) : Type 0 where
    k : ℕ
    actor : Actor
    next : Actor
    at : slice_get core.actors k ≡ Some actor
    is : after.actors ≡ set core.actors k next
    how : ((next ≡ ended_at actor) × (actor.ended ≡ false)) ⊎ Moved k actor next

  module _ (core : Core) (k : ℕ) (a : Actor) (at : slice_get core.actors k ≡ Some a) where
    move : (after : Core) (next : Actor) → after.actors ≡ set core.actors k next → ((next ≡ ended_at a) × (a.ended ≡ false)) ⊎ Moved k a next → IsMove core after
    move after next is how = record { k = k; actor = a; next = next; at = at; is = is; how = how }

    abbrev MovesOr : Core → Type 0
    MovesOr after = IsMove core after ⊎ (after ≡ core)

    turned_move : (t : Turn) → IsTurnOf k a t → MovesOr (turned given k a t core)
    turned_move Stopped is = inr refl
    turned_move (Goes next) is = inl (move (turned given k a (Goes next) core) next refl (inr is))
    turned_move (Commits reaction next) is = inl (move (turned given k a (Commits reaction next) core) next refl (inr is))
    turned_move (Puts j item next) is = by (nat_lt (length (items_on core j)) given.capacity) where
      by : (b : Bool) → MovesOr (cond b (with_items j (items_on core j ++ item ∷ []) (with_actor k next core)) core)
      by true = inl (move (with_items j (items_on core j ++ item ∷ []) (with_actor k next core)) next refl (inr is))
      by false = inr refl
    turned_move (Takes j next) is = by (items_on core j) where
      by : (xs : List ℤ) → MovesOr (take_first k j next core xs)
      by [] = inr refl
      by (item ∷ items) = inl (move (with_items j items (with_actor k (next item) core)) (next item) refl (inr (is item)))
    turned_move t is = inl (move (turned given k a t core) (ended_at a) refl (inl (refl, is)))

    looked_move : MovesOr (looked given.plan k core (Some a))
    looked_move = by a.ended refl (word_before core.word (next_place (code_of given.plan k) a)) where
      by : (b : Bool) → a.ended ≡ b → (less : Bool) → MovesOr (cond b core (cond less (with_actor k (ended_at a) core) core))
      by false runs true = inl (move (with_actor k (ended_at a) core) (ended_at a) refl (inl (refl, runs)))
      by _ ended _ = inr refl

  event_move : (core : Core) (event : Event) → IsMove core (stepped given core event) ⊎ (stepped given core event ≡ core)
  event_move core (Act k) = by (slice_get core.actors k) refl where
    by : (o : Option Actor) → slice_get core.actors k ≡ o → IsMove core (acted given k core o) ⊎ (acted given k core o ≡ core)
    by None at = inr refl
    by (Some a) at = turned_move core k a at (turn given.plan given.flows given.limit k a) (turn_is k a)
  event_move core (Look k) = by (slice_get core.actors k) refl where
    by : (o : Option Actor) → slice_get core.actors k ≡ o → IsMove core (looked given.plan k core o) ⊎ (looked given.plan k core o ≡ core)
    by None at = inr refl
    by (Some a) at = looked_move core k a at

  changing_move : (core : Core) (event : Event) → IsEnabled given core event → IsMove core (stepped given core event)
  changing_move core event changes = elim (event_move core event) [ inl moves ↦ moves | inr same ↦ absurd (changes same) ]

  -- ---- lists of events

  record AreKept (core : Core) : Type 0 where
    actors : length core.actors ≡ length given.plan.codes
    each : (k : ℕ) (a : Actor) → slice_get core.actors k ≡ Some a → IsKept given.limit (count k) a

  kept_next : (core after : Core) → AreKept core → (m : IsMove core after) → IsKept given.limit (count m.k) m.next × (gone_by (count m.k) m.next ≡ gone_by (count m.k) m.actor + 1)
  kept_next core after kept m = elim m.how [
    | inl ends ↦
        subst (λ (z : Actor). IsKept given.limit (count m.k) z × (gone_by (count m.k) z ≡ gone_by (count m.k) m.actor + 1)) (sym ends.0) (ended_kept given.limit (count m.k) m.actor (kept.each m.k m.actor m.at) ends.1)
    | inr moves ↦ moved_kept given.limit (count m.k) m.actor m.next (kept.each m.k m.actor m.at) moves
  ]

  move_kept : (core after : Core) → AreKept core → IsMove core after → AreKept after × (all_gone given.plan.codes after.actors ≡ all_gone given.plan.codes core.actors + 1)
  move_kept core after kept m =
      let next = kept_next core after kept m in
      let actors = kept.actors in (
        record {
          actors = ap (λ (xs : List Actor). length xs) m.is ∙ length-set core.actors m.k m.next ∙ kept.actors;
          each = λ k a at.
              let s = set_get core.actors m.k m.next k a (subst (λ (xs : List Actor). slice_get xs k ≡ Some a) m.is at) in
              subst (IsKept given.limit (count k)) (sym s.2) (elim (cases_eq k m.k) [
                | inl same ↦ subst (IsKept given.limit (count k)) (sym (put_here m.k m.next k s.0 same)) (subst (λ i. IsKept given.limit (count i) m.next) (sym same) next.0)
                | inr apart ↦ subst (IsKept given.limit (count k)) (sym (put_elsewhere m.k m.next k s.0 apart)) (kept.each k s.0 s.1)
              ]);
        },
        ap (all_gone given.plan.codes) m.is ∙ total_set given.plan.codes core.actors m.k (code_of given.plan m.k) m.actor m.next (actor_coded given.plan m.k (omega (arith, slice_get_within core.actors m.k m.actor m.at, actors))) m.at next.1,
      )

  within : (core : Core) → AreKept core → all_gone given.plan.codes core.actors ≤ given.limit * steps_in given.plan.codes + length given.plan.codes
  within core kept = total_within given.limit given.plan.codes core.actors (λ k code a at_c at_a.
      let same = code_is given.plan k code at_c in
      subst (λ (z : CodeView). gone_by (length z.steps) a ≤ given.limit * length z.steps + 1) same (kept_weight given.limit (count k) a (kept.each k a at_a)))

  bounded_from : (events : List Event) (core : Core) → AreKept core → AllChange given core events → all_gone given.plan.codes core.actors + length events ≤ given.limit * steps_in given.plan.codes + length given.plan.codes
  bounded_from [] core kept all = omega (arith, within core kept)
  bounded_from (event ∷ events) core kept all =
      let next = move_kept core (stepped given core event) kept (changing_move core event all.0) in
      omega (arith, next.1, bounded_from events (stepped given core event) next.0 all.1)

  from_kept : (events : List Event) (core : Core) → AreKept core → AreKept (fold (stepped given) core events)
  from_kept [] core kept = kept
  from_kept (event ∷ events) core kept = from_kept events (stepped given core event) (elim (event_move core event) [
    | inl moves ↦ (move_kept core (stepped given core event) kept moves).0
    | inr same ↦ subst AreKept (sym same) kept
  ])

  module _ (accepted : IsAccepted given.plan) where
    opening_kept : AreKept (opening given.plan)
    opening_kept = record {
      actors = length-replicate (length given.plan.codes) (opening_actor given.plan.kernel);
      each = λ k a at.
          let there = repeated (length given.plan.codes) k (opening_actor given.plan.kernel) a at in
          subst (IsKept given.limit (count k)) (sym there.1) (record {
            from = omega arith;
            step = (is_runnable given.plan accepted).begins k there.0;
            within = elim (cases_eq given.limit 0) [ inl none ↦ inr (omega (arith, none), refl) | inr some ↦ inl (omega (arith, some)) ];
          });
    }

    after_kept : (events : List Event) → AreKept (after given events)
    after_kept events = from_kept events (opening given.plan) opening_kept

    pub bounded_events : (events : List Event) → AllChange given (opening given.plan) events → length events ≤ given.limit * steps_in given.plan.codes + length given.plan.codes
    bounded_events events all = omega (arith, bounded_from events (opening given.plan) opening_kept all)

    pub changes_go_on : (events : List Event) (event : Event) → IsEnabled given (after given events) event
        → all_gone given.plan.codes (stepped given (after given events) event).actors ≡ all_gone given.plan.codes (after given events).actors + 1
    changes_go_on events event changes = (move_kept (after given events) (stepped given (after given events) event) (after_kept events) (changing_move (after given events) event changes)).1

    pub all_within : (events : List Event) → all_gone given.plan.codes (after given events).actors ≤ given.limit * steps_in given.plan.codes + length given.plan.codes
    all_within events = within (after given events) (after_kept events)

    -- from a state with the actors of one that events reach
    pub bounded_behind : (before : List Event) (core : Core) → core.actors ≡ (after given before).actors → (events : List Event) → AllChange given core events
        → length events ≤ given.limit * steps_in given.plan.codes + length given.plan.codes
    bounded_behind before core same events all =
        let there = after_kept before in
        let kept : AreKept core = record {
          actors = ap (λ (xs : List Actor). length xs) same ∙ there.actors;
          each = λ k a at. there.each k a (subst (λ (xs : List Actor). slice_get xs k ≡ Some a) same at);
        } in
        omega (arith, bounded_from events core kept all)
