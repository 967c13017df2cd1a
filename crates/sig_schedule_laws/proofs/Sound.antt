-- Each event leaves a sound state sound: no actor goes past a fault.
use Rattle.sig_schedule_laws.proofs.Common.{◌≡◌, ◌<◌, ◌≤◌, ◌++◌, ◌⊎◌, inl, inr, ℕ, ℤ, Bool, true, false, cond, List, [], ◌∷◌, length, set, refl, ap, sym, subst, ◌∙◌, arith, None, Option, Some, nat_lt, slice_get, ltb-false, Instant, Trace, seen_at, OpId, Place, AreFlowsFor, at_most_or, Actor, code_of, ended_at, guard_holds, moved_on, next_place, Core, Given, acted, is_before, items_on, lesser, looked, stepped, take_first, turned, with_actor, with_items, word_before, Faults, Gives, Outcome, operated, outcome, IsActorOn, IsFaulty, IsOnReference, instant_at, AtLimit, Goes, Stopped, carried, item_of, received, turn, turn_at, turn_by, turn_of_op, turn_with, Event, Act, Look, CodeView, NamesWithin, IsAccepted, Step, StepKind, Do, Send, Receive, Report, Collect, Commit, Op, step_names, IsPast, IsSound, IsSoundActor, slice_get_within, some_at, cases_eq}
use Rattle.sig_schedule_laws.proofs.Amid.{guard_known}
use Rattle.sig_schedule_laws.proofs.Faultless.{done_fault, fault_here, passed_fault}
use Rattle.sig_schedule_laws.proofs.Lists.{put_elsewhere, put_here, set_get}
use Rattle.sig_schedule_laws.proofs.Moved.{moved_cases}
use Rattle.sig_schedule_laws.proofs.TurnsOnReference.{actor_on, coded}

module _ (given : Given) (accepted : IsAccepted given.plan) (fit : AreFlowsFor given.plan.kernel given.flows) (reference : Trace) (core : Core) (on : IsOnReference given reference core) (sound : IsSound given reference core)
    (k : ℕ) (actor : Actor) (at_k : slice_get core.actors k ≡ Some actor) where
  abbrev code : CodeView
  code = code_of given.plan k

  abbrev ck : slice_get given.plan.codes k ≡ Some code
  ck = coded given accepted fit reference core on k actor at_k

  abbrev is_on : IsActorOn given.plan reference code actor
  is_on = actor_on given accepted fit reference core on k actor at_k

  abbrev now : Instant
  now = instant_at reference actor.instant

  mine : IsSoundActor given.plan given.flows reference code actor
  mine = sound.actors k actor at_k

  sound_with : (after : Core) (next : Actor) → after.actors ≡ set core.actors k next → IsSoundActor given.plan given.flows reference code next → ((place : Place) → after.word ≡ Some place → place.instant ≤ given.limit) → IsSound given reference after
  sound_with after next is one word = record {
    actors = λ m b at.
        let s = set_get core.actors k next m b (subst (λ (xs : List Actor). slice_get xs m ≡ Some b) is at) in
        subst (IsSoundActor given.plan given.flows reference (code_of given.plan m)) (sym s.2) (elim (cases_eq m k) [
          | inl same ↦ subst (IsSoundActor given.plan given.flows reference (code_of given.plan m)) (sym (put_here k next m s.0 same)) (subst (λ n. IsSoundActor given.plan given.flows reference (code_of given.plan n) next) (sym same) one)
          | inr apart ↦ subst (IsSoundActor given.plan given.flows reference (code_of given.plan m)) (sym (put_elsewhere k next m s.0 apart)) (sound.actors m s.0 s.1)
        ]);
    word = word;
  }

  -- an actor that ends where it stands
  ends : IsSound given reference (with_actor k (ended_at actor) core)
  ends = sound_with (with_actor k (ended_at actor) core) (ended_at actor) refl mine sound.word

  fails : actor.instant ≤ given.limit → IsSound given reference (record (with_actor k (ended_at actor) core) { word = Some (lesser core.word (next_place code actor)) })
  fails within = sound_with (record (with_actor k (ended_at actor) core) { word = Some (lesser core.word (next_place code actor)) }) (ended_at actor) refl mine (λ place is.
      let e : Some (lesser core.word (next_place code actor)) ≡ Some place = is in
      let same : lesser core.word (next_place code actor) ≡ place = cc in
      subst (λ (q : Place). q.instant ≤ given.limit) same (least core.word sound.word)) where
        least : (word : Option Place) → ((place : Place) → word ≡ Some place → place.instant ≤ given.limit) → (lesser word (next_place code actor)).instant ≤ given.limit
        least None old = within
        least (Some w) old = by (is_before (next_place code actor) w) where
          by : (b : Bool) → (let q : Place = cond b (next_place code actor) w in q).instant ≤ given.limit
          by true = within
          by false = old w refl

  module _ (step : Step) (at_s : slice_get code.steps actor.step ≡ Some step) where
    abbrev NoFault : Type 0
    NoFault = (o : OpId) → step.kind ≡ Do o → IsFaulty given.plan given.flows reference (record { instant = actor.instant; pos = step.pos }) → ⊥

    past_or_here : (b : Actor) → b.instant ≡ actor.instant → b.step ≡ actor.step → (i s : ℕ) → s < length code.steps → IsPast i s (moved_on (length code.steps) b) → IsPast i s actor ⊎ ((i ≡ actor.instant) × (s ≡ actor.step))
    past_or_here b same_instant same_step i s lt = moved_cases (λ m. IsPast i s m → IsPast i s actor ⊎ ((i ≡ actor.instant) × (s ≡ actor.step))) (length code.steps) b
        (λ less past. elim past [
          | inl before ↦ inl (inl (omega (arith, before, same_instant)))
          | inr both ↦ elim (at_most_or actor.step s) [
            | inl le ↦ inr (both.0 ∙ same_instant, omega (arith, le, both.1, same_step))
            | inr lt_s ↦ inl (inr (both.0 ∙ same_instant, lt_s))
          ]
        ])
        (λ over past. elim past [
          | inl before ↦ elim (at_most_or actor.instant i) [
            | inl le ↦ elim (at_most_or actor.step s) [
              | inl le_s ↦ inr (omega (arith, le, before, same_instant), omega (arith, le_s, over, lt, same_step))
              | inr lt_s ↦ inl (inr (omega (arith, le, before, same_instant), lt_s))
            ]
            | inr earlier ↦ inl (inl earlier)
          ]
          | inr both ↦ absurd (omega (arith, both.1))
        ])

    moved_sound : (b : Actor) → b.instant ≡ actor.instant → b.step ≡ actor.step → NoFault → IsSoundActor given.plan given.flows reference code (moved_on (length code.steps) b)
    moved_sound b same_instant same_step none i s other o at_other kind past faulty = elim (past_or_here b same_instant same_step i s (slice_get_within code.steps s other at_other) past) [
      | inl before ↦ mine i s other o at_other kind before faulty
      | inr here ↦
          let e : Some other ≡ Some step = sym at_other ∙ ap (slice_get code.steps) here.1 ∙ at_s in
          let one : other ≡ step = cc in
          none o (ap (λ (z : Step). z.kind) (sym one) ∙ kind) (subst (IsFaulty given.plan given.flows reference) (λ t. record { instant = here.0 t; pos = (one t).pos }) faulty)
    ]

    goes : (after : Core) (b : Actor) → b.instant ≡ actor.instant → b.step ≡ actor.step → after.actors ≡ set core.actors k (moved_on (length code.steps) b) → after.word ≡ core.word → NoFault → IsSound given reference after
    goes after b same_instant same_step is word none = sound_with after (moved_on (length code.steps) b) is (moved_sound b same_instant same_step none) (λ place at. sound.word place (sym word ∙ at))

    names : (kind : StepKind) → step.kind ≡ kind → NamesWithin (length given.plan.ops) (length given.plan.links) kind
    names kind is = subst (λ (kd : StepKind). NamesWithin (length given.plan.ops) (length given.plan.links) kd) is (step_names given.plan accepted k code ck actor.step step at_s)

    passes : guard_holds given.plan code (seen_at now) step ≡ false → NoFault
    passes passed o kind faulty =
        let found = some_at given.plan.ops o.0 (names (Do o) kind) in
        let f = fault_here given.plan accepted given.flows reference k code ck actor.instant actor.step step o found.0 at_s kind found.1 faulty in
        passed_fault given.plan accepted given.flows fit reference on.is k code ck actor is_on step at_s o found.0 kind found.1 passed mine f.0 f.1 f.2

    module _ (within : actor.instant ≤ given.limit) (holds : guard_holds given.plan code (seen_at now) step ≡ true) where
      does_op : (o : OpId) (op : Op) → step.kind ≡ Do o → slice_get given.plan.ops o.0 ≡ Some op → IsSound given reference (turned given k actor (turn_with given.plan code actor op (outcome given.plan.kernel given.flows actor op)) core)
      does_op o op kind at = by (outcome given.plan.kernel given.flows actor op) refl where
        by : (r : Outcome) → outcome given.plan.kernel given.flows actor op ≡ r → IsSound given reference (turned given k actor (turn_with given.plan code actor op r) core)
        by (Gives v) gives = goes (with_actor k (moved_on (length code.steps) (operated given.plan.kernel op v actor)) core) (operated given.plan.kernel op v actor) refl refl refl refl (λ p is faulty.
            let f = fault_here given.plan accepted given.flows reference k code ck actor.instant actor.step step o op at_s kind at faulty in
            done_fault given.plan accepted given.flows fit reference on.is k code ck actor is_on step at_s o op kind at holds v gives f.0 f.1 f.2)
        by (Faults cause) faults = fails within

      puts : (l : ℕ) (value : ℤ) → NoFault → IsSound given reference (cond (nat_lt (length (items_on core l)) given.capacity) (with_items l (items_on core l ++ value ∷ []) (with_actor k (moved_on (length code.steps) actor) core)) core)
      puts l value none = by (nat_lt (length (items_on core l)) given.capacity) where
        by : (b : Bool) → IsSound given reference (cond b (with_items l (items_on core l ++ value ∷ []) (with_actor k (moved_on (length code.steps) actor) core)) core)
        by true = goes (with_items l (items_on core l ++ value ∷ []) (with_actor k (moved_on (length code.steps) actor) core)) actor refl refl refl refl none
        by false = sound

      takes : (l : ℕ) (next : ℤ → Actor) → ((v : ℤ) → ((next v).instant ≡ actor.instant) × ((next v).step ≡ actor.step)) → NoFault → IsSound given reference (take_first k l (λ v. moved_on (length code.steps) (next v)) core (items_on core l))
      takes l next stays none = by (items_on core l) where
        by : (xs : List ℤ) → IsSound given reference (take_first k l (λ v. moved_on (length code.steps) (next v)) core xs)
        by [] = sound
        by (v ∷ items) = goes (with_items l items (with_actor k (moved_on (length code.steps) (next v)) core)) (next v) (stays v).0 (stays v).1 refl refl none

      by_kind : (kind : StepKind) → step.kind ≡ kind → IsSound given reference (turned given k actor (turn_by given.plan given.flows code actor kind) core)
      by_kind (Do o) kind =
          let found = some_at given.plan.ops o.0 (names (Do o) kind) in
          subst (λ (found : Option Op). IsSound given reference (turned given k actor (turn_of_op given.plan given.flows code actor found) core)) (sym found.1) (does_op o found.0 kind found.1)
      by_kind (Send l) kind = puts l (item_of actor.registers (carried given.plan.links l)) (λ o is faulty. let clash : Send l ≡ Do o = sym kind ∙ is in cc)
      by_kind (Report l) kind = puts l _ (λ o is faulty. let clash : Report l ≡ Do o = sym kind ∙ is in cc)
      by_kind (Receive l) kind = takes l (λ v. received (carried given.plan.links l) v actor) (λ v. (refl, refl)) (λ o is faulty. let clash : Receive l ≡ Do o = sym kind ∙ is in cc)
      by_kind (Collect l) kind = takes l (λ v. actor) (λ v. (refl, refl)) (λ o is faulty. let clash : Collect l ≡ Do o = sym kind ∙ is in cc)
      by_kind Commit kind = goes _ actor refl refl refl refl (λ o is faulty. let clash : Commit ≡ Do o = sym kind ∙ is in cc)

    at_step : actor.instant ≤ given.limit → IsSound given reference (turned given k actor (turn_at given.plan given.flows code actor (Some step)) core)
    at_step within = by (guard_holds given.plan code actor.registers step) refl where
      known : guard_holds given.plan code actor.registers step ≡ guard_holds given.plan code (seen_at now) step
      known = guard_known given.plan accepted given.flows fit reference on.is k code ck actor is_on step at_s

      by : (b : Bool) → guard_holds given.plan code actor.registers step ≡ b
          → IsSound given reference (turned given k actor (cond b (turn_by given.plan given.flows code actor step.kind) (Goes (moved_on (length code.steps) actor))) core)
      by true holds = by_kind within (sym known ∙ holds) step.kind refl
      by false passed = goes (with_actor k (moved_on (length code.steps) actor) core) actor refl refl refl refl (passes (sym known ∙ passed))

  pub acts_sound : IsSound given reference (turned given k actor (turn given.plan given.flows given.limit k actor) core)
  acts_sound = by actor.ended where
    going : (b : Bool) → nat_lt given.limit actor.instant ≡ b → IsSound given reference (turned given k actor (cond b AtLimit (turn_at given.plan given.flows code actor (slice_get code.steps actor.step))) core)
    going true over = ends
    going false within =
        let step = some_at code.steps actor.step is_on.step in
        subst (λ (o : Option Step). IsSound given reference (turned given k actor (turn_at given.plan given.flows code actor o) core)) (sym step.1) (at_step step.0 step.1 (ltb-false given.limit actor.instant within))

    by : (b : Bool) → IsSound given reference (turned given k actor (cond b Stopped (cond (nat_lt given.limit actor.instant) AtLimit (turn_at given.plan given.flows code actor (slice_get code.steps actor.step)))) core)
    by true = sound
    by false = going (nat_lt given.limit actor.instant) refl

  pub looks_sound : IsSound given reference (looked given.plan k core (Some actor))
  looks_sound = by actor.ended (word_before core.word (next_place code actor)) where
    by : (b less : Bool) → IsSound given reference (cond b core (cond less (with_actor k (ended_at actor) core) core))
    by false true = ends
    by _ _ = sound

pub stepped_sound : (given : Given) → IsAccepted given.plan → AreFlowsFor given.plan.kernel given.flows → (reference : Trace) → (core : Core) → IsOnReference given reference core → IsSound given reference core
    → (event : Event) → IsSound given reference (stepped given core event)
stepped_sound given accepted fit reference core on sound (Act k) = by (slice_get core.actors k) refl where
  by : (o : Option Actor) → slice_get core.actors k ≡ o → IsSound given reference (acted given k core o)
  by None at = sound
  by (Some actor) at = acts_sound given accepted fit reference core on sound k actor at
stepped_sound given accepted fit reference core on sound (Look k) = by (slice_get core.actors k) refl where
  by : (o : Option Actor) → slice_get core.actors k ≡ o → IsSound given reference (looked given.plan k core o)
  by None at = sound
  by (Some actor) at = looks_sound given accepted fit reference core on sound k actor at
