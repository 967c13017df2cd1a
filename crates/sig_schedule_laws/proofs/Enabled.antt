-- An event is enabled until all actors have ended.
use Rattle.sig_schedule_laws.proofs.Common.{compiled_operations, compiled_order, ◌≡◌, ◌<◌, ◌≤◌, ◌+◌, ◌*◌, ◌⊎◌, inl, inr, ℕ, ℤ, Bool, true, false, cond, List, length, refl, ap, sym, subst, ◌∙◌, arith, Some, slice_get, cases_lt, Instant, Trace, seen_at, Place, AreFlowsFor, fitting, some_reference, Actor, code_of, ended_at, next_place, position_of, Core, Given, IsEnabled, IsFinished, acted, after, looked, turned, with_actor, word_before, HasReason, IsActorOn, IsOnReference, instant_at, sent_on, taken_from, IsReference, turn, Event, Act, Look, Instruction, instructions_of, IsFor, IsAccepted, Step, LinkInfo, plan_operations, ends_within, positions_rise, slice_get-get_or, slice_get_within, some_at}
use Rattle.sig_schedule_laws.proofs.Interleavings.{after_on}
use Rattle.sig_schedule_laws.proofs.EventsOnReference.{reader_is, writer_is}
use Rattle.sig_schedule_laws.proofs.Least.{IsLeast, some_least}
use Rattle.sig_schedule_laws.proofs.EndsOfLinks.{reader_end}
use Rattle.sig_schedule_laws.proofs.Moved.{chosen_of}
use Rattle.sig_schedule_laws.proofs.SentItems.{IsSending, sends_item, sends_report}
use Rattle.sig_schedule_laws.proofs.Steps.{DoesStep, step_does}
use Rattle.sig_schedule_laws.proofs.TurnsOnReference.{coded}
use Rattle.sig_schedule_laws.proofs.WaitsForPartner.{WaitsToPut, WaitsToTake, acts_or_waits, differs, ended_apart, put_there, reader_earlier, writer_no_later}
use Rattle.sig_schedule_laws.proofs.Words.{NotAfter, reached_onward, word_onward}

module _ (given : Given) (accepted : IsAccepted given.plan) (fit : AreFlowsFor given.plan.kernel given.flows) (reference : Trace) (long : given.limit + 1 ≤ length reference) (room : 1 ≤ given.capacity) (core : Core) (on : IsOnReference given reference core) where
  abbrev place : ℕ → Actor → Place
  place m a = next_place (code_of given.plan m) a

  abbrev SomeEnabled : Type 0
  SomeEnabled = (event : Event) × IsEnabled given core event

  act_enabled : (k : ℕ) (actor : Actor) → slice_get core.actors k ≡ Some actor → (turned given k actor (turn given.plan given.flows given.limit k actor) core ≡ core → ⊥) → IsEnabled given core (Act k)
  act_enabled k actor at_k moves = subst (λ o. acted given k core o ≡ core → ⊥) (sym at_k) moves

  look_enabled : (k : ℕ) (actor : Actor) (at_k : slice_get core.actors k ≡ Some actor) (runs : actor.ended ≡ false) → word_before core.word (place k actor) ≡ true → IsEnabled given core (Look k)
  look_enabled k actor at_k runs before = subst (λ o. looked given.plan k core o ≡ core → ⊥) (sym at_k)
      (subst (λ b. cond b core (cond (word_before core.word (place k actor)) (with_actor k (ended_at actor) core) core) ≡ core → ⊥) (sym runs)
      (subst (λ b. cond b (with_actor k (ended_at actor) core) core ≡ core → ⊥) (sym before)
      (differs given accepted fit reference core on k actor at_k (with_actor k (ended_at actor) core) (ended_at actor) (put_there given accepted fit reference core on k actor at_k (ended_at actor)) (ended_apart given accepted fit reference core on k actor at_k runs))))

  ends_of : (l : ℕ) (info : LinkInfo) → slice_get given.plan.links l ≡ Some info → (info.writer < length core.actors) × (info.reader < length core.actors)
  ends_of l info at_l =
      let ends = ends_within given.plan.kernel accepted.valid given.plan.clocks.conditions (compiled_operations given.plan) (plan_operations given.plan accepted) accepted.parts accepted.split l info (subst (λ (ls : List LinkInfo). slice_get ls l ≡ Some info) (sym accepted.links) at_l) in
      let actors = accepted.codes.actors in
      let count = on.actors in
      (omega (arith, ends.0, actors, count), omega (arith, ends.1, actors, count))

  -- an actor in a least instant that waits for room: its reader has ended, and the word is before it
  full_enabled : (k : ℕ) (actor : Actor) (at_k : slice_get core.actors k ≡ Some actor) → actor.ended ≡ false → WaitsToPut given accepted fit reference core on k actor at_k
      → ((m : ℕ) (b : Actor) → slice_get core.actors m ≡ Some b → b.ended ≡ false → actor.instant ≤ b.instant) → SomeEnabled
  full_enabled k actor at_k runs waits least = by r.0.ended refl where
    writer : waits.info.writer ≡ k
    writer = writer_is given accepted fit reference long core on k actor at_k runs waits.within waits.step waits.at_s waits.holds waits.l waits.info waits.at_l waits.kind

    r : (a : Actor) × (slice_get core.actors waits.info.reader ≡ Some a)
    r = some_at core.actors waits.info.reader (ends_of waits.l waits.info waits.at_l).1

    earlier : r.0.instant < actor.instant
    earlier = reader_earlier given accepted fit reference core on waits.l waits.info waits.at_l actor r.0 (ap (slice_get core.actors) writer ∙ at_k) r.1 waits.step
        (subst (λ n. slice_get (code_of given.plan n).steps actor.step ≡ Some waits.step) (sym writer) waits.at_s) waits.item
        (subst (λ n. chosen_of given.plan (code_of given.plan n) reference (sent_on given.plan.links waits.l) (instant_at reference actor.instant) waits.step ≡ Some waits.item) (sym writer) waits.gives)
        (let full = waits.full in omega (arith, full, room))

    within : actor.instant ≤ given.limit
    within = waits.within

    ended : HasReason given reference core.word (code_of given.plan waits.info.reader) r.0 → SomeEnabled
    ended (inl over) = absurd (omega (arith, over, earlier, within))
    ended (inr (inl fails)) = (Look k, look_enabled k actor at_k runs (reached_onward core.word (place waits.info.reader r.0) (place k actor) fails.1 (inl earlier)))
    ended (inr (inr before)) = (Look k, look_enabled k actor at_k runs (word_onward core.word (place waits.info.reader r.0) (place k actor) before (inl earlier)))

    by : (b : Bool) → r.0.ended ≡ b → SomeEnabled
    by true is = ended (on.ended waits.info.reader r.0 r.1 is)
    by false is = absurd (omega (arith, least waits.info.reader r.0 r.1 is, earlier))

  -- an actor at a least place that waits for an item: its writer is there too, or the word is before it
  empty_enabled : (k : ℕ) (actor : Actor) (at_k : slice_get core.actors k ≡ Some actor) → actor.ended ≡ false → WaitsToTake given accepted fit reference core on k actor at_k
      → ((m : ℕ) (b : Actor) → slice_get core.actors m ≡ Some b → b.ended ≡ false → NotAfter (place k actor) (place m b)) → SomeEnabled
  empty_enabled k actor at_k runs waits least = by w.0.ended refl where
    info : LinkInfo
    info = waits.info

    now : Instant
    now = instant_at reference actor.instant

    reader : waits.info.reader ≡ k
    reader = reader_is given accepted fit reference long core on k actor at_k runs waits.within waits.step waits.at_s waits.holds waits.l waits.info waits.at_l waits.kind

    w : (a : Actor) × (slice_get core.actors waits.info.writer ≡ Some a)
    w = some_at core.actors waits.info.writer (ends_of waits.l waits.info waits.at_l).0

    cw : slice_get given.plan.codes waits.info.writer ≡ Some (code_of given.plan waits.info.writer)
    cw = coded given accepted fit reference core on waits.info.writer w.0 w.1

    ck : slice_get given.plan.codes k ≡ Some (code_of given.plan k)
    ck = coded given accepted fit reference core on k actor at_k

    d : DoesStep given.plan accepted k (code_of given.plan k) ck actor.step waits.step
    d = step_does given.plan accepted k (code_of given.plan k) ck actor.step waits.step waits.at_s

    known : IsFor (compiled_operations given.plan) (compiled_order given.plan) accepted.parts.links accepted.parts.clusters waits.info.reader d.i
    known = subst (λ n. IsFor (compiled_operations given.plan) (compiled_order given.plan) accepted.parts.links accepted.parts.clusters n d.i) (sym reader) d.known

    sending : IsSending given.plan accepted reference now waits.l waits.info waits.at_l (code_of given.plan waits.info.writer) cw d.i.position
    sending = elim waits.kind [
      | inl is ↦
          sends_item given.plan accepted reference now waits.l waits.info waits.at_l (code_of given.plan waits.info.writer) cw d.i ((reader_end given.plan accepted waits.l waits.info waits.at_l).items d.i known (sym d.kind ∙ is))
          (sym (d.guard (seen_at now)) ∙ waits.holds)
      | inr is ↦
          sends_report given.plan accepted reference now waits.l waits.info waits.at_l (code_of given.plan waits.info.writer) cw d.i ((reader_end given.plan accepted waits.l waits.info waits.at_l).reports d.i known (sym d.kind ∙ is))
    ]

    my_position : position_of (slice_get (code_of given.plan k).steps actor.step) ≡ d.i.position
    my_position = ap position_of waits.at_s ∙ d.position

    w_on : IsActorOn given.plan reference (code_of given.plan waits.info.writer) w.0
    w_on = on.each waits.info.writer w.0 w.1

    no_later : (w.0.instant < actor.instant) ⊎ ((w.0.instant ≡ actor.instant) × (w.0.step ≤ sending.t))
    no_later = writer_no_later given accepted fit reference core on waits.l waits.info waits.at_l w.0 actor w.1 (ap (slice_get core.actors) reader ∙ at_k) waits.step
        (subst (λ n. slice_get (code_of given.plan n).steps actor.step ≡ Some waits.step) (sym reader) waits.at_s) waits.item
        (subst (λ n. chosen_of given.plan (code_of given.plan n) reference (taken_from given.plan.links waits.l) now waits.step ≡ Some waits.item) (sym reader) waits.takes)
        (ap (λ (xs : List ℤ). length xs) waits.empty) sending.t sending.other sending.item sending.at sending.sends

    -- a step of the writer that is not behind the one that sends has no later position
    position_before : (s : ℕ) (step : Step) → slice_get (code_of given.plan waits.info.writer).steps s ≡ Some step → s ≤ sending.t → step.pos ≤ d.i.position
    position_before s step at le =
        let e = step_does given.plan accepted waits.info.writer (code_of given.plan waits.info.writer) cw s step at in
        let there = sending.same in
        let mine = e.position in
        elim (cases_lt s sending.t) [
          | inl lt ↦
              let rise = positions_rise (compiled_operations given.plan) (compiled_order given.plan) accepted.parts waits.info.writer accepted.order.all s sending.t e.i sending.d.i lt e.at sending.d.at in
              omega (arith, rise, there, mine)
          | inr ge ↦
              let same : s ≡ sending.t = omega (arith, le, ge) in
              let f : Some e.i ≡ Some sending.d.i = sym e.at ∙ ap (slice_get (instructions_of (compiled_operations given.plan) (compiled_order given.plan) accepted.parts waits.info.writer)) same ∙ sending.d.at in
              let one : e.i ≡ sending.d.i = cc in
              omega (arith, mine, there, ap (λ (i : Instruction). i.position) one)
        ]

    w_step : (step : Step) × (slice_get (code_of given.plan waits.info.writer).steps w.0.step ≡ Some step)
    w_step = some_at (code_of given.plan waits.info.writer).steps w.0.step w_on.step

    w_position : position_of (slice_get (code_of given.plan waits.info.writer).steps w.0.step) ≡ w_step.0.pos
    w_position = ap position_of w_step.1

    not_after : NotAfter (place waits.info.writer w.0) (place k actor)
    not_after = elim no_later [
      | inl lt ↦ inl lt
      | inr both ↦ inr (both.0, omega (arith, w_position, my_position, position_before w.0.step w_step.0 w_step.1 both.1))
    ]

    within : actor.instant ≤ given.limit
    within = waits.within

    ended : HasReason given reference core.word (code_of given.plan waits.info.writer) w.0 → SomeEnabled
    ended (inl over) = absurd (elim not_after [ inl lt ↦ omega (arith, over, lt, within) | inr both ↦ omega (arith, over, both.0, within) ])
    ended (inr (inr before)) = (Look k, look_enabled k actor at_k runs (word_onward core.word (place waits.info.writer w.0) (place k actor) before not_after))
    ended (inr (inl fails)) = (
      Look k,
      look_enabled k actor at_k runs (reached_onward core.word (place waits.info.writer w.0) (place k actor) fails.1 (elim not_after [
        | inl lt ↦ inl lt
        | inr both ↦
            let position : position_of (slice_get (code_of given.plan waits.info.writer).steps w.0.step) ≡ 2 * fails.0.at = ap (λ (p : Place). p.pos) fails.0.is in
            let strict = sending.behind fails.0.at (slice_get_within (compiled_order given.plan) fails.0.at fails.0.meets.number fails.0.meets.ordered) (omega (arith, position, my_position, both.1)) in
            inr (both.0, omega (arith, position, my_position, strict))
      ])),
    )

    -- the writer runs, so it is at the same place
    running : w.0.ended ≡ false → SomeEnabled
    running going = elim (acts_or_waits given accepted fit reference core on waits.info.writer w.0 w.1 going) [
      | inl moves ↦ (Act waits.info.writer, act_enabled waits.info.writer w.0 w.1 moves)
      | inr (inl full) ↦ full_enabled waits.info.writer w.0 w.1 going full (λ m b at_m running. omega (arith, instant, instants m b at_m running))
      | inr (inr takes) ↦
          let e = step_does given.plan accepted waits.info.writer (code_of given.plan waits.info.writer) cw w.0.step takes.step takes.at_s in
          let here : position_of (slice_get (code_of given.plan waits.info.writer).steps w.0.step) ≡ e.i.position = ap position_of takes.at_s ∙ e.position in
          absurd (sending.alone e.i e.known (omega (arith, here, positions)) takes.l (elim takes.kind [ inl is ↦ inl (sym e.kind ∙ is) | inr is ↦ inr (sym e.kind ∙ is) ]))
    ] where
      back : NotAfter (place k actor) (place waits.info.writer w.0)
      back = least waits.info.writer w.0 w.1 going

      instant : w.0.instant ≡ actor.instant
      instant = elim not_after [
        | inl lt ↦ elim back [ inl gt ↦ absurd (omega (arith, lt, gt)) | inr both ↦ absurd (omega (arith, lt, both.0)) ]
        | inr both ↦ both.0
      ]

      positions : position_of (slice_get (code_of given.plan waits.info.writer).steps w.0.step) ≡ d.i.position
      positions = elim not_after [
        | inl lt ↦ absurd (omega (arith, lt, instant))
        | inr le ↦ elim back [
          | inl gt ↦ absurd (omega (arith, gt, instant))
          | inr ge ↦ omega (arith, le.1, ge.1, my_position)
        ]
      ]

      instants : (m : ℕ) (b : Actor) → slice_get core.actors m ≡ Some b → b.ended ≡ false → actor.instant ≤ b.instant
      instants m b at_m running = elim (least m b at_m running) [ inl lt ↦ omega (arith, lt) | inr both ↦ omega (arith, both.0) ]

    by : (b : Bool) → w.0.ended ≡ b → SomeEnabled
    by true is = ended (on.ended waits.info.writer w.0 w.1 is)
    by false is = running is

  -- all have ended, or an event is enabled
  least_enabled : IsLeast place core.actors → SomeEnabled
  least_enabled l = elim (acts_or_waits given accepted fit reference core on l.k l.actor l.at l.runs) [
    | inl moves ↦ (Act l.k, act_enabled l.k l.actor l.at moves)
    | inr (inl full) ↦ full_enabled l.k l.actor l.at l.runs full (λ m b at_m running. elim (l.least m b at_m running) [ inl lt ↦ omega (arith, lt) | inr both ↦ omega (arith, both.0) ])
    | inr (inr empty) ↦ empty_enabled l.k l.actor l.at l.runs empty l.least
  ]

  pub some_enabled : (IsFinished core → ⊥) → SomeEnabled
  some_enabled unfinished = elim (some_least place core.actors) [
    | inl all ↦ absurd (unfinished (λ m a lt. all m _ (slice_get-get_or core.actors m a lt)))
    | inr l ↦ least_enabled l
  ]

-- behind every interleaving
pub after_enabled : (given : Given) → IsAccepted given.plan → AreFlowsFor given.plan.kernel given.flows → 1 ≤ given.capacity → (events : List Event) → (IsFinished (after given events) → ⊥)
    → (event : Event) × IsEnabled given (after given events) event
after_enabled given accepted fit room events =
    let r = some_reference (fitting given.plan accepted given.flows fit) (given.limit + 1) in
    let exact = r.1.instants in
    let is : IsReference given.plan.kernel given.flows (length r.0) r.0 = subst (λ n. IsReference given.plan.kernel given.flows n r.0) (sym exact) r.1 in
    let long : given.limit + 1 ≤ length r.0 = omega (arith, exact) in
    some_enabled given accepted fit r.0 long room (after given events) (after_on given accepted fit r.0 is long events)
