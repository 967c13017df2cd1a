-- Where an actor has own steps left, one of the actors can do its next one.
use Rattle.sig_settling_laws.proofs.Common.{compiled_operations, compiled_order, ◌≡◌, ◌<◌, ◌≤◌, ◌+◌, ◌⊎◌, inl, inr, ℕ, zero, suc, ℤ, true, false, List, [], ◌∷◌, length, get_or, refl, ap, sym, subst, ◌∙◌, arith, Some, slice_get, cases_lt, length-append, Instant, Trace, seen_at, Place, AreFlowsFor, Actor, code_of, next_place, position_of, Core, Given, items_on, IsActorOn, IsOnReference, instant_at, sent_on, taken_from, Puts, Takes, Turn, turn, Instruction, instructions_of, IsFor, IsAccepted, Step, StepKind, Receive, Collect, LinkInfo, positions_rise, reader_end, chosen_of, IsSending, sends_item, sends_report, DoesStep, step_does, coded, reader_earlier, writer_no_later, NotAfter, Grow, HasTurned, LeadBy, Own, AreBalanced, is_next, is_such, takes_item, slice_get_within, some_at}
use Rattle.sig_settling_laws.proofs.Amid.{CanHappen, IsAmid, ends_there}
use Rattle.sig_settling_laws.proofs.Least.{LeastLeft}
use Rattle.sig_settling_laws.proofs.OrderOfSteps.{rank_of, rank_place, takes_last}
use Rattle.sig_settling_laws.proofs.OwnItems.{lead_begins, step_runs}
use Rattle.sig_settling_laws.proofs.Tells.{IsPutting, IsTaking, Tells, turn_tells}

module _ (given : Given) (accepted : IsAccepted given.plan) (fit : AreFlowsFor given.plan.kernel given.flows) (reference : Trace) (long : given.limit + 1 ≤ length reference) (room : 1 ≤ given.capacity)
    (final : ℕ → Own) (links : List (List ℤ)) (balanced : AreBalanced given final links) (core : Core) (on : IsOnReference given reference core) (now : ℕ → Own) (more : ℕ → ℕ) (amid : IsAmid given final core now more) where
  abbrev place : ℕ → Place
  place m = next_place (code_of given.plan m) (now m).actor

  abbrev pub rank : ℕ → Place
  rank m = rank_of (code_of given.plan m) (now m).actor

  ends : (l : ℕ) (info : LinkInfo) → slice_get given.plan.links l ≡ Some info → (info.writer < length given.plan.codes) × (info.reader < length given.plan.codes)
  ends l info at_l = ends_there given accepted fit reference long final links balanced core on now more amid l info at_l

  pub record CanAct : Type 0 where
    pub k : ℕ
    pub lt : k < length given.plan.codes
    pub left : ℕ
    pub is : more k ≡ suc left
    pub can : CanHappen given core (turn given.plan given.flows given.limit k (now k).actor)
    -- no other that has a step left is of a lower rank
    pub first : (m : ℕ) → m < length given.plan.codes → ((more m ≡ 0) → ⊥) → NotAfter (rank k) (rank m)

  -- ---- an actor that has a step left

  module _ (k : ℕ) (lt : k < length given.plan.codes) (left : ℕ) (is : more k ≡ suc left) where
    abbrev pub lead : LeadBy given k (suc left) (now k) (final k)
    lead = subst (λ n. LeadBy given k n (now k) (final k)) is (amid.lead k lt)

    abbrev pub own : Own
    own = lead.0

    abbrev actor : Actor
    actor = (now k).actor

    pub runs : actor.ended ≡ false
    runs = step_runs given k (now k) own lead.1

    abbrev TurnTells : Turn → Type 0
    TurnTells t = Tells given accepted fit reference long core on k actor (amid.actors k lt) t

    tells : TurnTells (turn given.plan given.flows given.limit k actor)
    tells = turn_tells given accepted fit reference long core on k actor (amid.actors k lt) runs

    -- it waits for room on the link l
    pub record Full : Type 0 where
      pub l : ℕ
      pub putting : IsPutting given accepted fit reference long core on k actor (amid.actors k lt) l
      pub item : ℤ
      pub grow : Grow l item (now k).sent own.sent
      pub full : given.capacity ≤ length (items_on core l)

    -- it waits for an item of the link l
    pub record Starving : Type 0 where
      pub l : ℕ
      pub taking : IsTaking given accepted fit reference long core on k actor (amid.actors k lt) l
      pub item : ℤ
      pub grow : Grow l item (now k).taken own.taken
      pub empty : items_on core l ≡ []

    sort : (t : Turn) → TurnTells t → HasTurned t (now k) own → CanHappen given core t ⊎ (Full ⊎ Starving)
    sort (Puts l item next) told has = elim (cases_lt (length (items_on core l)) given.capacity) [
      | inl less ↦ inl less
      | inr full ↦ inr (inl (record { l = l; putting = told; item = item; grow = has.1.0; full = full }))
    ]
    sort (Takes l next) told has = by (items_on core l) refl where
      by : (xs : List ℤ) → items_on core l ≡ xs → (1 ≤ length (items_on core l)) ⊎ (Full ⊎ Starving)
      by [] empty = inr (inr (record { l = l; taking = told; item = has.0; grow = has.2.1; empty = empty }))
      by (x ∷ xs) is_there = let count : length (items_on core l) ≡ suc (length xs) = ap (λ (ys : List ℤ). length ys) is_there in inl (omega (arith, count))
    sort _ told has = inl tt

    pub sorted : CanHappen given core (turn given.plan given.flows given.limit k actor) ⊎ (Full ⊎ Starving)
    sorted = sort (turn given.plan given.flows given.limit k actor) tells lead.1

    -- room is never wanting to an actor in a least instant
    never_full : Full → ((m : ℕ) → m < length given.plan.codes → ((more m ≡ 0) → ⊥) → actor.instant ≤ (now m).actor.instant) → ⊥
    never_full full least = by (more r) refl where
      l : ℕ
      l = full.l

      p : IsPutting given accepted fit reference long core on k actor (amid.actors k lt) l
      p = full.putting

      r : ℕ
      r = p.info.reader

      r_lt : r < length given.plan.codes
      r_lt = (ends l p.info p.at_l).1

      earlier : (now r).actor.instant < actor.instant
      earlier = reader_earlier given accepted fit reference core on l p.info p.at_l actor (now r).actor (ap (slice_get core.actors) p.writer ∙ amid.actors k lt) (amid.actors r r_lt) p.step
          (subst (λ n. slice_get (code_of given.plan n).steps actor.step ≡ Some p.step) (sym p.writer) p.at_s) p.item
          (subst (λ n. chosen_of given.plan (code_of given.plan n) reference (sent_on given.plan.links l) (instant_at reference actor.instant) p.step ≡ Some p.item) (sym p.writer) p.gives)
          (let there = full.full in omega (arith, there, room))

      by : (n : ℕ) → more r ≡ n → ⊥
      by (suc n) some = let le = least r r_lt (λ none. let clash : suc n ≡ 0 = sym some ∙ none in omega (arith, clash)) in omega (arith, le, earlier)
      by zero none =
          let done : now r ≡ final r = subst (λ n. LeadBy given r n (now r) (final r)) none (amid.lead r r_lt) in
          let mine = (lead_begins given k left own (final k) lead.2).0 l in
          let one : length ((final k).sent l) ≡ length (own.sent l) + length mine.0 = ap (λ (xs : List ℤ). length xs) mine.1 ∙ length-append (own.sent l) mine.0 in
          let two : length (own.sent l) ≡ length ((now k).sent l) + 1 = ap (λ (xs : List ℤ). length xs) full.grow.here ∙ length-append ((now k).sent l) (full.item ∷ []) in
          let three : length ((now k).sent l) ≡ length ((now r).taken l) + length (items_on core l) = ap (λ i. length ((now i).sent l)) (sym p.writer) ∙ ap (λ (xs : List ℤ). length xs) (amid.items l p.info p.at_l) ∙ length-append ((now r).taken l) (items_on core l) in
          let four : length ((final k).sent l) ≡ length ((final r).taken l) + length (get_or links l []) = ap (λ i. length ((final i).sent l)) (sym p.writer) ∙ ap (λ (xs : List ℤ). length xs) (balanced.balance l p.info p.at_l) ∙ length-append ((final r).taken l) (get_or links l []) in
          let five : length ((now r).taken l) ≡ length ((final r).taken l) = ap (λ (o : Own). length (o.taken l)) done in
          let there : l < length links = let a = balanced.count in let b = on.links in omega (arith, link_below, a) in
          let held = balanced.room l there in
          let more_there = full.full in
          omega (arith, one, two, three, four, five, held, more_there) where
            link_below : l < length given.plan.links
            link_below = slice_get_within given.plan.links l p.info p.at_l

  -- ---- an actor of a least rank waits for no item: its writer would be at the same place, and of a lower rank

  module _ (k : ℕ) (lt : k < length given.plan.codes) (left : ℕ) (is : more k ≡ suc left) (starving : Starving k lt left is)
      (least : (m : ℕ) → m < length given.plan.codes → ((more m ≡ 0) → ⊥) → NotAfter (rank k) (rank m)) where
    abbrev l : ℕ
    l = starving.l

    abbrev me : Actor
    me = (now k).actor

    abbrev p : IsTaking given accepted fit reference long core on k me (amid.actors k lt) l
    p = starving.taking

    abbrev info : LinkInfo
    info = p.info

    abbrev w : ℕ
    w = info.writer

    abbrev writer : Actor
    writer = (now w).actor

    abbrev instant : Instant
    instant = instant_at reference me.instant

    w_lt : w < length given.plan.codes
    w_lt = (ends l info p.at_l).0

    at_w : slice_get core.actors w ≡ Some writer
    at_w = amid.actors w w_lt

    cw : slice_get given.plan.codes w ≡ Some (code_of given.plan w)
    cw = coded given accepted fit reference core on w writer at_w

    ck : slice_get given.plan.codes k ≡ Some (code_of given.plan k)
    ck = coded given accepted fit reference core on k me (amid.actors k lt)

    d : DoesStep given.plan accepted k (code_of given.plan k) ck me.step p.step
    d = step_does given.plan accepted k (code_of given.plan k) ck me.step p.step p.at_s

    known : IsFor (compiled_operations given.plan) (compiled_order given.plan) accepted.parts.links accepted.parts.clusters info.reader d.i
    known = subst (λ n. IsFor (compiled_operations given.plan) (compiled_order given.plan) accepted.parts.links accepted.parts.clusters n d.i) (sym p.reader) d.known

    sending : IsSending given.plan accepted reference instant l info p.at_l (code_of given.plan w) cw d.i.position
    sending = elim p.kind [
      | inl is_receive ↦
          sends_item given.plan accepted reference instant l info p.at_l (code_of given.plan w) cw d.i ((reader_end given.plan accepted l info p.at_l).items d.i known (sym d.kind ∙ is_receive))
          (sym (d.guard (seen_at instant)) ∙ p.holds)
      | inr is_collect ↦
          sends_report given.plan accepted reference instant l info p.at_l (code_of given.plan w) cw d.i ((reader_end given.plan accepted l info p.at_l).reports d.i known (sym d.kind ∙ is_collect))
    ]

    my_position : position_of (slice_get (code_of given.plan k).steps me.step) ≡ d.i.position
    my_position = ap position_of p.at_s ∙ d.position

    w_on : IsActorOn given.plan reference (code_of given.plan w) writer
    w_on = on.each w writer at_w

    writer_no_further : (writer.instant < me.instant) ⊎ ((writer.instant ≡ me.instant) × (writer.step ≤ sending.t))
    writer_no_further = writer_no_later given accepted fit reference core on l info p.at_l writer me at_w (ap (slice_get core.actors) p.reader ∙ amid.actors k lt) p.step
        (subst (λ n. slice_get (code_of given.plan n).steps me.step ≡ Some p.step) (sym p.reader) p.at_s) p.item
        (subst (λ n. chosen_of given.plan (code_of given.plan n) reference (taken_from given.plan.links l) instant p.step ≡ Some p.item) (sym p.reader) p.takes)
        (ap (λ (xs : List ℤ). length xs) starving.empty) sending.t sending.other sending.item sending.at sending.sends

    -- a step of the writer that is not behind the one that sends has no later position
    position_before : (s : ℕ) (step : Step) → slice_get (code_of given.plan w).steps s ≡ Some step → s ≤ sending.t → step.pos ≤ d.i.position
    position_before s step at le =
        let e = step_does given.plan accepted w (code_of given.plan w) cw s step at in
        let there = sending.same in
        let mine = e.position in
        elim (cases_lt s sending.t) [
          | inl before ↦
              let rise = positions_rise (compiled_operations given.plan) (compiled_order given.plan) accepted.parts w accepted.order.all s sending.t e.i sending.d.i before e.at sending.d.at in
              omega (arith, rise, there, mine)
          | inr ge ↦
              let same : s ≡ sending.t = omega (arith, le, ge) in
              let f : Some e.i ≡ Some sending.d.i = sym e.at ∙ ap (slice_get (instructions_of (compiled_operations given.plan) (compiled_order given.plan) accepted.parts w)) same ∙ sending.d.at in
              let one : e.i ≡ sending.d.i = cc in
              omega (arith, mine, there, ap (λ (i : Instruction). i.position) one)
        ]

    w_step : (step : Step) × (slice_get (code_of given.plan w).steps writer.step ≡ Some step)
    w_step = some_at (code_of given.plan w).steps writer.step w_on.step

    w_position : position_of (slice_get (code_of given.plan w).steps writer.step) ≡ w_step.0.pos
    w_position = ap position_of w_step.1

    not_after : NotAfter (place w) (place k)
    not_after = elim writer_no_further [
      | inl before ↦ inl before
      | inr both ↦ inr (both.0, omega (arith, w_position, my_position, position_before writer.step w_step.0 w_step.1 both.1))
    ]

    -- the writer has not done all its own steps
    writer_left : more w ≡ 0 → ⊥
    writer_left none =
        let done : now w ≡ final w = subst (λ n. LeadBy given w n (now w) (final w)) none (amid.lead w w_lt) in
        let path = lead k lt left is in
        let mine = (lead_begins given k left path.0 (final k) path.2).1 l in
        let one : length ((final k).taken l) ≡ length (path.0.taken l) + length mine.0 = ap (λ (xs : List ℤ). length xs) mine.1 ∙ length-append (path.0.taken l) mine.0 in
        let two : length (path.0.taken l) ≡ length ((now k).taken l) + 1 = ap (λ (xs : List ℤ). length xs) starving.grow.here ∙ length-append ((now k).taken l) (starving.item ∷ []) in
        let three : length ((now w).sent l) ≡ length ((now k).taken l) + length (items_on core l) = ap (λ (xs : List ℤ). length xs) (amid.items l info p.at_l) ∙ length-append ((now info.reader).taken l) (items_on core l)
        ∙ ap (λ i. length ((now i).taken l) + length (items_on core l)) p.reader in
        let four : length ((final w).sent l) ≡ length ((final k).taken l) + length (get_or links l []) = ap (λ (xs : List ℤ). length xs) (balanced.balance l info p.at_l) ∙ length-append ((final info.reader).taken l) (get_or links l [])
        ∙ ap (λ i. length ((final i).taken l) + length (get_or links l [])) p.reader in
        let five : length ((now w).sent l) ≡ length ((final w).sent l) = ap (λ (o : Own). length (o.sent l)) done in
        let six : length (items_on core l) ≡ 0 = ap (λ (xs : List ℤ). length xs) starving.empty in
        omega (arith, one, two, three, four, five, six)

    back : NotAfter (place k) (place w)
    back = rank_place (code_of given.plan k) me (code_of given.plan w) writer (least w w_lt writer_left)

    same_instant : writer.instant ≡ me.instant
    same_instant = elim not_after [
      | inl before ↦ elim back [ inl gt ↦ absurd (omega (arith, before, gt)) | inr both ↦ absurd (omega (arith, before, both.0)) ]
      | inr both ↦ both.0
    ]

    same_position : position_of (slice_get (code_of given.plan w).steps writer.step) ≡ d.i.position
    same_position = elim not_after [
      | inl before ↦ absurd (omega (arith, before, same_instant))
      | inr le ↦ elim back [
        | inl gt ↦ absurd (omega (arith, gt, same_instant))
        | inr ge ↦ omega (arith, le.1, ge.1, my_position)
      ]
    ]

    i_take : is_next takes_item (code_of given.plan k) me ≡ true
    i_take = ap (is_such takes_item) p.at_s ∙ elim p.kind [ inl is_receive ↦ ap takes_item is_receive | inr is_collect ↦ ap takes_item is_collect ]

    -- the writer takes nothing at that place
    w_takes_not : is_next takes_item (code_of given.plan w) writer ≡ false
    w_takes_not = ap (is_such takes_item) w_step.1 ∙ by w_step.0.kind refl where
      e : DoesStep given.plan accepted w (code_of given.plan w) cw writer.step w_step.0
      e = step_does given.plan accepted w (code_of given.plan w) cw writer.step w_step.0 w_step.1

      here : e.i.position ≡ d.i.position
      here = let mine = e.position in omega (arith, mine, w_position, same_position)

      by : (kind : StepKind) → w_step.0.kind ≡ kind → takes_item w_step.0.kind ≡ false
      by (Receive j) is = absurd (sending.alone e.i e.known here j (inl (sym e.kind ∙ is)))
      by (Collect j) is = absurd (sending.alone e.i e.known here j (inr (sym e.kind ∙ is)))
      by _ is = ap takes_item is

    pub never_starving : ⊥
    never_starving = takes_last (code_of given.plan k) me (code_of given.plan w) writer (least w w_lt writer_left) same_instant (omega (arith, same_position, my_position)) i_take w_takes_not

  -- ---- of the actors that have a step left one of the least rank acts

  pub some_acts : LeastLeft rank more (length given.plan.codes) → CanAct
  some_acts least = elim (sorted least.k least.lt least.left least.is) [
    | inl can ↦ record { k = least.k; lt = least.lt; left = least.left; is = least.is; can = can; first = least.least }
    | inr (inl full) ↦ absurd (never_full least.k least.lt least.left least.is full
        (λ m within some. elim (least.least m within some) [ inl before ↦ omega (arith, before) | inr both ↦ omega (arith, both.0) ]))
    | inr (inr starving) ↦ absurd (never_starving least.k least.lt least.left least.is starving least.least)
  ]
