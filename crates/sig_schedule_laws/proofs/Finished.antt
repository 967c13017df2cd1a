-- Where all actors have ended, the longest trace is committed, and the word names the place of its cause.
use Rattle.sig_schedule_laws.proofs.Common.{compiled_operations, compiled_order, ◌≡◌, ◌<◌, ◌≤◌, ◌-◌, ◌+◌, ◌*◌, ◌++◌, inl, inr, ℕ, suc, ℤ, Bool, true, false, List, [], ◌∷◌, length, take, drop, refl, ap, sym, subst, ◌∙◌, arith, Contains, None, Option, Some, slice_get, option_and_then, ◌/◌, cases_lt, false_from_ne_true, map-append, take-append-drop, div-mul-add, Instant, IsLongest, IsPrefixOf, Trace, seen_at, OpId, SigId, Place, IsKernelTrace, output_text, outputs_of, seen_lines, AreFlowsFor, StopsBefore, IsFirstFault, IsOutcome, compiled, Compiled, fitting, one_either, first_cause, at_most_or, some_reference, end_at_first, one_end, form_in, Actor, code_of, guard_holds, next_place, position_of, HasFault, IsEnd, Meets, place_at, Core, Given, IsFinished, after, cause_at, cause_in, cause_of, cause_of_op, is_before, op_at, reactions_text, Faults, Gives, Outcome, outcome, HasReason, IsActorOn, IsFaulty, IsOnReference, IsWordOn, instant_at, reactions_of, sent_on, taken_from, yielded_in, IsReference, Reaction, reaction_in, Event, Instruction, instructions_of, op_id, under, IsFor, StandsAt, does, sends, receives, reports, Operation, operation_in, Writes, report_link, IsAccepted, Step, Do, Send, Receive, Report, Collect, Cause, Exhausted, Limit, Overflow, ZeroDivisor, Ended, Op, LinkInfo, cluster_under, does_there, positions_rise, operations_written, HasEnd, IsNotBefore, IsPast, IsSound, at_contained, slice_get_within, got, map_get, some_at, flat_map-append, taken_get}
use Rattle.sig_schedule_laws.proofs.Beginnings.{report_contained}
use Rattle.sig_schedule_laws.proofs.Counts.{carried_before, carried_next, carried_rises, counted, front_fewer}
use Rattle.sig_schedule_laws.proofs.ReferenceEnd.{fault_there, first_faulty, front_is, is_clean, least_faulty, none_before, of_trace, trace_is}
use Rattle.sig_schedule_laws.proofs.Ends.{nothing_from}
use Rattle.sig_schedule_laws.proofs.Faultless.{done_fault, passed_fault}
use Rattle.sig_schedule_laws.proofs.NextOnReference.{outcome_is}
use Rattle.sig_schedule_laws.proofs.Inputs.{in_kernel}
use Rattle.sig_schedule_laws.proofs.Interleavings.{after_on, after_sound}
use Rattle.sig_schedule_laws.proofs.EndsOfLinks.{reader_end, writer_end}
use Rattle.sig_schedule_laws.proofs.Lists.{none_chosen}
use Rattle.sig_schedule_laws.proofs.Moved.{chosen_of}
use Rattle.sig_schedule_laws.proofs.Steps.{DoesStep, instruction_step, step_does}
use Rattle.sig_schedule_laws.proofs.Texts.{text_is}
use Rattle.sig_schedule_laws.proofs.TurnsOnReference.{coded}
use Rattle.sig_schedule_laws.proofs.WaitsForPartner.{balance}
use Rattle.sig_schedule_laws.proofs.Words.{NotAfter, after_or_before, before_no_later, not_after_onward, reached_not_after, same_places, word_onward}

module _ (given : Given) (accepted : IsAccepted given.plan) (fit : AreFlowsFor given.plan.kernel given.flows) (reference : Trace) (exact : length reference ≡ given.limit + 1) (core : Core) (on : IsOnReference given reference core)
    (sound : IsSound given reference core) (trace : Trace) (longest : IsLongest (IsKernelTrace given.plan.kernel) given.flows given.limit trace) where
  abbrev last : ℕ
  last = length given.plan.codes - 1

  abbrev place : ℕ → Actor → Place
  place m a = next_place (code_of given.plan m) a

  long : given.limit + 1 ≤ length reference
  long = omega (arith, exact)

  reason_of : IsFinished core → (k : ℕ) (a : Actor) → slice_get core.actors k ≡ Some a → HasReason given reference core.word (code_of given.plan k) a
  reason_of finished k a at =
      let there = got core.actors k a a at in
      on.ended k a at (subst (λ (b : Actor). b.ended ≡ true) there.1 (finished k a there.0))

  pub collector : (c : Actor) × (slice_get core.actors last ≡ Some c)
  collector = let actors = accepted.codes.actors in let count = on.actors in some_at core.actors last (omega (arith, actors, count))

  -- what is committed, by the collector's instant
  committed_by : (m : ℕ) → collector.0.instant - 1 ≡ m → m ≡ length trace → core.committed ≡ reactions_of given.plan.kernel trace
  committed_by m is same = on.committed collector.0 collector.1 ∙ ap (λ n. reactions_of given.plan.kernel (take n reference)) (is ∙ same)
      ∙ ap (reactions_of given.plan.kernel) (trace_is given.plan accepted given.flows fit reference on.is given.limit long trace longest)

  -- ---- the limit is the cause

  module _ (full : length trace ≡ given.limit) where
    pub no_word : core.word ≡ None
    no_word = by core.word refl where
      by : (o : Option Place) → core.word ≡ o → core.word ≡ None
      by None is = is
      by (Some w) is =
          let within = sound.word w is in
          absurd (none_before given.plan accepted given.flows fit reference on.is given.limit long trace longest w (subst (IsWordOn given reference) is on.word) (omega (arith, within, full)))

    pub committed_full : IsFinished core → core.committed ≡ reactions_of given.plan.kernel trace
    committed_full finished = committed_by (collector.0.instant - 1) refl (omega (arith, over, full, exact, within)) where
      within : collector.0.instant ≤ length reference
      within = (on.each last collector.0 collector.1).within

      over : given.limit < collector.0.instant
      over = by (subst (λ o. HasReason given reference o (code_of given.plan last) collector.0) no_word (reason_of finished last collector.0 collector.1)) where
        by : HasReason given reference None (code_of given.plan last) collector.0 → given.limit < collector.0.instant
        by (inl past) = past
        by (inr (inl fails)) = absurd (let e : false ≡ true = fails.1 in cc)
        by (inr (inr before)) = absurd (let e : false ≡ true = before in cc)

  -- ---- a fault is the cause

  module _ (short : length trace < given.limit) (instant : Instant) (k : ℕ) (cause : Cause) (stops : StopsBefore given.plan.kernel given.flows trace instant) (first : IsFirstFault given.plan.kernel (compiled_operations given.plan) (compiled_order given.plan) given.flows trace instant k cause) where
    abbrev n : ℕ
    n = length trace + 1

    abbrev spot : Place
    spot = place_at n k

    abbrev c : Compiled given.plan.kernel given.plan.clocks.conditions (compiled_operations given.plan) (compiled_order given.plan)
    c = compiled given.plan accepted

    abbrev number : ℕ
    number = first.is.met.number

    abbrev p : Operation
    p = first.is.met.operation

    stands : StandsAt (compiled_operations given.plan) (compiled_order given.plan) k number p
    stands = record { place = first.is.met.ordered; is = first.is.met.is }

    k_within : k < length (compiled_operations given.plan)
    k_within = let full = accepted.order.all in omega (arith, slice_get_within (compiled_order given.plan) k number first.is.met.ordered, full)

    writes_of : (why : Cause) → Meets p why → HasFault given.plan.kernel given.flows trace instant why → (x : SigId) × Writes p x
    writes_of (Exhausted x) meets fault = (x, ((one_either given.plan.kernel c.has.presence p (in_kernel given.plan accepted number p first.is.met.is)).0 x meets).0)
    writes_of (Overflow e) meets fault =
        let d = fault.0 in
        (d.target, ((one_either given.plan.kernel c.has.presence p (in_kernel given.plan accepted number p first.is.met.is)).1 e d.target d.function d.operands meets.0 meets.1 (ap form_in d.is ∙ ap Some d.form)).0)
    writes_of (ZeroDivisor e) meets fault =
        let d = fault.0 in
        (d.target, ((one_either given.plan.kernel c.has.presence p (in_kernel given.plan accepted number p first.is.met.is)).1 e d.target d.function d.operands meets.0 meets.1 (ap form_in d.is ∙ ap Some d.form)).0)
    writes_of Limit meets fault = absurd meets

    owner_within : p.cluster < accepted.parts.clusters
    owner_within =
        let w = writes_of cause first.is.met.meets first.is.fault in
        let owner = (operations_written given.plan.kernel c.has.presence (compiled_operations given.plan) c.valid c.has.are).owner p w.0 (number, first.is.met.is) w.1 in
        let under = cluster_under 1 given.plan.kernel.signals w.0.0 owner.0 owner.1 in
        let count = accepted.split.clusters in
        omega (arith, under, owner.2, count)

    abbrev m : ℕ
    m = p.cluster

    a : (b : Actor) × (slice_get core.actors m ≡ Some b)
    a = let actors = accepted.codes.actors in let count = on.actors in some_at core.actors m (omega (arith, owner_within, actors, count))

    cm : slice_get given.plan.codes m ≡ Some (code_of given.plan m)
    cm = coded given accepted fit reference core on m a.0 a.1

    a_on : IsActorOn given.plan reference (code_of given.plan m) a.0
    a_on = on.each m a.0 a.1

    abbrev it : Instruction
    it = under p (Do (op_id number)) (2 * k)

    abbrev all : List Instruction
    all = instructions_of (compiled_operations given.plan) (compiled_order given.plan) accepted.parts m

    record IsAtFault : Type 0 where
      s : ℕ
      step : Step
      at : slice_get (code_of given.plan m).steps s ≡ Some step
      d : DoesStep given.plan accepted m (code_of given.plan m) cm s step
      same : d.i ≡ it

    fault_step : IsAtFault
    fault_step =
        let there = instruction_step given.plan accepted m (code_of given.plan m) cm it (does_there (compiled_operations given.plan) (compiled_order given.plan) accepted.parts m k number p stands refl) in
        record { s = there.0; step = there.1; at = there.2; d = there.3; same = there.4 }

    -- the owner is not past its fault
    not_past : IsPast n fault_step.s a.0 → ⊥
    not_past past =
        let kind : fault_step.step.kind ≡ Do (op_id number) = fault_step.d.kind ∙ ap (λ (i : Instruction). i.kind) fault_step.same in
        let position : fault_step.step.pos ≡ 2 * k = fault_step.d.position ∙ ap (λ (i : Instruction). i.position) fault_step.same in
        sound.actors m a.0 a.1 n fault_step.s fault_step.step (op_id number) fault_step.at kind past
        (subst (λ q. IsFaulty given.plan given.flows reference (record { instant = n; pos = q })) (sym position) (first_faulty given.plan accepted given.flows fit reference on.is given.limit long trace longest short instant k cause stops first))

    a_step : (step : Step) × (slice_get (code_of given.plan m).steps a.0.step ≡ Some step)
    a_step = some_at (code_of given.plan m).steps a.0.step a_on.step

    a_does : DoesStep given.plan accepted m (code_of given.plan m) cm a.0.step a_step.0
    a_does = step_does given.plan accepted m (code_of given.plan m) cm a.0.step a_step.0 a_step.1

    a_position : position_of (slice_get (code_of given.plan m).steps a.0.step) ≡ a_does.i.position
    a_position = ap position_of a_step.1 ∙ a_does.position

    fault_position : fault_step.d.i.position ≡ 2 * k
    fault_position = ap (λ (i : Instruction). i.position) fault_step.same

    position_before : a.0.step ≤ fault_step.s → a_does.i.position ≤ 2 * k
    position_before le = elim (cases_lt a.0.step fault_step.s) [
      | inl lt ↦
          let rise = positions_rise (compiled_operations given.plan) (compiled_order given.plan) accepted.parts m accepted.order.all a.0.step fault_step.s a_does.i fault_step.d.i lt a_does.at fault_step.d.at in
          omega (arith, rise, fault_position)
      | inr ge ↦
          let same : a.0.step ≡ fault_step.s = omega (arith, le, ge) in
          let e : Some a_does.i ≡ Some fault_step.d.i = sym a_does.at ∙ ap (slice_get all) same ∙ fault_step.d.at in
          let one : a_does.i ≡ fault_step.d.i = cc in
          omega (arith, fault_position, ap (λ (i : Instruction). i.position) one)
    ]

    not_after : NotAfter (place m a.0) spot
    not_after = elim (at_most_or a.0.instant n) [
      | inr gt ↦ absurd (not_past (inl gt))
      | inl le ↦ elim (at_most_or n a.0.instant) [
        | inr lt ↦ inl lt
        | inl ge ↦
            let same : n ≡ a.0.instant = omega (arith, le, ge) in
            elim (at_most_or a.0.step fault_step.s) [
              | inl before ↦ inr (sym same, omega (arith, a_position, position_before before))
              | inr behind ↦ absurd (not_past (inr (same, behind)))
            ]
      ]
    ]

    in_time : a.0.instant ≤ n
    in_time = elim not_after [ inl lt ↦ omega (arith, lt) | inr both ↦ omega (arith, both.0) ]

    least : (q : Place) → IsFaulty given.plan given.flows reference q → NotAfter spot q
    least = least_faulty given.plan accepted given.flows fit reference on.is given.limit long trace longest short instant k cause stops first

    -- ---- what is committed

    report : Contains accepted.parts.links (report_link accepted.parts.clusters m)
    report = report_contained given.plan accepted m owner_within

    abbrev l : ℕ
    l = report.0

    abbrev info : LinkInfo
    info = report_link accepted.parts.clusters m

    at_l : slice_get given.plan.links l ≡ Some info
    at_l = subst (λ (ls : List LinkInfo). slice_get ls l ≡ Some info) accepted.links (at_contained accepted.parts.links info report)

    -- the owner has not reported the instant of its fault
    none_reported : n ≡ a.0.instant → yielded_in given.plan (code_of given.plan m) (sent_on given.plan.links l) (instant_at reference a.0.instant) (take a.0.step (code_of given.plan m).steps) ≡ []
    none_reported here = none_chosen (chosen_of given.plan (code_of given.plan m) reference (sent_on given.plan.links l) now) (take a.0.step (code_of given.plan m).steps) (λ i b at_i.
        let there = taken_get a.0.step (code_of given.plan m).steps i b at_i in
        let d = step_does given.plan accepted m (code_of given.plan m) cm i b there.1 in
        let end = writer_end given.plan accepted l info at_l in
        nothing_from (guard_holds given.plan (code_of given.plan m) (seen_at now) b) (sent_on given.plan.links l now b.kind) (λ v g y.
        elim (end.only now b.kind v y) [
          | inl item ↦ let found = end.items d.i d.known (sym d.kind ∙ item) in let e : None ≡ Some found.x = found.carries in cc
          | inr mark ↦
              let found = end.reports d.i d.known (sym d.kind ∙ mark) in
              let position : d.i.position ≡ 2 * length (compiled_operations given.plan) = ap (λ (z : Instruction). z.position) found.1 in
              let rise = positions_rise (compiled_operations given.plan) (compiled_order given.plan) accepted.parts m accepted.order.all i a.0.step d.i a_does.i there.0 d.at a_does.at in
              omega (arith, position, rise, low, k_within)
        ])) where
          now : Instant
          now = instant_at reference a.0.instant

          low : a_does.i.position ≤ 2 * k
          low = elim (at_most_or a.0.step fault_step.s) [ inl le ↦ position_before le | inr gt ↦ absurd (not_past (inr (here, gt))) ]

    -- so the collector has not gone past it
    pub no_later : collector.0.instant ≤ n
    no_later = elim (at_most_or collector.0.instant n) [ inl le ↦ le | inr gt ↦ absurd (beyond gt) ] where
      at_r : slice_get core.actors accepted.parts.clusters ≡ Some collector.0
      at_r = let actors = accepted.codes.actors in let same : accepted.parts.clusters ≡ last = omega (arith, actors) in ap (slice_get core.actors) same ∙ collector.1

      cr : slice_get given.plan.codes accepted.parts.clusters ≡ Some (code_of given.plan accepted.parts.clusters)
      cr = coded given accepted fit reference core on accepted.parts.clusters collector.0 at_r

      r_on : IsActorOn given.plan reference (code_of given.plan accepted.parts.clusters) collector.0
      r_on = on.each accepted.parts.clusters collector.0 at_r

      few : carried_before given.plan accepted given.flows fit reference on.is l info at_l a.0.instant
          + length (yielded_in given.plan (code_of given.plan m) (sent_on given.plan.links l) (instant_at reference a.0.instant) (take a.0.step (code_of given.plan m).steps)) ≤ carried_before given.plan accepted given.flows fit reference on.is l info at_l n
      few = elim (at_most_or n a.0.instant) [
        | inl ge ↦
            let here : n ≡ a.0.instant = omega (arith, ge, in_time) in
            let none : length (yielded_in given.plan (code_of given.plan m) (sent_on given.plan.links l) (instant_at reference a.0.instant) (take a.0.step (code_of given.plan m).steps)) ≡ 0 = ap (λ (xs : List ℤ). length xs) (none_reported here) in
            let rise = carried_rises given.plan accepted given.flows fit reference on.is l info at_l a.0.instant n in_time in
            omega (arith, none, rise)
        | inr lt ↦
            let most = front_fewer given.plan accepted given.flows fit reference on.is l info at_l m (code_of given.plan m) cm (sent_on given.plan.links l) (Send l) (Report l) (writer_end given.plan accepted l info at_l) a.0.instant a_on.from a_on.within a.0.step in
            let more = carried_next given.plan accepted given.flows fit reference on.is l info at_l a.0.instant a_on.from a_on.within in
            let rise = carried_rises given.plan accepted given.flows fit reference on.is l info at_l (a.0.instant + 1) n (omega (arith, lt)) in
            omega (arith, most, more, rise)
      ]

      beyond : n < collector.0.instant → ⊥
      beyond gt =
          let theirs = counted given.plan accepted given.flows fit reference on.is l info at_l m (code_of given.plan m) cm (sent_on given.plan.links l) (Send l) (Report l) (writer_end given.plan accepted l info at_l) a.0.instant a_on.from a_on.within a.0.step in
          let mine = counted given.plan accepted given.flows fit reference on.is l info at_l accepted.parts.clusters (code_of given.plan accepted.parts.clusters) cr (taken_from given.plan.links l) (Receive l) (Collect l) (reader_end given.plan accepted l info at_l)
          collector.0.instant r_on.from r_on.within collector.0.step in
          let even = balance given accepted fit reference core on l info at_l a.0 collector.0 a.1 at_r in
          let more = carried_next given.plan accepted given.flows fit reference on.is l info at_l n (omega arith) (omega (arith, short, long)) in
          let rise = carried_rises given.plan accepted given.flows fit reference on.is l info at_l (n + 1) collector.0.instant (omega (arith, gt)) in
          omega (arith, theirs, few, mine, even, more, rise)

    -- ---- where all actors have ended

    module _ (finished : IsFinished core) where
      -- the word is the place of the fault, and the owner stands there
      stopped : (core.word ≡ Some spot) × (place m a.0 ≡ spot)
      stopped = by core.word refl where
        with_word : (w : Place) → core.word ≡ Some w → HasReason given reference (Some w) (code_of given.plan m) a.0 → (core.word ≡ Some spot) × (place m a.0 ≡ spot)
        with_word w is (inl over) = absurd (omega (arith, over, in_time, short))
        with_word w is (inr (inr before)) =
            absurd (after_or_before spot w (least w (subst (IsWordOn given reference) is on.word)) (word_onward (Some w) (place m a.0) spot before not_after))
        with_word w is (inr (inl fails)) =
            let here = same_places (place m a.0) spot not_after (least (place m a.0) fails.0) in
            let there = same_places w spot (not_after_onward w (place m a.0) spot (reached_not_after w (place m a.0) fails.1) not_after) (least w (subst (IsWordOn given reference) is on.word)) in
            (is ∙ ap Some there, here)

        without : HasReason given reference None (code_of given.plan m) a.0 → (core.word ≡ Some spot) × (place m a.0 ≡ spot)
        without (inl over) = absurd (omega (arith, over, in_time, short))
        without (inr (inl fails)) = absurd (let e : false ≡ true = fails.1 in cc)
        without (inr (inr before)) = absurd (let e : false ≡ true = before in cc)

        by : (o : Option Place) → core.word ≡ o → (core.word ≡ Some spot) × (place m a.0 ≡ spot)
        by None is = without (subst (λ o. HasReason given reference o (code_of given.plan m) a.0) is (reason_of finished m a.0 a.1))
        by (Some w) is = with_word w is (subst (λ o. HasReason given reference o (code_of given.plan m) a.0) is (reason_of finished m a.0 a.1))

      pub word_is : core.word ≡ Some spot
      word_is = stopped.0

      a_instant : a.0.instant ≡ n
      a_instant = ap (λ (q : Place). q.instant) stopped.1

      a_there : a_does.i.position ≡ 2 * k
      a_there = sym a_position ∙ ap (λ (q : Place). q.pos) stopped.1

      no_earlier : n ≤ collector.0.instant
      no_earlier = by (subst (λ o. HasReason given reference o (code_of given.plan last) collector.0) word_is (reason_of finished last collector.0 collector.1)) where
        by : HasReason given reference (Some spot) (code_of given.plan last) collector.0 → n ≤ collector.0.instant
        by (inl over) = omega (arith, over, short)
        by (inr (inl fails)) = elim (least (place last collector.0) fails.0) [ inl lt ↦ omega (arith, lt) | inr both ↦ omega (arith, both.0) ]
        by (inr (inr before)) = before_no_later spot (place last collector.0) before

      pub committed_short : core.committed ≡ reactions_of given.plan.kernel trace
      committed_short = committed_by (collector.0.instant - 1) refl (omega (arith, no_later, no_earlier))

      -- ---- the cause

      at_even : (i : Instruction) → IsFor (compiled_operations given.plan) (compiled_order given.plan) accepted.parts.links accepted.parts.clusters m i → i.position ≡ 2 * k → i.kind ≡ Do (op_id number)
      at_even _ (does j other q stands_q own) position =
          let same : j ≡ k = omega (arith, position) in
          let e : Some other ≡ Some number = sym stands_q.place ∙ ap (slice_get (compiled_order given.plan)) same ∙ first.is.met.ordered in
          let one : other ≡ number = cc in
          ap (λ z. Do (op_id z)) one
      at_even _ (sends j other link q stands_q own from) position = absurd (omega (arith, position))
      at_even _ (receives j other link q stands_q away from reader) position = absurd (omega (arith, position))
      at_even _ _ position = absurd (omega (arith, position, k_within))

      a_kind : a_step.0.kind ≡ Do (op_id number)
      a_kind = a_does.kind ∙ at_even a_does.i a_does.known a_there

      made : (op : Op) × (slice_get given.plan.ops number ≡ Some op) × (operation_in given.plan.store.nodes op ≡ p)
      made = map_get (operation_in given.plan.store.nodes) given.plan.ops number p first.is.met.is

      met_by : (why : Cause) → Meets p why → Meets (operation_in given.plan.store.nodes made.0) why
      met_by why = subst (λ (q : Operation). Meets q why) (sym made.2)

      abbrev past : Trace
      past = take (a.0.instant - 1) reference

      abbrev now : Instant
      now = instant_at reference a.0.instant

      fault_now : HasFault given.plan.kernel given.flows past now cause
      fault_now = subst (λ i. HasFault given.plan.kernel given.flows (take (i - 1) reference) (instant_at reference i) cause) (sym a_instant) (fault_there given.plan accepted given.flows fit reference on.is given.limit long trace longest short instant k cause stops first)

      holds : guard_holds given.plan (code_of given.plan m) (seen_at now) a_step.0 ≡ true
      holds = by (guard_holds given.plan (code_of given.plan m) (seen_at now) a_step.0) refl where
        by : (b : Bool) → guard_holds given.plan (code_of given.plan m) (seen_at now) a_step.0 ≡ b → guard_holds given.plan (code_of given.plan m) (seen_at now) a_step.0 ≡ true
        by true is = is
        by false is = absurd (passed_fault given.plan accepted given.flows fit reference on.is m (code_of given.plan m) cm a.0 a_on a_step.0 a_step.1 (op_id number) made.0 a_kind made.1 is (sound.actors m a.0 a.1) cause (met_by cause first.is.met.meets) fault_now)

      -- the operation has no value, for the cause that is named
      module _ (ended : Ended) (end : IsEnd given.plan given.flows given.limit trace (Some spot) ended) where
        named : (r : Outcome) → outcome given.plan.kernel given.flows a.0 made.0 ≡ r → cause_in r ≡ ended.cause
        named (Gives v) is = absurd (done_fault given.plan accepted given.flows fit reference on.is m (code_of given.plan m) cm a.0 a_on a_step.0 a_step.1 (op_id number) made.0 a_kind made.1 holds v is cause (met_by cause first.is.met.meets) fault_now)
        named (Faults why) is =
            let both : Meets (operation_in given.plan.store.nodes made.0) why × HasFault given.plan.kernel given.flows past now why =
            subst (IsOutcome given.plan.kernel given.flows past now (operation_in given.plan.store.nodes made.0)) is (outcome_is given.plan accepted given.flows fit reference on.is m (code_of given.plan m) cm a.0 a_on a_step.0 a_step.1 holds (op_id number) made.0 a_kind made.1) in
            let fault : HasFault given.plan.kernel given.flows trace instant why =
            of_trace given.plan accepted given.flows fit reference on.is given.limit long trace longest short instant k cause stops first why
            (subst (λ i. HasFault given.plan.kernel given.flows (take (i - 1) reference) (instant_at reference i) why) a_instant both.1) in
            let also : IsFirstFault given.plan.kernel (compiled_operations given.plan) (compiled_order given.plan) given.flows trace instant k why = record {
              is = record {
                met = record { number = number; ordered = first.is.met.ordered; operation = p; is = first.is.met.is; meets = subst (λ (q : Operation). Meets q why) made.2 both.0 };
                fault = fault;
              };
              first = first.first;
            } in
            let next : IsReference given.plan.kernel given.flows (suc (length trace)) (trace ++ instant ∷ []) = subst (λ i. IsReference given.plan.kernel given.flows i (trace ++ instant ∷ [])) (omega arith) stops.next in
            let it_ends : IsEnd given.plan given.flows given.limit trace (Some spot) (record { instants = length trace; cause = why }) = record {
              longest = longest;
              instants = refl;
              cause = (short, first_cause given.plan.kernel given.plan.clocks.conditions (compiled_operations given.plan) (compiled_order given.plan) c given.flows (fitting given.plan accepted given.flows fit) trace (is_clean given.plan accepted given.flows fit reference on.is given.limit long trace longest) instant next k why also);
            } in
            ap (λ (e : Ended). e.cause) (one_end given.plan accepted given.flows fit given.limit trace trace (Some spot) (Some spot) (record { instants = length trace; cause = why }) ended it_ends end).2

        op_there : op_at given.plan spot.pos ≡ Some made.0
        op_there =
            let half : 2 * k / 2 ≡ k = (let turned : 2 * k ≡ k * 2 + 0 = omega arith in ap (λ i. i / 2) turned ∙ div-mul-add k 2 0 (omega arith)) in
            let id = map_get (λ (o : OpId). o.0) given.plan.order k number first.is.met.ordered in
            ap (λ i. option_and_then (λ (o : OpId). slice_get given.plan.ops o.0) (slice_get given.plan.order i)) half
            ∙ ap (λ (o : Option OpId). option_and_then (λ (z : OpId). slice_get given.plan.ops z.0) o) id.1 ∙ ap (slice_get given.plan.ops) id.2 ∙ made.1

        pub cause_is : cause_of given.plan given.flows core core.word ≡ ended.cause
        cause_is =
            let actor : made.0.actor ≡ m = ap (λ (q : Operation). q.cluster) made.2 in
            ap (cause_of given.plan given.flows core) word_is ∙ ap (cause_of_op given.plan given.flows core) op_there
            ∙ ap (cause_at given.plan given.flows made.0) (ap (slice_get core.actors) actor ∙ a.1) ∙ named (outcome given.plan.kernel given.flows a.0 made.0) refl

-- ---- what holds of every state

module _ (given : Given) (accepted : IsAccepted given.plan) (fit : AreFlowsFor given.plan.kernel given.flows) (reference : Trace) (exact : length reference ≡ given.limit + 1) (core : Core) (on : IsOnReference given reference core)
    (sound : IsSound given reference core) (trace : Trace) where
  -- the collector has not gone past the instant behind the longest trace
  collector_within : (place : Option Place) (ended : Ended) (end : IsEnd given.plan given.flows given.limit trace place ended) → (collector given accepted fit reference exact core on sound trace end.longest).0.instant ≤ length trace + 1
  collector_within None ended end =
      let there = collector given accepted fit reference exact core on sound trace end.longest in
      let within = (on.each (length given.plan.codes - 1) there.0 there.1).within in
      omega (arith, within, exact, end.cause.0)
  collector_within (Some place) ended end =
      let s = end_at_first given.plan accepted given.flows fit given.limit trace place ended end in
      no_later given accepted fit reference exact core on sound trace end.longest end.cause.0 s.0 s.1 ended.cause s.2 s.3

  pub reactions_begin : (place : Option Place) (ended : Ended) → IsEnd given.plan given.flows given.limit trace place ended → IsPrefixOf core.committed (reactions_of given.plan.kernel trace)
  reactions_begin place ended end =
      let there = collector given accepted fit reference exact core on sound trace end.longest in
      let i = there.0.instant - 1 in
      let few = collector_within place ended end in
      let long : given.limit + 1 ≤ length reference = omega (arith, exact) in
      let front = front_is given.plan accepted given.flows fit reference on.is given.limit long trace end.longest i (omega (arith, few)) in (
        reactions_of given.plan.kernel (drop i trace),
        ap (reactions_of given.plan.kernel) (sym (take-append-drop i trace))
            ∙ map-append (λ (instant : Instant). reaction_in given.plan.kernel (seen_at instant)) (take i trace) (drop i trace)
            ∙ ap (λ (rs : List Reaction). rs ++ reactions_of given.plan.kernel (drop i trace)) (sym (on.committed there.0 there.1 ∙ ap (reactions_of given.plan.kernel) front)),
      )

  pub text_begins : (place : Option Place) (ended : Ended) → IsEnd given.plan given.flows given.limit trace place ended → IsPrefixOf (reactions_text given.plan.kernel core.committed) (output_text given.plan.kernel trace)
  text_begins place ended end =
      let begins = reactions_begin place ended end in (
        reactions_text given.plan.kernel begins.0,
        sym (text_is given.plan.kernel accepted.valid trace) ∙ ap (reactions_text given.plan.kernel) begins.1
            ∙ flat_map-append (λ (reaction : Reaction). seen_lines (outputs_of given.plan.kernel) reaction) core.committed begins.0,
      )

  -- no place before that of the named cause is recorded, and none at all where the limit is the cause
  pub word_not_before : (place : Option Place) (ended : Ended) → IsEnd given.plan given.flows given.limit trace place ended → IsNotBefore place core.word
  word_not_before None ended end = no_word given accepted fit reference exact core on sound trace end.longest end.cause.0
  word_not_before (Some place) ended end = λ w is.
      let s = end_at_first given.plan accepted given.flows fit given.limit trace place ended end in
      let long : given.limit + 1 ≤ length reference = omega (arith, exact) in
      let least = least_faulty given.plan accepted given.flows fit reference on.is given.limit long trace end.longest end.cause.0 s.0 s.1 ended.cause s.2 s.3 w (subst (IsWordOn given reference) is on.word) in
      false_from_ne_true (is_before w place) (λ before. after_or_before (place_at (length trace + 1) s.1) w least (subst (λ (q : Place). is_before w q ≡ true) s.4 before))

-- ---- the end of a run

pub finished_has_end : (given : Given) → IsAccepted given.plan → AreFlowsFor given.plan.kernel given.flows → (reference : Trace) → length reference ≡ given.limit + 1 → (core : Core) → IsOnReference given reference core
    → IsSound given reference core → IsFinished core → (trace : Trace) (place : Option Place) (ended : Ended) → IsEnd given.plan given.flows given.limit trace place ended → HasEnd given core trace place ended
finished_has_end given accepted fit reference exact core on sound finished trace None ended end = record {
  committed = committed_full given accepted fit reference exact core on sound trace end.longest end.cause.0 finished;
  word = no_word given accepted fit reference exact core on sound trace end.longest end.cause.0;
  cause = ap (cause_of given.plan given.flows core) (no_word given accepted fit reference exact core on sound trace end.longest end.cause.0) ∙ sym end.cause.1;
}
finished_has_end given accepted fit reference exact core on sound finished trace (Some place) ended end =
    let s = end_at_first given.plan accepted given.flows fit given.limit trace place ended end in
    record {
      committed = committed_short given accepted fit reference exact core on sound trace end.longest end.cause.0 s.0 s.1 ended.cause s.2 s.3 finished;
      word = word_is given accepted fit reference exact core on sound trace end.longest end.cause.0 s.0 s.1 ended.cause s.2 s.3 finished ∙ ap Some (sym s.4);
      cause = cause_is given accepted fit reference exact core on sound trace end.longest end.cause.0 s.0 s.1 ended.cause s.2 s.3 finished ended
          (subst (λ (q : Place). IsEnd given.plan given.flows given.limit trace (Some q) ended) s.4 end);
    }

-- every interleaving that all actors end has the end of the run
pub after_has_end : (given : Given) → IsAccepted given.plan → AreFlowsFor given.plan.kernel given.flows → (events : List Event) → IsFinished (after given events)
    → (trace : Trace) (place : Option Place) (ended : Ended) → IsEnd given.plan given.flows given.limit trace place ended → HasEnd given (after given events) trace place ended
after_has_end given accepted fit events finished =
    let r = some_reference (fitting given.plan accepted given.flows fit) (given.limit + 1) in
    let exact = r.1.instants in
    let is : IsReference given.plan.kernel given.flows (length r.0) r.0 = subst (λ n. IsReference given.plan.kernel given.flows n r.0) (sym exact) r.1 in
    let long : given.limit + 1 ≤ length r.0 = omega (arith, exact) in
    finished_has_end given accepted fit r.0 exact (after given events) (after_on given accepted fit r.0 is long events) (after_sound given accepted fit r.0 is long events) finished

-- and what each state of an interleaving has
pub after_begins : (given : Given) → IsAccepted given.plan → AreFlowsFor given.plan.kernel given.flows → (events : List Event)
    → (trace : Trace) (place : Option Place) (ended : Ended) → IsEnd given.plan given.flows given.limit trace place ended
    → IsPrefixOf (reactions_text given.plan.kernel (after given events).committed) (output_text given.plan.kernel trace) × IsNotBefore place (after given events).word
after_begins given accepted fit events trace place ended end =
    let r = some_reference (fitting given.plan accepted given.flows fit) (given.limit + 1) in
    let exact = r.1.instants in
    let is : IsReference given.plan.kernel given.flows (length r.0) r.0 = subst (λ n. IsReference given.plan.kernel given.flows n r.0) (sym exact) r.1 in
    let long : given.limit + 1 ≤ length r.0 = omega (arith, exact) in
    let on = after_on given accepted fit r.0 is long events in
    let sound = after_sound given accepted fit r.0 is long events in
    (text_begins given accepted fit r.0 exact (after given events) on sound trace place ended end, word_not_before given accepted fit r.0 exact (after given events) on sound trace place ended end)
