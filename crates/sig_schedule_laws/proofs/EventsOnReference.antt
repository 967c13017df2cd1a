-- Each event leaves a state on the reference.
use Rattle.sig_schedule_laws.proofs.Common.{compiled_operations, compiled_order, ◌≡◌, ◌<◌, ◌≤◌, ◌-◌, ◌+◌, ◌++◌, ◌⊎◌, inl, inr, ℕ, suc, ℤ, pos, Bool, true, false, cond, List, [], ◌∷◌, length, refl, ap, sym, subst, ◌∙◌, arith, Contains, None, Option, Some, is_some, nat_lt, slice_get, unwrap_or, ◌==◌, eq-eqb, ltb-false, ltb-true, ne_eqb, Instant, IsPrefixOf, Seen, Trace, seen_at, OpId, SigId, signal_id, AreFlowsFor, where_some, Actor, code_of, ended_at, guard_holds, moved_on, next_place, truths_of, Core, Given, acted, items_on, looked, stepped, take_first, turned, with_actor, with_items, word_before, Faults, Gives, Outcome, operated, outcome, IsActorOn, IsOnReference, Yield, fills, instant_at, read_at, sent_on, stored_at, taken_from, yielded_before, AtLimit, Goes, Stopped, carried, item_of, reaction_in, received, turn, turn_at, turn_by, turn_of_op, turn_with, Event, Act, Look, CodeView, Instruction, instructions_of, IsFor, NamesWithin, IsAccepted, Step, StepKind, Do, Send, Receive, Report, Collect, Commit, Op, LinkInfo, plan_operations, ends_within, one_reader, one_writer, step_names, contains_at, some_at}
use Rattle.sig_schedule_laws.proofs.Amid.{guard_known, next_now, outputs_known, sent_known}
use Rattle.sig_schedule_laws.proofs.Coded.{actor_coded}
use Rattle.sig_schedule_laws.proofs.CollectorCommits.{another_follows, commit_holds, commit_last, commits_alone, mapped_same}
use Rattle.sig_schedule_laws.proofs.Done.{done_there}
use Rattle.sig_schedule_laws.proofs.Ends.{IsItem}
use Rattle.sig_schedule_laws.proofs.NextOnReference.{behind_is, done_behind, done_chosen, faulty, kind_chosen, passed_behind, passed_chosen, quiet_behind, received_behind}
use Rattle.sig_schedule_laws.proofs.EndsOfLinks.{carried_is, reader_end, writer_end}
use Rattle.sig_schedule_laws.proofs.Moved.{IsBehind, chosen_of}
use Rattle.sig_schedule_laws.proofs.Prefixes.{begins_carried, carried_over, same_next}
use Rattle.sig_schedule_laws.proofs.Steps.{DoesStep, step_does}
use Rattle.sig_schedule_laws.proofs.TurnsOnReference.{actor_on, coded, commits_on, ends_on, fails_on, goes_on, puts_on, takes_on}

module _ (given : Given) (accepted : IsAccepted given.plan) (fit : AreFlowsFor given.plan.kernel given.flows) (reference : Trace) (long : given.limit + 1 ≤ length reference) (core : Core) (on : IsOnReference given reference core)
    (k : ℕ) (actor : Actor) (at_k : slice_get core.actors k ≡ Some actor) where
  abbrev code : CodeView
  code = code_of given.plan k

  abbrev last : ℕ
  last = length given.plan.codes - 1

  abbrev is_coded : slice_get given.plan.codes k ≡ Some code
  is_coded = coded given accepted fit reference core on k actor at_k

  abbrev is_on : IsActorOn given.plan reference code actor
  is_on = actor_on given accepted fit reference core on k actor at_k

  module _ (runs : actor.ended ≡ false) (within : actor.instant ≤ given.limit) (step : Step) (at_s : slice_get code.steps actor.step ≡ Some step) where
    abbrev now : Instant
    now = instant_at reference actor.instant

    abbrev chosen : Yield → Option ℤ
    chosen yield = chosen_of given.plan code reference yield now step

    longer : actor.instant + 1 ≤ length reference
    longer = omega (arith, within, long)

    abbrev d : DoesStep given.plan accepted k code is_coded actor.step step
    d = step_does given.plan accepted k code is_coded actor.step step at_s

    -- a step follows one at which the actor does not commit
    inner : (step.kind ≡ Commit → ⊥) → k ≡ last → actor.step + 1 < length code.steps
    inner other own = let actors = accepted.codes.actors in another_follows given.plan accepted k code is_coded actor.step step at_s (omega (arith, own, actors)) other

    passes_over : guard_holds given.plan code actor.registers step ≡ false → IsOnReference given reference (with_actor k (moved_on (length code.steps) actor) core)
    passes_over passed = goes_on given accepted fit reference core on k actor at_k step at_s actor (passed_behind given.plan accepted given.flows fit reference on.is k code is_coded actor is_on step at_s longer passed) refl refl runs
        (λ j. passed_chosen given.plan accepted given.flows fit reference on.is k code is_coded actor is_on step at_s passed (sent_on given.plan.links j))
        (λ j. passed_chosen given.plan accepted given.flows fit reference on.is k code is_coded actor is_on step at_s passed (taken_from given.plan.links j))
        (inner (λ kind. let clash : true ≡ false = sym (commit_holds given.plan accepted k code is_coded actor.step step at_s kind actor.registers) ∙ passed in cc))

    none_chosen : (yield : Yield) → yield now step.kind ≡ None → chosen yield ≡ None
    none_chosen yield none = kind_chosen given.plan accepted given.flows fit reference on.is k code is_coded actor is_on step at_s yield none

    module _ (holds : guard_holds given.plan code (seen_at now) step ≡ true) where
      some_chosen : (yield : Yield) (item : ℤ) → yield now step.kind ≡ Some item → chosen yield ≡ Some item
      some_chosen yield item some = done_chosen given.plan accepted given.flows fit reference on.is k code is_coded actor is_on step at_s holds yield (Some item) some

      -- ---- an operation

      does_op : (o : OpId) (op : Op) → step.kind ≡ Do o → slice_get given.plan.ops o.0 ≡ Some op → IsOnReference given reference (turned given k actor (turn_with given.plan code actor op (outcome given.plan.kernel given.flows actor op)) core)
      does_op o op kind at = by (outcome given.plan.kernel given.flows actor op) refl where
        by : (r : Outcome) → outcome given.plan.kernel given.flows actor op ≡ r → IsOnReference given reference (turned given k actor (turn_with given.plan code actor op r) core)
        by (Gives v) gives = goes_on given accepted fit reference core on k actor at_k step at_s (operated given.plan.kernel op v actor)
            (done_behind given.plan accepted given.flows fit reference on.is k code is_coded actor is_on step at_s holds o op kind at longer v gives) refl refl runs
            (λ j. none_chosen (sent_on given.plan.links j) (ap (sent_on given.plan.links j now) kind)) (λ j. none_chosen (taken_from given.plan.links j) (ap (taken_from given.plan.links j now) kind))
            (inner (λ commit. let clash : Do o ≡ Commit = sym kind ∙ commit in cc))
        by (Faults cause) fails = fails_on given accepted fit reference core on k actor at_k (faulty given.plan accepted given.flows fit reference on.is k code is_coded actor is_on step at_s holds o op kind at cause fails)

      -- ---- links

      abbrev IsQuiet : StepKind → Type 0
      IsQuiet kind = (fills given.plan kind ≡ None) × ((n : ℕ) → stored_at given.plan n now kind ≡ None) × ((n : ℕ) → read_at given.plan n now kind ≡ None)

      quietly : IsQuiet step.kind → IsBehind given.plan code reference actor
      quietly quiet = quiet_behind given.plan accepted given.flows fit reference on.is k code is_coded actor is_on step at_s longer quiet.0 quiet.1 quiet.2

      names : (kind : StepKind) → step.kind ≡ kind → NamesWithin (length given.plan.ops) (length given.plan.links) kind
      names kind is = subst (λ (kd : StepKind). NamesWithin (length given.plan.ops) (length given.plan.links) kd) is (step_names given.plan accepted k code is_coded actor.step step at_s)

      module _ (l : ℕ) (info : LinkInfo) (at_l : slice_get given.plan.links l ≡ Some info) where
        at_parts : slice_get accepted.parts.links l ≡ Some info
        at_parts = subst (λ (ls : List LinkInfo). slice_get ls l ≡ Some info) (sym accepted.links) at_l

        among : Contains (instructions_of (compiled_operations given.plan) (compiled_order given.plan) accepted.parts k) d.i
        among = contains_at (instructions_of (compiled_operations given.plan) (compiled_order given.plan) accepted.parts k) actor.step d.i d.at

        pub writer_is : (step.kind ≡ Send l) ⊎ (step.kind ≡ Report l) → info.writer ≡ k
        writer_is kind = sym (one_writer given.plan.kernel accepted.valid given.plan.clocks.conditions (compiled_operations given.plan) (plan_operations given.plan accepted) accepted.parts accepted.split (compiled_order given.plan) k l info at_parts d.i among
            (elim kind [ inl is ↦ inl (sym d.kind ∙ is) | inr is ↦ inr (sym d.kind ∙ is) ]))

        pub reader_is : (step.kind ≡ Receive l) ⊎ (step.kind ≡ Collect l) → info.reader ≡ k
        reader_is kind = sym (one_reader given.plan.kernel accepted.valid given.plan.clocks.conditions (compiled_operations given.plan) (plan_operations given.plan accepted) accepted.parts accepted.split (compiled_order given.plan) k l info at_parts d.i among
            (elim kind [ inl is ↦ inl (sym d.kind ∙ is) | inr is ↦ inr (sym d.kind ∙ is) ]))

        puts : (item : ℤ) → info.writer ≡ k → IsQuiet step.kind → (step.kind ≡ Commit → ⊥) → sent_on given.plan.links l now step.kind ≡ Some item
            → ((j : ℕ) → (j ≡ l → ⊥) → sent_on given.plan.links j now step.kind ≡ None) → ((j : ℕ) → taken_from given.plan.links j now step.kind ≡ None)
            → IsOnReference given reference (cond (nat_lt (length (items_on core l)) given.capacity) (with_items l (items_on core l ++ item ∷ []) (with_actor k (moved_on (length code.steps) actor) core)) core)
        puts item writer quiet other gives others none = by (nat_lt (length (items_on core l)) given.capacity) refl where
          by : (b : Bool) → nat_lt (length (items_on core l)) given.capacity ≡ b
              → IsOnReference given reference (cond b (with_items l (items_on core l ++ item ∷ []) (with_actor k (moved_on (length code.steps) actor) core)) core)
          by true less = puts_on given accepted fit reference core on k actor at_k step at_s actor (quietly quiet) refl refl runs l info at_l (inner other) item (ltb-true (length (items_on core l)) given.capacity less) writer
              (some_chosen (sent_on given.plan.links l) item gives) (λ j apart. none_chosen (sent_on given.plan.links j) (others j apart)) (λ j. none_chosen (taken_from given.plan.links j) (none j))
          by false full = on

        -- the first item of the link is the one that the reference has
        item_is : (item : ℤ) (items : List ℤ) (due : ℤ) → info.reader ≡ k → items_on core l ≡ item ∷ items → chosen (taken_from given.plan.links l) ≡ Some due → due ≡ item
        item_is item items due reader is gives =
            let ends = ends_within given.plan.kernel accepted.valid given.plan.clocks.conditions (compiled_operations given.plan) (plan_operations given.plan accepted) accepted.parts accepted.split l info at_parts in
            let actors = accepted.codes.actors in
            let count = on.actors in
            let writing : info.writer < length given.plan.codes = omega (arith, ends.0, actors) in
            let reading : info.reader < length given.plan.codes = omega (arith, ends.1, actors) in
            let w = some_at core.actors info.writer (omega (arith, writing, count)) in
            let w_on = on.each info.writer w.0 w.1 in
            let whole : List ℤ = carried_over given.plan accepted given.flows fit reference on.is l info at_l reference in
            let front : List ℤ = yielded_before given.plan code (taken_from given.plan.links l) reference actor.instant actor.step in
            let mine : IsPrefixOf (yielded_before given.plan code (taken_from given.plan.links l) reference actor.instant (suc actor.step)) whole =
            subst (λ n. IsPrefixOf (yielded_before given.plan (code_of given.plan n) (taken_from given.plan.links l) reference actor.instant (suc actor.step)) whole) reader
            (begins_carried given.plan accepted given.flows fit reference on.is l info at_l info.reader (code_of given.plan info.reader) (actor_coded given.plan info.reader reading) (taken_from given.plan.links l) (Receive l) (Collect l) (reader_end given.plan accepted l info at_l)
            actor.instant is_on.from is_on.within (suc actor.step)) in
            let one : IsPrefixOf (front ++ due ∷ []) whole =
            subst (λ (xs : List ℤ). IsPrefixOf xs whole) (behind_is given.plan accepted given.flows fit reference on.is k code is_coded actor is_on step at_s (taken_from given.plan.links l) (Some due) gives) mine in
            let theirs : IsPrefixOf (yielded_before given.plan (code_of given.plan info.writer) (sent_on given.plan.links l) reference w.0.instant w.0.step) whole =
            begins_carried given.plan accepted given.flows fit reference on.is l info at_l info.writer (code_of given.plan info.writer) (actor_coded given.plan info.writer writing) (sent_on given.plan.links l) (Send l) (Report l) (writer_end given.plan accepted l info at_l)
            w.0.instant w_on.from w_on.within w.0.step in
            let sent : yielded_before given.plan (code_of given.plan info.writer) (sent_on given.plan.links l) reference w.0.instant w.0.step ≡ front ++ item ∷ items =
            on.carried l info w.0 actor at_l w.1 (ap (slice_get core.actors) reader ∙ at_k)
            ∙ ap (λ n. yielded_before given.plan (code_of given.plan n) (taken_from given.plan.links l) reference actor.instant actor.step ++ items_on core l) reader
            ∙ ap (λ (xs : List ℤ). front ++ xs) is in
            same_next whole front [] items due item one (subst (λ (xs : List ℤ). IsPrefixOf xs whole) sent theirs)

        takes : (due : ℤ) (next : ℤ → Actor) → info.reader ≡ k → (step.kind ≡ Commit → ⊥) → taken_from given.plan.links l now step.kind ≡ Some due
            → ((j : ℕ) → (j ≡ l → ⊥) → taken_from given.plan.links j now step.kind ≡ None) → ((j : ℕ) → sent_on given.plan.links j now step.kind ≡ None)
            → ((item : ℤ) → due ≡ item → IsBehind given.plan code reference (next item) × ((next item).instant ≡ actor.instant) × ((next item).step ≡ actor.step) × ((next item).ended ≡ false))
            → IsOnReference given reference (take_first k l (λ item. moved_on (length code.steps) (next item)) core (items_on core l))
        takes due next reader other gives others none behind = by (items_on core l) refl where
          by : (xs : List ℤ) → items_on core l ≡ xs → IsOnReference given reference (take_first k l (λ item. moved_on (length code.steps) (next item)) core xs)
          by [] is = on
          by (item ∷ items) is =
              let taken = some_chosen (taken_from given.plan.links l) due gives in
              let same = item_is item items due reader is taken in
              let b = behind item same in
              takes_on given accepted fit reference core on k actor at_k step at_s (next item) b.0 b.1 b.2 b.3 l info at_l (inner other) item items is reader
              (taken ∙ ap Some same) (λ j apart. none_chosen (taken_from given.plan.links j) (others j apart)) (λ j. none_chosen (sent_on given.plan.links j) (none j))

      -- ---- by the kind of the step

      flipped : (j l : ℕ) → (j ≡ l → ⊥) → (l == j) ≡ false
      flipped j l apart = ne_eqb l j (λ e. apart (sym e))

      sends : (l : ℕ) → step.kind ≡ Send l → IsOnReference given reference (turned given k actor (turn_by given.plan given.flows code actor (Send l)) core)
      sends l kind =
          let found = some_at given.plan.links l (names (Send l) kind) in
          let carries = carried_is given.plan accepted l found.0 found.1 in
          puts l found.0 found.1 (item_of actor.registers (carried given.plan.links l)) (writer_is l found.0 found.1 (inl kind))
          (ap (fills given.plan) kind, (λ n. ap (stored_at given.plan n now) kind), (λ n. ap (read_at given.plan n now) kind)) (λ commit. let clash : Send l ≡ Commit = sym kind ∙ commit in cc)
          (ap (sent_on given.plan.links l now) kind ∙ ap (λ b. cond b (Some (item_of (seen_at now) (carried given.plan.links l))) None) (eq-eqb l l refl)
          ∙ ap Some (sym (known (carried given.plan.links l) (λ x is. sent_known given.plan accepted given.flows fit reference on.is k code is_coded actor is_on step at_s holds l found.0 x kind found.1 (sym carries ∙ is)))))
          (λ j apart. ap (sent_on given.plan.links j now) kind ∙ ap (λ b. cond b (Some (item_of (seen_at now) (carried given.plan.links j))) None) (flipped j l apart))
          (λ j. ap (taken_from given.plan.links j now) kind) where
            known : (o : Option SigId) → ((x : SigId) → o ≡ Some x → actor.registers x.0 ≡ seen_at now x.0) → item_of actor.registers o ≡ item_of (seen_at now) o
            known None same = refl
            known (Some x) same = ap (λ (s : Seen). unwrap_or s (pos 0)) (same x refl)

      reports : (l : ℕ) → step.kind ≡ Report l → IsOnReference given reference (turned given k actor (turn_by given.plan given.flows code actor (Report l)) core)
      reports l kind =
          let found = some_at given.plan.links l (names (Report l) kind) in
          puts l found.0 found.1 (pos 0) (writer_is l found.0 found.1 (inr kind))
          (ap (fills given.plan) kind, (λ n. ap (stored_at given.plan n now) kind), (λ n. ap (read_at given.plan n now) kind)) (λ commit. let clash : Report l ≡ Commit = sym kind ∙ commit in cc)
          (ap (sent_on given.plan.links l now) kind ∙ ap (λ b. cond b (Some (pos 0)) None) (eq-eqb l l refl))
          (λ j apart. ap (sent_on given.plan.links j now) kind ∙ ap (λ b. cond b (Some (pos 0)) None) (flipped j l apart))
          (λ j. ap (taken_from given.plan.links j now) kind)

      collects : (l : ℕ) → step.kind ≡ Collect l → IsOnReference given reference (turned given k actor (turn_by given.plan given.flows code actor (Collect l)) core)
      collects l kind =
          let found = some_at given.plan.links l (names (Collect l) kind) in
          takes l found.0 found.1 (pos 0) (λ item. actor) (reader_is l found.0 found.1 (inr kind)) (λ commit. let clash : Collect l ≡ Commit = sym kind ∙ commit in cc)
          (ap (taken_from given.plan.links l now) kind ∙ ap (λ b. cond b (Some (pos 0)) None) (eq-eqb l l refl))
          (λ j apart. ap (taken_from given.plan.links j now) kind ∙ ap (λ b. cond b (Some (pos 0)) None) (flipped j l apart))
          (λ j. ap (sent_on given.plan.links j now) kind)
          (λ item same. (quietly (ap (fills given.plan) kind, (λ n. ap (stored_at given.plan n now) kind), (λ n. ap (read_at given.plan n now) kind)), refl, refl, runs))

      receives : (l : ℕ) → step.kind ≡ Receive l → IsOnReference given reference (turned given k actor (turn_by given.plan given.flows code actor (Receive l)) core)
      receives l kind =
          let found = some_at given.plan.links l (names (Receive l) kind) in
          let reader = reader_is l found.0 found.1 (inl kind) in
          let carries = carried_is given.plan accepted l found.0 found.1 in
          let end = reader_end given.plan accepted l found.0 found.1 in
          let item : IsItem given.plan accepted l found.0 found.1 (Receive l) d.i =
          end.items d.i (subst (λ n. IsFor (compiled_operations given.plan) (compiled_order given.plan) accepted.parts.links accepted.parts.clusters n d.i) (sym reader) d.known) (sym d.kind ∙ kind) in
          let done : item.p.guard (truths_of given.plan.clocks.conditions (seen_at now)) ≡ true =
          sym (ap (λ (i : Instruction). i.guard (truths_of given.plan.clocks.conditions (seen_at now))) item.is) ∙ sym (d.guard (seen_at now)) ∙ holds in
          let there = done_there given.plan accepted _ _ now (next_now given.plan accepted given.flows fit reference on.is k code is_coded actor is_on step at_s) item.number item.p item.x item.stands.is item.writes done in
          takes l found.0 found.1 (item_of (seen_at now) (carried given.plan.links l)) (λ v. received (carried given.plan.links l) v actor) reader (λ commit. let clash : Receive l ≡ Commit = sym kind ∙ commit in cc)
          (ap (taken_from given.plan.links l now) kind ∙ ap (λ b. cond b (Some (item_of (seen_at now) (carried given.plan.links l))) None) (eq-eqb l l refl))
          (λ j apart. ap (taken_from given.plan.links j now) kind ∙ ap (λ b. cond b (Some (item_of (seen_at now) (carried given.plan.links j))) None) (flipped j l apart))
          (λ j. ap (sent_on given.plan.links j now) kind)
          (λ v same. (
            received_behind given.plan accepted given.flows fit reference on.is k code is_coded actor is_on step at_s longer holds l v kind (λ x is.
                let e : Some item.x ≡ Some x = sym item.carries ∙ sym carries ∙ is in
                let one : item.x ≡ x = cc in
                seen_as x v (sym (ap (λ (o : Option SigId). item_of (seen_at now) o) is) ∙ same) (sym (ap (λ (z : SigId). is_some (seen_at now z.0)) one) ∙ there)),
            refl,
            refl,
            runs,
          )) where
            seen_as : (x : SigId) (v : ℤ) → unwrap_or (seen_at now x.0) (pos 0) ≡ v → is_some (seen_at now x.0) ≡ true → seen_at now x.0 ≡ Some v
            seen_as x v value some =
                let w = where_some (seen_at now x.0) some in
                w.1 ∙ ap Some (sym (ap (λ (s : Seen). unwrap_or s (pos 0)) w.1) ∙ value)

      commits : step.kind ≡ Commit → IsOnReference given reference (turned given k actor (turn_by given.plan given.flows code actor Commit) core)
      commits kind =
          let own = commits_alone given.plan accepted k code is_coded actor.step step at_s kind in
          let actors = accepted.codes.actors in
          commits_on given accepted fit reference core on k actor at_k step at_s actor (quietly (ap (fills given.plan) kind, (λ n. ap (stored_at given.plan n now) kind), (λ n. ap (read_at given.plan n now) kind))) refl refl runs
          (λ j. none_chosen (sent_on given.plan.links j) (ap (sent_on given.plan.links j now) kind)) (λ j. none_chosen (taken_from given.plan.links j) (ap (taken_from given.plan.links j now) kind))
          (omega (arith, own, actors)) (commit_last given.plan accepted k code is_coded actor.step step at_s kind) (reaction_in given.plan.kernel actor.registers)
          (mapped_same actor.registers (seen_at now) given.plan.kernel.inputs given.plan.kernel.outputs (λ x le lt.
          outputs_known given.plan accepted given.flows fit reference on.is k code is_coded actor is_on step at_s holds kind (signal_id x) (le, lt)))

      by_kind : (kind : StepKind) → step.kind ≡ kind → IsOnReference given reference (turned given k actor (turn_by given.plan given.flows code actor kind) core)
      by_kind (Do o) kind =
          let found = some_at given.plan.ops o.0 (names (Do o) kind) in
          subst (λ (found : Option Op). IsOnReference given reference (turned given k actor (turn_of_op given.plan given.flows code actor found) core)) (sym found.1) (does_op o found.0 kind found.1)
      by_kind (Send l) kind = sends l kind
      by_kind (Report l) kind = reports l kind
      by_kind (Receive l) kind = receives l kind
      by_kind (Collect l) kind = collects l kind
      by_kind Commit kind = commits kind

    at_step : IsOnReference given reference (turned given k actor (turn_at given.plan given.flows code actor (Some step)) core)
    at_step = by (guard_holds given.plan code actor.registers step) refl where
      by : (b : Bool) → guard_holds given.plan code actor.registers step ≡ b
          → IsOnReference given reference (turned given k actor (cond b (turn_by given.plan given.flows code actor step.kind) (Goes (moved_on (length code.steps) actor))) core)
      by true holds = by_kind (sym (guard_known given.plan accepted given.flows fit reference on.is k code is_coded actor is_on step at_s) ∙ holds) step.kind refl
      by false passed = passes_over passed

  -- an actor does its turn
  pub acts_on : IsOnReference given reference (turned given k actor (turn given.plan given.flows given.limit k actor) core)
  acts_on = by actor.ended refl where
    going : (b : Bool) → actor.ended ≡ false → nat_lt given.limit actor.instant ≡ b
        → IsOnReference given reference (turned given k actor (cond b AtLimit (turn_at given.plan given.flows code actor (slice_get code.steps actor.step))) core)
    going true runs over = ends_on given accepted fit reference core on k actor at_k (inl (ltb-true given.limit actor.instant over))
    going false runs within =
        let step = some_at code.steps actor.step is_on.step in
        subst (λ (o : Option Step). IsOnReference given reference (turned given k actor (turn_at given.plan given.flows code actor o) core)) (sym step.1)
        (at_step runs (ltb-false given.limit actor.instant within) step.0 step.1)

    by : (b : Bool) → actor.ended ≡ b
        → IsOnReference given reference (turned given k actor (cond b Stopped (cond (nat_lt given.limit actor.instant) AtLimit (turn_at given.plan given.flows code actor (slice_get code.steps actor.step)))) core)
    by true ended = on
    by false runs = going (nat_lt given.limit actor.instant) runs refl

  -- an actor looks at the word
  pub looks_on : IsOnReference given reference (looked given.plan k core (Some actor))
  looks_on = by actor.ended (word_before core.word (next_place code actor)) refl where
    by : (b less : Bool) → word_before core.word (next_place code actor) ≡ less → IsOnReference given reference (cond b core (cond less (with_actor k (ended_at actor) core) core))
    by false true is = ends_on given accepted fit reference core on k actor at_k (inr (inr is))
    by _ _ is = on

-- Each event leaves a state on the reference.
pub stepped_on : (given : Given) → IsAccepted given.plan → AreFlowsFor given.plan.kernel given.flows → (reference : Trace) → given.limit + 1 ≤ length reference → (core : Core) → IsOnReference given reference core
    → (event : Event) → IsOnReference given reference (stepped given core event)
stepped_on given accepted fit reference long core on (Act k) = by (slice_get core.actors k) refl where
  by : (o : Option Actor) → slice_get core.actors k ≡ o → IsOnReference given reference (acted given k core o)
  by None at = on
  by (Some actor) at = acts_on given accepted fit reference long core on k actor at
stepped_on given accepted fit reference long core on (Look k) = by (slice_get core.actors k) refl where
  by : (o : Option Actor) → slice_get core.actors k ≡ o → IsOnReference given reference (looked given.plan k core o)
  by None at = on
  by (Some actor) at = looks_on given accepted fit reference long core on k actor at
