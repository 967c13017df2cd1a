-- A state stays on the reference where an actor ends, or goes on.
use Rattle.sig_schedule_laws.proofs.Common.{◌≡◌, ◌<◌, ◌≤◌, ◌-◌, ◌+◌, ◌++◌, inl, inr, ℕ, suc, ℤ, true, false, List, [], ◌∷◌, length, get_or, set, take, refl, ap, sym, subst, ◌∙◌, arith, None, Option, Some, option_to_list, slice_get, append_assoc, get_or-set_other, get_or-set_same, length-append, length-set, map_push, Instant, Trace, seen_at, Place, AreFlowsFor, Actor, code_of, ended_at, moved_on, next_place, Core, Given, items_on, lesser, with_actor, with_items, HasReason, IsActorOn, IsFaulty, IsLinkOn, IsOnReference, IsWordOn, Yield, instant_at, reactions_of, sent_on, taken_from, yielded_before, Reaction, reaction_in, CodeView, IsAccepted, Step, LinkInfo, slice_get_within, cases_eq}
use Rattle.sig_schedule_laws.proofs.ChangedStates.{IsChange, changed_on, commits_stay, same_actor, yields, yields_grow, yields_stay}
use Rattle.sig_schedule_laws.proofs.Coded.{actor_coded}
use Rattle.sig_schedule_laws.proofs.NextOnReference.{behind_is, behind_same}
use Rattle.sig_schedule_laws.proofs.Instants.{instants_to}
use Rattle.sig_schedule_laws.proofs.Lists.{put, put_here}
use Rattle.sig_schedule_laws.proofs.Moved.{IsBehind, chosen_of, moved_cases, moved_is_on, yields_moved}
use Rattle.sig_schedule_laws.proofs.Words.{reached_here, reasons_less, word_on}

module _ (given : Given) (accepted : IsAccepted given.plan) (fit : AreFlowsFor given.plan.kernel given.flows) (reference : Trace) (core : Core) (on : IsOnReference given reference core)
    (k : ℕ) (actor : Actor) (at_k : slice_get core.actors k ≡ Some actor) where
  abbrev code : CodeView
  code = code_of given.plan k

  abbrev last : ℕ
  last = length given.plan.codes - 1

  pub coded : slice_get given.plan.codes k ≡ Some code
  coded = let count = on.actors in actor_coded given.plan k (omega (arith, slice_get_within core.actors k actor at_k, count))

  pub actor_on : IsActorOn given.plan reference code actor
  actor_on = on.each k actor at_k

  -- ---- an actor that ends

  ended_on : (word : Option Place) → IsWordOn given reference word → ((c : CodeView) (a : Actor) → HasReason given reference core.word c a → HasReason given reference word c a) → HasReason given reference word code actor
      → IsChange given reference core on k actor at_k (ended_at actor) core.links word core.committed
  ended_on word is_word reasons reason = record {
    next_on = record { from = actor_on.from; within = actor_on.within; step = actor_on.step; registers = actor_on.registers; memories = actor_on.memories; taken = actor_on.taken };
    reason = λ e. reason;
    reasons = reasons;
    count = refl;
    carried = λ j link w r at at_w at_r.
        yields_stay given reference core on k actor at_k (ended_at actor) (sent_on given.plan.links j) refl link.writer w at_w ∙ on.carried j link w r at at_w at_r
        ∙ ap (λ (items : List ℤ). items ++ get_or core.links j []) (sym (yields_stay given reference core on k actor at_k (ended_at actor) (taken_from given.plan.links j) refl link.reader r at_r));
    room = on.room;
    word_on = is_word;
    commits = commits_stay given reference core on k actor at_k (ended_at actor) (λ e. refl);
  }

  -- past the limit, or behind the word
  pub ends_on : HasReason given reference core.word code actor → IsOnReference given reference (with_actor k (ended_at actor) core)
  ends_on reason = changed_on given reference core on k actor at_k (ended_at actor) core.links core.word core.committed (ended_on core.word on.word (λ c a r. r) reason)

  -- by its own fault
  pub fails_on : IsFaulty given.plan given.flows reference (next_place code actor) → IsOnReference given reference (record (with_actor k (ended_at actor) core) { word = Some (lesser core.word (next_place code actor)) })
  fails_on faulty =
      let place = next_place code actor in
      changed_on given reference core on k actor at_k (ended_at actor) core.links (Some (lesser core.word place)) core.committed
      (ended_on (Some (lesser core.word place)) (word_on given reference core.word place on.word faulty) (reasons_less given reference core.word place) (inr (inl (faulty, reached_here core.word place))))

  -- ---- an actor that goes on

  module _ (step : Step) (at_s : slice_get code.steps actor.step ≡ Some step) (b : Actor) (behind : IsBehind given.plan code reference b) (same_instant : b.instant ≡ actor.instant) (same_step : b.step ≡ actor.step) (runs : b.ended ≡ false) where
    abbrev now : Instant
    now = instant_at reference actor.instant

    abbrev next : Actor
    next = moved_on (length code.steps) b

    abbrev chosen : Yield → Option ℤ
    chosen yield = chosen_of given.plan code reference yield now step

    abbrev before : Yield → List ℤ
    before yield = yields given reference core on k actor at_k yield k actor

    moved : (yield : Yield) → yields given reference core on k actor at_k yield k next ≡ yielded_before given.plan code yield reference actor.instant (suc actor.step)
    moved yield =
        let within = behind.within in
        yields_moved given.plan code reference yield b behind.from (omega (arith, within)) behind.step ∙ (λ t. yielded_before given.plan code yield reference (same_instant t) (suc (same_step t)))

    grows : (yield : Yield) (o : Option ℤ) → chosen yield ≡ o → yields given reference core on k actor at_k yield k next ≡ before yield ++ option_to_list o
    grows yield o is = moved yield ∙ behind_is given.plan accepted given.flows fit reference on.is k code coded actor actor_on step at_s yield o is

    stays : (yield : Yield) → chosen yield ≡ None → yields given reference core on k actor at_k yield k next ≡ before yield
    stays yield none = moved yield ∙ behind_same given.plan accepted given.flows fit reference on.is k code coded actor actor_on step at_s yield none

    not_ended : next.ended ≡ false
    not_ended = moved_cases (λ m. m.ended ≡ false) (length code.steps) b (λ less. runs) (λ over. runs)

    never : {A : Type 0} → next.ended ≡ true → A
    never {A} e = absurd (let clash : true ≡ false = sym e ∙ not_ended in cc)

    -- in the middle of its code it stays in its instant
    inside : actor.step + 1 < length code.steps → next.instant ≡ actor.instant
    inside lt = moved_cases (λ m. m.instant ≡ b.instant) (length code.steps) b (λ less. refl) (λ over. absurd (omega (arith, over, lt, same_step))) ∙ same_instant

    outside : suc actor.step ≡ length code.steps → next.instant ≡ actor.instant + 1
    outside e = moved_cases (λ m. m.instant ≡ b.instant + 1) (length code.steps) b (λ less. absurd (omega (arith, less, e, same_step))) (λ over. refl) ∙ ap (λ n. n + 1) same_instant

    -- what is common to all that go on
    next_change : (links : List (List ℤ)) (committed : List Reaction) → length links ≡ length core.links
        → ((j : ℕ) (link : LinkInfo) (writer reader : Actor) → slice_get given.plan.links j ≡ Some link → slice_get core.actors link.writer ≡ Some writer → slice_get core.actors link.reader ≡ Some reader
        → IsLinkOn given.plan reference j link (put k next link.writer writer) (put k next link.reader reader) (get_or links j []))
        → ((j : ℕ) → j < length core.links → length (get_or links j []) ≤ given.capacity)
        → ((collector : Actor) → slice_get core.actors last ≡ Some collector → committed ≡ reactions_of given.plan.kernel (take ((put k next last collector).instant - 1) reference))
        → IsOnReference given reference (record { actors = set core.actors k next; links = links; word = core.word; committed = committed })
    next_change links committed count carried room commits = changed_on given reference core on k actor at_k next links core.word committed (record {
      next_on = moved_is_on given.plan code reference b behind;
      reason = λ e. never e;
      reasons = λ c a r. r;
      count = count;
      carried = carried;
      room = room;
      word_on = on.word;
      commits = commits;
    })

    -- a link on which nothing is sent and from which nothing is taken
    quiet_link : (j : ℕ) (link : LinkInfo) (w r : Actor) → slice_get given.plan.links j ≡ Some link → slice_get core.actors link.writer ≡ Some w → slice_get core.actors link.reader ≡ Some r
        → chosen (sent_on given.plan.links j) ≡ None → chosen (taken_from given.plan.links j) ≡ None → IsLinkOn given.plan reference j link (put k next link.writer w) (put k next link.reader r) (get_or core.links j [])
    quiet_link j link w r at at_w at_r none_sent none_taken =
        yields_stay given reference core on k actor at_k next (sent_on given.plan.links j) (stays (sent_on given.plan.links j) none_sent) link.writer w at_w ∙ on.carried j link w r at at_w at_r
        ∙ ap (λ (items : List ℤ). items ++ get_or core.links j []) (sym (yields_stay given reference core on k actor at_k next (taken_from given.plan.links j) (stays (taken_from given.plan.links j) none_taken) link.reader r at_r))

    -- it passes its step over, or does an operation
    pub goes_on : ((j : ℕ) → chosen (sent_on given.plan.links j) ≡ None) → ((j : ℕ) → chosen (taken_from given.plan.links j) ≡ None) → (k ≡ last → actor.step + 1 < length code.steps)
        → IsOnReference given reference (with_actor k next core)
    goes_on none_sent none_taken inner = next_change core.links core.committed refl
        (λ j link w r at at_w at_r. quiet_link j link w r at at_w at_r (none_sent j) (none_taken j)) on.room
        (commits_stay given reference core on k actor at_k next (λ own. inside (inner own)))

    -- it commits
    pub commits_on : ((j : ℕ) → chosen (sent_on given.plan.links j) ≡ None) → ((j : ℕ) → chosen (taken_from given.plan.links j) ≡ None) → k ≡ last → suc actor.step ≡ length code.steps
        → (reaction : Reaction) → reaction ≡ reaction_in given.plan.kernel (seen_at now)
        → IsOnReference given reference (record (with_actor k next core) { committed = core.committed ++ reaction ∷ [] })
    commits_on none_sent none_taken own ends reaction is = next_change core.links (core.committed ++ reaction ∷ []) refl
        (λ j link w r at at_w at_r. quiet_link j link w r at at_w at_r (none_sent j) (none_taken j)) on.room
        (λ collector at.
        let same = same_actor given reference core on k actor at_k last collector at (sym own) in
        let earlier : core.committed ≡ reactions_of given.plan.kernel (take (actor.instant - 1) reference) =
        on.committed collector at ∙ ap (λ (a : Actor). reactions_of given.plan.kernel (take (a.instant - 1) reference)) same in
        let instant : (put k next last collector).instant ≡ actor.instant + 1 = ap (λ (a : Actor). a.instant) (put_here k next last collector (sym own)) ∙ outside ends in
        let number : actor.instant ≡ (put k next last collector).instant - 1 = omega (arith, instant) in
        (λ t. earlier t ++ is t ∷ [])
        ∙ sym (map_push (λ (instant : Instant). reaction_in given.plan.kernel (seen_at instant)) (take (actor.instant - 1) reference) now)
        ∙ ap (reactions_of given.plan.kernel) (sym (instants_to reference actor.instant actor_on.from actor_on.within))
        ∙ ap (λ n. reactions_of given.plan.kernel (take n reference)) number)

    -- ---- an item of one link

    module _ (l : ℕ) (info : LinkInfo) (at_l : slice_get given.plan.links l ≡ Some info) (inner : k ≡ last → actor.step + 1 < length code.steps) where
      within_links : l < length core.links
      within_links = let count = on.links in omega (arith, slice_get_within given.plan.links l info at_l, count)

      same_info : (j : ℕ) (link : LinkInfo) → slice_get given.plan.links j ≡ Some link → j ≡ l → link ≡ info
      same_info j link at same = let e : Some link ≡ Some info = sym at ∙ ap (slice_get given.plan.links) same ∙ at_l in cc

      new_items : (items : List ℤ) (j : ℕ) → j ≡ l → get_or (set core.links l items) j [] ≡ items
      new_items items j same = ap (λ n. get_or (set core.links l items) n []) same ∙ get_or-set_same core.links l items [] within_links

      old_items : (items : List ℤ) (j : ℕ) → (j ≡ l → ⊥) → get_or (set core.links l items) j [] ≡ get_or core.links j []
      old_items items j apart = get_or-set_other core.links l j items [] apart

      with_link : (items : List ℤ) → length items ≤ given.capacity
          → ((w r : Actor) → slice_get core.actors info.writer ≡ Some w → slice_get core.actors info.reader ≡ Some r → IsLinkOn given.plan reference l info (put k next info.writer w) (put k next info.reader r) items)
          → ((j : ℕ) → (j ≡ l → ⊥) → chosen (sent_on given.plan.links j) ≡ None) → ((j : ℕ) → (j ≡ l → ⊥) → chosen (taken_from given.plan.links j) ≡ None)
          → IsOnReference given reference (with_items l items (with_actor k next core))
      with_link items few here others_sent others_taken = next_change (set core.links l items) core.committed (length-set core.links l items)
          (λ j link w r at at_w at_r. elim (cases_eq j l) [
            | inl same ↦
                let one = same_info j link at same in
                subst (IsLinkOn given.plan reference j link (put k next link.writer w) (put k next link.reader r)) (sym (new_items items j same))
                (subst (λ n. IsLinkOn given.plan reference n link (put k next link.writer w) (put k next link.reader r) items) (sym same)
                (subst (λ (i : LinkInfo). slice_get core.actors i.writer ≡ Some w → slice_get core.actors i.reader ≡ Some r → IsLinkOn given.plan reference l i (put k next i.writer w) (put k next i.reader r) items) (sym one) (here w r) at_w at_r))
            | inr apart ↦
                subst (IsLinkOn given.plan reference j link (put k next link.writer w) (put k next link.reader r)) (sym (old_items items j apart))
                (quiet_link j link w r at at_w at_r (others_sent j apart) (others_taken j apart))
          ])
          (λ j lt. elim (cases_eq j l) [
            | inl same ↦ subst (λ (xs : List ℤ). length xs ≤ given.capacity) (sym (new_items items j same)) few
            | inr apart ↦ subst (λ (xs : List ℤ). length xs ≤ given.capacity) (sym (old_items items j apart)) (on.room j lt)
          ])
          (commits_stay given reference core on k actor at_k next (λ own. inside (inner own)))

      -- it sends an item
      pub puts_on : (item : ℤ) → length (items_on core l) < given.capacity → info.writer ≡ k → chosen (sent_on given.plan.links l) ≡ Some item
          → ((j : ℕ) → (j ≡ l → ⊥) → chosen (sent_on given.plan.links j) ≡ None) → ((j : ℕ) → chosen (taken_from given.plan.links j) ≡ None)
          → IsOnReference given reference (with_items l (items_on core l ++ item ∷ []) (with_actor k next core))
      puts_on item less writer gives others none_taken = with_link (items_on core l ++ item ∷ []) (omega (arith, less, length-append (items_on core l) (item ∷ [])))
          (λ w r at_w at_r.
          let sent = yields_grow given reference core on k actor at_k next (sent_on given.plan.links l) (item ∷ []) (grows (sent_on given.plan.links l) (Some item) gives) info.writer w at_w writer in
          let taken = yields_stay given reference core on k actor at_k next (taken_from given.plan.links l) (stays (taken_from given.plan.links l) (none_taken l)) info.reader r at_r in
          let front : List ℤ = yields given reference core on k actor at_k (taken_from given.plan.links l) info.reader r in
          sent ∙ ap (λ (items : List ℤ). items ++ item ∷ []) (on.carried l info w r at_l at_w at_r) ∙ append_assoc front (items_on core l) (item ∷ [])
          ∙ ap (λ (items : List ℤ). items ++ (items_on core l ++ item ∷ [])) (sym taken))
          others (λ j apart. none_taken j)

      -- it takes an item
      pub takes_on : (item : ℤ) (items : List ℤ) → items_on core l ≡ item ∷ items → info.reader ≡ k → chosen (taken_from given.plan.links l) ≡ Some item
          → ((j : ℕ) → (j ≡ l → ⊥) → chosen (taken_from given.plan.links j) ≡ None) → ((j : ℕ) → chosen (sent_on given.plan.links j) ≡ None)
          → IsOnReference given reference (with_items l items (with_actor k next core))
      takes_on item items is reader gives others none_sent = with_link items (let few = on.room l within_links in let count : length (items_on core l) ≡ suc (length items) = ap (λ (xs : List ℤ). length xs) is in omega (arith, few, count))
          (λ w r at_w at_r.
          let sent = yields_stay given reference core on k actor at_k next (sent_on given.plan.links l) (stays (sent_on given.plan.links l) (none_sent l)) info.writer w at_w in
          let taken = yields_grow given reference core on k actor at_k next (taken_from given.plan.links l) (item ∷ []) (grows (taken_from given.plan.links l) (Some item) gives) info.reader r at_r reader in
          let front : List ℤ = yields given reference core on k actor at_k (taken_from given.plan.links l) info.reader r in
          sent ∙ on.carried l info w r at_l at_w at_r ∙ ap (λ (xs : List ℤ). front ++ xs) is ∙ sym (append_assoc front (item ∷ []) items)
          ∙ ap (λ (xs : List ℤ). xs ++ items) (sym taken))
          (λ j apart. none_sent j) others
