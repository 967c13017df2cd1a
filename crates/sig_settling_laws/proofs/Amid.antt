-- A state amid the own steps of its actors, and what one more own step leaves of it.
use Rattle.sig_settling_laws.proofs.Common.{◌≡◌, ◌<◌, ◌≤◌, ◌+◌, ◌++◌, inl, inr, ℕ, ℤ, true, false, cond, List, [], ◌∷◌, length, get_or, set, refl, ap, sym, subst, ◌∙◌, append_assoc, arith, None, Option, Some, slice_get, eq-eqb, lt-ltb, ne_eqb, get_or-set_other, get_or-set_same, IsPrefixOf, Trace, AreFlowsFor, Actor, ended_at, with_at, Core, Given, acted, items_on, lesser, take_first, turned, with_actor, with_items, IsOnReference, AtLimit, Commits, Fails, Goes, Puts, Reaction, Stopped, Takes, Turn, turn, IsAccepted, LinkInfo, plan_operations, ends_within, operations_in, same_next, Grow, HasTurned, IsBehind, IsOwnStep, LeadBy, Own, Stay, UsesNone, AreBalanced, IsLeastFailure, collector_of, get_set_other, set_here, slice_get_within, cases_eq}
use Rattle.sig_settling_laws.proofs.Failures.{least_lesser, least_same}
use Rattle.sig_settling_laws.proofs.OwnItems.{lead_begins}
use Rattle.sig_settling_laws.proofs.Tells.{Tells}

pub at_here : {A : Type 0} (k : ℕ) (x : A) (f : ℕ → A) (m : ℕ) → m ≡ k → with_at k x f m ≡ x
at_here {A} k x f m same = ap (λ b. cond b x (f m)) (eq-eqb m k same)

pub at_other : {A : Type 0} (k : ℕ) (x : A) (f : ℕ → A) (m : ℕ) → ((m ≡ k) → ⊥) → with_at k x f m ≡ f m
at_other {A} k x f m apart = ap (λ b. cond b x (f m)) (ne_eqb m k apart)

module _ (given : Given) (final : ℕ → Own) where
  abbrev pub count : ℕ
  count = length given.plan.codes

  -- each actor has done some of its own steps, and has some left
  pub record IsAmid (core : Core) (now : ℕ → Own) (more : ℕ → ℕ) : Type 0 where
    pub actors : (k : ℕ) → k < count → slice_get core.actors k ≡ Some (now k).actor
    pub lead : (k : ℕ) → k < count → LeadBy given k (more k) (now k) (final k)
    pub items : (j : ℕ) (link : LinkInfo) → slice_get given.plan.links j ≡ Some link → (now link.writer).sent j ≡ (now link.reader).taken j ++ items_on core j
    pub word : IsLeastFailure count (λ k. (now k).failed) core.word
    pub quiet : (k : ℕ) → k < count → (now k).actor.ended ≡ false → (now k).failed ≡ None
    pub committed : core.committed ≡ (now (collector_of given)).committed

-- an actor can do its turn: the link takes an item, or has one
abbrev pub CanHappen : Given → Core → Turn → Type 0
CanHappen given core (Puts l item next) = length (items_on core l) < given.capacity
CanHappen given core (Takes l next) = 1 ≤ length (items_on core l)
CanHappen given core _ = Unit {0}

module _ (given : Given) (accepted : IsAccepted given.plan) (fit : AreFlowsFor given.plan.kernel given.flows) (reference : Trace) (long : given.limit + 1 ≤ length reference) (final : ℕ → Own) (links : List (List ℤ))
    (balanced : AreBalanced given final links) (core : Core) (on : IsOnReference given reference core) (now : ℕ → Own) (more : ℕ → ℕ) (amid : IsAmid given final core now more) where
  -- the actors of a link are there
  pub ends_there : (l : ℕ) (info : LinkInfo) → slice_get given.plan.links l ≡ Some info → (info.writer < length given.plan.codes) × (info.reader < length given.plan.codes)
  ends_there l info at_l =
      let operations = operations_in given.plan.store.nodes given.plan.ops in
      let ends = ends_within given.plan.kernel accepted.valid given.plan.clocks.conditions operations (plan_operations given.plan accepted) accepted.parts accepted.split l info (subst (λ (ls : List LinkInfo). slice_get ls l ≡ Some info) (sym accepted.links) at_l) in
      let actors = accepted.codes.actors in
      (omega (arith, ends.0, actors), omega (arith, ends.1, actors))

  link_there : (l : ℕ) (info : LinkInfo) → slice_get given.plan.links l ≡ Some info → l < length core.links
  link_there l info at_l = let count_links = on.links in omega (arith, slice_get_within given.plan.links l info at_l, count_links)

  module _ (k : ℕ) (lt : k < length given.plan.codes) (own : Own) (n : ℕ) (step : IsOwnStep given k (now k) own) (lead : LeadBy given k n own (final k)) (runs : (now k).actor.ended ≡ false) where
    abbrev pub later : ℕ → Own
    later = with_at k own now

    abbrev pub less : ℕ → ℕ
    less = with_at k n more

    abbrev last : ℕ
    last = collector_of given

    -- what each has of a link, where that of the actor k stays
    sent_stays : Stay (now k).sent own.sent → (m j : ℕ) → (later m).sent j ≡ (now m).sent j
    sent_stays stay m j = elim (cases_eq m k) [
      | inl same ↦ ap (λ (o : Own). o.sent j) (at_here k own now m same) ∙ stay j ∙ ap (λ i. (now i).sent j) (sym same)
      | inr apart ↦ ap (λ (o : Own). o.sent j) (at_other k own now m apart)
    ]

    taken_stays : Stay (now k).taken own.taken → (m j : ℕ) → (later m).taken j ≡ (now m).taken j
    taken_stays stay m j = elim (cases_eq m k) [
      | inl same ↦ ap (λ (o : Own). o.taken j) (at_here k own now m same) ∙ stay j ∙ ap (λ i. (now i).taken j) (sym same)
      | inr apart ↦ ap (λ (o : Own). o.taken j) (at_other k own now m apart)
    ]

    sent_other : (l : ℕ) (item : ℤ) → Grow l item (now k).sent own.sent → (m j : ℕ) → ((j ≡ l) → ⊥) → (later m).sent j ≡ (now m).sent j
    sent_other l item grow m j other = elim (cases_eq m k) [
      | inl same ↦ ap (λ (o : Own). o.sent j) (at_here k own now m same) ∙ grow.others j other ∙ ap (λ i. (now i).sent j) (sym same)
      | inr apart ↦ ap (λ (o : Own). o.sent j) (at_other k own now m apart)
    ]

    taken_other : (l : ℕ) (item : ℤ) → Grow l item (now k).taken own.taken → (m j : ℕ) → ((j ≡ l) → ⊥) → (later m).taken j ≡ (now m).taken j
    taken_other l item grow m j other = elim (cases_eq m k) [
      | inl same ↦ ap (λ (o : Own). o.taken j) (at_here k own now m same) ∙ grow.others j other ∙ ap (λ i. (now i).taken j) (sym same)
      | inr apart ↦ ap (λ (o : Own). o.taken j) (at_other k own now m apart)
    ]

    failed_stays : own.failed ≡ (now k).failed → (m : ℕ) → (later m).failed ≡ (now m).failed
    failed_stays stay m = elim (cases_eq m k) [
      | inl same ↦ ap (λ (o : Own). o.failed) (at_here k own now m same) ∙ stay ∙ ap (λ i. (now i).failed) (sym same)
      | inr apart ↦ ap (λ (o : Own). o.failed) (at_other k own now m apart)
    ]

    commits_stay : own.committed ≡ (now k).committed → (m : ℕ) → (later m).committed ≡ (now m).committed
    commits_stay stay m = elim (cases_eq m k) [
      | inl same ↦ ap (λ (o : Own). o.committed) (at_here k own now m same) ∙ stay ∙ ap (λ i. (now i).committed) (sym same)
      | inr apart ↦ ap (λ (o : Own). o.committed) (at_other k own now m apart)
    ]

    abbrev IsNext : Core → Type 0
    IsNext next = IsAmid given final next later less

    abbrev HasItems : Core → Type 0
    HasItems next = (j : ℕ) (link : LinkInfo) → slice_get given.plan.links j ≡ Some link → (later link.writer).sent j ≡ (later link.reader).taken j ++ items_on next j

    same_items : (next : Core) → next.links ≡ core.links → UsesNone (now k) own → HasItems next
    same_items next same none j link at =
        sent_stays none.0 link.writer j ∙ amid.items j link at
        ∙ ap (λ (xs : List ℤ). xs ++ items_on core j) (sym (taken_stays none.1 link.reader j))
        ∙ ap (λ (ls : List (List ℤ)). (later link.reader).taken j ++ get_or ls j []) (sym same)

    -- a state in which the actor k alone has another state
    is_next : (next : Core) → next.actors ≡ set core.actors k own.actor → HasItems next → IsLeastFailure (length given.plan.codes) (λ m. (later m).failed) next.word
        → (own.actor.ended ≡ false → own.failed ≡ None) → next.committed ≡ (later last).committed → IsNext next
    is_next next actors items word quiet committed = record {
      actors = λ m within. elim (cases_eq m k) [
        | inl same ↦
            ap (λ (xs : List Actor). slice_get xs m) actors ∙ ap (slice_get (set core.actors k own.actor)) same
            ∙ set_here core.actors k own.actor (now k).actor (amid.actors k lt) ∙ ap (λ (o : Own). Some o.actor) (sym (at_here k own now m same))
        | inr apart ↦
            ap (λ (xs : List Actor). slice_get xs m) actors ∙ get_set_other core.actors k m own.actor apart ∙ amid.actors m within
            ∙ ap (λ (o : Own). Some o.actor) (sym (at_other k own now m apart))
      ];
      lead = λ m within. elim (cases_eq m k) [
        | inl same ↦
            subst (λ (o : Own). LeadBy given m (less m) o (final m)) (sym (at_here k own now m same))
            (subst (λ i. LeadBy given m i own (final m)) (sym (at_here k n more m same)) (subst (λ i. LeadBy given i n own (final i)) (sym same) lead))
        | inr apart ↦
            subst (λ (o : Own). LeadBy given m (less m) o (final m)) (sym (at_other k own now m apart))
            (subst (λ i. LeadBy given m i (now m) (final m)) (sym (at_other k n more m apart)) (amid.lead m within))
      ];
      items = items;
      word = word;
      quiet = λ m within. elim (cases_eq m k) [
        | inl same ↦ subst (λ (o : Own). o.actor.ended ≡ false → o.failed ≡ None) (sym (at_here k own now m same)) quiet
        | inr apart ↦ subst (λ (o : Own). o.actor.ended ≡ false → o.failed ≡ None) (sym (at_other k own now m apart)) (amid.quiet m within)
      ];
      committed = committed;
    }

    -- it neither fails nor commits
    plain : (next : Core) → next.actors ≡ set core.actors k own.actor → HasItems next → next.word ≡ core.word → next.committed ≡ core.committed
        → own.committed ≡ (now k).committed → own.failed ≡ (now k).failed → IsNext next
    plain next actors items word committed commits fails =
        is_next next actors items
        (subst (IsLeastFailure (length given.plan.codes) (λ m. (later m).failed)) (sym word)
        (least_same (length given.plan.codes) (λ m. (now m).failed) (λ m. (later m).failed) core.word (λ m within. failed_stays fails m) amid.word))
        (λ going. fails ∙ amid.quiet k lt runs)
        (committed ∙ amid.committed ∙ sym (commits_stay commits last))

    actor_set : (actor : Actor) → own.actor ≡ actor → set core.actors k actor ≡ set core.actors k own.actor
    actor_set actor is = ap (set core.actors k) (sym is)

    -- ---- an item of one link

    module _ (l : ℕ) (info : LinkInfo) (at_l : slice_get given.plan.links l ≡ Some info) where
      same_info : (j : ℕ) (link : LinkInfo) → slice_get given.plan.links j ≡ Some link → j ≡ l → link ≡ info
      same_info j link at same = let e : Some link ≡ Some info = sym at ∙ ap (slice_get given.plan.links) same ∙ at_l in cc

      -- the items of all links, from those of this one
      items_by : (items : List ℤ) (actor : Actor) → (later info.writer).sent l ≡ (later info.reader).taken l ++ items
          → ((m j : ℕ) → ((j ≡ l) → ⊥) → (later m).sent j ≡ (now m).sent j) → ((m j : ℕ) → ((j ≡ l) → ⊥) → (later m).taken j ≡ (now m).taken j)
          → HasItems (with_items l items (with_actor k actor core))
      items_by items actor here sent taken j link at = elim (cases_eq j l) [
        | inl same ↦
            let one = same_info j link at same in
            let kept : get_or (set core.links l items) j [] ≡ items = ap (λ i. get_or (set core.links l items) i []) same ∙ get_or-set_same core.links l items [] (link_there l info at_l) in
            subst (λ (i : LinkInfo). (later i.writer).sent j ≡ (later i.reader).taken j ++ get_or (set core.links l items) j []) (sym one)
            (subst (λ (xs : List ℤ). (later info.writer).sent j ≡ (later info.reader).taken j ++ xs) (sym kept)
            (subst (λ i. (later info.writer).sent i ≡ (later info.reader).taken i ++ items) (sym same) here))
        | inr apart ↦
            sent link.writer j apart ∙ amid.items j link at ∙ ap (λ (xs : List ℤ). xs ++ items_on core j) (sym (taken link.reader j apart))
            ∙ ap (λ (xs : List ℤ). (later link.reader).taken j ++ xs) (sym (get_or-set_other core.links l j items [] apart))
      ]

      puts : (item : ℤ) (next : Actor) → info.writer ≡ k → IsBehind next (now k).committed (now k).failed own → Grow l item (now k).sent own.sent → Stay (now k).taken own.taken
          → IsNext (with_items l (items_on core l ++ item ∷ []) (with_actor k next core))
      puts item next writer behind grow stay =
          plain (with_items l (items_on core l ++ item ∷ []) (with_actor k next core)) (actor_set next behind.is)
          (items_by (items_on core l ++ item ∷ []) next
          (ap (λ (o : Own). o.sent l) (at_here k own now info.writer writer) ∙ grow.here
          ∙ ap (λ (xs : List ℤ). xs ++ item ∷ []) (ap (λ i. (now i).sent l) (sym writer) ∙ amid.items l info at_l)
          ∙ append_assoc ((now info.reader).taken l) (items_on core l) (item ∷ [])
          ∙ ap (λ (xs : List ℤ). xs ++ (items_on core l ++ item ∷ [])) (sym (taken_stays stay info.reader l)))
          (sent_other l item grow) (λ m j apart. taken_stays stay m j))
          refl refl behind.commits behind.fails

      -- the item that it takes is the first one of the link
      first_is : (item x : ℤ) (xs : List ℤ) → info.reader ≡ k → Grow l item (now k).taken own.taken → items_on core l ≡ x ∷ xs → item ≡ x
      first_is item x xs reader grow is =
          let front : List ℤ = (now k).taken l in
          let whole : List ℤ = (final info.writer).sent l in
          let mine = (lead_begins given k n own (final k) lead).1 l in
          let theirs = (lead_begins given info.writer (more info.writer) (now info.writer) (final info.writer) (amid.lead info.writer (ends_there l info at_l).0)).0 l in
          let one : IsPrefixOf (front ++ item ∷ []) whole = (
            mine.0 ++ get_or links l [],
            balanced.balance l info at_l ∙ ap (λ i. (final i).taken l ++ get_or links l []) reader ∙ ap (λ (ys : List ℤ). ys ++ get_or links l []) (mine.1 ∙ ap (λ (ys : List ℤ). ys ++ mine.0) grow.here)
                ∙ append_assoc (front ++ item ∷ []) mine.0 (get_or links l []),
          ) in
          let two : IsPrefixOf (front ++ x ∷ xs) whole = (
            theirs.0,
            theirs.1 ∙ ap (λ (ys : List ℤ). ys ++ theirs.0) (amid.items l info at_l ∙ ap (λ i. (now i).taken l ++ items_on core l) reader ∙ ap (λ (ys : List ℤ). front ++ ys) is),
          ) in
          same_next whole front [] xs item x one two

      takes : (item x : ℤ) (xs : List ℤ) (next : ℤ → Actor) → info.reader ≡ k → items_on core l ≡ x ∷ xs → IsBehind (next item) (now k).committed (now k).failed own → Stay (now k).sent own.sent → Grow l item (now k).taken own.taken
          → IsNext (with_items l xs (with_actor k (next x) core))
      takes item x xs next reader is behind stay grow =
          let same = first_is item x xs reader grow is in
          plain (with_items l xs (with_actor k (next x) core)) (actor_set (next x) (behind.is ∙ ap next same))
          (items_by xs (next x)
          (sent_stays stay info.writer l ∙ amid.items l info at_l ∙ ap (λ i. (now i).taken l ++ items_on core l) reader ∙ ap (λ (ys : List ℤ). (now k).taken l ++ ys) is
          ∙ sym (append_assoc ((now k).taken l) (x ∷ []) xs)
          ∙ ap (λ (v : ℤ). ((now k).taken l ++ v ∷ []) ++ xs) (sym same) ∙ ap (λ (ys : List ℤ). ys ++ xs) (sym grow.here)
          ∙ ap (λ (o : Own). o.taken l ++ xs) (sym (at_here k own now info.reader reader)))
          (λ m j apart. sent_stays stay m j) (taken_other l item grow))
          refl refl behind.commits behind.fails

    -- ---- by the turn

    abbrev HasBecome : Turn → Type 0
    HasBecome t = HasTurned t (now k) own → Tells given accepted fit reference long core on k (now k).actor (amid.actors k lt) t → CanHappen given core t → IsNext (turned given k (now k).actor t core)

    became : (t : Turn) → HasBecome t
    became Stopped has tells can = absurd has
    became AtLimit has tells can =
        plain (with_actor k (ended_at (now k).actor) core) (actor_set (ended_at (now k).actor) has.0.is) (same_items (with_actor k (ended_at (now k).actor) core) refl has.1) refl refl has.0.commits has.0.fails
    became (Fails place) has tells can =
        is_next (record (with_actor k (ended_at (now k).actor) core) { word = Some (lesser core.word place) }) (actor_set (ended_at (now k).actor) has.0.is)
        (same_items (record (with_actor k (ended_at (now k).actor) core) { word = Some (lesser core.word place) }) refl has.1)
        (least_lesser (length given.plan.codes) (λ m. (now m).failed) (λ m. (later m).failed) k lt place (ap (λ (o : Own). o.failed) (at_here k own now k refl) ∙ has.0.fails) (amid.quiet k lt runs)
        (λ m apart. ap (λ (o : Own). o.failed) (at_other k own now m apart)) core.word amid.word)
        (λ going. let clash : true ≡ false = ap (λ (a : Actor). a.ended) (sym has.0.is) ∙ going in cc)
        (amid.committed ∙ sym (commits_stay has.0.commits last))
    became (Goes next) has tells can = plain (with_actor k next core) (actor_set next has.0.is) (same_items (with_actor k next core) refl has.1) refl refl has.0.commits has.0.fails
    became (Commits reaction next) has tells can =
        let mine : last ≡ k = sym tells in
        is_next (record (with_actor k next core) { committed = core.committed ++ reaction ∷ [] }) (actor_set next has.0.is)
        (same_items (record (with_actor k next core) { committed = core.committed ++ reaction ∷ [] }) refl has.1)
        (least_same (length given.plan.codes) (λ m. (now m).failed) (λ m. (later m).failed) core.word (λ m within. failed_stays has.0.fails m) amid.word)
        (λ going. has.0.fails ∙ amid.quiet k lt runs)
        (ap (λ (rs : List Reaction). rs ++ reaction ∷ []) (amid.committed ∙ ap (λ i. (now i).committed) mine) ∙ sym has.0.commits ∙ ap (λ (o : Own). o.committed) (sym (at_here k own now last mine)))
    became (Puts l item next) has tells can =
        subst (λ b. IsNext (cond b (with_items l (items_on core l ++ item ∷ []) (with_actor k next core)) core)) (sym (lt-ltb (length (items_on core l)) given.capacity can))
        (puts l tells.info tells.at_l item next tells.writer has.0 has.1.0 has.1.1)
    became (Takes l next) has tells can = by (items_on core l) refl can where
      by : (xs : List ℤ) → items_on core l ≡ xs → 1 ≤ length xs → IsNext (take_first k l next core xs)
      by [] is some = absurd (omega (arith, some))
      by (x ∷ xs) is some = takes l tells.info tells.at_l has.0 x xs next tells.reader is has.1 has.2.0 has.2.1

    -- the state behind the event
    pub amid_next : Tells given accepted fit reference long core on k (now k).actor (amid.actors k lt) (turn given.plan given.flows given.limit k (now k).actor)
        → CanHappen given core (turn given.plan given.flows given.limit k (now k).actor) → IsNext (acted given k core (slice_get core.actors k))
    amid_next tells can =
        subst (λ (o : Option Actor). IsNext (acted given k core o)) (sym (amid.actors k lt))
        (became (turn given.plan given.flows given.limit k (now k).actor) step tells can)
