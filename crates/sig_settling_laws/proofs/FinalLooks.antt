-- Those actors look at the word that a look ended: then all have ended.
use Rattle.sig_settling_laws.proofs.Common.{◌≡◌, ◌<◌, ◌≤◌, ◌++◌, inl, inr, ℕ, zero, suc, ℤ, Bool, true, false, cond, List, [], ◌∷◌, length, get_or, refl, ap, sym, subst, ◌∙◌, arith, Option, Some, fold, slice_get, length-set, fold-append, Place, AreFlowsFor, Actor, code_of, ended_at, next_place, AllChange, Core, Given, IsEnabled, IsFinished, after, looked, opening, stepped, with_actor, word_before, Event, Look, IsAccepted, Own, AreBalanced, ActInOrder, AreSettled, HasActed, HasEndedBy, LookBehind, acts, acts_then_looks, collector_of, looks, slice_get-get_or, some_at, cases_eq, get_set_other, set_here}
use Rattle.sig_settling_laws.proofs.OwnStepsDone.{own_acted}
use Rattle.sig_settling_laws.proofs.Failures.{one_least}

same_list : {A : Type 0} (xs ys : List A) → length xs ≡ length ys → ((k : ℕ) → k < length ys → slice_get xs k ≡ slice_get ys k) → xs ≡ ys
same_list {A} [] [] count each = refl
same_list {A} [] (y ∷ ys) count each = absurd (let clash : 0 ≡ suc (length ys) = count in omega (arith, clash))
same_list {A} (x ∷ xs) [] count each = absurd (let clash : suc (length xs) ≡ 0 = count in omega (arith, clash))
same_list {A} (x ∷ xs) (y ∷ ys) count each =
    let e : Some x ≡ Some y = each 0 (omega arith) in
    let first : x ≡ y = cc in
    let rest = same_list xs ys (let one : suc (length xs) ≡ suc (length ys) = count in omega (arith, one)) (λ k lt. each (suc k) (omega (arith, lt))) in
    λ t. first t ∷ rest t

looks_append : (xs ys : List ℕ) → looks (xs ++ ys) ≡ looks xs ++ looks ys
looks_append [] ys = refl
looks_append (x ∷ xs) ys = ap (λ (events : List Event). Look x ∷ events) (looks_append xs ys)

-- changes, and then changes
change_behind : (given : Given) (xs ys : List Event) (core : Core) → AllChange given core xs → AllChange given (fold (stepped given) core xs) ys → AllChange given core (xs ++ ys)
change_behind given [] ys core first rest = rest
change_behind given (x ∷ xs) ys core first rest = (first.0, change_behind given xs ys (stepped given core x) first.1 rest)

-- the numbers of those among so many actors that no own step ended
abbrev pub only_running : Bool → ℕ → List ℕ
only_running true n = []
only_running false n = n ∷ []

abbrev pub running_below : (ℕ → Own) → ℕ → List ℕ
running_below own zero = []
running_below own (suc n) = running_below own n ++ only_running (own n).actor.ended n

module _ (given : Given) (own : ℕ → Own) (links : List (List ℤ)) (word : Option Place) (actors : List Actor) (settled : AreSettled given own links word actors) (start : Core) (acted : HasActed given own links start)
    (count : length start.actors ≡ length given.plan.codes) where
  -- so many actors have looked
  record HaveLooked (n : ℕ) (core : Core) : Type 0 where
    pub same_count : length core.actors ≡ length given.plan.codes
    pub links_stay : core.links ≡ start.links
    pub word_stays : core.word ≡ start.word
    pub commits_stay : core.committed ≡ start.committed
    pub behind : (k : ℕ) → k < n → slice_get core.actors k ≡ slice_get actors k
    pub before : (k : ℕ) → n ≤ k → slice_get core.actors k ≡ slice_get start.actors k

  same_word : start.word ≡ word
  same_word = one_least (length given.plan.codes) (λ k. (own k).failed) start.word word acted.word settled.least

  module _ (n : ℕ) (lt : n < length given.plan.codes) (core : Core) (have : HaveLooked n core) where
    mine : slice_get core.actors n ≡ Some (own n).actor
    mine = have.before n (omega arith) ∙ acted.actors n lt

    -- it stays as it was, or is another one
    next_stays : slice_get core.actors n ≡ slice_get actors n → HaveLooked (suc n) core
    next_stays same = record {
      same_count = have.same_count;
      links_stay = have.links_stay;
      word_stays = have.word_stays;
      commits_stay = have.commits_stay;
      behind = λ k below. elim (cases_eq k n) [ inl is ↦ subst (λ i. slice_get core.actors i ≡ slice_get actors i) (sym is) same | inr apart ↦ have.behind k (omega (arith, below, apart)) ];
      before = λ k above. have.before k (omega (arith, above));
    }

    next_ends : (a : Actor) → slice_get actors n ≡ Some a → HaveLooked (suc n) (with_actor n a core)
    next_ends a is = record {
      same_count = length-set core.actors n a ∙ have.same_count;
      links_stay = have.links_stay;
      word_stays = have.word_stays;
      commits_stay = have.commits_stay;
      behind = λ k below. elim (cases_eq k n) [
        | inl same ↦ subst (λ i. slice_get (with_actor n a core).actors i ≡ slice_get actors i) (sym same) (set_here core.actors n a (own n).actor mine ∙ sym is)
        | inr apart ↦ get_set_other core.actors n k a apart ∙ have.behind k (omega (arith, below, apart))
      ];
      before = λ k above. get_set_other core.actors n k a (λ e. omega (arith, e, above)) ∙ have.before k (omega (arith, above));
    }

    -- what the looks of this actor leave, if it has one
    abbrev HaveNext : List ℕ → Type 0
    HaveNext lookers = HaveLooked (suc n) (fold (stepped given) core (looks lookers)) × AllChange given core (looks lookers)

    look_ends : (a : Actor) → slice_get actors n ≡ Some a → (own n).actor.ended ≡ false → word_before word (next_place (code_of given.plan n) (own n).actor) ≡ true → a ≡ ended_at (own n).actor
        → stepped given core (Look n) ≡ with_actor n (ended_at (own n).actor) core
    look_ends a is runs before ends =
        ap (looked given.plan n core) mine
        ∙ ap (λ b. cond b core (cond (word_before core.word (next_place (code_of given.plan n) (own n).actor)) (with_actor n (ended_at (own n).actor) core) core)) runs
        ∙ ap (λ b. cond b (with_actor n (ended_at (own n).actor) core) core) (ap (λ (w : Option Place). word_before w (next_place (code_of given.plan n) (own n).actor)) (have.word_stays ∙ same_word) ∙ before)

    look_changes : (own n).actor.ended ≡ false → stepped given core (Look n) ≡ with_actor n (ended_at (own n).actor) core → IsEnabled given core (Look n)
    look_changes runs ends same =
        let e : Some (own n).actor ≡ Some (ended_at (own n).actor) =
        sym mine ∙ ap (λ (c : Core). slice_get c.actors n) (sym same ∙ ends) ∙ set_here core.actors n (ended_at (own n).actor) (own n).actor mine in
        let stays : (own n).actor ≡ ended_at (own n).actor = cc in
        let clash : false ≡ true = sym runs ∙ ap (λ (a : Actor). a.ended) stays in
        cc

    by_reason : (a : Actor) → slice_get actors n ≡ Some a → HasEndedBy word (code_of given.plan n) (own n) a → HaveNext (only_running (own n).actor.ended n)
    by_reason a is (inl ended) = subst (λ b. HaveNext (only_running b n)) (sym ended.0) (next_stays (mine ∙ ap Some (sym ended.1) ∙ sym is), tt)
    by_reason a is (inr look) =
        let ends = look_ends a is look.0 look.1 look.2 in
        subst (λ b. HaveNext (only_running b n)) (sym look.0)
        (subst (HaveLooked (suc n)) (sym ends) (next_ends (ended_at (own n).actor) (is ∙ ap Some look.2)), (look_changes look.0 ends, tt))

    next_looked : HaveNext (only_running (own n).actor.ended n)
    next_looked =
        let there = some_at actors n (let same = settled.count in omega (arith, lt, same)) in
        by_reason there.0 there.1 (settled.each n there.0 there.1)

  have_looked : (n : ℕ) → n ≤ length given.plan.codes → HaveLooked n (fold (stepped given) start (looks (running_below own n))) × AllChange given start (looks (running_below own n))
  have_looked zero le = (
    record {
      same_count = count;
      links_stay = refl;
      word_stays = refl;
      commits_stay = refl;
      behind = λ k below. absurd (omega (arith, below));
      before = λ k above. refl;
    },
    tt,
  )
  have_looked (suc n) le =
      let earlier = running_below own n in
      let last = only_running (own n).actor.ended n in
      let before = have_looked n (omega (arith, le)) in
      let next = next_looked n (omega (arith, le)) (fold (stepped given) start (looks earlier)) before.0 in
      subst (λ (events : List Event). HaveLooked (suc n) (fold (stepped given) start events) × AllChange given start events) (sym (looks_append earlier last))
      (subst (HaveLooked (suc n)) (sym (fold-append (stepped given) start (looks earlier) (looks last))) next.0, change_behind given (looks earlier) (looks last) start before.1 next.1)

  abbrev pub lookers : List ℕ
  lookers = running_below own (length given.plan.codes)

  abbrev whole : Core
  whole = record { actors = actors; links = links; word = word; committed = (own (collector_of given)).committed }

  pub all_change : AllChange given start (looks lookers)
  all_change = (have_looked (length given.plan.codes) (omega arith)).1

  pub all_looked : fold (stepped given) start (looks lookers) ≡ whole
  all_looked =
      let end = (have_looked (length given.plan.codes) (omega arith)).0 in
      let same = settled.count in
      let of_actors = same_list (fold (stepped given) start (looks lookers)).actors actors (end.same_count ∙ sym same) (λ k lt. end.behind k (omega (arith, lt, same))) in
      let of_links = end.links_stay ∙ acted.items in
      let of_word = end.word_stays ∙ same_word in
      let of_committed = end.commits_stay ∙ acted.committed in
      λ t. record { actors = of_actors t; links = of_links t; word = of_word t; committed = of_committed t }

  ended_by : (k : ℕ) (a : Actor) → HasEndedBy word (code_of given.plan k) (own k) a → a.ended ≡ true
  ended_by k a (inl ended) = ap (λ (b : Actor). b.ended) ended.1 ∙ ended.0
  ended_by k a (inr look) = ap (λ (b : Actor). b.ended) look.2

  pub all_ended : IsFinished whole
  all_ended = λ k a lt. ended_by k (get_or actors k a) (settled.each k (get_or actors k a) (slice_get-get_or actors k a lt))

-- the steps of actors in order, and then the looks
pub acted_then_looked : (given : Given) → IsAccepted given.plan → AreFlowsFor given.plan.kernel given.flows → 1 ≤ given.capacity
    → (own : ℕ → Own) (links : List (List ℤ)) → AreBalanced given own links
    → (numbers : List ℕ) × ActInOrder given own links numbers
    × ((word : Option Place) (actors : List Actor) → AreSettled given own links word actors
    → (lookers : List ℕ) × LookBehind given own links word actors numbers lookers)
acted_then_looked given accepted fit room own links balanced =
    let found = own_acted given accepted fit room own links balanced in (
      found.0,
      found.1,
      λ word actors settled.
          let start = after given (acts found.0) in
          let who = lookers given own links word actors settled start found.1.come found.2 in
          let joined = fold-append (stepped given) (opening given.plan) (acts found.0) (looks who)
          ∙ all_looked given own links word actors settled start found.1.come found.2 in (
            who,
            record {
              change = change_behind given (acts found.0) (looks who) (opening given.plan) found.1.change (all_change given own links word actors settled start found.1.come found.2);
              leave = joined;
              finished = subst (λ (c : Core). IsFinished c) (sym joined) (all_ended given own links word actors settled start found.1.come found.2);
            },
          ),
    )

pub settled_finished : (given : Given) → IsAccepted given.plan → AreFlowsFor given.plan.kernel given.flows → 1 ≤ given.capacity
    → (own : ℕ → Own) (links : List (List ℤ)) (word : Option Place) (actors : List Actor) → AreSettled given own links word actors
    → (events : List Event)
    × (after given events ≡ record { actors = actors; links = links; word = word; committed = (own (collector_of given)).committed })
    × IsFinished (after given events)
settled_finished given accepted fit room own links word actors settled =
    let found = acted_then_looked given accepted fit room own links settled.balanced in
    let end = found.2 word actors settled in
    (acts_then_looks found.0 end.0, end.1.leave, end.1.finished)
