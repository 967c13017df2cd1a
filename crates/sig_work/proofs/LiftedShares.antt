-- A share of which one member went on, and shares of which one went on.
use Rattle.sig_work.proofs.Common.{◌≡◌, ◌≢◌, ◌<◌, ◌≤◌, ◌+◌, ◌++◌, ◌⊎◌, ◌∙◌, inl, inr, ℕ, zero, suc, ℤ, Bool, true, false, cond, List, [], ◌∷◌, length, set, refl, ap, sym, subst, arith, None, Option, Some, ◌==◌, min, slice_get, append-nil, no_place, packed, Place, seen, Halt, Kernel, Given, Reaction, PlanView, place_of, same_Some, HasDone, IsBehindSeen, commits_of, failure_in, is_collector, run_of, word_of, GoesOn, IsOfRun, IsServed, KeepsMember, KeepsSeat, KeepsShare, KeepsShares, ServesMember, ServesShare, ServesShares, AreOfRun, HasCollector, HasOneCollector, HasSeat, HaveCollector, IsServing, least_failed, Ending, Failed, Looked, AtLimit, Faulted, Member, Share, min_comm, set_here}
use Rattle.sig_work.proofs.WhatStays.{at_set, had_collector, member_was, one_member, one_share, share_was, was_collector}

-- ---- the least failure

abbrev failed_word : Member → ℕ
failed_word m = word_of (failure_in m.ending)

-- that of the members but for one
pub least_but : ℕ → List Member → ℕ
least_but k [] = no_place
least_but zero (m ∷ ms) = least_failed ms
least_but (suc k) (m ∷ ms) = min (failed_word m) (least_but k ms)

min_apart : (a b c : ℕ) → min a (min b c) ≡ min (min a b) c
min_apart a b c = omega arith

least_is : (ms : List Member) (k : ℕ) (m : Member) → slice_get ms k ≡ Some m → least_failed ms ≡ min (least_but k ms) (failed_word m)
unfolding least_but
least_is [] k m at = absurd (let e : None ≡ Some m = at in cc)
least_is (x ∷ xs) zero m at = min_comm (failed_word x) (least_failed xs) ∙ ap (λ y. min (least_failed xs) (failed_word y)) (same_Some x m at)
least_is (x ∷ xs) (suc k) m at = ap (min (failed_word x)) (least_is xs k m at) ∙ min_apart (failed_word x) (least_but k xs) (failed_word m)

least_set : (ms : List Member) (k : ℕ) (m n : Member) → slice_get ms k ≡ Some m → least_failed (set ms k n) ≡ min (least_but k ms) (failed_word n)
unfolding least_but
least_set [] k m n at = absurd (let e : None ≡ Some m = at in cc)
least_set (x ∷ xs) zero m n at = min_comm (failed_word n) (least_failed xs)
least_set (x ∷ xs) (suc k) m n at = ap (min (failed_word x)) (least_set xs k m n at) ∙ min_apart (failed_word x) (least_but k xs) (failed_word n)

-- an actor behind a word is behind a lesser one
pub behind_lower : (word lower : ℕ) → lower ≤ word → (ending : Option Ending) (place : Place) → IsBehindSeen word ending place → IsBehindSeen lower ending place
behind_lower word lower le None place is = tt
behind_lower word lower le (Some (Failed p)) place is = is
behind_lower word lower le (Some AtLimit) place is = tt
behind_lower word lower le (Some Looked) place is = let e : word < packed place = is in omega (arith, e, le)
behind_lower word lower le (Some Faulted) place is = tt

-- ---- who committed

-- one member committed more, if it is the collector
more_here : (committed more : List Reaction) (a b : Bool) → a ≡ b → (more ≡ []) ⊎ (b ≡ true) → cond a committed [] ++ more ≡ cond b (committed ++ more) []
more_here committed more true true same mine = refl
more_here committed more false false same (inl none) = none
more_here committed more false false same (inr is) = absurd (let e : false ≡ true = is in cc)
more_here committed more true false same mine = absurd (let e : true ≡ false = same in cc)
more_here committed more false true same mine = absurd (let e : false ≡ true = same in cc)

-- another one did not
none_here : (committed more : List Reaction) (b : Bool) → (more ≡ []) ⊎ (b ≡ true → ⊥) → cond b committed [] ≡ cond b (committed ++ more) []
none_here committed more true (inl none) = sym (ap (λ (xs : List Reaction). committed ++ xs) none ∙ append-nil committed)
none_here committed more true (inr not) = absurd (not refl)
none_here committed more false mine = refl

-- ---- a share of which one member went on

module _ (given : Given) (word : Halt) (old new : Share) (number : ℕ) (m n : Member) (at : slice_get old.members.items number ≡ Some m) (items : new.members.items ≡ set old.members.items number n)
    (keeps : KeepsMember m n) (seat : KeepsSeat old.seat new.seat) where
  abbrev others : ℕ
  others = least_but number old.members.items

  keeps_new : KeepsShare old new
  keeps_new = one_member old new number m n at items keeps seat.same

  there : (j : ℕ) (x : Member) → slice_get new.members.items j ≡ Some x → ((j ≡ number) × (n ≡ x)) ⊎ ((j ≢ number) × (slice_get old.members.items j ≡ Some x))
  there j x is = at_set old.members.items number m n at j x (sym (ap (λ (xs : List Member). slice_get xs j) items) ∙ is)

  here : slice_get new.members.items number ≡ Some n
  here = ap (λ (xs : List Member). slice_get xs number) items ∙ set_here old.members.items number n m at

  module _ (committed : List Reaction) (is : IsOfRun given word committed old) where
    served_here : IsServed given word others (commits_of given committed m) m old.seat
    served_here = record {
      done = is.serving.done number m at;
      seat = is.serving.seat.seat;
      least = is.serving.seat.recorded ∙ least_is old.members.items number m at;
      behind = is.serving.seat.behind number m at;
    }

    module _ (more : List Reaction) (served : IsServed given word others (commits_of given committed m ++ more) n new.seat) (mine : (more ≡ []) ⊎ (is_collector given n ≡ true)) where
      apart_none : (j : ℕ) (x : Member) → j ≢ number → slice_get old.members.items j ≡ Some x → (more ≡ []) ⊎ (is_collector given x ≡ true → ⊥)
      apart_none j x apart was = elim mine [
        | inl none ↦ inl none
        | inr collects ↦ inr (λ other. apart (is.one j number x m was at other (was_collector given m n keeps collects)))
      ]

      done : (j : ℕ) (x : Member) → slice_get new.members.items j ≡ Some x → HasDone given (commits_of given (committed ++ more) x) x
      done j x at_j = elim (there j x at_j) [
        | inl same ↦ subst (λ (y : Member). HasDone given (commits_of given (committed ++ more) y) y) same.1
            (subst (λ (xs : List Reaction). HasDone given xs n) (more_here committed more (is_collector given m) (is_collector given n) (ap (λ k. (k + 1) == length given.plan.codes) (sym keeps.same.number)) mine) served.done)
        | inr was ↦ subst (λ (xs : List Reaction). HasDone given xs x) (none_here committed more (is_collector given x) (apart_none j x was.0 was.1)) (is.serving.done j x was.1)
      ]

      has_seat : HasSeat word new
      has_seat = record {
        seat = served.seat;
        recorded = served.least ∙ sym (ap least_failed items ∙ least_set old.members.items number m n at);
        behind = λ j x at_j. elim (there j x at_j) [
          | inl same ↦ subst (λ (y : Member). IsBehindSeen (seen new.seat) y.ending (place_of y.state)) same.1 served.behind
          | inr was ↦ behind_lower (seen old.seat) (seen new.seat) seat.seen x.ending (place_of x.state) (is.serving.seat.behind j x was.1)
        ];
      }

      one : HasOneCollector given new
      one i j x y at_i at_j collects other =
          let a = member_was old new keeps_new i x at_i in
          let b = member_was old new keeps_new j y at_j in
          is.one i j a.0 b.0 a.1 b.1 (was_collector given a.0 x a.2 collects) (was_collector given b.0 y b.2 other)

      lifted : IsOfRun given word (committed ++ more) new
      lifted = record { serving = record { done = done; seat = has_seat }; one = one }

      has : (more ≡ []) ⊎ HasCollector given new
      has = elim mine [ inl none ↦ inl none | inr collects ↦ inr (number, n, here, collects) ]

    goes_on : {S : Type 0} (took : S → List ℕ → S → Type 0) (kernel : Kernel) (before after : S)
        → GoesOn took kernel (λ all. IsServed given word others all n new.seat) (is_collector given n ≡ true) (commits_of given committed m) before after
        → GoesOn took kernel (λ all. IsOfRun given word all new) (HasCollector given new) committed before after
    goes_on {S} took kernel before after goes = record { more = goes.more; serving = lifted goes.more goes.serving goes.mine; mine = has goes.more goes.serving goes.mine; text = goes.text }

-- a call that served one member served its share
pub member_served : {S : Type 0} (took : S → List ℕ → S → Type 0) (plan : PlanView) (flows : List (List ℤ)) (word : Halt) (old new : Share) (number : ℕ) (m n : Member)
    → slice_get old.members.items number ≡ Some m → new.members.items ≡ set old.members.items number n → KeepsMember m n → KeepsSeat old.seat new.seat
    → (before after : S) → ServesMember took plan flows word m old.seat n new.seat before after → ServesShare took plan flows word old new before after
member_served {S} took plan flows word old new number m n at items keeps seat before after serves capacity limit committed is =
    let given : Given = run_of plan flows capacity limit in
    goes_on given word old new number m n at items keeps seat committed is took plan.kernel before after
    (serves capacity limit (least_but number old.members.items) (commits_of given committed m) (served_here given word old new number m n at items keeps seat committed is))

-- ---- shares of which one went on

module _ (given : Given) (word : Halt) (old new : List Share) (number : ℕ) (s t : Share) (at : slice_get old number ≡ Some s) (items : new ≡ set old number t) (keeps : KeepsShare s t) where
  keep_new : KeepsShares old new
  keep_new = one_share old new number s t at items keeps

  share_there : (j : ℕ) (u : Share) → slice_get new j ≡ Some u → ((j ≡ number) × (t ≡ u)) ⊎ ((j ≢ number) × (slice_get old j ≡ Some u))
  share_there j u is = at_set old number s t at j u (sym (ap (λ (xs : List Share). slice_get xs j) items) ∙ is)

  share_here : slice_get new number ≡ Some t
  share_here = ap (λ (xs : List Share). slice_get xs number) items ∙ set_here old number t s at

  module _ (committed : List Reaction) (is : AreOfRun given word committed old) where
    run_here : IsOfRun given word committed s
    run_here = record { serving = is.serving number s at; one = is.one.within number s at }

    module _ (more : List Reaction) (served : IsOfRun given word (committed ++ more) t) (mine : (more ≡ []) ⊎ HasCollector given t) where
      none_there : (j : ℕ) (u : Share) → j ≢ number → slice_get old j ≡ Some u → (i : ℕ) (x : Member) → slice_get u.members.items i ≡ Some x → (more ≡ []) ⊎ (is_collector given x ≡ true → ⊥)
      none_there j u apart was i x at_i = elim mine [
        | inl none ↦ inl none
        | inr collects ↦ inr (λ other. apart (is.one.across j number u s was at (i, x, at_i, other) (had_collector given s t keeps collects)))
      ]

      serving_other : (j : ℕ) (u : Share) → j ≢ number → slice_get old j ≡ Some u → IsServing given word (committed ++ more) u
      serving_other j u apart was = record {
        done = λ i x at_i. subst (λ (xs : List Reaction). HasDone given xs x) (none_here committed more (is_collector given x) (none_there j u apart was i x at_i)) ((is.serving j u was).done i x at_i);
        seat = (is.serving j u was).seat;
      }

      all_serving : (j : ℕ) (u : Share) → slice_get new j ≡ Some u → IsServing given word (committed ++ more) u
      all_serving j u at_j = elim (share_there j u at_j) [
        | inl same ↦ subst (λ (v : Share). IsServing given word (committed ++ more) v) same.1 served.serving
        | inr was ↦ serving_other j u was.0 was.1
      ]

      within : (j : ℕ) (u : Share) → slice_get new j ≡ Some u → HasOneCollector given u
      within j u at_j = elim (share_there j u at_j) [
        | inl same ↦ subst (λ (v : Share). HasOneCollector given v) same.1 served.one
        | inr was ↦ is.one.within j u was.1
      ]

      across : (i j : ℕ) (a b : Share) → slice_get new i ≡ Some a → slice_get new j ≡ Some b → HasCollector given a → HasCollector given b → i ≡ j
      across i j a b at_i at_j has other =
          let p = share_was old new keep_new i a at_i in
          let q = share_was old new keep_new j b at_j in
          is.one.across i j p.0 q.0 p.1 q.1 (had_collector given p.0 a p.2 has) (had_collector given q.0 b q.2 other)

      shares_lifted : AreOfRun given word (committed ++ more) new
      shares_lifted = record { serving = all_serving; one = record { within = within; across = across } }

      have : (more ≡ []) ⊎ HaveCollector given new
      have = elim mine [ inl none ↦ inl none | inr collects ↦ inr (number, t, share_here, collects) ]

    go_on : {S : Type 0} (took : S → List ℕ → S → Type 0) (kernel : Kernel) (before after : S)
        → GoesOn took kernel (λ all. IsOfRun given word all t) (HasCollector given t) committed before after
        → GoesOn took kernel (λ all. AreOfRun given word all new) (HaveCollector given new) committed before after
    go_on {S} took kernel before after goes = record { more = goes.more; serving = shares_lifted goes.more goes.serving goes.mine; mine = have goes.more goes.serving goes.mine; text = goes.text }

-- a call that served one share served all
pub share_served : {S : Type 0} (took : S → List ℕ → S → Type 0) (plan : PlanView) (flows : List (List ℤ)) (word : Halt) (old new : List Share) (number : ℕ) (s t : Share)
    → slice_get old number ≡ Some s → new ≡ set old number t → KeepsShare s t → (before after : S) → ServesShare took plan flows word s t before after → ServesShares took plan flows word old new before after
share_served {S} took plan flows word old new number s t at items keeps before after serves capacity limit committed is =
    let given : Given = run_of plan flows capacity limit in
    go_on given word old new number s t at items keeps committed is took plan.kernel before after
    (serves capacity limit committed (run_here given word old new number s t at items keeps committed is))

-- ---- what a service may begin with

pub member_may : (plan : PlanView) (flows : List (List ℤ)) (word : Halt) (share : Share) (number : ℕ) (m : Member) → slice_get share.members.items number ≡ Some m
    → (capacity limit : ℕ) (committed : List Reaction) → IsOfRun (run_of plan flows capacity limit) word committed share
    → IsServed (run_of plan flows capacity limit) word (least_but number share.members.items) (commits_of (run_of plan flows capacity limit) committed m) m share.seat
member_may plan flows word share number m at capacity limit committed is = record {
  done = is.serving.done number m at;
  seat = is.serving.seat.seat;
  least = is.serving.seat.recorded ∙ least_is share.members.items number m at;
  behind = is.serving.seat.behind number m at;
}

pub share_may : (plan : PlanView) (flows : List (List ℤ)) (word : Halt) (shares : List Share) (number : ℕ) (s : Share) → slice_get shares number ≡ Some s
    → (capacity limit : ℕ) (committed : List Reaction) → AreOfRun (run_of plan flows capacity limit) word committed shares → IsOfRun (run_of plan flows capacity limit) word committed s
share_may plan flows word shares number s at capacity limit committed is = record { serving = is.serving number s at; one = is.one.within number s at }
