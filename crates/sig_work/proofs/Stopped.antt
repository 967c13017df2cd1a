-- Shares after a service, and after a stop.
use Rattle.sig_work.proofs.Common.{◌≡◌, ◌≤◌, ◌+◌, ◌∙◌, inl, inr, ℕ, List, [], length, set, refl, ap, sym, subst, arith, Some, ◌++◌, if◌then◌else◌, slice_get, length-set, IsSeatOf, Halt, Given, Reaction, same_Some, HasDone, commits_of, is_collector, ArePastZero, ChangedBelow, GoesOn, HasStopped, IsPastZero, KeepsShare, KeepsShares, ShareStopped, SharesStopped, AreOfRun, AreSameShares, HaveCollector, HaveDone, HaveEnded, IsSameShare, WereServed, WereStopped, Member, Share, slice_get_within, some_at, cases_eq, get_set_other, set_here}
use Rattle.sig_work.proofs.WhatStays.{none_faulted, same_member_then, same_seat_then}

-- ---- one element after another

module _ {A : Type 0} (R : A → A → Type 0) (old : List A) where
  pub one_changed : (count : ℕ) (mid new : List A) (x y : A) → ChangedBelow R count old mid → slice_get mid count ≡ Some x → new ≡ set mid count y → R x y → ChangedBelow R (count + 1) old new
  one_changed count mid new x y is at items related = record {
    length_stays = ap (λ (xs : List A). length xs) items ∙ length-set mid count y ∙ is.length_stays;
    below = λ j before lt there. elim (cases_eq j count) [
      | inl same ↦ (
        y,
        ap (λ (xs : List A). slice_get xs j) items ∙ ap (slice_get (set mid count y)) same ∙ set_here mid count y x at,
        subst (λ (z : A). R z y) (same_Some x before (sym at ∙ is.above count (omega arith) ∙ ap (slice_get old) (sym same) ∙ there)) related,
      )
      | inr apart ↦
          let p = is.below j before (omega (arith, lt, apart)) there in
          (p.0, ap (λ (xs : List A). slice_get xs j) items ∙ get_set_other mid count j y apart ∙ p.1, p.2)
    ];
    above = λ j le. ap (λ (xs : List A). slice_get xs j) items ∙ get_set_other mid count j y (λ e. omega (arith, e, le)) ∙ is.above j (omega (arith, le));
  }

  pub all_changed : (count : ℕ) (new : List A) → ChangedBelow R count old new → length old ≤ count → (j : ℕ) (before : A) → slice_get old j ≡ Some before → (after : A) × (slice_get new j ≡ Some after) × R before after
  all_changed count new is all j before there = is.below j before (let lt = slice_get_within old j before there in omega (arith, lt, all)) there

-- ---- after a stop

-- what is there afterwards was there before
pub member_ran : (old new : Share) → ShareStopped old new → (number : ℕ) (n : Member) → slice_get new.members.items number ≡ Some n
    → (m : Member) × (slice_get old.members.items number ≡ Some m) × HasStopped m n
member_ran old new stopped number n is =
    let found = some_at old.members.items number (let lt = slice_get_within new.members.items number n is in let count = stopped.count in omega (arith, lt, count)) in
    let now = stopped.members number found.0 found.1 in
    (found.0, found.1, subst (HasStopped found.0) (same_Some now.0 n (sym now.1 ∙ is)) now.2)

pub share_ran : (old new : List Share) → SharesStopped old new → (number : ℕ) (t : Share) → slice_get new number ≡ Some t
    → (s : Share) × (slice_get old number ≡ Some s) × ShareStopped s t
share_ran old new stopped number t is =
    let found = some_at old number (let lt = slice_get_within new number t is in let count = stopped.count in omega (arith, lt, count)) in
    let now = stopped.each number found.0 found.1 in
    (found.0, found.1, subst (ShareStopped found.0) (same_Some now.0 t (sym now.1 ∙ is)) now.2)

pub stopped_same : (a b c : List Share) → KeepsShares a b → SharesStopped b c → AreSameShares a c
stopped_same a b c keeps stopped = record {
  count = stopped.count ∙ keeps.count;
  each = λ number before is.
      let p = keeps.each number before is in
      let q = stopped.each number p.0 p.1 in
      (q.0, q.1, same before p.0 q.0 p.2 q.2);
} where
  same : (s t u : Share) → KeepsShare s t → ShareStopped t u → IsSameShare s u
  same s t u one two = record {
    count = two.count ∙ one.count;
    members = λ number before is.
        let p = one.members number before is in
        let q = two.members number p.0 p.1 in
        (q.0, q.1, same_member_then before p.0 q.0 p.2.same q.2.same);
    seats = same_seat_then s.seat t.seat u.seat one.seats two.seats;
  }

pub stopped_ended : (old new : List Share) → SharesStopped old new → HaveEnded new
stopped_ended old new stopped at t is number n there =
    let s = share_ran old new stopped at t is in
    let m = member_ran s.0 t s.2 number n there in
    m.2.ended

module _ (given : Given) where
  collector_ran : (m n : Member) → HasStopped m n → is_collector given m ≡ is_collector given n
  collector_ran m n stopped = ap (λ k. is_collector given (record m { number = k })) (sym stopped.same.number)

  have_ran : (old new : List Share) → SharesStopped old new → HaveCollector given old → HaveCollector given new
  have_ran old new stopped have =
      let t = stopped.each have.0 have.1 have.2 in
      let n = t.2.members have.3.0 have.3.1 have.3.2 in
      (have.0, t.0, t.1, (have.3.0, n.0, n.1, sym (collector_ran have.3.1 n.0 n.2) ∙ have.3.3))

  done_ran : (s t : Share) → ShareStopped s t → (committed : List Reaction) → HaveDone given committed s → HaveDone given committed t
  done_ran s t stopped committed done number n there =
      let m = member_ran s t stopped number n there in
      subst (λ (xs : List Reaction). HasDone given xs n) (ap (λ b. if b then committed else []) (collector_ran m.0 n m.2)) (m.2.done given (commits_of given committed m.0) (done number m.0 m.1))

  pub were_stopped : {S : Type 0} (took : S → List ℕ → S → Type 0) (word : Halt) (old new : List Share) (before after : S) (committed : List Reaction)
      → GoesOn took given.plan.kernel (λ all. AreOfRun given word all old) (HaveCollector given old) committed before after → SharesStopped old new → WereStopped took given word new before after committed
  were_stopped {S} took word old new before after committed goes stopped = record {
    behind = committed ++ goes.more;
    done = λ at t is.
        let s = share_ran old new stopped at t is in
        done_ran s.0 t s.2 (committed ++ goes.more) (goes.serving.serving at s.0 s.1).done;
    seats = λ at t is.
        let s = share_ran old new stopped at t is in
        (s.2.seats.0 ∙ (goes.serving.serving at s.0 s.1).seat.seat, s.2.recorded);
    commits = record { more = goes.more; joined = refl; mine = elim goes.mine [ inl none ↦ inl none | inr have ↦ inr (have_ran old new stopped have) ]; text = goes.text };
  }

  pub were_served : {S : Type 0} (took : S → List ℕ → S → Type 0) (word : Halt) (old new : List Share) (before after : S) (committed : List Reaction)
      → GoesOn took given.plan.kernel (λ all. AreOfRun given word all new) (HaveCollector given new) committed before after → KeepsShares old new → WereServed took given word old new before after committed
  were_served {S} took word old new before after committed goes keeps = record {
    behind = committed ++ goes.more;
    serving = goes.serving.serving;
    unfaulted = none_faulted old new keeps;
    commits = record { more = goes.more; joined = refl; mine = goes.mine; text = goes.text };
  }

-- ---- what a stop needs

pub past_zero : (given : Given) (committed : List Reaction) (m : Member) → HasDone given committed m → IsPastZero m
past_zero given committed m is = let from = is.member.state.from in omega (arith, from)

pub all_past_zero : (given : Given) (word : Halt) (committed : List Reaction) (shares : List Share) → AreOfRun given word committed shares
    → (number : ℕ) (share : Share) → slice_get shares number ≡ Some share → ArePastZero share.members.items
all_past_zero given word committed shares is number share at j m there = past_zero given (commits_of given committed m) m ((is.serving number share at).done j m there)

pub all_seats : (given : Given) (word : Halt) (committed : List Reaction) (shares : List Share) → AreOfRun given word committed shares
    → (number : ℕ) (share : Share) → slice_get shares number ≡ Some share → IsSeatOf word share.seat
all_seats given word committed shares is number share at = (is.serving number share at).seat.seat
