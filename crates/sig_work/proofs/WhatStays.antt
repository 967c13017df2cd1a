-- What stays of members and shares: from one call to the next, and where one of several goes on.
use borrow.Author.Count.{below_more}
use Rattle.sig_work.proofs.Common.{◌≡◌, ◌≢◌, ◌<◌, ◌≤◌, ◌+◌, ◌⊎◌, ◌∙◌, inl, inr, ℕ, true, List, length, set, refl, ap, sym, subst, arith, Some, ◌==◌, slice_get, length-set, IsSameSeat, HaltSeat, Given, same_Some, AreSameEnds, AreSameEnds-itself, IsSameMember, is_collector, HasEndedAt, HaveEndedAt, KeepsMember, KeepsSeat, KeepsShare, KeepsShares, AllEnded, AreSameShares, HasCollector, HaveCollector, HaveEnded, NoneFaulted, LinkEnds, Member, Share, slice_get_within, some_at, cases_eq, get_set_other, set_here}

-- ---- one element of a list changed

-- an element of a list with one changed: it is the new one, or was there before
pub at_set : {A : Type 0} (xs : List A) (k : ℕ) (old new : A) → slice_get xs k ≡ Some old → (j : ℕ) (x : A) → slice_get (set xs k new) j ≡ Some x
    → ((j ≡ k) × (new ≡ x)) ⊎ ((j ≢ k) × (slice_get xs j ≡ Some x))
at_set {A} xs k old new at j x is = elim (cases_eq j k) [
  | inl same ↦ inl (same, same_Some new x (sym (set_here xs k new old at) ∙ ap (slice_get (set xs k new)) (sym same) ∙ is))
  | inr apart ↦ inr (apart, sym (get_set_other xs k j new apart) ∙ is)
]

-- ---- the same ends

pub same_ends_then : (a b c : LinkEnds) → AreSameEnds a b → AreSameEnds b c → AreSameEnds a c
same_ends_then a b c one two = record {
  puts = two.puts ∙ one.puts;
  takes = two.takes ∙ one.takes;
  put = λ link before is.
      let p = one.put link before is in
      let q = two.put link p.0 p.1 in
      (q.0, q.1, q.2 ∙ p.2, q.3 ∙ p.3);
  take = λ link before is.
      let p = one.take link before is in
      let q = two.take link p.0 p.1 in
      (q.0, q.1, q.2 ∙ p.2);
}

pub same_member_then : (a b c : Member) → IsSameMember a b → IsSameMember b c → IsSameMember a c
same_member_then a b c one two = record { number = two.number ∙ one.number; ends = same_ends_then a.ends b.ends c.ends one.ends two.ends }

pub same_member : (m : Member) → IsSameMember m m
same_member m = record { number = refl; ends = AreSameEnds-itself m.ends }

-- ---- members and seats

pub keeps_member : (m : Member) → KeepsMember m m
keeps_member m = record { same = same_member m; ended = λ is. is; unfaulted = λ is. is }

pub keeps_then : (a b c : Member) → KeepsMember a b → KeepsMember b c → KeepsMember a c
keeps_then a b c one two = record {
  same = same_member_then a b c one.same two.same;
  ended = λ is. two.ended (one.ended is);
  unfaulted = λ is. one.unfaulted (two.unfaulted is);
}

pub keeps_seat : (s : HaltSeat) → KeepsSeat s s
keeps_seat s = record { same = (refl, refl); seen = omega arith }

pub same_seat_then : (a b c : HaltSeat) → IsSameSeat a b → IsSameSeat b c → IsSameSeat a c
same_seat_then a b c one two = (two.0 ∙ one.0, two.1 ∙ one.1)

pub seat_then : (a b c : HaltSeat) → KeepsSeat a b → KeepsSeat b c → KeepsSeat a c
seat_then a b c one two = record {
  same = same_seat_then a b c one.same two.same;
  seen = (let p = one.seen in let q = two.seen in omega (arith, p, q));
}

-- ---- shares

pub keeps_share : (s : Share) → KeepsShare s s
keeps_share s = record { count = refl; members = λ number before is. (before, is, keeps_member before); seats = (refl, refl) }

pub share_keeps_then : (a b c : Share) → KeepsShare a b → KeepsShare b c → KeepsShare a c
share_keeps_then a b c one two = record {
  count = two.count ∙ one.count;
  members = λ number before is.
      let p = one.members number before is in
      let q = two.members number p.0 p.1 in
      (q.0, q.1, keeps_then before p.0 q.0 p.2 q.2);
  seats = same_seat_then a.seat b.seat c.seat one.seats two.seats;
}

pub keeps_shares : (ss : List Share) → KeepsShares ss ss
keeps_shares ss = record { count = refl; each = λ number before is. (before, is, keeps_share before) }

pub shares_keep_then : (a b c : List Share) → KeepsShares a b → KeepsShares b c → KeepsShares a c
shares_keep_then a b c one two = record {
  count = two.count ∙ one.count;
  each = λ number before is.
      let p = one.each number before is in
      let q = two.each number p.0 p.1 in
      (q.0, q.1, share_keeps_then before p.0 q.0 p.2 q.2);
}

-- what is there afterwards was there before
pub member_was : (old new : Share) → KeepsShare old new → (number : ℕ) (n : Member) → slice_get new.members.items number ≡ Some n
    → (m : Member) × (slice_get old.members.items number ≡ Some m) × KeepsMember m n
member_was old new keeps number n is =
    let found = some_at old.members.items number (let lt = slice_get_within new.members.items number n is in let count = keeps.count in omega (arith, lt, count)) in
    let now = keeps.members number found.0 found.1 in
    (found.0, found.1, subst (KeepsMember found.0) (same_Some now.0 n (sym now.1 ∙ is)) now.2)

pub share_was : (old new : List Share) → KeepsShares old new → (number : ℕ) (t : Share) → slice_get new number ≡ Some t
    → (s : Share) × (slice_get old number ≡ Some s) × KeepsShare s t
share_was old new keeps number t is =
    let found = some_at old number (let lt = slice_get_within new number t is in let count = keeps.count in omega (arith, lt, count)) in
    let now = keeps.each number found.0 found.1 in
    (found.0, found.1, subst (KeepsShare found.0) (same_Some now.0 t (sym now.1 ∙ is)) now.2)

-- ---- one of several goes on

pub one_member : (old new : Share) (number : ℕ) (m n : Member) → slice_get old.members.items number ≡ Some m → new.members.items ≡ set old.members.items number n → KeepsMember m n → IsSameSeat old.seat new.seat → KeepsShare old new
one_member old new number m n at items keeps seats = record {
  count = ap (λ (xs : List Member). length xs) items ∙ length-set old.members.items number n;
  members = λ j before is. elim (cases_eq j number) [
    | inl same ↦ (
      n,
      ap (λ (xs : List Member). slice_get xs j) items ∙ ap (slice_get (set old.members.items number n)) same ∙ set_here old.members.items number n m at,
      subst (λ (x : Member). KeepsMember x n) (same_Some m before (sym at ∙ ap (slice_get old.members.items) (sym same) ∙ is)) keeps,
    )
    | inr apart ↦ (before, ap (λ (xs : List Member). slice_get xs j) items ∙ get_set_other old.members.items number j n apart ∙ is, keeps_member before)
  ];
  seats = seats;
}

pub one_share : (old new : List Share) (number : ℕ) (s t : Share) → slice_get old number ≡ Some s → new ≡ set old number t → KeepsShare s t → KeepsShares old new
one_share old new number s t at items keeps = record {
  count = ap (λ (xs : List Share). length xs) items ∙ length-set old number t;
  each = λ j before is. elim (cases_eq j number) [
    | inl same ↦ (
      t,
      ap (λ (xs : List Share). slice_get xs j) items ∙ ap (slice_get (set old number t)) same ∙ set_here old number t s at,
      subst (λ (x : Share). KeepsShare x t) (same_Some s before (sym at ∙ ap (slice_get old) (sym same) ∙ is)) keeps,
    )
    | inr apart ↦ (before, ap (λ (xs : List Share). slice_get xs j) items ∙ get_set_other old number j t apart ∙ is, keeps_share before)
  ];
}

-- ---- the collector

pub is_collector_on : (given : Given) (m n : Member) → KeepsMember m n → is_collector given m ≡ true → is_collector given n ≡ true
is_collector_on given m n keeps is = ap (λ k. (k + 1) == length given.plan.codes) keeps.same.number ∙ is

pub was_collector : (given : Given) (m n : Member) → KeepsMember m n → is_collector given n ≡ true → is_collector given m ≡ true
was_collector given m n keeps is = ap (λ k. (k + 1) == length given.plan.codes) (sym keeps.same.number) ∙ is

pub has_collector_on : (given : Given) (s t : Share) → KeepsShare s t → HasCollector given s → HasCollector given t
has_collector_on given s t keeps has =
    let now = keeps.members has.0 has.1 has.2 in
    (has.0, now.0, now.1, is_collector_on given has.1 now.0 now.2 has.3)

pub had_collector : (given : Given) (s t : Share) → KeepsShare s t → HasCollector given t → HasCollector given s
had_collector given s t keeps has =
    let was = member_was s t keeps has.0 has.1 has.2 in
    (has.0, was.0, was.1, was_collector given was.0 has.1 was.2 has.3)

pub have_collector_on : (given : Given) (old new : List Share) → KeepsShares old new → HaveCollector given old → HaveCollector given new
have_collector_on given old new keeps have =
    let now = keeps.each have.0 have.1 have.2 in
    (have.0, now.0, now.1, has_collector_on given have.1 now.0 now.2 have.3)

-- ---- what serve promises of it

pub none_faulted : (old new : List Share) → KeepsShares old new → NoneFaulted old → NoneFaulted new
none_faulted old new keeps none at t is number n there faulted =
    let was = share_was old new keeps at t is in
    let m = member_was was.0 t was.2 number n there in
    none at was.0 was.1 number m.0 m.1 (m.2.unfaulted faulted)

pub same_shares : (old new : List Share) → KeepsShares old new → AreSameShares old new
same_shares old new keeps = record {
  count = keeps.count;
  each = λ number before is.
      let now = keeps.each number before is in (
        now.0,
        now.1,
        record {
          count = now.2.count;
          members = λ j m there. let next = now.2.members j m there in (next.0, next.1, next.2.same);
          seats = now.2.seats;
        },
      );
}

-- ---- what has ended

pub ended_stays : (old new : Share) → KeepsShare old new → (number : ℕ) → HasEndedAt old number → HasEndedAt new number
ended_stays old new keeps number ended n there =
    let m = member_was old new keeps number n there in
    m.2.ended (ended m.0 m.1)

pub all_ended_stays : (old new : Share) → KeepsShare old new → AllEnded old → AllEnded new
all_ended_stays old new keeps ended number n there = ended_stays old new keeps number (ended number) n there

pub have_ended_stay : (old new : List Share) → KeepsShares old new → (number : ℕ) → HaveEndedAt old number → HaveEndedAt new number
have_ended_stay old new keeps number ended t there =
    let s = share_was old new keeps number t there in
    all_ended_stays s.0 t s.2 (ended s.0 s.1)

-- the one of several that went on has ended
pub ended_here : (old new : Share) (number : ℕ) (m n : Member) → slice_get old.members.items number ≡ Some m → new.members.items ≡ set old.members.items number n → n.state.ended ≡ true → HasEndedAt new number
ended_here old new number m n at items ended x there =
    let same : n ≡ x = same_Some n x (sym (set_here old.members.items number n m at) ∙ sym (ap (λ (xs : List Member). slice_get xs number) items) ∙ there) in
    subst (λ (y : Member). y.state.ended ≡ true) same ended

pub have_ended_here : (old new : List Share) (number : ℕ) (s t : Share) → slice_get old number ≡ Some s → new ≡ set old number t → AllEnded t → HaveEndedAt new number
have_ended_here old new number s t at items ended x there =
    let same : t ≡ x = same_Some t x (sym (set_here old number t s at) ∙ sym (ap (λ (xs : List Share). slice_get xs number) items) ∙ there) in
    subst AllEnded same ended

-- one more
pub more_ended : (old new : Share) → KeepsShare old new → (count : ℕ) → ((j : ℕ) → j < count → HasEndedAt old j) → HasEndedAt new count → (j : ℕ) → j < count + 1 → HasEndedAt new j
more_ended old new keeps count before here = below_more (HasEndedAt new) count (λ j lt. ended_stays old new keeps j (before j lt)) here

pub more_have_ended : (old new : List Share) → KeepsShares old new → (count : ℕ) → ((j : ℕ) → j < count → HaveEndedAt old j) → HaveEndedAt new count → (j : ℕ) → j < count + 1 → HaveEndedAt new j
more_have_ended old new keeps count before here = below_more (HaveEndedAt new) count (λ j lt. have_ended_stay old new keeps j (before j lt)) here

pub all_have_ended : (share : Share) (count : ℕ) → length share.members.items ≤ count → ((j : ℕ) → j < count → HasEndedAt share j) → AllEnded share
all_have_ended share count all ended number m there = ended number (let lt = slice_get_within share.members.items number m there in omega (arith, lt, all)) m there

pub have_all_ended : (shares : List Share) (count : ℕ) → length shares ≤ count → ((j : ℕ) → j < count → HaveEndedAt shares j) → HaveEnded shares
have_all_ended shares count all ended number share there = ended number (let lt = slice_get_within shares number share there in omega (arith, lt, all)) share there
