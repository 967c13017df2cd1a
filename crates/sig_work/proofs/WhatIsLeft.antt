-- What is left of shares whose members give up ends.
use Rattle.sig_work.proofs.Common.{◌≡◌, ◌<◌, ◌+◌, ◌∙◌, inl, inr, ℕ, suc, cond, List, [], ◌∷◌, length, get_or, set, refl, ap, sym, subst, arith, IfNone, IfSome, None, Option, Some, slice_get, sum_by, ◌==◌, length-set, sum_by-cons, IsSeatOf, parts, recorded, seen, Halt, HaltSeat, IsSettled, Inlet, Outlet, LinkInfo, same_Some, AreSingle, IsAmong, StandsAt, times, times_in, AreLeft, AreLeftEnds, AreSettledBelow, But, Each, From, HasNoPut, HasNoTake, HaveRoomFor, IsLeftMember, IsLeftShare, IsLinked, IsPutOf, IsSettledLink, IsTakeOf, AreSeatsOf, IsClosed, LinkEnds, Spot, Member, Share, slice_get-get_or, slice_get_within, some_at, cases_eq, set_here}
use Rattle.sig_work.proofs.CountedMembers.{same_member}
use Rattle.sig_work.proofs.ItemInPlace.{set_apart}

-- lists with equal counts at equal places count the same
pub same_sums : {A : Type 0} (f : A → ℕ) (xs ys : List A) → length ys ≡ length xs
    → ((i : ℕ) (x : A) → slice_get xs i ≡ Some x → (y : A) × (slice_get ys i ≡ Some y) × (f y ≡ f x)) → sum_by f ys ≡ sum_by f xs
same_sums {A} f [] [] count each = refl
same_sums {A} f [] (y ∷ ys) count each = absurd (let clash : suc (length ys) ≡ 0 = count in omega (arith, clash))
same_sums {A} f (x ∷ xs) [] count each = absurd (let clash : 0 ≡ suc (length xs) = count in omega (arith, clash))
same_sums {A} f (x ∷ xs) (y ∷ ys) count each =
    let first = each 0 x refl in
    let here : f y ≡ f x = ap f (same_Some y first.0 first.1) ∙ first.2 in
    let rest = same_sums f xs ys (let one : suc (length ys) ≡ suc (length xs) = count in omega (arith, one)) (λ i z at. each (suc i) z at) in
    let mine = sum_by-cons f x xs in
    let theirs = sum_by-cons f y ys in
    omega (arith, here, rest, mine, theirs)

module _ (P Q : ℕ → Type 0) where
  pub same_ends : (ends : LinkEnds) → AreLeftEnds P Q ends ends
  same_ends ends = record { puts_count = refl; takes_count = refl; puts = λ link is. refl; takes = λ link is. refl }

  pub same_left : (m : Member) → IsLeftMember P Q m m
  same_left m = record { number = refl; state = refl; ending = refl; ends = same_ends m.ends }

  pub nothing_taken : (shares : List Share) → AreLeft P Q shares shares
  nothing_taken shares = record {
    count = refl;
    each = λ at before there. (
      before,
      there,
      (let left : IsLeftShare P Q before before = record { seat = refl; count = refl; each = λ number m is. (m, is, same_left m) } in left),
    );
  }

  module _ (old new : List Share) (left : AreLeft P Q old new) where
    -- a member of the shares before is one of those behind
    pub among_after : (k : ℕ) (m : Member) → IsAmong old k m → (n : Member) × IsAmong new k n × IsLeftMember P Q m n
    among_after k m one =
        let share = left.each one.at one.share one.there in
        let found = share.2.each one.number m one.is in (
          found.0,
          record { at = one.at; number = one.number; share = share.0; there = share.1; is = found.1; numbered = found.2.number ∙ one.numbered },
          found.2,
        )

    -- and the other way
    pub among_before : (k : ℕ) (n : Member) → IsAmong new k n → (m : Member) × IsAmong old k m × IsLeftMember P Q m n
    among_before k n one =
        let count = left.count in
        let within = slice_get_within new one.at one.share one.there in
        let share = some_at old one.at (omega (arith, count, within)) in
        let after = left.each one.at share.0 share.1 in
        let same : after.0 ≡ one.share = same_Some after.0 one.share (sym after.1 ∙ one.there) in
        let many = after.2.count in
        let here : slice_get after.0.members.items one.number ≡ Some n = ap (λ (s : Share). slice_get s.members.items one.number) same ∙ one.is in
        let inside = slice_get_within after.0.members.items one.number n here in
        let m = some_at share.0.members.items one.number (omega (arith, many, inside)) in
        let found = after.2.each one.number m.0 m.1 in
        let is_n : found.0 ≡ n = same_Some found.0 n (sym found.1 ∙ here) in
        let left_n : IsLeftMember P Q m.0 n = subst (λ (x : Member). IsLeftMember P Q m.0 x) is_n found.2 in (
          m.0,
          record { at = one.at; number = one.number; share = share.0; there = share.1; is = m.1; numbered = sym left_n.number ∙ one.numbered },
          left_n,
        )

    pub times_left : (k : ℕ) → times k new ≡ times k old
    times_left k = same_sums (λ s. times_in k s) old new left.count (λ at before there. (
        let share = left.each at before there in (
          share.0,
          share.1,
          same_sums (λ m. cond (m.number == k) 1 0) before.members.items share.0.members.items share.2.count (λ number m is. (
              let found = share.2.each number m is in
              (found.0, found.1, ap (λ i. cond (i == k) 1 0) found.2.number))),
        )))

    pub single_left : AreSingle old → AreSingle new
    single_left single k = let same = times_left k in let most = single k in omega (arith, same, most)

    pub room_left : (link : ℕ) → HaveRoomFor link old → HaveRoomFor link new
    room_left link room at number share n there is =
        let found = among_before n.number n (record { at = at; number = number; share = share; there = there; is = is; numbered = refl }) in
        let here = room found.1.at found.1.number found.1.share found.0 found.1.there found.1.is in
        let puts = found.2.ends.puts_count in
        let takes = found.2.ends.takes_count in
        (omega (arith, here, puts), omega (arith, here, takes))

    -- a link whose ends stay is as it was
    pub linked_left : (link : ℕ) (info : LinkInfo) → P link → Q link → IsLinked link info old → IsLinked link info new
    linked_left link info puts takes linked w one r two put take is_put is_take =
        let writer = among_before info.writer w one in
        let reader = among_before info.reader r two in
        linked writer.0 writer.1 reader.0 reader.1 put take (sym (writer.2.ends.puts link puts) ∙ is_put) (sym (reader.2.ends.takes link takes) ∙ is_take)

    pub settled_left : (link : ℕ) (info : LinkInfo) → P link → Q link → IsSettledLink new link info → IsSettledLink old link info
    settled_left link info puts takes settled w one r two put take is_put is_take =
        let writer = among_after info.writer w one in
        let reader = among_after info.reader r two in
        settled writer.0 writer.1 reader.0 reader.1 put take (writer.2.ends.puts link puts ∙ is_put) (reader.2.ends.takes link takes ∙ is_take)

-- one after the other
module _ (P Q V W R S : ℕ → Type 0) (puts : (link : ℕ) → R link → P link × V link) (takes : (link : ℕ) → S link → Q link × W link) where
  ends_then : (a b c : LinkEnds) → AreLeftEnds P Q a b → AreLeftEnds V W b c → AreLeftEnds R S a c
  ends_then a b c one two = record {
    puts_count = two.puts_count ∙ one.puts_count;
    takes_count = two.takes_count ∙ one.takes_count;
    puts = λ link is. two.puts link (puts link is).1 ∙ one.puts link (puts link is).0;
    takes = λ link is. two.takes link (takes link is).1 ∙ one.takes link (takes link is).0;
  }

  member_then : (a b c : Member) → IsLeftMember P Q a b → IsLeftMember V W b c → IsLeftMember R S a c
  member_then a b c one two = record {
    number = two.number ∙ one.number;
    state = two.state ∙ one.state;
    ending = two.ending ∙ one.ending;
    ends = ends_then a.ends b.ends c.ends one.ends two.ends;
  }

  share_then : (a b c : Share) → IsLeftShare P Q a b → IsLeftShare V W b c → IsLeftShare R S a c
  share_then a b c one two = record {
    seat = two.seat ∙ one.seat;
    count = two.count ∙ one.count;
    each = λ number m is. (
        let mid = one.each number m is in
        let last = two.each number mid.0 mid.1 in
        (last.0, last.1, member_then m mid.0 last.0 mid.2 last.2));
  }

  pub left_then : (a b c : List Share) → AreLeft P Q a b → AreLeft V W b c → AreLeft R S a c
  left_then a b c one two = record {
    count = two.count ∙ one.count;
    each = λ at share there. (
        let mid = one.each at share there in
        let last = two.each at mid.0 mid.1 in
        (last.0, last.1, share_then share mid.0 last.0 mid.2 last.2));
  }

-- ---- one link more

module _ (n : ℕ) where
  pub more_left : (a b c : List Share) → AreLeft (From n) (From n) a b → AreLeft (But n) (But n) b c → AreLeft (From (n + 1)) (From (n + 1)) a c
  more_left = left_then (From n) (From n) (But n) (But n) (From (n + 1)) (From (n + 1))
      (λ link later. (omega (arith, later), λ same. omega (arith, later, same)))
      (λ link later. (omega (arith, later), λ same. omega (arith, later, same)))

  pub both_left : (a b c : List Share) → AreLeft (But n) Each a b → AreLeft Each (But n) b c → AreLeft (But n) (But n) a c
  both_left = left_then (But n) Each Each (But n) (But n) (But n) (λ link other. (other, tt)) (λ link other. (tt, other))

  pub more_settled : (links : List LinkInfo) (old now : List Share) → AreLeft (From n) (From n) old now → AreSettledBelow n links old
      → (info : LinkInfo) → slice_get links n ≡ Some info → IsSettledLink now n info → AreSettledBelow (n + 1) links old
  more_settled links old now left settled info at here link other below is = elim (cases_eq link n) [
    | inl same ↦
        let info_is : info ≡ other = same_Some info other (sym at ∙ ap (slice_get links) (sym same) ∙ is) in
        subst (λ i. IsSettledLink old i other) (sym same)
        (subst (λ i. IsSettledLink old n i) info_is (settled_left (From n) (From n) old now left n info (omega arith) (omega arith) here))
    | inr apart ↦ settled link other (omega (arith, below, apart)) is
  ]

-- ---- the ends of one link

module _ (shares : List Share) (single : AreSingle shares) (link : ℕ) (info : LinkInfo) where
  pub settled_both : (put : Inlet) (take : Outlet) → IsPutOf shares info.writer link put → IsTakeOf shares info.reader link take → IsSettled put take → IsSettledLink shares link info
  settled_both put take p t settled w one r two put_w take_r is_put is_take =
      let w_is : p.member ≡ w = same_member shares info.writer (single info.writer) p.member w p.among one in
      let r_is : t.member ≡ r = same_member shares info.reader (single info.reader) t.member r t.among two in
      let puts : Some put ≡ Some put_w = same_Some (Some put) (Some put_w) (sym p.is ∙ ap (λ (m : Member). slice_get m.ends.puts.items link) w_is ∙ is_put) in
      let takes : Some take ≡ Some take_r = same_Some (Some take) (Some take_r) (sym t.is ∙ ap (λ (m : Member). slice_get m.ends.takes.items link) r_is ∙ is_take) in
      subst (λ q. IsSettled q take_r) (same_Some put put_w puts) (subst (λ q. IsSettled put q) (same_Some take take_r takes) settled)

  pub settled_without_put : HasNoPut shares info.writer link → IsSettledLink shares link info
  settled_without_put none w one r two put take is_put is_take =
      let clash : None ≡ Some put = same_Some None (Some put) (sym (none w one) ∙ is_put) in
      absurd cc

  pub settled_without_take : HasNoTake shares info.reader link → IsSettledLink shares link info
  settled_without_take none w one r two put take is_put is_take =
      let clash : None ≡ Some take = same_Some None (Some take) (sym (none r two) ∙ is_take) in
      absurd cc

-- ---- an end taken out of one member

module _ (P Q : ℕ → Type 0) where
  module _ (old : Share) (number : ℕ) (m n : Member) (at : slice_get old.members.items number ≡ Some m) (left : IsLeftMember P Q m n) where
    member_after : (i : ℕ) (before : Member) → slice_get old.members.items i ≡ Some before
        → (after : Member) × (slice_get (set old.members.items number n) i ≡ Some after) × IsLeftMember P Q before after
    member_after i before is = elim (cases_eq i number) [
      | inl same ↦
          let m_is : m ≡ before = same_Some m before (sym at ∙ ap (slice_get old.members.items) (sym same) ∙ is) in
          (n, ap (slice_get (set old.members.items number n)) same ∙ set_here old.members.items number n m at, subst (λ (x : Member). IsLeftMember P Q x n) m_is left)
      | inr apart ↦ (before, set_apart old.members.items number n i apart ∙ is, same_left P Q before)
    ]

    pub left_share : (new : Share) → new.seat ≡ old.seat → new.members.items ≡ set old.members.items number n → IsLeftShare P Q old new
    left_share new seat items = record {
      seat = seat;
      count = ap length items ∙ length-set old.members.items number n;
      each = λ i before is. (
          let after = member_after i before is in
          (after.0, ap (λ (xs : List Member). slice_get xs i) items ∙ after.1, after.2));
    }

  pub left_one : (shares : List Share) (at : ℕ) (share new : Share) → slice_get shares at ≡ Some share → IsLeftShare P Q share new → AreLeft P Q shares (set shares at new)
  left_one shares at share new there left = record {
    count = length-set shares at new;
    each = λ i before is. elim (cases_eq i at) [
      | inl same ↦
          let share_is : share ≡ before = same_Some share before (sym there ∙ ap (slice_get shares) (sym same) ∙ is) in
          (new, ap (slice_get (set shares at new)) same ∙ set_here shares at new share there, subst (λ (x : Share). IsLeftShare P Q x new) share_is left)
      | inr apart ↦ (before, set_apart shares at new i apart ∙ is, (let same : IsLeftShare P Q before before = record { seat = refl; count = refl; each = λ number m at. (m, at, same_left P Q m) } in same))
    ];
  }

-- ---- the member at a spot

module _ (shares : List Share) (k : ℕ) (spot : Spot) (stands : StandsAt shares k spot) (d : Share) where
  abbrev pub here : Share
  here = get_or shares spot.share d

  pub share_at : slice_get shares spot.share ≡ Some here
  share_at = slice_get-get_or shares spot.share d (slice_get_within shares spot.share stands.share stands.there)

  pub share_is : stands.share ≡ here
  share_is = same_Some stands.share here (sym stands.there ∙ share_at)

  pub member_at : slice_get here.members.items spot.member ≡ Some stands.member
  member_at = ap (λ (s : Share). slice_get s.members.items spot.member) (sym share_is) ∙ stands.is

  pub member_within : spot.member < length here.members.items
  member_within = slice_get_within here.members.items spot.member stands.member member_at

  pub among_at : IsAmong shares k stands.member
  among_at = record { at = spot.share; number = spot.member; share = stands.share; there = stands.there; is = stands.is; numbered = stands.numbered }

  pub room_at : (link : ℕ) → HaveRoomFor link shares → (m : Member) → slice_get here.members.items spot.member ≡ Some m → (link < length m.ends.puts.items) × (link < length m.ends.takes.items)
  room_at link room m is = room spot.share spot.member here m share_at is

  -- what was taken there is the end of the member
  module _ (single : AreSingle shares) (link : ℕ) where
    same_as : (m : Member) → IsAmong shares k m → stands.member ≡ m
    same_as m one = same_member shares k (single k) stands.member m among_at one

    pub put_some : (o : Option Inlet) → ((m : Member) → slice_get here.members.items spot.member ≡ Some m → slice_get m.ends.puts.items link ≡ Some o) → IfSome o (IsPutOf shares k link)
    put_some None is = tt
    put_some (Some put) is = record { member = stands.member; among = among_at; is = is stands.member member_at }

    pub put_none : (o : Option Inlet) → ((m : Member) → slice_get here.members.items spot.member ≡ Some m → slice_get m.ends.puts.items link ≡ Some o) → IfNone o (HasNoPut shares k link)
    put_none None is = λ m one. ap (λ (n : Member). slice_get n.ends.puts.items link) (sym (same_as m one)) ∙ is stands.member member_at
    put_none (Some put) is = tt

    pub take_some : (o : Option Outlet) → ((m : Member) → slice_get here.members.items spot.member ≡ Some m → slice_get m.ends.takes.items link ≡ Some o) → IfSome o (IsTakeOf shares k link)
    take_some None is = tt
    take_some (Some take) is = record { member = stands.member; among = among_at; is = is stands.member member_at }

    pub take_none : (o : Option Outlet) → ((m : Member) → slice_get here.members.items spot.member ≡ Some m → slice_get m.ends.takes.items link ≡ Some o) → IfNone o (HasNoTake shares k link)
    take_none None is = λ m one. ap (λ (n : Member). slice_get n.ends.takes.items link) (sym (same_as m one)) ∙ is stands.member member_at
    take_none (Some take) is = tt

-- ---- seats stay

module _ (P Q : ℕ → Type 0) (old new : List Share) (left : AreLeft P Q old new) where
  seat_before : (at : ℕ) (after : Share) → slice_get new at ≡ Some after → (before : Share) × (slice_get old at ≡ Some before) × (after.seat ≡ before.seat)
  seat_before at after there =
      let count = left.count in
      let lt = slice_get_within new at after there in
      let before = some_at old at (omega (arith, count, lt)) in
      let found = left.each at before.0 before.1 in
      let same : found.0 ≡ after = same_Some found.0 after (sym found.1 ∙ there) in
      (before.0, before.1, ap (λ (s : Share). s.seat) (sym same) ∙ found.2.seat)

  pub seats_left : (word : Halt) → AreSeatsOf word old → AreSeatsOf word new
  seats_left word seats at after there =
      let before = seat_before at after there in
      subst (λ (s : HaltSeat). IsSeatOf word s) (sym before.2) (seats at before.0 before.1)

  pub parts_left : sum_by (λ share. parts share.seat) new ≡ sum_by (λ share. parts share.seat) old
  parts_left = same_sums (λ (share : Share). parts share.seat) old new left.count (λ at before there. (
      let found = left.each at before there in
      (found.0, found.1, ap parts found.2.seat)))

  pub closed_left : (word : ℕ) → IsClosed new word → IsClosed old word
  closed_left word closed = record {
    met = (
        let met = closed.met in
        let before = seat_before met.0 met.1 met.2 in
        (met.0, before.0, before.1, ap recorded (sym before.2) ∙ met.3));
    least = λ at before there. (
        let found = left.each at before there in
        let most = closed.least at found.0 found.1 in
        let same = ap recorded found.2.seat in
        omega (arith, most, same));
    seen = λ at before there. (
        let found = left.each at before there in
        let most = closed.seen at found.0 found.1 in
        let same = ap seen found.2.seat in
        omega (arith, most, same));
  }

-- ---- once the end that puts was taken

module _ (n : ℕ) (old mid : List Share) (left : AreLeft (But n) Each old mid) where
  pub left_weaker : AreLeft (But n) (But n) old mid
  left_weaker = left_then (But n) Each Each Each (But n) (But n) (λ link other. (other, tt)) (λ link other. (tt, tt)) old mid mid left (nothing_taken Each Each mid)

  -- what the other end was
  pub take_before : (k : ℕ) (take : Outlet) → IsTakeOf mid k n take → IsTakeOf old k n take
  take_before k take was =
      let before = among_before (But n) Each old mid left k was.member was.among in
      record { member = before.0; among = before.1; is = sym (before.2.ends.takes n tt) ∙ was.is }

  pub take_none_before : (k : ℕ) → HasNoTake mid k n → HasNoTake old k n
  take_none_before k none m one =
      let after = among_after (But n) Each old mid left k m one in
      sym (after.2.ends.takes n tt) ∙ none after.0 after.1
