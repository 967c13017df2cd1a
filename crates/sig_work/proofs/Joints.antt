-- Members that get the ends of links.
use Rattle.sig_work.proofs.Common.{◌≡◌, ◌<◌, ◌+◌, ◌∙◌, inl, inr, ℕ, List, [], length, set, refl, ap, sym, subst, arith, Some, slice_get, length-set, OfOneLink, put_capacity, sent, taken, Inlet, Outlet, LinkInfo, same_Some, AreJoined, HasGivenPut, HasGivenTake, IsJoinedLink, IsSameBare, sent_by, taken_by, But, Each, IsLeftMember, Member, slice_get_within, some_at, cases_eq, set_here}
use Rattle.sig_work.proofs.ItemInPlace.{set_apart}

module _ (members : List Member) (k link : ℕ) where
  pub given_put : (put : Inlet) (old new : Member) → slice_get members k ≡ Some old → IsLeftMember (But link) Each old new → slice_get new.ends.puts.items link ≡ Some (Some put)
      → HasGivenPut members (set members k new) k link put
  given_put put old new at left is = record {
    count = length-set members k new;
    others = λ other apart. set_apart members k new other apart;
    here = λ before same. (
      new,
      set_here members k new old at,
      subst (λ (m : Member). IsLeftMember (But link) Each m new) (same_Some old before (sym at ∙ same)) left,
      is,
    );
  }

  pub given_take : (take : Outlet) (old new : Member) → slice_get members k ≡ Some old → IsLeftMember Each (But link) old new → slice_get new.ends.takes.items link ≡ Some (Some take)
      → HasGivenTake members (set members k new) k link take
  given_take take old new at left is = record {
    count = length-set members k new;
    others = λ other apart. set_apart members k new other apart;
    here = λ before same. (
      new,
      set_here members k new old at,
      subst (λ (m : Member). IsLeftMember Each (But link) m new) (same_Some old before (sym at ∙ same)) left,
      is,
    );
  }

-- a member that got an empty end has no item still
module _ (links : ℕ) (b m n : Member) (link : ℕ) (bare : IsSameBare links b m) where
  bare_put : IsLeftMember (But link) Each m n → (put : Inlet) → slice_get n.ends.puts.items link ≡ Some (Some put) → sent put ≡ [] → IsSameBare links b n
  bare_put left put is none = record {
    number = left.number ∙ bare.number;
    state = left.state ∙ bare.state;
    ending = left.ending ∙ bare.ending;
    puts = left.ends.puts_count ∙ bare.puts;
    takes = left.ends.takes_count ∙ bare.takes;
    sent_none = λ j. elim (cases_eq j link) [
      | inl same ↦ ap (λ i. sent_by (slice_get n.ends.puts.items i)) same ∙ ap sent_by is ∙ none
      | inr apart ↦ ap sent_by (left.ends.puts j apart) ∙ bare.sent_none j
    ];
    taken_none = λ j. ap taken_by (left.ends.takes j tt) ∙ bare.taken_none j;
  }

  bare_take : IsLeftMember Each (But link) m n → (take : Outlet) → slice_get n.ends.takes.items link ≡ Some (Some take) → taken take ≡ [] → IsSameBare links b n
  bare_take left take is none = record {
    number = left.number ∙ bare.number;
    state = left.state ∙ bare.state;
    ending = left.ending ∙ bare.ending;
    puts = left.ends.puts_count ∙ bare.puts;
    takes = left.ends.takes_count ∙ bare.takes;
    sent_none = λ j. ap sent_by (left.ends.puts j tt) ∙ bare.sent_none j;
    taken_none = λ j. elim (cases_eq j link) [
      | inl same ↦ ap (λ i. taken_by (slice_get n.ends.takes.items i)) same ∙ ap taken_by is ∙ none
      | inr apart ↦ ap taken_by (left.ends.takes j apart) ∙ bare.taken_none j
    ];
  }

-- room for the ends of the next link
module _ (links : List LinkInfo) (capacity n : ℕ) (old now : List Member) (joined : AreJoined links capacity n old now) (info : LinkInfo) (at : slice_get links n ≡ Some info) where
  pub put_room : (m : Member) → slice_get now info.writer ≡ Some m → n < length m.ends.puts.items
  put_room m is =
      let many = joined.count in
      let lt = slice_get_within links n info at in
      let there = slice_get_within now info.writer m is in
      let before = some_at old info.writer (omega (arith, many, there)) in
      let found = joined.each info.writer before.0 before.1 in
      let same : found.0 ≡ m = same_Some found.0 m (sym found.1 ∙ is) in
      let puts = found.2.puts in
      subst (λ (x : Member). n < length x.ends.puts.items) same (omega (arith, puts, lt))

  takes_count : (k : ℕ) (m : Member) → slice_get now k ≡ Some m → n < length m.ends.takes.items
  takes_count k m is =
      let many = joined.count in
      let lt = slice_get_within links n info at in
      let there = slice_get_within now k m is in
      let before = some_at old k (omega (arith, many, there)) in
      let found = joined.each k before.0 before.1 in
      let same : found.0 ≡ m = same_Some found.0 m (sym found.1 ∙ is) in
      let takes = found.2.takes in
      subst (λ (x : Member). n < length x.ends.takes.items) same (omega (arith, takes, lt))

  -- also once the first end was given
  pub take_room : (mid : List Member) (put : Inlet) → HasGivenPut now mid info.writer n put → (m : Member) → slice_get mid info.reader ≡ Some m → n < length m.ends.takes.items
  take_room mid put gave m is = elim (cases_eq info.reader info.writer) [
    | inl same ↦
        let more = gave.count in
        let there = slice_get_within mid info.reader m is in
        let w = some_at now info.writer (omega (arith, more, there, same)) in
        let after = gave.here w.0 w.1 in
        let m_is : after.0 ≡ m = same_Some after.0 m (sym after.1 ∙ ap (slice_get mid) (sym same) ∙ is) in
        let count = after.2.ends.takes_count in
        let room = takes_count info.writer w.0 w.1 in
        subst (λ (x : Member). n < length x.ends.takes.items) m_is (omega (arith, count, room))
    | inr apart ↦ takes_count info.reader m (sym (gave.others info.reader apart) ∙ is)
  ]

-- ---- one link more

module _ (links : List LinkInfo) (capacity n : ℕ) (old now mid new : List Member) (joined : AreJoined links capacity n old now) (info : LinkInfo) (at : slice_get links n ≡ Some info)
    (put : Inlet) (take : Outlet) (one : OfOneLink put take) (capacity_is : put_capacity put ≡ capacity) (none_sent : sent put ≡ []) (none_taken : taken take ≡ [])
    (gave_put : HasGivenPut now mid info.writer n put) (gave_take : HasGivenTake mid new info.reader n take) (writes : info.writer < length now) (reads : info.reader < length mid) where
  same_ends : (P Q : ℕ → Type 0) (m : Member) → IsLeftMember P Q m m
  same_ends P Q m = record { number = refl; state = refl; ending = refl; ends = record { puts_count = refl; takes_count = refl; puts = λ link is. refl; takes = λ link is. refl } }

  -- a member behind the first gift, and behind the second
  after_put : (k : ℕ) (m : Member) → slice_get now k ≡ Some m → (x : Member) × (slice_get mid k ≡ Some x) × IsLeftMember (But n) Each m x
      × ((b : Member) → IsSameBare (length links) b m → IsSameBare (length links) b x)
  after_put k m is = elim (cases_eq k info.writer) [
    | inl same ↦
        let here = gave_put.here m (ap (slice_get now) (sym same) ∙ is) in
        (here.0, ap (slice_get mid) same ∙ here.1, here.2, λ b bare. bare_put (length links) b m here.0 n bare here.2 put here.3 none_sent)
    | inr apart ↦ (m, gave_put.others k apart ∙ is, same_ends (But n) Each m, λ b bare. bare)
  ]

  after_take : (k : ℕ) (m : Member) → slice_get mid k ≡ Some m → (x : Member) × (slice_get new k ≡ Some x) × IsLeftMember Each (But n) m x
      × ((b : Member) → IsSameBare (length links) b m → IsSameBare (length links) b x)
  after_take k m is = elim (cases_eq k info.reader) [
    | inl same ↦
        let here = gave_take.here m (ap (slice_get mid) (sym same) ∙ is) in
        (here.0, ap (slice_get new) same ∙ here.1, here.2, λ b bare. bare_take (length links) b m here.0 n bare here.2 take here.3 none_taken)
    | inr apart ↦ (m, gave_take.others k apart ∙ is, same_ends Each (But n) m, λ b bare. bare)
  ]

  -- an older link keeps its ends
  older : (link : ℕ) (other : LinkInfo) → ((link ≡ n) → ⊥) → IsJoinedLink capacity now link other → IsJoinedLink capacity new link other
  older link other apart was =
      let w = after_put other.writer was.writer was.writes in
      let v = after_take other.writer w.0 w.1 in
      let r = after_put other.reader was.reader was.reads in
      let s = after_take other.reader r.0 r.1 in
      record {
        writer = v.0;
        reader = s.0;
        put = was.put;
        take = was.take;
        writes = v.1;
        reads = s.1;
        has_put = v.2.ends.puts link tt ∙ w.2.ends.puts link apart ∙ was.has_put;
        has_take = s.2.ends.takes link apart ∙ r.2.ends.takes link tt ∙ was.has_take;
        one = was.one;
        capacity_is = was.capacity_is;
      }

  newest : IsJoinedLink capacity new n info
  newest =
      let w = some_at now info.writer writes in
      let mine = gave_put.here w.0 w.1 in
      let v = after_take info.writer mine.0 mine.1 in
      let r = some_at mid info.reader reads in
      let theirs = gave_take.here r.0 r.1 in
      record {
        writer = v.0;
        reader = theirs.0;
        put = put;
        take = take;
        writes = v.1;
        reads = theirs.1;
        has_put = v.2.ends.puts n tt ∙ mine.3;
        has_take = theirs.3;
        one = one;
        capacity_is = capacity_is;
      }

  pub joined_more : AreJoined links capacity (n + 1) old new
  joined_more = record {
    count = gave_take.count ∙ gave_put.count ∙ joined.count;
    each = λ k before is. (
        let m = joined.each k before is in
        let x = after_put k m.0 m.1 in
        let y = after_take k x.0 x.1 in
        (y.0, y.1, y.3 before (x.3 before m.2)));
    joined = λ link other below is. elim (cases_eq link n) [
      | inl same ↦
          let info_is : info ≡ other = same_Some info other (sym at ∙ ap (slice_get links) (sym same) ∙ is) in
          subst (λ j. IsJoinedLink capacity new j other) (sym same) (subst (λ i. IsJoinedLink capacity new n i) info_is newest)
      | inr apart ↦ older link other apart (joined.joined link other (omega (arith, below, apart)) is)
    ];
  }
