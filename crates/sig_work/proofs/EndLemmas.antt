-- The ends of an actor, with one of them changed.
use Rattle.sig_work.proofs.Common.{◌≡◌, ◌<◌, ◌≤◌, ◌+◌, ◌++◌, inl, inr, ℕ, zero, suc, ℤ, Bool, true, false, cond, List, [], ◌∷◌, length, get_or, set, Result, Ok, Err, refl, ap, sym, subst, ◌∙◌, arith, Contains, IfNone, IfSome, None, OnErr, OnOk, Option, Some, slice_get, filter, range_with_len, length-set, put_capacity, put_link, sent, FoundEmpty, FoundFull, take_link, taken, Inlet, Outlet, Full, PastGoesOn, asked_to_pop, asked_to_push, AreSameEnds, HasFoundEmpty, HasFoundFull, HasPutAt, HaveHandedOver, ends_in, has_end, past_of, puts_of, sent_by, sent_of, taken_by, taken_of, takes_of, LinkEnds, get_set_other, set_here, in_filter, contains_cons, contains_head, contains_later, contains_none, slice_get-get_or, slice_get_within, cases_eq}

-- what a filter keeps
of_filter : {A : Type 0} (p : A → Bool) (xs : List A) (x : A) → Contains (filter p xs) x → p x ≡ true
of_filter {A} p [] x there = absurd (contains_none x there)
of_filter {A} p (y ∷ xs) x there = by (p y) refl (of_filter p xs x) there where
  by : (b : Bool) → p y ≡ b → (Contains (filter p xs) x → p x ≡ true) → Contains (cond b (y ∷ filter p xs) (filter p xs)) x → p x ≡ true
  by true is rest inside = elim (contains_cons y x (filter p xs) inside) [ inl same ↦ ap p same ∙ is | inr later ↦ rest later ]
  by false is rest inside = rest inside

in_range : (a n j : ℕ) → a ≤ j → j < a + n → Contains (range_with_len a n) j
in_range a zero j le lt = absurd (omega (arith, le, lt))
in_range a (suc n) j le lt = elim (cases_eq j a) [
  | inl same ↦ subst (λ i. Contains (i ∷ range_with_len (a + 1) n) j) same (contains_head j (range_with_len (a + 1) n))
  | inr apart ↦ contains_later a j (range_with_len (a + 1) n) (in_range (a + 1) n j (omega (arith, le, apart)) (omega (arith, lt)))
]

-- a test that gives the same everywhere keeps the same
filter_same : {A : Type 0} (p q : A → Bool) (xs : List A) → ((x : A) → p x ≡ q x) → filter p xs ≡ filter q xs
filter_same {A} p q [] same = refl
filter_same {A} p q (x ∷ xs) same = ap (λ b. cond b (x ∷ filter p xs) (filter p xs)) (same x) ∙ ap (λ (ys : List A). cond (q x) (x ∷ ys) ys) (filter_same p q xs same)

filter_alike : (p q : ℕ → Bool) (m n : ℕ) → m ≡ n → ((x : ℕ) → p x ≡ q x) → filter p (range_with_len 0 m) ≡ filter q (range_with_len 0 n)
filter_alike p q m n same alike = filter_same p q (range_with_len 0 m) alike ∙ ap (λ i. filter q (range_with_len 0 i)) same

-- ---- ends that are there

some_end : {A : Type 0} (o : Option (Option A)) → has_end o ≡ true → (end : A) × (o ≡ Some (Some end))
some_end {A} None is = absurd (let e : false ≡ true = is in cc)
some_end {A} (Some None) is = absurd (let e : false ≡ true = is in cc)
some_end {A} (Some (Some end)) is = (end, refl)

end_there : {A : Type 0} (ends : List (Option A)) (link : ℕ) → Contains (ends_in ends) link → (end : A) × (slice_get ends link ≡ Some (Some end))
end_there {A} ends link there = some_end (slice_get ends link) (of_filter (λ j. has_end (slice_get ends j)) (range_with_len 0 (length ends)) link there)

there_end : {A : Type 0} (ends : List (Option A)) (link : ℕ) (end : A) → slice_get ends link ≡ Some (Some end) → Contains (ends_in ends) link
there_end {A} ends link end is =
    in_filter (λ j. has_end (slice_get ends j)) (range_with_len 0 (length ends)) link (in_range 0 (length ends) link (omega arith) (let lt = slice_get_within ends link (Some end) is in omega (arith, lt))) (ap has_end is)

pub put_there : (ends : LinkEnds) (link : ℕ) → Contains (puts_of ends) link → (put : Inlet) × (slice_get ends.puts.items link ≡ Some (Some put))
put_there ends link there = end_there ends.puts.items link there

pub take_there : (ends : LinkEnds) (link : ℕ) → Contains (takes_of ends) link → (take : Outlet) × (slice_get ends.takes.items link ≡ Some (Some take))
take_there ends link there = end_there ends.takes.items link there

pub there_put : (ends : LinkEnds) (link : ℕ) (put : Inlet) → slice_get ends.puts.items link ≡ Some (Some put) → Contains (puts_of ends) link
there_put ends link put is = there_end ends.puts.items link put is

pub there_take : (ends : LinkEnds) (link : ℕ) (take : Outlet) → slice_get ends.takes.items link ≡ Some (Some take) → Contains (takes_of ends) link
there_take ends link take is = there_end ends.takes.items link take is

-- ---- one end changed

module _ {A : Type 0} (ends : List (Option A)) (link : ℕ) (old new : A) (at : slice_get ends link ≡ Some (Some old)) where
  abbrev after : List (Option A)
  after = set ends link (Some new)

  at_link : slice_get after link ≡ Some (Some new)
  at_link = set_here ends link (Some new) (Some old) at

  -- what is told of the others stays
  other_end : {B : Type 0} (f : Option (Option A) → B) (j : ℕ) → ((j ≡ link) → ⊥) → f (slice_get after j) ≡ f (slice_get ends j)
  other_end {B} f j apart = ap f (get_set_other ends link j (Some new) apart)

  ends_stay : ends_in after ≡ ends_in ends
  ends_stay = filter_alike (λ j. has_end (slice_get after j)) (λ j. has_end (slice_get ends j)) (length after) (length ends) (length-set ends link (Some new))
      (λ j. elim (cases_eq j link) [
        | inl same ↦ ap (λ i. has_end (slice_get after i)) same ∙ ap has_end at_link ∙ sym (ap has_end at) ∙ ap (λ i. has_end (slice_get ends i)) (sym same)
        | inr apart ↦ other_end has_end j apart
      ])

  same_end : (Same : A → A → Type 0) → Same new old → ((end : A) → Same end end) → (j : ℕ) (before : A) → slice_get ends j ≡ Some (Some before)
      → (end : A) × (slice_get after j ≡ Some (Some end)) × Same end before
  same_end Same alike itself j before is = elim (cases_eq j link) [
    | inl same ↦
        let e : Some (Some old) ≡ Some (Some before) = sym at ∙ ap (slice_get ends) (sym same) ∙ is in
        let one : old ≡ before = cc in
        (new, ap (slice_get after) same ∙ at_link, subst (Same new) one alike)
    | inr apart ↦ (before, get_set_other ends link j (Some new) apart ∙ is, itself before)
  ]

-- ---- what a call leaves of the past

pub place_is : {A : Type 0} (items : List A) (link : ℕ) (o x : A) → link < length items → o ≡ get_or items link o → o ≡ x → slice_get items link ≡ Some x
place_is {A} items link o x lt value is = slice_get-get_or items link o lt ∙ ap Some (sym value ∙ is)

pub put_at_is : (ends : LinkEnds) (link : ℕ) (o : Option Inlet) (put : Inlet) → HasPutAt ends link → o ≡ get_or ends.puts.items link o → o ≡ Some put → slice_get ends.puts.items link ≡ Some (Some put)
put_at_is ends link o put found value is = place_is ends.puts.items link o (Some put) (slice_get_within ends.puts.items link (Some found.0) found.1) value is

pub put_is : (ends : LinkEnds) (link : ℕ) (o : Option Inlet) (put : Inlet) → Contains (puts_of ends) link → o ≡ get_or ends.puts.items link o → o ≡ Some put → slice_get ends.puts.items link ≡ Some (Some put)
put_is ends link o put there value is = put_at_is ends link o put (put_there ends link there) value is

pub take_is : (ends : LinkEnds) (link : ℕ) (o : Option Outlet) (take : Outlet) → Contains (takes_of ends) link → o ≡ get_or ends.takes.items link o → o ≡ Some take → slice_get ends.takes.items link ≡ Some (Some take)
take_is ends link o take there value is =
    let found = take_there ends link there in
    place_is ends.takes.items link o (Some take) (slice_get_within ends.takes.items link (Some found.0) found.1) value is

never_none : {A : Type 0} (ends : List (Option A)) (link : ℕ) (o : Option A) → ((end : A) × (slice_get ends link ≡ Some (Some end))) → o ≡ get_or ends link o → o ≡ None → ⊥
never_none {A} ends link o found value none =
    let e : Some (Some found.0) ≡ Some o = sym found.1 ∙ place_is ends link o o (slice_get_within ends link (Some found.0) found.1) value refl in
    let f : Some found.0 ≡ o = cc in
    let g : Some found.0 ≡ None = f ∙ none in
    cc

pub put_there_never_none : (ends : LinkEnds) (link : ℕ) (o : Option Inlet) → HasPutAt ends link → o ≡ get_or ends.puts.items link o → o ≡ None → ⊥
put_there_never_none ends link o found value none = never_none ends.puts.items link o found value none

pub put_never_none : (ends : LinkEnds) (link : ℕ) (o : Option Inlet) → Contains (puts_of ends) link → o ≡ get_or ends.puts.items link o → o ≡ None → ⊥
put_never_none ends link o there value none = put_there_never_none ends link o (put_there ends link there) value none

pub take_never_none : (ends : LinkEnds) (link : ℕ) (o : Option Outlet) → Contains (takes_of ends) link → o ≡ get_or ends.takes.items link o → o ≡ None → ⊥
take_never_none ends link o there value none = never_none ends.takes.items link o (take_there ends link there) value none

module _ (ends later : LinkEnds) (link : ℕ) (old new : Inlet) (at : slice_get ends.puts.items link ≡ Some (Some old)) (puts_are : later.puts.items ≡ set ends.puts.items link (Some new)) (takes_are : later.takes ≡ ends.takes) where
  sent_at : (j : ℕ) → sent_of later j ≡ sent_by (slice_get (set ends.puts.items link (Some new)) j)
  sent_at j = ap (λ (xs : List (Option Inlet)). sent_by (slice_get xs j)) puts_are

  taken_at : (j : ℕ) → taken_of later j ≡ taken_of ends j
  taken_at j = ap (λ ts. taken_by (slice_get ts.items j)) takes_are

  past_at : (j : ℕ) (xs : List ℤ) → sent_of later j ≡ xs → past_of later j ≡ record { sent = xs; taken = taken_of ends j }
  past_at j xs is = λ t. record { sent = is t; taken = taken_at j t }

  other_stays : (j : ℕ) → ((j ≡ link) → ⊥) → past_of later j ≡ past_of ends j
  other_stays j apart = past_at j (sent_of ends j) (sent_at j ∙ other_end ends.puts.items link old new at sent_by j apart)

  past_stays : sent new ≡ sent old → (j : ℕ) → past_of later j ≡ past_of ends j
  past_stays same j = elim (cases_eq j link) [
    | inl is ↦ subst (λ i. past_of later i ≡ past_of ends i) (sym is) (past_at link (sent_of ends link) (sent_at link ∙ ap sent_by (at_link ends.puts.items link old new at) ∙ same ∙ sym (ap sent_by at)))
    | inr apart ↦ other_stays j apart
  ]

  pub asked_push : {U : Type 0} (item : ℤ) (result : Result U Full) → OnOk result (sent new ≡ sent old ++ item ∷ []) → OnErr result (sent new ≡ sent old) → PastGoesOn (asked_to_push link item result) (past_of ends) (past_of later)
  asked_push {U} item (Ok done) more same = (
    past_at link (sent_of ends link ++ item ∷ []) (sent_at link ∙ ap sent_by (at_link ends.puts.items link old new at) ∙ more ∙ ap (λ (xs : List ℤ). xs ++ item ∷ []) (sym (ap sent_by at))),
    λ j apart. other_stays j apart,
  )
  asked_push {U} item (Err full) more same = past_stays same

  pub pushed_ends : put_link new ≡ put_link old → put_capacity new ≡ put_capacity old → AreSameEnds ends later
  pushed_ends same_link same_capacity = record {
    puts = ap (λ (xs : List (Option Inlet)). length xs) puts_are ∙ length-set ends.puts.items link (Some new);
    takes = ap (λ ts. length ts.items) takes_are;
    put = λ j before is.
        let p = same_end ends.puts.items link old new at (λ (a b : Inlet). (put_link a ≡ put_link b) × (put_capacity a ≡ put_capacity b)) (same_link, same_capacity) (λ end. (refl, refl)) j before is in
        (p.0, ap (λ (xs : List (Option Inlet)). slice_get xs j) puts_are ∙ p.1, p.2.0, p.2.1);
    take = λ j before is. (before, ap (λ ts. slice_get ts.items j) takes_are ∙ is, refl);
  }

  -- what was sent stays
  pub handed_over : put_link new ≡ put_link old → put_capacity new ≡ put_capacity old → sent new ≡ sent old → HaveHandedOver ends later
  handed_over same_link same_capacity same_sent = record {
    same = pushed_ends same_link same_capacity;
    past = past_stays same_sent;
  }

  pub pushed_puts : puts_of later ≡ puts_of ends
  pushed_puts = ap (λ (xs : List (Option Inlet)). ends_in xs) puts_are ∙ ends_stay ends.puts.items link old new at

module _ (ends later : LinkEnds) (link : ℕ) (old new : Outlet) (at : slice_get ends.takes.items link ≡ Some (Some old)) (takes_are : later.takes.items ≡ set ends.takes.items link (Some new)) (puts_are : later.puts ≡ ends.puts) where
  taken_there : (j : ℕ) → taken_of later j ≡ taken_by (slice_get (set ends.takes.items link (Some new)) j)
  taken_there j = ap (λ (xs : List (Option Outlet)). taken_by (slice_get xs j)) takes_are

  sent_there : (j : ℕ) → sent_of later j ≡ sent_of ends j
  sent_there j = ap (λ ps. sent_by (slice_get ps.items j)) puts_are

  past_there : (j : ℕ) (xs : List ℤ) → taken_of later j ≡ xs → past_of later j ≡ record { sent = sent_of ends j; taken = xs }
  past_there j xs is = λ t. record { sent = sent_there j t; taken = is t }

  other_there : (j : ℕ) → ((j ≡ link) → ⊥) → past_of later j ≡ past_of ends j
  other_there j apart = past_there j (taken_of ends j) (taken_there j ∙ other_end ends.takes.items link old new at taken_by j apart)

  pub asked_pop : (o : Option ℤ) → IfSome o (λ x. taken new ≡ taken old ++ x ∷ []) → IfNone o (taken new ≡ taken old) → PastGoesOn (asked_to_pop link o) (past_of ends) (past_of later)
  asked_pop (Some x) more same = (
    past_there link (taken_of ends link ++ x ∷ []) (taken_there link ∙ ap taken_by (at_link ends.takes.items link old new at) ∙ more ∙ ap (λ (xs : List ℤ). xs ++ x ∷ []) (sym (ap taken_by at))),
    λ j apart. other_there j apart,
  )
  asked_pop None more same = λ j. elim (cases_eq j link) [
    | inl is ↦ subst (λ i. past_of later i ≡ past_of ends i) (sym is) (past_there link (taken_of ends link) (taken_there link ∙ ap taken_by (at_link ends.takes.items link old new at) ∙ same ∙ sym (ap taken_by at)))
    | inr apart ↦ other_there j apart
  ]

  pub popped_ends : take_link new ≡ take_link old → AreSameEnds ends later
  popped_ends same_link = record {
    puts = ap (λ ps. length ps.items) puts_are;
    takes = ap (λ (xs : List (Option Outlet)). length xs) takes_are ∙ length-set ends.takes.items link (Some new);
    put = λ j before is. (before, ap (λ ps. slice_get ps.items j) puts_are ∙ is, refl, refl);
    take = λ j before is.
        let p = same_end ends.takes.items link old new at (λ (a b : Outlet). take_link a ≡ take_link b) same_link (λ end. refl) j before is in
        (p.0, ap (λ (xs : List (Option Outlet)). slice_get xs j) takes_are ∙ p.1, p.2);
  }

  pub popped_takes : takes_of later ≡ takes_of ends
  popped_takes = ap (λ (xs : List (Option Outlet)). ends_in xs) takes_are ∙ ends_stay ends.takes.items link old new at

-- ---- a link that was found full, or empty

pub full_stays : {U : Type 0} (result : Result U Full) (old new : Inlet) → OnErr result (FoundFull old new) → OnErr result (sent new ≡ sent old)
full_stays {U} (Ok done) old new found = tt
full_stays {U} (Err full) old new found = found.stays

pub empty_stays : (o : Option ℤ) (old new : Outlet) → IfNone o (FoundEmpty old new) → IfNone o (taken new ≡ taken old)
empty_stays (Some x) old new found = tt
empty_stays None old new found = found.stays

pub found_full_here : {U : Type 0} (result : Result U Full) (ends later : LinkEnds) (link : ℕ) (old new : Inlet) → slice_get ends.puts.items link ≡ Some (Some old) → later.puts.items ≡ set ends.puts.items link (Some new)
    → OnErr result (FoundFull old new) → OnErr result (HasFoundFull link ends later)
found_full_here {U} (Ok done) ends later link old new at puts_are found = tt
found_full_here {U} (Err full) ends later link old new at puts_are found =
    record { before = old; after = new; was = at; is = ap (λ (xs : List (Option Inlet)). slice_get xs link) puts_are ∙ set_here ends.puts.items link (Some new) (Some old) at; found = found }

pub found_empty_here : (o : Option ℤ) (ends later : LinkEnds) (link : ℕ) (old new : Outlet) → slice_get ends.takes.items link ≡ Some (Some old) → later.takes.items ≡ set ends.takes.items link (Some new)
    → IfNone o (FoundEmpty old new) → IfNone o (HasFoundEmpty link ends later)
found_empty_here (Some x) ends later link old new at takes_are found = tt
found_empty_here None ends later link old new at takes_are found =
    record { before = old; after = new; was = at; is = ap (λ (xs : List (Option Outlet)). slice_get xs link) takes_are ∙ set_here ends.takes.items link (Some new) (Some old) at; found = found }
