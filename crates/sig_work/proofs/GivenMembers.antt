-- Members that are given to shares, one after another.
use Rattle.sig_work.proofs.Common.{◌≡◌, ◌<◌, ◌≤◌, ◌+◌, ◌++◌, ◌∙◌, ◌⊎◌, inl, inr, ℕ, zero, suc, Bool, true, false, cond, List, [], ◌∷◌, length, set, refl, ap, sym, subst, arith, None, Some, slice_get, sum_by, vec_capacity, ◌==◌, eq-eqb, eqb-true, length-set, length-append, sum_by-cons, sum_by_push, same_Some, times, times_in, HasGiven, HaveRoom, HaveSameSeats, Member, Share, some_at, cases_eq, set_here}
use Rattle.sig_work.proofs.ItemInPlace.{get_more, set_apart}

-- one share got a member
pub given_share : (shares : List Share) (at : ℕ) (share new : Share) (member : Member) → slice_get shares at ≡ Some share → new.seat ≡ share.seat
    → new.members.items ≡ share.members.items ++ member ∷ [] → vec_capacity new.members ≡ vec_capacity share.members → HasGiven shares (set shares at new) at member
given_share shares at share new member there seat items capacity = record {
  count = length-set shares at new;
  others = λ other apart. set_apart shares at new other apart;
  here = λ before is. (
      let same : share ≡ before = same_Some share before (sym there ∙ is) in (
        new,
        set_here shares at new share there,
        seat ∙ ap (λ (s : Share). s.seat) same,
        items ∙ ap (λ (s : Share). s.members.items ++ member ∷ []) same,
        capacity ∙ ap (λ (s : Share). vec_capacity s.members) same,
      ));
}

-- a member more is counted once more
abbrev one_if : ℕ → Member → ℕ
one_if k m = cond (m.number == k) 1 0

same_rest : (xs ys : List Share) → length ys ≡ length xs → ((k : ℕ) → slice_get ys k ≡ slice_get xs k) → ys ≡ xs
same_rest [] [] count each = refl
same_rest [] (y ∷ ys) count each = absurd (let clash : suc (length ys) ≡ 0 = count in omega (arith, clash))
same_rest (x ∷ xs) [] count each = absurd (let clash : 0 ≡ suc (length xs) = count in omega (arith, clash))
same_rest (x ∷ xs) (y ∷ ys) count each =
    let first : y ≡ x = same_Some y x (each 0) in
    let rest = same_rest xs ys (let one : suc (length ys) ≡ suc (length xs) = count in omega (arith, one)) (λ k. each (suc k)) in
    λ t. first t ∷ rest t

module _ (f : Share → ℕ) where
  -- one item of a list counts more
  pub sum_more : (xs ys : List Share) (at more : ℕ) → length ys ≡ length xs → ((other : ℕ) → ((other ≡ at) → ⊥) → slice_get ys other ≡ slice_get xs other)
      → (x y : Share) → slice_get xs at ≡ Some x → slice_get ys at ≡ Some y → f y ≡ f x + more → sum_by f ys ≡ sum_by f xs + more
  sum_more [] ys at more count others x y is_x is_y grows = absurd (let e : None ≡ Some x = is_x in cc)
  sum_more (a ∷ xs) [] at more count others x y is_x is_y grows = absurd (let e : None ≡ Some y = is_y in cc)
  sum_more (a ∷ xs) (b ∷ ys) zero more count others x y is_x is_y grows =
      let mine = sum_by-cons f a xs in
      let theirs = sum_by-cons f b ys in
      let first : f b ≡ f a + more = ap f (same_Some b y is_y) ∙ grows ∙ ap (λ (s : Share). f s + more) (sym (same_Some a x is_x)) in
      let rest : sum_by f ys ≡ sum_by f xs = ap (λ (zs : List Share). sum_by f zs) (same_rest xs ys (let e : suc (length ys) ≡ suc (length xs) = count in omega (arith, e)) (λ k. others (suc k) (λ e. omega (arith, e)))) in
      omega (arith, mine, theirs, first, rest)
  sum_more (a ∷ xs) (b ∷ ys) (suc at) more count others x y is_x is_y grows =
      let mine = sum_by-cons f a xs in
      let theirs = sum_by-cons f b ys in
      let first : f b ≡ f a = ap f (same_Some b a (others 0 (λ e. omega (arith, e)))) in
      let rest = sum_more xs ys at more (let e : suc (length ys) ≡ suc (length xs) = count in omega (arith, e)) (λ other apart. others (suc other) (λ e. apart (let d : suc other ≡ suc at = e in omega (arith, d)))) x y is_x is_y grows in
      omega (arith, mine, theirs, first, rest)

module _ (old new : List Share) (at : ℕ) (member : Member) (given : HasGiven old new at member) (lt : at < length old) where
  abbrev before : (share : Share) × (slice_get old at ≡ Some share)
  before = some_at old at lt

  abbrev after : (share : Share) × (slice_get new at ≡ Some share) × (share.seat ≡ before.0.seat) × (share.members.items ≡ before.0.members.items ++ member ∷ [])
      × (vec_capacity share.members ≡ vec_capacity before.0.members)
  after = given.here before.0 before.1

  times_more : (k : ℕ) → times k new ≡ times k old + one_if k member
  times_more k = sum_more (λ s. times_in k s) old new at (one_if k member) given.count given.others before.0 after.0 before.1 after.1
      (ap (λ (ms : List Member). sum_by (one_if k) ms) after.3 ∙ sum_by_push (one_if k) before.0.members.items member)

  pub times_here : (k : ℕ) → member.number ≡ k → times k new ≡ times k old + 1
  times_here k is = times_more k ∙ ap (λ b. times k old + cond b 1 0) (eq-eqb member.number k is)

  pub times_others : (k : ℕ) → ((member.number ≡ k) → ⊥) → times k new ≡ times k old
  times_others k apart = by (member.number == k) refl (times_more k) where
    by : (b : Bool) → (member.number == k) ≡ b → times k new ≡ times k old + cond b 1 0 → times k new ≡ times k old
    by true is more = absurd (apart (eqb-true member.number k is))
    by false is more = omega (arith, more)

  pub seats_here : HaveSameSeats old new
  seats_here = record {
    count = given.count;
    each = λ i share there. elim (cases_eq i at) [
      | inl same ↦
          let s_is : before.0 ≡ share = same_Some before.0 share (sym before.1 ∙ ap (slice_get old) (sym same) ∙ there) in
          (after.0, ap (slice_get new) same ∙ after.1, after.2 ∙ ap (λ (s : Share). s.seat) s_is)
      | inr apart ↦ (share, given.others i apart ∙ there, refl)
    ];
  }

  -- a member behind is one of those before, or the new one
  pub placed_here : (i number : ℕ) (share : Share) (m : Member) → slice_get new i ≡ Some share → slice_get share.members.items number ≡ Some m
      → ((s : Share) × (slice_get old i ≡ Some s) × (slice_get s.members.items number ≡ Some m)) ⊎ ((member ≡ m) × (i ≡ at))
  placed_here i number share m there is = elim (cases_eq i at) [
    | inl same ↦
        let s_is : after.0 ≡ share = same_Some after.0 share (sym after.1 ∙ ap (slice_get new) (sym same) ∙ there) in
        let here : slice_get (before.0.members.items ++ member ∷ []) number ≡ Some m =
        ap (λ (ms : List Member). slice_get ms number) (sym after.3 ∙ ap (λ (s : Share). s.members.items) s_is) ∙ is in
        elim (get_more before.0.members.items member number m here) [
          | inl inside ↦ inl (before.0, ap (slice_get old) same ∙ before.1, inside)
          | inr last ↦ inr (last.0, same)
        ]
    | inr apart ↦ inl (share, sym (given.others i apart) ∙ there, is)
  ]

  pub room_here : (more : ℕ) → HaveRoom (suc more) old → HaveRoom more new
  room_here more room i share there = elim (cases_eq i at) [
    | inl same ↦
        let s_is : after.0 ≡ share = same_Some after.0 share (sym after.1 ∙ ap (slice_get new) (sym same) ∙ there) in
        let had = room at before.0 before.1 in
        let items = ap length after.3 in
        let longer = length-append before.0.members.items (member ∷ []) in
        let capacity = after.4 in
        let fits : length after.0.members.items + more ≤ vec_capacity after.0.members = omega (arith, had, items, longer, capacity) in
        subst (λ (s : Share). length s.members.items + more ≤ vec_capacity s.members) s_is fits
    | inr apart ↦ (let had = room i share (sym (given.others i apart) ∙ there) in omega (arith, had))
  ]
