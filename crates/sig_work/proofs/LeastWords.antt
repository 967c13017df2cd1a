-- The least word of members, joined part by part, and the seats of shares joined.
use Rattle.sig_work.proofs.Common.{◌≡◌, ◌<◌, ◌≤◌, ◌+◌, ◌++◌, ◌^◌, ◌∙◌, ◌⊎◌, inl, inr, ℕ, zero, suc, List, [], ◌∷◌, length, refl, ap, sym, subst, arith, None, Some, min, slice_get, sum_by-cons, no_place, parts, recorded, seen, HaltSeat, at_most_or, place_of, same_Some, IsAmong, failure_in, word_of, IsClosed, IsIn, IsInFirst, IsJoined, IsLeastOf, IsLeastWord, IsOfFirst, Member, Share, slice_get_within, cases_eq}
use Rattle.sig_work.proofs.ItemInPlace.{get_more}

-- ---- the least word

pub least_of_one : (m : Member) (f : ℕ) → f ≡ word_of (failure_in m.ending) → f ≤ no_place → (place_of m.state).pos < 2 ^ 32 → IsLeastOf (λ n. m ≡ n) f
least_of_one m f is within position = record {
  within = within;
  positions = λ n same. subst (λ (x : Member). (place_of x.state).pos < 2 ^ 32) same position;
  below = λ n same. subst (λ (x : Member). f ≤ word_of (failure_in x.ending)) same (omega (arith, is));
  met = inr (m, refl, sym is);
}

-- the same members, told in another way
pub least_alike : (A B : Member → Type 0) (v : ℕ) → ((m : Member) → A m → B m) → ((m : Member) → B m → A m) → IsLeastOf A v → IsLeastOf B v
least_alike A B v there back least = record {
  within = least.within;
  positions = λ m is. least.positions m (back m is);
  below = λ m is. least.below m (back m is);
  met = elim least.met [
    | inl none ↦ inl none
    | inr met ↦ inr (met.0, there met.0 met.1, met.2)
  ];
}

-- the lesser of two is the least of all
pub least_joined : (A B C : Member → Type 0) (v w : ℕ) → IsLeastOf A v → IsLeastOf B w → ((m : Member) → C m → A m ⊎ B m) → ((m : Member) → A m → C m) → ((m : Member) → B m → C m)
    → IsLeastOf C (min v w)
least_joined A B C v w one two either left right = record {
  within = (let a = one.within in let b = two.within in omega (arith, a, b));
  positions = λ m is. elim (either m is) [ inl here ↦ one.positions m here | inr here ↦ two.positions m here ];
  below = λ m is. elim (either m is) [
    | inl here ↦ (let a = one.below m here in omega (arith, a))
    | inr here ↦ (let b = two.below m here in omega (arith, b))
  ];
  met = elim (at_most_or v w) [
    | inl le ↦ (let same : min v w ≡ v = omega (arith, le) in elim one.met [
      | inl none ↦ inl (same ∙ none)
      | inr met ↦ inr (met.0, left met.0 met.1, met.2 ∙ sym same)
    ])
    | inr lt ↦ (let same : min v w ≡ w = omega (arith, lt) in elim two.met [
      | inl none ↦ inl (same ∙ none)
      | inr met ↦ inr (met.0, right met.0 met.1, met.2 ∙ sym same)
    ])
  ];
}

-- ---- member by member

pub first_more : (share : Share) (n v : ℕ) (m : Member) (f : ℕ) → IsLeastOf (IsInFirst n share) v → slice_get share.members.items n ≡ Some m
    → f ≡ word_of (failure_in m.ending) → f ≤ no_place → (place_of m.state).pos < 2 ^ 32 → IsLeastOf (IsInFirst (n + 1) share) (min v f)
first_more share n v m f least at is within position =
    least_joined (IsInFirst n share) (λ x. m ≡ x) (IsInFirst (n + 1) share) v f least (least_of_one m f is within position)
    (λ x inside. elim (cases_eq inside.0 n) [
      | inl same ↦ inr (same_Some m x (sym at ∙ ap (slice_get share.members.items) (sym same) ∙ inside.2))
      | inr apart ↦ inl (inside.0, (let lt = inside.1 in omega (arith, lt, apart)), inside.2)
    ])
    (λ x inside. (inside.0, (let lt = inside.1 in omega (arith, lt)), inside.2))
    (λ x same. (n, omega arith, at ∙ ap Some same))

pub first_all : (share : Share) (v n : ℕ) → length share.members.items ≤ n → IsLeastOf (IsInFirst n share) v → IsLeastOf (IsIn share) v
first_all share v n all = least_alike (IsInFirst n share) (IsIn share) v (λ m is. (is.0, is.2))
    (λ m is. (is.0, (let lt = slice_get_within share.members.items is.0 m is.1 in omega (arith, lt, all)), is.1))

-- ---- share by share

pub shares_more : (shares : List Share) (n v : ℕ) (share : Share) (f : ℕ) → IsLeastOf (IsOfFirst n shares) v → slice_get shares n ≡ Some share → IsLeastOf (IsIn share) f
    → IsLeastOf (IsOfFirst (n + 1) shares) (min v f)
shares_more shares n v share f least at here =
    least_joined (IsOfFirst n shares) (IsIn share) (IsOfFirst (n + 1) shares) v f least here
    (λ x inside. elim (cases_eq inside.0 n) [
      | inl same ↦
          let s_is : share ≡ inside.1 = same_Some share inside.1 (sym at ∙ ap (slice_get shares) (sym same) ∙ inside.3) in
          inr (subst (λ (s : Share). IsIn s x) (sym s_is) inside.4)
      | inr apart ↦ inl (inside.0, inside.1, (let lt = inside.2 in omega (arith, lt, apart)), inside.3, inside.4)
    ])
    (λ x inside. (inside.0, inside.1, (let lt = inside.2 in omega (arith, lt)), inside.3, inside.4))
    (λ x inside. (n, share, omega arith, at, inside))

pub shares_all : (shares : List Share) (v n : ℕ) → length shares ≤ n → IsLeastOf (IsOfFirst n shares) v → IsLeastWord shares v
shares_all shares v n all = least_alike (IsOfFirst n shares) (λ m. IsAmong shares m.number m) v
    (λ m is. record { at = is.0; number = is.4.0; share = is.1; there = is.3; is = is.4.1; numbered = refl })
    (λ m one. (one.at, one.share, (let lt = slice_get_within shares one.at one.share one.there in omega (arith, lt, all)), one.there, (one.number, one.is)))

-- ---- seats

pub joined_more : (first mid last : HaltSeat) (shares : List Share) (share : Share) → IsJoined first mid shares
    → parts last ≡ parts mid + parts share.seat → recorded last ≡ min (recorded mid) (recorded share.seat) → seen last ≡ min (seen mid) (seen share.seat)
    → IsJoined first last (share ∷ shares)
joined_more first mid last shares share joined parts_last recorded_last seen_last = record {
  parts_are = (let a = joined.parts_are in let b = sum_by-cons (λ (s : Share). parts s.seat) share shares in omega (arith, a, b, parts_last));
  met = elim (at_most_or (recorded mid) (recorded share.seat)) [
    | inl le ↦ (let same : recorded last ≡ recorded mid = omega (arith, le, recorded_last) in elim joined.met [
      | inl first_is ↦ inl (same ∙ first_is)
      | inr met ↦ inr (suc met.0, met.1, met.2, met.3 ∙ sym same)
    ])
    | inr lt ↦ inr (0, share, refl, omega (arith, lt, recorded_last))
  ];
  least = (
    (let a = joined.least.0 in omega (arith, a, recorded_last)),
    each (λ (s : HaltSeat). recorded s) recorded_last joined.least.1,
  );
  seen_is = (
    (let a = joined.seen_is.0 in omega (arith, a, seen_last)),
    each (λ (s : HaltSeat). seen s) seen_last joined.seen_is.1,
  );
} where
  each : (f : HaltSeat → ℕ) → f last ≡ min (f mid) (f share.seat) → ((at : ℕ) (s : Share) → slice_get shares at ≡ Some s → f mid ≤ f s.seat)
      → (at : ℕ) (s : Share) → slice_get (share ∷ shares) at ≡ Some s → f last ≤ f s.seat
  each f is rest zero s there = (let same = ap (λ (x : Share). f x.seat) (same_Some share s there) in omega (arith, is, same))
  each f is rest (suc at) s there = (let more = rest at s there in omega (arith, is, more))

-- all seats in the last one
pub closed_all : (front : List Share) (last : Share) (seat : HaltSeat) (word : ℕ) → IsJoined last.seat seat front → word ≡ recorded seat → word ≤ seen seat → IsClosed (front ++ last ∷ []) word
closed_all front last seat word joined is seen_too = record {
  met = elim joined.met [
    | inl first_is ↦ (length front, last, last_at front, sym first_is ∙ sym is)
    | inr met ↦ (met.0, met.1, front_at front met.0 met.1 met.2, met.3 ∙ sym is)
  ];
  least = λ at share there. elim (get_more front last at share there) [
    | inl inside ↦ (let more = joined.least.1 at share inside in omega (arith, is, more))
    | inr same ↦ (let more = joined.least.0 in let e = ap (λ (s : Share). recorded s.seat) same.0 in omega (arith, is, more, e))
  ];
  seen = λ at share there. elim (get_more front last at share there) [
    | inl inside ↦ (let more = joined.seen_is.1 at share inside in omega (arith, seen_too, more))
    | inr same ↦ (let more = joined.seen_is.0 in let e = ap (λ (s : Share). seen s.seat) same.0 in omega (arith, seen_too, more, e))
  ];
} where
  last_at : (xs : List Share) → slice_get (xs ++ last ∷ []) (length xs) ≡ Some last
  last_at [] = refl
  last_at (x ∷ xs) = last_at xs

  front_at : (xs : List Share) (at : ℕ) (s : Share) → slice_get xs at ≡ Some s → slice_get (xs ++ last ∷ []) at ≡ Some s
  front_at [] at s there = absurd (let e : None ≡ Some s = there in cc)
  front_at (x ∷ xs) zero s there = there
  front_at (x ∷ xs) (suc at) s there = front_at xs at s there
