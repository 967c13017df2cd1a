-- Members counted by their numbers: where a number is counted once, one member has it.
use Rattle.sig_work.proofs.Common.{◌≡◌, ◌≤◌, ◌∙◌, ℕ, zero, suc, Bool, true, false, cond, List, [], ◌∷◌, refl, ap, sym, subst, arith, None, Some, slice_get, sum_by, ◌==◌, eq-eqb, eqb-true, sum_by-cons, same_Some, IsAmong, times, times_in, Member, Share}

module _ {A : Type 0} (f : A → ℕ) where
  -- an item counts no more than all
  pub item_counts : (xs : List A) (i : ℕ) (x : A) → slice_get xs i ≡ Some x → f x ≤ sum_by f xs
  item_counts [] i x at = absurd (let e : None ≡ Some x = at in cc)
  item_counts (y ∷ xs) zero x at =
      let same = ap f (same_Some y x at) in
      let all = sum_by-cons f y xs in
      omega (arith, same, all)
  item_counts (y ∷ xs) (suc i) x at =
      let rest = item_counts xs i x at in
      let all = sum_by-cons f y xs in
      omega (arith, rest, all)

  -- where all count, an item does
  pub record Counted (xs : List A) : Type 0 where
    pub index : ℕ
    pub item : A
    pub at : slice_get xs index ≡ Some item
    pub counts : 1 ≤ f item

  counted_first : (x : A) (xs : List A) → 1 ≤ sum_by f (x ∷ xs) → (n : ℕ) → f x ≡ n → (1 ≤ sum_by f xs → Counted xs) → Counted (x ∷ xs)
  counted_first x xs some zero none rest =
      let all = sum_by-cons f x xs in
      let later = rest (omega (arith, all, some, none)) in
      record { index = suc later.index; item = later.item; at = later.at; counts = later.counts }
  counted_first x xs some (suc n) is rest = record { index = 0; item = x; at = refl; counts = omega (arith, is) }

  pub some_counts : (xs : List A) → 1 ≤ sum_by f xs → Counted xs
  some_counts [] some = absurd (omega (arith, some))
  some_counts (x ∷ xs) some = counted_first x xs some (f x) refl (some_counts xs)

  -- where all count once, one item does
  pub one_counts : (xs : List A) → sum_by f xs ≤ 1 → (i j : ℕ) (x y : A) → slice_get xs i ≡ Some x → slice_get xs j ≡ Some y → 1 ≤ f x → 1 ≤ f y → i ≡ j
  one_counts [] most i j x y one other here there = absurd (let e : None ≡ Some x = one in cc)
  one_counts (z ∷ xs) most zero zero x y one other here there = refl
  one_counts (z ∷ xs) most zero (suc j) x y one other here there =
      let same = ap f (same_Some z x one) in
      let all = sum_by-cons f z xs in
      let rest = item_counts xs j y other in
      absurd (omega (arith, same, all, rest, most, here, there))
  one_counts (z ∷ xs) most (suc i) zero x y one other here there =
      let same = ap f (same_Some z y other) in
      let all = sum_by-cons f z xs in
      let rest = item_counts xs i x one in
      absurd (omega (arith, same, all, rest, most, here, there))
  one_counts (z ∷ xs) most (suc i) (suc j) x y one other here there =
      let all = sum_by-cons f z xs in
      ap suc (one_counts xs (omega (arith, all, most)) i j x y one other here there)

-- whether a member has a number, as a count
abbrev one_if : ℕ → Member → ℕ
one_if k m = cond (m.number == k) 1 0

has_number : (k : ℕ) (m : Member) → 1 ≤ one_if k m → m.number ≡ k
has_number k m some = eqb-true m.number k (by (m.number == k) refl some) where
  by : (b : Bool) → (m.number == k) ≡ b → 1 ≤ cond b 1 0 → (m.number == k) ≡ true
  by true is more = is
  by false is more = absurd (omega (arith, more))

number_counts : (k : ℕ) (m : Member) → m.number ≡ k → 1 ≤ one_if k m
number_counts k m is = subst (λ b. 1 ≤ cond b 1 0) (sym (eq-eqb m.number k is)) (omega arith)

-- a number that is counted has a member
pub some_member : (shares : List Share) (k : ℕ) → 1 ≤ times k shares → (m : Member) × IsAmong shares k m
some_member shares k some =
    let share = some_counts (times_in k) shares some in
    let m = some_counts (one_if k) share.item.members.items share.counts in
    (m.item, record { at = share.index; number = m.index; share = share.item; there = share.at; is = m.at; numbered = has_number k m.item m.counts })

-- a member is counted
pub share_counts : (k number : ℕ) (share : Share) (m : Member) → slice_get share.members.items number ≡ Some m → m.number ≡ k → 1 ≤ times_in k share
share_counts k number share m at is =
    let one = number_counts k m is in
    let most = item_counts (one_if k) share.members.items number m at in
    omega (arith, one, most)

-- where it is counted once, it stands at one place
module _ (shares : List Share) (k : ℕ) (most : times k shares ≤ 1) (a b : Member) (one : IsAmong shares k a) (other : IsAmong shares k b) where
  pub same_share : one.at ≡ other.at
  same_share = one_counts (times_in k) shares most one.at other.at one.share other.share one.there other.there
      (share_counts k one.number one.share a one.is one.numbered) (share_counts k other.number other.share b other.is other.numbered)

  share_is : one.share ≡ other.share
  share_is = same_Some one.share other.share (sym one.there ∙ ap (slice_get shares) same_share ∙ other.there)

  there_too : slice_get one.share.members.items other.number ≡ Some b
  there_too = ap (λ (s : Share). slice_get s.members.items other.number) share_is ∙ other.is

  pub same_number : one.number ≡ other.number
  same_number = one_counts (one_if k) one.share.members.items
      (let here = item_counts (times_in k) shares one.at one.share one.there in omega (arith, here, most))
      one.number other.number a b one.is there_too (number_counts k a one.numbered) (number_counts k b other.numbered)

  pub same_member : a ≡ b
  same_member = same_Some a b (sym one.is ∙ ap (slice_get one.share.members.items) same_number ∙ there_too)
