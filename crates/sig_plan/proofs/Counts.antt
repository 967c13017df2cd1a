-- How many elements of a list pass a test.
use Rattle.sig_plan.proofs.Common.{◌≡◌, ◌≤◌, ◌+◌, ℕ, Bool, true, false, cond, List, [], ◌∷◌, ◌++◌, refl, ap, ◌∙◌, arith, zero, suc, Some, fold, slice_get}

abbrev pub one_of : Bool → ℕ
one_of b = cond b 1 0

-- how many pass, each counted as much
unfoldable pub scaled : {X : Type 0} → ℕ → (X → Bool) → List X → ℕ
scaled c test [] = 0
scaled c test (x ∷ xs) = cond (test x) c 0 + scaled c test xs

pub tally : {X : Type 0} → (X → Bool) → List X → ℕ
tally test xs = scaled 1 test xs

module _ {X : Type 0} (test : X → Bool) where
  pub tally_append : (xs ys : List X) → tally test (xs ++ ys) ≡ tally test xs + tally test ys
  unfolding tally scaled
  tally_append [] ys = omega arith
  tally_append (x ∷ xs) ys = let rest = tally_append xs ys in omega (arith, rest)

  pub tally_cons : (x : X) (xs : List X) → tally test (x ∷ xs) ≡ cond (test x) 1 0 + tally test xs
  unfolding tally scaled
  tally_cons x xs = refl

  pub tally_none : tally test [] ≡ 0
  unfolding tally scaled
  tally_none = refl

  -- a count by a fold
  pub fold_tally : (a : ℕ) (xs : List X) → fold (λ (m : ℕ) (x : X). m + cond (test x) 1 0) a xs ≡ a + tally test xs
  unfolding tally scaled
  fold_tally a [] = omega arith
  fold_tally a (x ∷ xs) = let rest = fold_tally (a + cond (test x) 1 0) xs in omega (arith, rest)

  at_least : (x : X) (b : Bool) → test x ≡ b → b ≡ true → (rest : ℕ) → 1 ≤ cond (test x) 1 0 + rest
  at_least x b is passes rest = let e : one_of (test x) ≡ 1 = ap one_of (is ∙ passes) in omega (arith, e)

  -- one that passes is counted
  pub counted : (xs : List X) (i : ℕ) (x : X) → slice_get xs i ≡ Some x → test x ≡ true → 1 ≤ tally test xs
  unfolding tally scaled
  counted [] i x at is = cc
  counted (y ∷ xs) zero x at is = let same : y ≡ x = cc in at_least y true (ap test same ∙ is) refl (scaled 1 test xs)
  counted (y ∷ xs) (suc i) x at is = let rest = counted xs i x at is in omega (arith, rest)

  -- where one is counted, one passes
  pub found : (xs : List X) → 1 ≤ tally test xs → (i : ℕ) × (x : X) × (slice_get xs i ≡ Some x) × (test x ≡ true)
  unfolding tally scaled
  found [] most = absurd (omega (arith, most))
  found (y ∷ xs) most = by (test y) refl (found xs)
    where
      by : (b : Bool) → test y ≡ b → (1 ≤ scaled 1 test xs → (i : ℕ) × (x : X) × (slice_get xs i ≡ Some x) × (test x ≡ true)) → (i : ℕ) × (x : X) × (slice_get (y ∷ xs) i ≡ Some x) × (test x ≡ true)
      by true is rest = (0, y, refl, is)
      by false is rest =
          let none : one_of (test y) ≡ 0 = ap one_of is in
          let there = rest (omega (arith, most, none)) in
          (suc there.0, there.1, there.2, there.3)

  -- where one at most is counted, one at most passes
  pub one_place : (xs : List X) → tally test xs ≤ 1 → (i j : ℕ) (x y : X) → slice_get xs i ≡ Some x → slice_get xs j ≡ Some y → test x ≡ true → test y ≡ true → i ≡ j
  unfolding tally scaled
  one_place [] most i j x y at_i at_j one two = cc
  one_place (z ∷ xs) most zero zero x y at_i at_j one two = refl
  one_place (z ∷ xs) most zero (suc j) x y at_i at_j one two =
      let same : z ≡ x = cc in
      let here : one_of (test z) ≡ 1 = ap one_of (ap test same ∙ one) in
      let more = counted xs j y at_j two in
      absurd (omega (arith, most, here, more))
  one_place (z ∷ xs) most (suc i) zero x y at_i at_j one two =
      let same : z ≡ y = cc in
      let here : one_of (test z) ≡ 1 = ap one_of (ap test same ∙ two) in
      let more = counted xs i x at_i one in
      absurd (omega (arith, most, here, more))
  one_place (z ∷ xs) most (suc i) (suc j) x y at_i at_j one two = ap suc (one_place xs (omega (arith, most)) i j x y at_i at_j one two)

  -- a count of one at most, each counted as much
  pub scaled_none : (c : ℕ) (xs : List X) → tally test xs ≡ 0 → scaled c test xs ≡ 0
  unfolding tally scaled
  scaled_none c [] none = refl
  scaled_none c (x ∷ xs) none = by (test x) refl (scaled_none c xs)
    where
      by : (b : Bool) → test x ≡ b → (scaled 1 test xs ≡ 0 → scaled c test xs ≡ 0) → cond (test x) c 0 + scaled c test xs ≡ 0
      by true is rest = let here : one_of (test x) ≡ 1 = ap one_of is in absurd (omega (arith, none, here))
      by false is rest =
          let here : one_of (test x) ≡ 0 = ap one_of is in
          let now : cond (test x) c 0 ≡ 0 = ap (λ b. cond b c 0) is in
          let later = rest (omega (arith, none, here)) in
          omega (arith, now, later)

  pub scaled_one : (c : ℕ) (xs : List X) → tally test xs ≡ 1 → scaled c test xs ≡ c
  unfolding tally scaled
  scaled_one c [] one = absurd (omega (arith, one))
  scaled_one c (x ∷ xs) one = by (test x) refl (scaled_one c xs)
    where
      by : (b : Bool) → test x ≡ b → (scaled 1 test xs ≡ 1 → scaled c test xs ≡ c) → cond (test x) c 0 + scaled c test xs ≡ c
      by true is rest =
          let here : one_of (test x) ≡ 1 = ap one_of is in
          let now : cond (test x) c 0 ≡ c = ap (λ b. cond b c 0) is in
          let later = scaled_none c xs (omega (arith, one, here)) in
          omega (arith, now, later)
      by false is rest =
          let here : one_of (test x) ≡ 0 = ap one_of is in
          let now : cond (test x) c 0 ≡ 0 = ap (λ b. cond b c 0) is in
          let later = rest (omega (arith, one, here)) in
          omega (arith, now, later)
