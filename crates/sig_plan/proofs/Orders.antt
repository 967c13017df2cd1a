-- What holds of every order.
use Rattle.sig_plan.proofs.Common.{◌≡◌, ◌≢◌, ◌<◌, ◌≤◌, ◌+◌, ◌⊎◌, inl, inr, ℕ, List, [], ◌∷◌, ◌++◌, length, get_or, refl, sym, ap, ◌∙◌, subst, arith, Contains, zero, suc, take, cases_order, get_or-take, get_or_append_left, get_or_default, get_or_push, length-take-le, take_all, take_more, IsOrdered, IsReady, Reaches, directly, onward}
use Rattle.sig_plan.proofs.Pigeons.{AreTwo, met_or_not, two_are_same}

-- a number stands in the front of a list
stands_in_front : (xs : List ℕ) (i j : ℕ) → i < j → j ≤ length xs → Contains (take j xs) (get_or xs i 0)
stands_in_front xs i j lt le =
    let within : i < length xs = omega (arith, lt, le) in
    (i, omega (arith, lt, length-take-le j xs le), get_or-take j xs i (get_or xs i 0) lt ∙ get_or_default xs i (get_or xs i 0) 0 within)

in_front : (xs : List ℕ) (j p : ℕ) → j ≤ length xs → Contains (take j xs) p → (i : ℕ) × (i < j) × (get_or xs i 0 ≡ p)
in_front xs j p le there =
    let lt : there.0 < j = omega (arith, there.1, length-take-le j xs le) in
    (there.0, lt, get_or_default xs there.0 0 p (omega (arith, lt, le)) ∙ sym (get_or-take j xs there.0 p lt) ∙ there.2)

module _ (R : ℕ → ℕ → Type 0) (n : ℕ) (order : List ℕ) (is : IsOrdered R n order) where
  -- what precedes a number stands before it
  pub kept_order : (j : ℕ) → j < n → (p : ℕ) → R p (get_or order j 0) → (i : ℕ) × (i < j) × (get_or order i 0 ≡ p)
  kept_order j lt p edge = let full = is.all in in_front order j p (omega (arith, lt, full)) ((is.each j lt).holds.free p edge)

  apart : (i j : ℕ) → i < j → j < n → get_or order i 0 ≡ get_or order j 0 → ⊥
  apart i j less lt same =
      let full = is.all in
      (is.each j lt).holds.left (subst (Contains (take j order)) same (stands_in_front order i j less (omega (arith, lt, full))))

  -- no number stands twice
  pub stands_once : (i j : ℕ) → i < n → j < n → get_or order i 0 ≡ get_or order j 0 → i ≡ j
  stands_once i j lt_i lt_j same = elim (cases_order i j) [ inl e ↦ e | inr (inl less) ↦ absurd (apart i j less lt_j same) | inr (inr more) ↦ absurd (apart j i more lt_i (sym same)) ]

  longer : ℕ → ℕ → ℕ
  longer i k = get_or (order ++ i ∷ []) k 0

  longer_below : (i : ℕ) → i < n → (k : ℕ) → k < suc n → longer i k < n
  unfolding longer
  longer_below i lt k less = at (cases_order k n) where
    full : length order ≡ n
    full = is.all

    at : ((k ≡ n) ⊎ ((k < n) ⊎ (n < k))) → get_or (order ++ i ∷ []) k 0 < n
    at (inl e) = let last : get_or (order ++ i ∷ []) k 0 ≡ i = get_or_push order i 0 k (omega (arith, e, full)) in omega (arith, last, lt)
    at (inr (inl below)) =
        let same : get_or (order ++ i ∷ []) k 0 ≡ get_or order k 0 = get_or_append_left order (i ∷ []) 0 k (omega (arith, below, full)) in
        let within = (is.each k below).holds.within in
        omega (arith, same, within)
    at (inr (inr more)) = absurd (omega (arith, more, less))

  -- each number stands in the order
  pub stands_somewhere : (i : ℕ) → i < n → Contains order i
  unfolding longer
  stands_somewhere i lt = at (met_or_not (λ k. get_or order k 0) i (length order)) where
    full : length order ≡ n
    full = is.all

    early : (k : ℕ) → k < n → longer i k ≡ get_or order k 0
    early k below = get_or_append_left order (i ∷ []) 0 k (omega (arith, below, full))

    none_twice : ((k : ℕ) → k < length order → get_or order k 0 ≢ i) → AreTwo (longer i) (suc n) → ⊥
    none_twice missing two = place (cases_order two.b n) where
      less : two.a < two.b
      less = two.less

      within : two.b < suc n
      within = two.within

      place : ((two.b ≡ n) ⊎ ((two.b < n) ⊎ (n < two.b))) → ⊥
      place (inl e) =
          let last : longer i two.b ≡ i = get_or_push order i 0 two.b (omega (arith, e, full)) in
          missing two.a (omega (arith, less, e, full)) (sym (early two.a (omega (arith, less, e))) ∙ two.same ∙ last)
      place (inr (inl below)) = apart two.a two.b less below (sym (early two.a (omega (arith, less, below))) ∙ two.same ∙ early two.b below)
      place (inr (inr more)) = omega (arith, more, within)

    at : (((k : ℕ) × (k < length order) × (get_or order k 0 ≡ i)) ⊎ ((k : ℕ) → k < length order → get_or order k 0 ≢ i)) → Contains order i
    at (inl there) = (there.0, there.1, get_or_default order there.0 i 0 there.1 ∙ there.2)
    at (inr missing) = absurd (none_twice missing (two_are_same n (longer i) (longer_below i lt)))

module _ (R : ℕ → ℕ → Type 0) (n : ℕ) (a b : List ℕ) (is : IsOrdered R n a) (other : IsOrdered R n b) where
  same_front : (k : ℕ) → k ≤ n → take k a ≡ take k b
  same_front zero le = refl
  same_front (suc k) le = at (same_front k) where
    full_a : length a ≡ n
    full_a = is.all

    full_b : length b ≡ n
    full_b = other.all

    at : (k ≤ n → take k a ≡ take k b) → take (suc k) a ≡ take (suc k) b
    at rest =
        let lt : k < n = omega (arith, le) in
        let front : take k a ≡ take k b = rest (omega (arith, le)) in
        let first = is.each k lt in
        let second = other.each k lt in
        let low : get_or a k 0 ≤ get_or b k 0 = first.least (get_or b k 0) (subst (λ (xs : List ℕ). IsReady R n xs (get_or b k 0)) (sym front) second.holds) in
        let high : get_or b k 0 ≤ get_or a k 0 = second.least (get_or a k 0) (subst (λ (xs : List ℕ). IsReady R n xs (get_or a k 0)) front first.holds) in
        let same : get_or a k 0 ≡ get_or b k 0 = omega (arith, low, high) in
        let next : suc k ≡ k + 1 = omega arith in
        ap (λ m. take m a) next ∙ take_more a k 0 (omega (arith, lt, full_a)) ∙ (λ j. front j ++ same j ∷ []) ∙ sym (take_more b k 0 (omega (arith, lt, full_b))) ∙ ap (λ m. take m b) (sym next)

  -- there is one order
  pub same_order : a ≡ b
  same_order =
      let full_a = is.all in
      let full_b = other.all in
      sym (take_all n a (omega (arith, full_a))) ∙ same_front n (omega arith) ∙ take_all n b (omega (arith, full_b))

-- no number of an order precedes itself, directly or through others
module _ (R : ℕ → ℕ → Type 0) (n : ℕ) (order : List ℕ) (is : IsOrdered R n order) where
  earlier : (i k : ℕ) → Reaches R i k → (j : ℕ) → j < n → get_or order j 0 ≡ k → (m : ℕ) × (m < j) × (get_or order m 0 ≡ i)
  earlier _ _ (directly i k edge) j lt at = kept_order R n order is j lt i (subst (R i) (sym at) edge)
  earlier _ _ (onward i l k edge rest) j lt at =
      let mid = earlier l k rest j lt at in
      let first = kept_order R n order is mid.0 (omega (arith, mid.1, lt)) i (subst (R i) (sym mid.2) edge) in
      (first.0, omega (arith, first.1, mid.1), first.2)

  pub none_before_itself : (i : ℕ) → i < n → Reaches R i i → ⊥
  none_before_itself i lt cycle =
      let full = is.all in
      let there = stands_somewhere R n order is i lt in
      let below : there.0 < n = omega (arith, there.1, full) in
      let back = earlier i i cycle there.0 below (get_or_default order there.0 0 i there.1 ∙ there.2) in
      let same : back.0 ≡ there.0 = stands_once R n order is back.0 there.0 (omega (arith, back.1, below)) below (back.2 ∙ sym (get_or_default order there.0 0 i there.1 ∙ there.2)) in
      omega (arith, same, back.1)
