-- Lists of numbers that rise: one list has the members, and those numbers that meet what is decided are such a list.
use Rattle.sig_pace.proofs.Common.{◌≡◌, ◌<◌, ◌≤◌, ◌+◌, ◌⊎◌, inl, inr, ℕ, zero, suc, List, [], ◌∷◌, slice_get, refl, sym, subst, arith, Contains, Some, cases_eq, at_contained, contains_at, contains_cons, contains_head, contains_later, contains_none}

abbrev pub IsRising : List ℕ → Type 0
IsRising list = (i j x y : ℕ) → i < j → slice_get list i ≡ Some x → slice_get list j ≡ Some y → x < y

later_more : (x z : ℕ) (xs : List ℕ) → IsRising (x ∷ xs) → Contains xs z → x < z
later_more x z xs rising there = rising 0 (suc there.0) x z (omega arith) refl (at_contained xs z there)

tail_rising : (x : ℕ) (xs : List ℕ) → IsRising (x ∷ xs) → IsRising xs
tail_rising x xs rising i j a b lt at_i at_j = rising (suc i) (suc j) a b (omega (arith, lt)) at_i at_j

same_heads : (x y : ℕ) (xs ys : List ℕ) → IsRising (x ∷ xs) → IsRising (y ∷ ys) → (x ≡ y) ⊎ Contains ys x → (y ≡ x) ⊎ Contains xs y → x ≡ y
same_heads x y xs ys of_x of_y (inl same) other = same
same_heads x y xs ys of_x of_y (inr later) (inl same) = sym same
same_heads x y xs ys of_x of_y (inr later) (inr later') = absurd (omega (arith, later_more y x ys of_y later, later_more x y xs of_x later'))

tail_members : (x y : ℕ) (xs ys : List ℕ) → x ≡ y → IsRising (x ∷ xs) → ((z : ℕ) → Contains (x ∷ xs) z → Contains (y ∷ ys) z) → (z : ℕ) → Contains xs z → Contains ys z
tail_members x y xs ys same rising to z there = elim (contains_cons y z ys (to z (contains_later x z xs there))) [
  | inl first ↦ absurd (omega (arith, first, same, later_more x z xs rising there))
  | inr later ↦ later
]

-- one list that rises has these members
pub one_rising : (xs ys : List ℕ) → IsRising xs → IsRising ys → ((z : ℕ) → Contains xs z → Contains ys z) → ((z : ℕ) → Contains ys z → Contains xs z) → xs ≡ ys
one_rising [] [] of_x of_y to back = refl
one_rising [] (y ∷ ys) of_x of_y to back = absurd (contains_none y (back y (contains_head y ys)))
one_rising (x ∷ xs) [] of_x of_y to back = absurd (contains_none x (to x (contains_head x xs)))
one_rising (x ∷ xs) (y ∷ ys) of_x of_y to back =
    let same : x ≡ y = same_heads x y xs ys of_x of_y (contains_cons y x ys (to x (contains_head x xs))) (contains_cons x y xs (back y (contains_head y ys))) in
    let rest : xs ≡ ys = one_rising xs ys (tail_rising x xs of_x) (tail_rising y ys of_y) (tail_members x y xs ys same of_x to) (tail_members y x ys xs (sym same) of_y back) in
    λ j. same j ∷ rest j

-- the numbers from a start on, so many, that meet what is decided
pub record AreChosen (P : ℕ → Type 0) (start many : ℕ) (list : List ℕ) : Type 0 where
  pub to : (x : ℕ) → Contains list x → (start ≤ x) × (x < start + many) × P x
  pub back : (x : ℕ) → start ≤ x → x < start + many → P x → Contains list x
  pub rising : IsRising list

module _ (P : ℕ → Type 0) (decide : (k : ℕ) → Dec (P k)) where
  with_first : (start many : ℕ) (list : List ℕ) → P start → AreChosen P (suc start) many list → AreChosen P start (suc many) (start ∷ list)
  with_first start many list holds are = record { to = to; back = back; rising = rising } where
    to : (x : ℕ) → Contains (start ∷ list) x → (start ≤ x) × (x < start + suc many) × P x
    to x there = elim (contains_cons start x list there) [
      | inl same ↦ (omega (arith, same), omega (arith, same), subst P (sym same) holds)
      | inr later ↦ (let rest = are.to x later in (omega (arith, rest.0), omega (arith, rest.1), rest.2))
    ]

    back : (x : ℕ) → start ≤ x → x < start + suc many → P x → Contains (start ∷ list) x
    back x le lt is = elim (cases_eq x start) [
      | inl same ↦ subst (Contains (start ∷ list)) (sym same) (contains_head start list)
      | inr apart ↦ contains_later start x list (are.back x (omega (arith, le, apart)) (omega (arith, lt)) is)
    ]

    rising : IsRising (start ∷ list)
    rising zero zero x y lt at_i at_j = absurd (omega (arith, lt))
    rising (suc i) zero x y lt at_i at_j = absurd (omega (arith, lt))
    rising zero (suc j) x y lt at_i at_j = let same : start ≡ x = cc in omega (arith, same, (are.to y (contains_at list j y at_j)).0)
    rising (suc i) (suc j) x y lt at_i at_j = are.rising i j x y (omega (arith, lt)) at_i at_j

  without_first : (start many : ℕ) (list : List ℕ) → (P start → ⊥) → AreChosen P (suc start) many list → AreChosen P start (suc many) list
  without_first start many list fails are = record {
    to = λ x there. let rest = are.to x there in (omega (arith, rest.0), omega (arith, rest.1), rest.2);
    back = λ x le lt is. elim (cases_eq x start) [
      | inl same ↦ absurd (fails (subst P same is))
      | inr apart ↦ are.back x (omega (arith, le, apart)) (omega (arith, lt)) is
    ];
    rising = are.rising;
  }

  pub chosen : (start many : ℕ) → (list : List ℕ) × AreChosen P start many list
  chosen start zero = ([], record { to = λ x there. absurd (contains_none x there); back = λ x le lt is. absurd (omega (arith, le, lt)); rising = λ i j x y lt at_i at_j. cc })
  chosen start (suc many) = at (decide start) (chosen (suc start) many) where
    at : Dec (P start) → ((list : List ℕ) × AreChosen P (suc start) many list) → (list : List ℕ) × AreChosen P start (suc many) list
    at (yes holds) rest = (start ∷ rest.0, with_first start many rest.0 holds rest.1)
    at (no fails) rest = (rest.0, without_first start many rest.0 fails rest.1)
