-- Two lists in one strict order that have the same elements are equal.
use Rattle.sig_clock.proofs.Common.{◌≡◌, ◌<◌, ◌⊎◌, inl, inr, ℕ, List, [], ◌∷◌, refl, sym, ◌∙◌, subst, arith, Contains, suc, Some, slice_get, at_contained, contains_cons, contains_head, contains_later, contains_none}

-- what stands earlier is related to what stands later
abbrev pub IsOrdered : {X : Type 0} → (X → X → Type 0) → List X → Type 0
IsOrdered {X} R xs = (i j : ℕ) (x y : X) → i < j → slice_get xs i ≡ Some x → slice_get xs j ≡ Some y → R x y

module _ {X : Type 0} (R : X → X → Type 0) (one_way : (x y : X) → R x y → R y x → ⊥) where
  tail_ordered : (x : X) (xs : List X) → IsOrdered R (x ∷ xs) → IsOrdered R xs
  tail_ordered x xs ordered i j a b lt at_i at_j = ordered (suc i) (suc j) a b (omega (arith, lt)) at_i at_j

  before_rest : (x y : X) (xs : List X) → IsOrdered R (x ∷ xs) → Contains xs y → R x y
  before_rest x y xs ordered there = ordered 0 (suc there.0) x y (omega arith) refl (at_contained xs y there)

  same_head : (x y : X) (xs ys : List X) → IsOrdered R (x ∷ xs) → IsOrdered R (y ∷ ys) → Contains (y ∷ ys) x → Contains (x ∷ xs) y → x ≡ y
  same_head x y xs ys ordered_x ordered_y x_there y_there = at (contains_cons y x ys x_there) (contains_cons x y xs y_there) where
    at : (x ≡ y) ⊎ Contains ys x → (y ≡ x) ⊎ Contains xs y → x ≡ y
    at (inl same) other = same
    at (inr later) (inl same) = sym same
    at (inr later) (inr behind) = absurd (one_way x y (before_rest x y xs ordered_x behind) (before_rest y x ys ordered_y later))

  rest_within : (x y : X) (xs ys : List X) → IsOrdered R (x ∷ xs) → x ≡ y → ((z : X) → Contains (x ∷ xs) z → Contains (y ∷ ys) z) → (z : X) → Contains xs z → Contains ys z
  rest_within x y xs ys ordered same within z there = at (contains_cons y z ys (within z (contains_later x z xs there))) where
    at : (z ≡ y) ⊎ Contains ys z → Contains ys z
    at (inl first) =
        let again : R x x = subst (R x) (first ∙ sym same) (before_rest x z xs ordered there) in
        absurd (one_way x x again again)
    at (inr later) = later

  pub same_list : (xs ys : List X) → IsOrdered R xs → IsOrdered R ys → ((x : X) → Contains xs x → Contains ys x) → ((x : X) → Contains ys x → Contains xs x) → xs ≡ ys
  same_list [] [] ordered_x ordered_y to back = refl
  same_list [] (y ∷ ys) ordered_x ordered_y to back = absurd (contains_none y (back y (contains_head y ys)))
  same_list (x ∷ xs) [] ordered_x ordered_y to back = absurd (contains_none x (to x (contains_head x xs)))
  same_list (x ∷ xs) (y ∷ ys) ordered_x ordered_y to back =
      let first : x ≡ y = same_head x y xs ys ordered_x ordered_y (to x (contains_head x xs)) (back y (contains_head y ys)) in
      let rest : xs ≡ ys = same_list xs ys (tail_ordered x xs ordered_x) (tail_ordered y ys ordered_y) (rest_within x y xs ys ordered_x first to) (rest_within y x ys xs ordered_y (sym first) back) in
      λ j. first j ∷ rest j
