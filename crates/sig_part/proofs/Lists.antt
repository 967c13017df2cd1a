-- Elements of lists.
use Rattle.sig_part.proofs.Common.{◌≡◌, ◌<◌, ◌⊎◌, inl, inr, ℕ, List, [], ◌∷◌, ◌++◌, length, get_or, sym, subst, arith, Contains, ◌+◌, Some, slice_get, cases_order, get_or_append_left, get_or_push, get_pushed, contains_at, slice_get_within}

-- what holds of each element of a list of n elements, and of one more
pub each_more : {X : Type 0} (P : ℕ → X → Type 0) (xs new : List X) (x d : X) (n : ℕ) → length xs ≡ n → ((j : ℕ) → j < n → P j (get_or xs j d)) → P n x → new ≡ xs ++ x ∷ []
    → (j : ℕ) → j < n + 1 → P j (get_or new j d)
each_more {X} P xs new x d n count before here is j less = subst (λ (list : List X). P j (get_or list j d)) (sym is) (at (cases_order j n)) where
  at : ((j ≡ n) ⊎ ((j < n) ⊎ (n < j))) → P j (get_or (xs ++ x ∷ []) j d)
  at (inl e) = subst (P j) (sym (get_or_push xs x d j (omega (arith, count, e)))) (subst (λ (k : ℕ). P k x) (sym e) here)
  at (inr (inl below)) = subst (P j) (sym (get_or_append_left xs (x ∷ []) d j (omega (arith, below, count)))) (before j below)
  at (inr (inr more)) = absurd (omega (arith, more, less))

-- a relation between each element and each later one
abbrev pub ArePairwise : {X : Type 0} → (X → X → Type 0) → List X → Type 0
ArePairwise {X} R xs = (i j : ℕ) (x y : X) → i < j → slice_get xs i ≡ Some x → slice_get xs j ≡ Some y → R x y

pub pairwise_push : {X : Type 0} (R : X → X → Type 0) (xs : List X) (z : X) → ArePairwise R xs → ((x : X) → Contains xs x → R x z) → ArePairwise R (xs ++ z ∷ [])
pairwise_push {X} R xs z before last i j x y less is_x is_y = at (get_pushed xs z i x is_x) (get_pushed xs z j y is_y) where
  at : (slice_get xs i ≡ Some x) ⊎ ((i ≡ length xs) × (z ≡ x)) → (slice_get xs j ≡ Some y) ⊎ ((j ≡ length xs) × (z ≡ y)) → R x y
  at (inl get_x) (inl get_y) = before i j x y less get_x get_y
  at (inl get_x) (inr end) = subst (R x) end.1 (last x (contains_at xs i x get_x))
  at (inr end) (inl get_y) = absurd (omega (arith, slice_get_within xs j y get_y, end.0, less))
  at (inr end) (inr same) = absurd (omega (arith, end.0, same.0, less))
