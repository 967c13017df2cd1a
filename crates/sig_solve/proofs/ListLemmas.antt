-- Lemmas on lists: what a filter keeps, and one more element.
use Rattle.sig_solve.proofs.Common.{◌≡◌, ◌≢◌, ◌<◌, ◌+◌, ◌⊎◌, inl, inr, ℕ, List, [], ◌∷◌, ◌++◌, length, get_or-set_other, set, take, refl, ap, ◌∙◌, arith, zero, suc, None, Some, slice_get, length-set, take_more, get_or_from_slice_get, slice_get-get_or, slice_get_within}

pub take_next : {X : Type 0} (xs : List X) (k : ℕ) (x : X) → slice_get xs k ≡ Some x → take (k + 1) xs ≡ take k xs ++ x ∷ []
take_next xs k x is = take_more xs k x (slice_get_within xs k x is) ∙ ap (λ y. take k xs ++ y ∷ []) (get_or_from_slice_get xs k x x is)

pub get_beyond : {X : Type 0} (xs : List X) (x y : X) (k : ℕ) → slice_get (xs ++ x ∷ []) k ≡ Some y → (k < length xs) ⊎ ((k ≡ length xs) × (x ≡ y))
get_beyond [] x y zero is = inr (refl, cc)
get_beyond [] x y (suc k) is = absurd (let e : None ≡ Some y = is in cc)
get_beyond (z ∷ xs) x y zero is = inl (omega arith)
get_beyond (z ∷ xs) x y (suc k) is = elim (get_beyond xs x y k is) [ inl lt ↦ inl (omega (arith, lt)) | inr last ↦ inr (ap suc last.0, last.1) ]

pub get_set_other : {X : Type 0} (xs : List X) (k j : ℕ) (x y : X) → j ≢ k → slice_get xs j ≡ Some y → slice_get (set xs k x) j ≡ Some y
get_set_other xs k j x y ne is =
    let lt = slice_get_within xs j y is in
    slice_get-get_or (set xs k x) j y (omega (arith, lt, length-set xs k x)) ∙ ap Some (get_or-set_other xs k j x y ne ∙ get_or_from_slice_get xs j y y is)
