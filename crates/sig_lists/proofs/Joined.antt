-- Lists that are joined, and one more element behind a list.
use Rattle.std.proofs.Common.{List, Some, [], ap, arith, get_or, inl, inr, length, length-append, refl, slice_get, suc, zero, ℕ, ◌++◌, ◌<◌, ◌∙◌, ◌∷◌, ◌≡◌, ◌⊎◌}
use Rattle.std.proofs.lemmas.List.{get_or_push}
use Rattle.std.proofs.lemmas.Option.{same_Some, slice_get-get_or}

pub get_last : {X : Type 0} (xs : List X) (y : X) → slice_get (xs ++ y ∷ []) (length xs) ≡ Some y
get_last xs y = slice_get-get_or (xs ++ y ∷ []) (length xs) y (omega (arith, length-append xs (y ∷ []))) ∙ ap Some (get_or_push xs y y (length xs) refl)

pub get_pushed : {X : Type 0} (xs : List X) (x : X) (k : ℕ) (y : X) → slice_get (xs ++ x ∷ []) k ≡ Some y → (slice_get xs k ≡ Some y) ⊎ ((k ≡ length xs) × (x ≡ y))
get_pushed [] x zero y at = inr (refl, same_Some x y at)
get_pushed [] x (suc k) y at = inl at
get_pushed (z ∷ xs) x zero y at = inl at
get_pushed (z ∷ xs) x (suc k) y at = elim (get_pushed xs x k y at) [ inl before ↦ inl before | inr last ↦ inr (ap suc last.0, last.1) ]

pub get_before : {X : Type 0} (xs ys : List X) (k : ℕ) → k < length xs → slice_get (xs ++ ys) k ≡ slice_get xs k
get_before [] ys k lt = absurd (omega (arith, lt))
get_before (x ∷ xs) ys zero lt = refl
get_before (x ∷ xs) ys (suc k) lt = get_before xs ys k (omega (arith, lt))

pub still_at : {X : Type 0} (xs ys : List X) (k : ℕ) (x : X) → slice_get xs k ≡ Some x → slice_get (xs ++ ys) k ≡ Some x
still_at [] ys k x is = cc
still_at (z ∷ xs) ys zero x is = is
still_at (z ∷ xs) ys (suc k) x is = still_at xs ys k x is

pub one_longer : {A : Type 0} (xs : List A) (x : A) → length (xs ++ x ∷ []) ≡ suc (length xs)
one_longer [] x = refl
one_longer (y ∷ xs) x = ap suc (one_longer xs x)

-- one more empty list
pub empty_more : (lists : List (List ℕ)) → ((i : ℕ) → get_or lists i [] ≡ []) → (i : ℕ) → get_or (lists ++ [] ∷ []) i [] ≡ []
empty_more [] none zero = refl
empty_more [] none (suc i) = refl
empty_more (list ∷ lists) none zero = none 0
empty_more (list ∷ lists) none (suc i) = empty_more lists (λ k. none (suc k)) i
