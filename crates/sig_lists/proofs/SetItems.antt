-- Lists of which one place is set.
use Rattle.std.proofs.Common.{List, None, Some, [], ap, arith, get_or-set_same, length, length-set, refl, set, slice_get, suc, zero, ℕ, ◌<◌, ◌∙◌, ◌∷◌, ◌≡◌, ◌≢◌}
use Rattle.std.proofs.lemmas.Option.{slice_get-get_or}

pub get_set_same : {X : Type 0} (xs : List X) (k : ℕ) (x : X) → k < length xs → slice_get (set xs k x) k ≡ Some x
get_set_same xs k x lt = slice_get-get_or (set xs k x) k x (omega (arith, lt, length-set xs k x)) ∙ ap Some (get_or-set_same xs k x x lt)

pub get_set_other : {X : Type 0} (xs : List X) (i j : ℕ) (w : X) → j ≢ i → slice_get (set xs i w) j ≡ slice_get xs j
get_set_other [] i j w h = refl
get_set_other (x ∷ xs) zero zero w h = absurd (h refl)
get_set_other (x ∷ xs) zero (suc j) w h = refl
get_set_other (x ∷ xs) (suc i) zero w h = refl
get_set_other (x ∷ xs) (suc i) (suc j) w h = get_set_other xs i j w (λ e. h (ap suc e))

pub set_here : {A : Type 0} (xs : List A) (k : ℕ) (x y : A) → slice_get xs k ≡ Some y → slice_get (set xs k x) k ≡ Some x
set_here {A} [] k x y is = absurd (let e : None ≡ Some y = is in cc)
set_here {A} (z ∷ xs) zero x y is = refl
set_here {A} (z ∷ xs) (suc k) x y is = set_here xs k x y is
