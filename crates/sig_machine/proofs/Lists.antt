-- Lists in which one place is set, and functions over lists.
pub use Rattle.std.proofs.lemmas.Option.{same_Some}
use Rattle.sig_machine.proofs.Common.{◌≡◌, ◌≢◌, ◌<◌, ◌+◌, ◌∙◌, ℕ, zero, suc, Bool, false, List, [], ◌∷◌, length, map, replicate, set, slice_get, None, Some, refl, ap, arith, subst, sym, inl, inr, eqb_tells}
use Rattle.sig_lists.proofs.SetItems.{get_set_other, get_set_same}

-- two functions that agree on a list
pub map_same : {X Y : Type 0} (f g : X → Y) (xs : List X) → ((j : ℕ) (a : X) → slice_get xs j ≡ Some a → f a ≡ g a) → map f xs ≡ map g xs
map_same f g [] h = refl
map_same f g (x ∷ xs) h =
    ap (λ y. y ∷ map f xs) (h 0 x refl) ∙ ap (λ ys. g x ∷ ys) (map_same f g xs (λ j a is. h (suc j) a is))

-- two functions that agree on a list but at one place
pub map_changed : {X Y : Type 0} (f g : X → Y) (xs : List X) (k : ℕ) (y : Y)
    → ((j : ℕ) (a : X) → slice_get xs j ≡ Some a → j ≢ k → f a ≡ g a)
    → ((a : X) → slice_get xs k ≡ Some a → y ≡ g a) → set (map f xs) k y ≡ map g xs
map_changed f g [] k y others same = refl
map_changed f g (x ∷ xs) zero y others same =
    ap (λ z. z ∷ map f xs) (same x refl) ∙ ap (λ ys. g x ∷ ys) (map_same f g xs (λ j a is. others (suc j) a is (λ e. absurd (omega (arith, e)))))
map_changed f g (x ∷ xs) (suc k) y others same =
    ap (λ z. z ∷ set (map f xs) k y) (others 0 x refl (λ e. absurd (omega (arith, e))))
    ∙ ap (λ ys. g x ∷ ys) (map_changed f g xs k y (λ j a is other. others (suc j) a is (λ e. other (omega (arith, e)))) (λ a is. same a is))

pub map_to_constant : {X : Type 0} (xs : List X) (f : X → Bool) (b : Bool) → ((a : X) → f a ≡ b) → map f xs ≡ replicate (length xs) b
map_to_constant [] f b h = refl
map_to_constant (x ∷ xs) f b h = ap (λ y. y ∷ map f xs) (h x) ∙ ap (λ ys. b ∷ ys) (map_to_constant xs f b h)

pub map_length : {X Y : Type 0} (f : X → Y) (xs : List X) → length (map f xs) ≡ length xs
map_length f [] = refl
map_length f (x ∷ xs) = ap suc (map_length f xs)

-- a list of which each item is false
pub all_false : (xs : List Bool) → ((k : ℕ) → k < length xs → slice_get xs k ≡ Some false) → xs ≡ replicate (length xs) false
all_false [] h = refl
all_false (x ∷ xs) h =
    ap (λ y. y ∷ xs) (same_Some x false (h 0 (omega arith))) ∙ ap (λ ys. false ∷ ys) (all_false xs (λ k below. h (suc k) (omega (arith, below))))

pub one_more_false : (xs : List Bool) (i : ℕ) → i < length xs → ((k : ℕ) → k < i → slice_get xs k ≡ Some false)
    → (k : ℕ) → k < i + 1 → slice_get (set xs i false) k ≡ Some false
one_more_false xs i within h k below = elim (eqb_tells k i) [
  | inl same ↦ subst (λ (j : ℕ). slice_get (set xs i false) j ≡ Some false) (sym same.1) (get_set_same xs i false within)
  | inr other ↦ get_set_other xs i k false other.1 ∙ h k (omega (arith, below, other.1))
]

-- what a function gives of the item of a place
pub map_at : {X Y : Type 0} (f : X → Y) (xs : List X) (k : ℕ) (a : X) → slice_get xs k ≡ Some a → slice_get (map f xs) k ≡ Some (f a)
map_at f [] k a is = absurd (let e : None ≡ Some a = is in cc)
map_at f (x ∷ xs) zero a is = ap (λ y. Some (f y)) (same_Some x a is)
map_at f (x ∷ xs) (suc k) a is = map_at f xs k a is

-- lists of as many items, which are the same by place
pub same_by_place : {X : Type 0} (xs ys : List X) → length xs ≡ length ys → ((k : ℕ) (a : X) → slice_get xs k ≡ Some a → slice_get ys k ≡ Some a) → xs ≡ ys
same_by_place [] [] count each = refl
same_by_place [] (y ∷ ys) count each = absurd (omega (arith, count))
same_by_place (x ∷ xs) [] count each = absurd (omega (arith, count))
same_by_place (x ∷ xs) (y ∷ ys) count each =
    ap (λ z. z ∷ xs) (same_Some x y (sym (each 0 x refl))) ∙ ap (λ zs. y ∷ zs) (same_by_place xs ys (omega (arith, count)) (λ k a is. each (suc k) a is))
