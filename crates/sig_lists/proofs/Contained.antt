-- What a list contains.
use Rattle.std.proofs.Common.{Bool, Contains, List, Some, [], ap, arith, bytes_eq, false, get_or, inl, inr, length, map, refl, slice_get, subst, suc, sym, true, zero, ℕ, ◌++◌, ◌<◌, ◌||◌, ◌∙◌, ◌∷◌, ◌≡◌, ◌⊎◌}
use Rattle.std.proofs.lemmas.Bool.{false≢true}
use Rattle.std.proofs.lemmas.Option.{slice_get-get_or, slice_get_within}
use Rattle.std.proofs.lemmas.Slice.Eq.{bytes_eq-Decides}
use Rattle.std.specs.List.{list_any}

pub contains_head : {X : Type 0} (x : X) (xs : List X) → Contains (x ∷ xs) x
contains_head x xs = (0, omega arith, refl)

pub contains_later : {X : Type 0} (x y : X) (xs : List X) → Contains xs y → Contains (x ∷ xs) y
contains_later x y xs there = (suc there.0, omega (arith, there.1), there.2)

pub contains_cons : {X : Type 0} (x y : X) (xs : List X) → Contains (x ∷ xs) y → (y ≡ x) ⊎ Contains xs y
contains_cons {X} x y xs there = at there.0 there.1 there.2 where
  at : (k : ℕ) → k < length (x ∷ xs) → get_or (x ∷ xs) k y ≡ y → (y ≡ x) ⊎ Contains xs y
  at zero lt is = inl (sym is)
  at (suc k) lt is = inr (k, omega (arith, lt), is)

pub contains_none : {X : Type 0} (x : X) → Contains [] x → ⊥
contains_none x there = omega (arith, there.1)

pub contains_one : {X : Type 0} (x z : X) → Contains (x ∷ []) z → z ≡ x
contains_one x z there = elim (contains_cons x z [] there) [ inl is ↦ is | inr none ↦ absurd (contains_none z none) ]

pub contains_at : {X : Type 0} (xs : List X) (k : ℕ) (x : X) → slice_get xs k ≡ Some x → Contains xs x
contains_at xs k x is = let e : Some (get_or xs k x) ≡ Some x = sym (slice_get-get_or xs k x (slice_get_within xs k x is)) ∙ is in (k, slice_get_within xs k x is, cc)

pub at_contained : {X : Type 0} (xs : List X) (x : X) (there : Contains xs x) → slice_get xs there.0 ≡ Some x
at_contained xs x there = slice_get-get_or xs there.0 x there.1 ∙ ap Some there.2

pub contains_last : {X : Type 0} (xs : List X) (x : X) → Contains (xs ++ x ∷ []) x
contains_last [] x = contains_head x []
contains_last (z ∷ xs) x = contains_later z x (xs ++ x ∷ []) (contains_last xs x)

pub contains_mapped : {X Y : Type 0} (f : X → Y) (xs : List X) (x : X) → Contains xs x → Contains (map f xs) (f x)
contains_mapped f [] x there = absurd (contains_none x there)
contains_mapped f (z ∷ xs) x there = elim (contains_cons z x xs there) [
  | inl same ↦ subst (λ w. Contains (f z ∷ map f xs) (f w)) (sym same) (contains_head (f z) (map f xs))
  | inr later ↦ contains_later (f z) (f x) (map f xs) (contains_mapped f xs x later)
]

pub mapped_from : {X Y : Type 0} (f : X → Y) (xs : List X) (y : Y) → Contains (map f xs) y → (x : X) × Contains xs x × (y ≡ f x)
mapped_from f [] y there = absurd (contains_none y there)
mapped_from f (x ∷ xs) y there = elim (contains_cons (f x) y (map f xs) there) [
  | inl same ↦ (x, contains_head x xs, same)
  | inr later ↦ let (z, is, same) = mapped_from f xs y later in (z, contains_later x z xs is, same)
]

-- a text is among some, or not
pub contained_or_not : (xs : List (List ℕ)) (t : List ℕ) → Contains xs t ⊎ (Contains xs t → ⊥)
contained_or_not [] t = inr (λ h. (let no : h.0 < 0 = h.1 in omega arith))
contained_or_not (x ∷ xs) t = here (bytes_eq x t) refl (contained_or_not xs t) where
  later : (k : ℕ) → k < length (x ∷ xs) → get_or (x ∷ xs) k t ≡ t → (x ≡ t) ⊎ Contains xs t
  later zero h is = inl is
  later (suc k) h is = inr (k, (let m : suc k < suc (length xs) = h in omega arith), is)

  here : (b : Bool) → bytes_eq x t ≡ b → Contains xs t ⊎ (Contains xs t → ⊥) → Contains (x ∷ xs) t ⊎ (Contains (x ∷ xs) t → ⊥)
  here true is rest = inl (0, omega arith, (bytes_eq-Decides x t).0 is)
  here false is (inl h) = inl (suc h.0, (let m : h.0 < length xs = h.1 in omega arith), h.2)
  here false is (inr none) = inr (λ h. elim (later h.0 h.1 h.2) [
    | inl same ↦ (let yes : bytes_eq x t ≡ true = (bytes_eq-Decides x t).1 same in let no : bytes_eq x t ≡ false = is in absurd cc)
    | inr there ↦ none there
  ])

pub passes_one : {X : Type 0} (p : X → Bool) (xs : List X) → list_any p xs ≡ true → (x : X) × Contains xs x × (p x ≡ true)
passes_one p [] is = absurd (false≢true is)
passes_one p (x ∷ xs) is = by (p x) refl is (λ later. passes_one p xs later) where
  by : (b : Bool) → p x ≡ b → (b || list_any p xs) ≡ true → (list_any p xs ≡ true → (y : _) × Contains xs y × (p y ≡ true)) → (y : _) × Contains (x ∷ xs) y × (p y ≡ true)
  by true e or rest = (x, contains_head x xs, e)
  by false e or rest = let at = rest or in (at.0, contains_later x at.0 xs at.1, at.2)

pub one_passes : {X : Type 0} (p : X → Bool) (xs : List X) (x : X) → Contains xs x → p x ≡ true → list_any p xs ≡ true
one_passes p [] x there is = absurd (contains_none x there)
one_passes p (y ∷ xs) x there is = elim (contains_cons y x xs there) [
  | inl e ↦ ap (λ b. b || list_any p xs) (ap p (sym e) ∙ is)
  | inr later ↦ ap (λ b. p y || b) (one_passes p xs x later is) ∙ or_true (p y)
] where
  or_true : (b : Bool) → (b || true) ≡ true
  or_true true = refl
  or_true false = refl
