-- The guards of runs.
use Rattle.sig_cells.proofs.Common.{◌≡◌, ◌+◌, ◌++◌, ◌⊎◌, ◌∙◌, inl, inr, ℕ, zero, suc, List, [], ◌∷◌, length, length-map, set, None, Some, same_Some, refl, sym, ap, slice_get, take, arith, AskAmong, AsksAmong, Node, Ref, Run, SigId, guards_of}

pub get_push : {A : Type 0} (xs : List A) (y z : A) (n : ℕ) → slice_get (xs ++ y ∷ []) n ≡ Some z → (slice_get xs n ≡ Some z) ⊎ ((n ≡ length xs) × (z ≡ y))
get_push [] y z zero is = inr (refl, (let e : Some y ≡ Some z = is in cc))
get_push [] y z (suc n) is = absurd (let e : None ≡ Some z = is in cc)
get_push (x ∷ xs) y z zero is = inl is
get_push (x ∷ xs) y z (suc n) is = elim (get_push xs y z n is) [
  | inl there ↦ inl there
  | inr last ↦ inr (ap suc last.0, last.1)
]

pub get_set : {A : Type 0} (xs : List A) (p : ℕ) (y z : A) (n : ℕ) → slice_get (set xs p y) n ≡ Some z → ((n ≡ p) × (z ≡ y)) ⊎ (slice_get xs n ≡ Some z)
get_set [] p y z n is = inr is
get_set (x ∷ xs) zero y z zero is = inl (refl, (let e : Some y ≡ Some z = is in cc))
get_set (x ∷ xs) zero y z (suc n) is = inr is
get_set (x ∷ xs) (suc p) y z zero is = inr is
get_set (x ∷ xs) (suc p) y z (suc n) is = elim (get_set xs p y z n is) [
  | inl here ↦ inl (ap suc here.0, here.1)
  | inr there ↦ inr there
]

pub guards_count : (runs : List Run) → length (guards_of runs) ≡ length runs
guards_count runs = length-map runs (λ (run : Run). run.guard)

-- runs with the same guards are as many
pub as_many : (runs others : List Run) → guards_of others ≡ guards_of runs → length others ≡ length runs
as_many runs others same = sym (guards_count others) ∙ ap length same ∙ guards_count runs

pub guard_there : (runs : List Run) (n : ℕ) (run : Run) → slice_get runs n ≡ Some run → slice_get (guards_of runs) n ≡ Some run.guard
guard_there [] n run is = absurd (let e : None ≡ Some run = is in cc)
guard_there (r ∷ runs) zero run is = ap (λ (x : Run). Some x.guard) (same_Some r run is)
guard_there (r ∷ runs) (suc n) run is = guard_there runs n run is

-- a run with the guard of the one at its place
pub guards_set : (runs : List Run) (n : ℕ) (old run : Run) → slice_get runs n ≡ Some old → run.guard ≡ old.guard → guards_of (set runs n run) ≡ guards_of runs
guards_set [] n old run is same = refl
guards_set (r ∷ runs) zero old run is same = ap (λ g. g ∷ guards_of runs) (same ∙ ap (λ (x : Run). x.guard) (sym (same_Some r old is)))
guards_set (r ∷ runs) (suc n) old run is same = ap (λ gs. r.guard ∷ gs) (guards_set runs n old run is same)

pub guards_push : (runs : List Run) (run : Run) → guards_of (runs ++ run ∷ []) ≡ guards_of runs ++ run.guard ∷ []
guards_push [] run = refl
guards_push (r ∷ runs) run = ap (λ gs. r.guard ∷ gs) (guards_push runs run)

-- one item more
pub taken_one : {A : Type 0} (xs : List A) (n : ℕ) (y : A) → slice_get xs n ≡ Some y → take (n + 1) xs ≡ take n xs ++ y ∷ []
taken_one [] n y is = absurd (let e : None ≡ Some y = is in cc)
taken_one (x ∷ xs) zero y is = ap (λ z. z ∷ []) (same_Some x y is)
taken_one (x ∷ xs) (suc n) y is = ap (λ m. take m (x ∷ xs)) (let e : suc n + 1 ≡ suc (n + 1) = omega arith in e) ∙ ap (λ zs. x ∷ zs) (taken_one xs n y is)

-- runs ask what their guards ask
pub asks_among : (nodes : List Node) (conditions : List SigId) (guards : List Ref) (runs : List Run) → guards_of runs ≡ guards
    → ((place : ℕ) (guard : Ref) → slice_get guards place ≡ Some guard → AsksAmong nodes conditions guard) → AskAmong nodes conditions runs
asks_among nodes conditions guards runs same told = λ place run at. told place run.guard (ap (λ gs. slice_get gs place) (sym same) ∙ guard_there runs place run at)
