-- What holds of each element of a list.
use Rattle.std.proofs.Common.{Bool, Contains, List, Some, [], arith, get_or, length, slice_get, subst, suc, true, zero, ℕ, ◌++◌, ◌<◌, ◌∷◌, ◌≡◌}
use Rattle.std.proofs.lemmas.Option.{get_or_from_slice_get, slice_get_within}
use Rattle.std.specs.List.{AllByRecursion, AllPass, AllZip}

pub all_added : {A : Type 0} (P : A → Type 0) (xs : List A) (y : A) → AllByRecursion P xs → P y → AllByRecursion P (xs ++ y ∷ [])
all_added P [] y h k = (k, tt)
all_added P (x ∷ xs) y h k = (h.0, all_added P xs y h.1 k)

pub all_both : {A : Type 0} (P : A → Type 0) (xs ys : List A) → AllByRecursion P xs → AllByRecursion P ys → AllByRecursion P (xs ++ ys)
all_both P [] ys h k = k
all_both P (x ∷ xs) ys h k = (h.0, all_both P xs ys h.1 k)

-- what holds of each, if something else does
pub all_so : {A : Type 0} (P Q : A → Type 0) → ((x : A) → P x → Q x) → (xs : List A) → AllByRecursion P xs → AllByRecursion Q xs
all_so P Q so [] h = tt
all_so P Q so (x ∷ xs) h = (so x h.0, all_so P Q so xs h.1)

pub all_front : {X : Type 0} (P : X → Type 0) (xs ys : List X) → AllByRecursion P (xs ++ ys) → AllByRecursion P xs
all_front P [] ys all = tt
all_front P (x ∷ xs) ys all = (all.0, all_front P xs ys all.1)

pub all_back : {X : Type 0} (P : X → Type 0) (xs ys : List X) → AllByRecursion P (xs ++ ys) → AllByRecursion P ys
all_back P [] ys all = all
all_back P (x ∷ xs) ys all = all_back P xs ys all.1

pub holds_at : {A : Type 0} (P : A → Type 0) (xs : List A) (k : ℕ) (d : A) → AllByRecursion P xs → k < length xs → P (get_or xs k d)
holds_at P [] k d all h = let no : k < 0 = h in absurd (omega arith)
holds_at P (x ∷ xs) zero d all h = all.0
holds_at P (x ∷ xs) (suc k) d all h = holds_at P xs k d all.1 (let n : suc k < suc (length xs) = h in omega arith)

-- what holds of all elements holds of one
pub at_element : {X : Type 0} (P : X → Type 0) (xs : List X) (x : X) → Contains xs x → AllByRecursion P xs → P x
at_element P xs x there all = subst P there.2 (at_index P xs there.0 x there.1 all) where
  at_index : {X : Type 0} (P : X → Type 0) (xs : List X) (k : ℕ) (d : X) → k < length xs → AllByRecursion P xs → P (get_or xs k d)
  at_index P [] k d lt all = absurd (omega (arith, lt))
  at_index P (x ∷ xs) zero d lt all = all.0
  at_index P (x ∷ xs) (suc k) d lt all = at_index P xs k d (omega (arith, lt)) all.1

pub at_each : {A : Type 0} (p : A → Bool) (xs : List A) → AllPass p xs → (k : ℕ) (x : A) → slice_get xs k ≡ Some x → p x ≡ true
at_each p xs all k x e = subst (λ (y : _). p y ≡ true) (get_or_from_slice_get xs k x x e) (all k x (slice_get_within xs k x e))

pub zip_left : {A B : Type 0} (P : A → Type 0) (R : A → B → Type 0) → ((a : A) (b : B) → R a b → P a) → (xs : List A) (ys : List B) → AllZip R xs ys → AllByRecursion P xs
zip_left P R f [] ys h = tt
zip_left P R f (x ∷ xs) [] h = absurd h
zip_left P R f (x ∷ xs) (y ∷ ys) h = (f x y h.0, zip_left P R f xs ys h.1)

pub zip_back : {A B : Type 0} (P : A → Type 0) (Q : B → Type 0) (R : A → B → Type 0) → ((a : A) (b : B) → R a b → Q b → P a) → (xs : List A) (ys : List B) → AllZip R xs ys → AllByRecursion Q ys → AllByRecursion P xs
zip_back P Q R f [] ys h all = tt
zip_back P Q R f (x ∷ xs) [] h all = absurd h
zip_back P Q R f (x ∷ xs) (y ∷ ys) h all = (f x y h.0 all.0, zip_back P Q R f xs ys h.1 all.1)

pub zip_same : {A B : Type 0} (R S : A → B → Type 0) → ((a : A) (b : B) → R a b → S a b) → (xs : List A) (ys : List B) → AllZip R xs ys → AllZip S xs ys
zip_same R S f [] [] h = tt
zip_same R S f [] (y ∷ ys) h = absurd h
zip_same R S f (x ∷ xs) [] h = absurd h
zip_same R S f (x ∷ xs) (y ∷ ys) h = (f x y h.0, zip_same R S f xs ys h.1)
