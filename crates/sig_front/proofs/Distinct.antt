-- The first of some distinct names are distinct.
use Rattle.sig_front.proofs.Common.{ℕ, zero, suc, Bool, false, List, [], ◌∷◌, map, take, ◌≡◌, AllByRecursion, IsDistinct}

all_first : {A B : Type 0} (P : B → Type 0) (f : A → B) (n : ℕ) (xs : List A) → AllByRecursion P (map f xs) → AllByRecursion P (map f (take n xs))
all_first P f zero xs all = tt
all_first P f (suc n) [] all = tt
all_first P f (suc n) (x ∷ xs) all = (all.0, all_first P f n xs all.1)

pub first_distinct : {A B : Type 0} (e : B → B → Bool) (n : ℕ) (f : A → B) (xs : List A) → IsDistinct e (map f xs) → IsDistinct e (map f (take n xs))
unfolding IsDistinct
first_distinct e zero f xs distinct = tt
first_distinct e (suc n) f [] distinct = tt
first_distinct e (suc n) f (x ∷ xs) distinct = (all_first (λ y. e (f x) y ≡ false) f n xs distinct.0, first_distinct e n f xs distinct.1)
