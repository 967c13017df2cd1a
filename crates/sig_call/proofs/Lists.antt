-- What holds of each element of a list.
use Rattle.sig_call.proofs.Common.{◌≡◌, ◌<◌, ◌++◌, ℕ, zero, suc, List, [], ◌∷◌, map, length, get_or, take, drop, arith, subst, sym, ap, AllByRecursion}

-- what holds of all that a list is mapped to
pub all_mapped : {A B : Type 0} (P : B → Type 0) (f : A → B) (xs : List A) (i : ℕ) (x : A) → AllByRecursion P (map f xs) → i < length xs → x ≡ get_or xs i x → P (f x)
all_mapped P f [] i x all h e = let n : i < 0 = h in absurd (omega arith)
all_mapped P f (y ∷ ys) zero x all h e = subst (λ z. P (f z)) (sym e) all.0
all_mapped P f (y ∷ ys) (suc i) x all h e = all_mapped P f ys i x all.1 (let n : suc i < suc (length ys) = h in omega arith) e

-- a list at an element
pub split_at : {A B : Type 0} (f : A → B) (xs : List A) (i : ℕ) (x : A) → i < length xs → x ≡ get_or xs i x → map f xs ≡ map f (take i xs) ++ f x ∷ map f (drop (suc i) xs)
split_at f [] i x h e = let n : i < 0 = h in absurd (omega arith)
split_at f (y ∷ ys) zero x h e = ap (λ z. f z ∷ map f ys) (sym e)
split_at f (y ∷ ys) (suc i) x h e = ap (λ l. f y ∷ l) (split_at f ys i x (let n : suc i < suc (length ys) = h in omega arith) e)
