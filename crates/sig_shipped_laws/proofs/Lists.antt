-- Lists of which an item was set, and what is left of a list.
use Rattle.sig_shipped_laws.proofs.Common.{◌≡◌, ◌<◌, ◌+◌, ◌==◌, ℕ, zero, suc, Bool, true, false, cond, List, [], ◌∷◌, take, drop, None, Some, refl, sym, ap, ◌∙◌, arith, slice_get, eqb-true, eq-eqb, count_by, sum_by-cons}

-- by whether two numbers are one
pub by_equal : (P : Bool → Type 0) (a b : ℕ) → (a ≡ b → P true) → ((a ≡ b → ⊥) → P false) → P (a == b)
by_equal P a b same other = at (a == b) refl where
  at : (x : Bool) → (a == b) ≡ x → P x
  at true e = same (eqb-true a b e)
  at false e = other (λ is. let clash : true ≡ false = sym (eq-eqb a b is) ∙ e in cc)

-- what is left of a list begins with the item at its place
left_next : {A : Type 0} (xs : List A) (n : ℕ) (x : A) → slice_get xs n ≡ Some x → drop n xs ≡ x ∷ drop (suc n) xs
left_next [] n x e = absurd cc
left_next (y ∷ xs) zero x e = let same : y ≡ x = cc in ap (λ (z : _). z ∷ xs) same
left_next (y ∷ xs) (suc n) x e = left_next xs n x e

pub left_at : {A : Type 0} (xs : List A) (n : ℕ) (x : A) → slice_get xs n ≡ Some x → drop n xs ≡ x ∷ drop (n + 1) xs
left_at xs n x e = let next : suc n ≡ n + 1 = omega arith in left_next xs n x e ∙ ap (λ (k : ℕ). x ∷ drop k xs) next

pub none_left : {A : Type 0} (xs : List A) (n : ℕ) → slice_get xs n ≡ None → drop n xs ≡ []
none_left [] zero e = refl
none_left [] (suc n) e = refl
none_left (y ∷ xs) zero e = absurd cc
none_left (y ∷ xs) (suc n) e = none_left xs n e

-- where one of the first items is counted, more are counted behind it than before
pub counts_more : {A : Type 0} (p : A → Bool) (xs : List A) (i j : ℕ) (x : A) → i < j → slice_get xs i ≡ Some x → p x ≡ true → count_by p (take i xs) < count_by p (take j xs)
counts_more p [] i j x lt e is = absurd cc
counts_more p (y ∷ xs) i zero x lt e is = absurd (omega arith)
counts_more p (y ∷ xs) zero (suc j) x lt e is =
    let same : y ≡ x = cc in
    let one : cond (p y) 1 0 ≡ 1 = ap {B = ℕ} (λ (b : Bool). cond b 1 0) (ap p same ∙ is) in
    let more = sum_by-cons (λ (z : _). cond (p z) 1 0) y (take j xs) in
    omega (arith, one, more)
counts_more p (y ∷ xs) (suc i) (suc j) x lt e is =
    let rest = counts_more p xs i j x (omega arith) e is in
    let one = sum_by-cons (λ (z : _). cond (p z) 1 0) y (take i xs) in
    let two = sum_by-cons (λ (z : _). cond (p z) 1 0) y (take j xs) in
    omega (arith, rest, one, two)
