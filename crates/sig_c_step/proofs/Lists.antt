-- Lists: what is after a front, in a front and past it; and a test that some kept element passes.
use Rattle.std.proofs.Common.{◌≡◌, ◌<◌, ◌+◌, ◌++◌, ◌||◌, ℕ, zero, suc, Bool, true, false, List, [], ◌∷◌, Some, None, refl, ap, ◌∙◌, arith, length, drop, take, slice_get, if◌then◌else◌}
use Rattle.std.specs.Prelude.{filter}
use Rattle.std.specs.List.{list_any}

pub behind_all : {X : Type 0} (xs ys : List X) (k : ℕ) → slice_get (xs ++ ys) (length xs + k) ≡ slice_get ys k
behind_all [] ys k = let e : 0 + k ≡ k = omega arith in ap (slice_get ys) e
behind_all (x ∷ xs) ys k = let e : length (x ∷ xs) + k ≡ suc (length xs + k) = omega arith in ap (slice_get (x ∷ (xs ++ ys))) e ∙ behind_all xs ys k

pub past : {X : Type 0} (n : ℕ) (xs : List X) (k : ℕ) → slice_get (drop n xs) k ≡ slice_get xs (n + k)
past zero xs k = let e : k ≡ 0 + k = omega arith in ap (slice_get xs) e
past (suc n) [] k = refl
past (suc n) (x ∷ xs) k = let e : suc (n + k) ≡ suc n + k = omega arith in past n xs k ∙ ap (slice_get (x ∷ xs)) e

pub within : {X : Type 0} (n : ℕ) (xs : List X) (k : ℕ) → k < n → slice_get (take n xs) k ≡ slice_get xs k
within zero xs k lt = absurd (omega (arith, lt))
within (suc n) [] k lt = refl
within (suc n) (x ∷ xs) zero lt = refl
within (suc n) (x ∷ xs) (suc k) lt = within n xs k (omega (arith, lt))

pub any_at : {X : Type 0} (p : X → Bool) (xs : List X) (k : ℕ) (x : X) → slice_get xs k ≡ Some x → p x ≡ true → list_any p xs ≡ true
any_at p [] k x is passes = absurd (let e : None ≡ Some x = is in cc e)
any_at p (y ∷ xs) zero x is passes = let same : y ≡ x = cc is in rw same (rw passes refl)
any_at p (y ∷ xs) (suc k) x is passes = by (p y) (any_at p xs k x is passes) where
  by : (b : Bool) → list_any p xs ≡ true → b || list_any p xs ≡ true
  by true other = refl
  by false other = other

pub any_kept : {X : Type 0} (keep p : X → Bool) (xs : List X) (k : ℕ) (x : X) → slice_get xs k ≡ Some x → keep x ≡ true → p x ≡ true → list_any p (filter keep xs) ≡ true
any_kept keep p [] k x is kept passes = absurd (let e : None ≡ Some x = is in cc e)
any_kept keep p (y ∷ xs) zero x is kept passes = let same : y ≡ x = cc is in rw same (rw kept (rw passes refl))
any_kept {X} keep p (y ∷ xs) (suc k) x is kept passes = by (keep y) (any_kept keep p xs k x is kept passes) where
  either : (b : Bool) → list_any p (filter keep xs) ≡ true → b || list_any p (filter keep xs) ≡ true
  either true other = refl
  either false other = other

  by : (b : Bool) → list_any p (filter keep xs) ≡ true → list_any p (if b then y ∷ filter keep xs else filter keep xs) ≡ true
  by true other = either (p y) other
  by false other = other
