-- Lists that a function of places gives.
use Rattle.sig_deciding_laws.proofs.Common.{◌≡◌, ◌<◌, ℕ, zero, suc, List, [], ◌∷◌, length, refl, arith, Some, slice_get, slice_index_or}

abbrev pub table : {X : Type 0} → (ℕ → X) → ℕ → List X
table f zero = []
table f (suc n) = f 0 ∷ table (λ k. f (suc k)) n

pub table_length : {X : Type 0} (f : ℕ → X) (n : ℕ) → length (table f n) ≡ n
table_length f zero = refl
table_length f (suc n) = let rest = table_length (λ k. f (suc k)) n in omega (arith, rest)

pub table_at : {X : Type 0} (f : ℕ → X) (n k : ℕ) (d : X) → k < n → f k ≡ slice_index_or (table f n) k d
table_at f zero k d less = absurd (omega (arith, less))
table_at f (suc n) zero d less = refl
table_at f (suc n) (suc k) d less = table_at (λ i. f (suc i)) n k d (omega (arith, less))

pub table_get : {X : Type 0} (f : ℕ → X) (n k : ℕ) → k < n → slice_get (table f n) k ≡ Some (f k)
table_get f zero k less = absurd (omega (arith, less))
table_get f (suc n) zero less = refl
table_get f (suc n) (suc k) less = table_get (λ i. f (suc i)) n k (omega (arith, less))

pub table_is : {X : Type 0} (f : ℕ → X) (n k : ℕ) (x : X) → slice_get (table f n) k ≡ Some x → (k < n) × (f k ≡ x)
table_is f zero k x is = cc
table_is f (suc n) zero x is = let same : f 0 ≡ x = cc in (omega arith, same)
table_is f (suc n) (suc k) x is = let rest = table_is (λ i. f (suc i)) n k x is in (omega (arith, rest.0), rest.1)
