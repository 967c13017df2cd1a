-- Functions of a bound that keep one value from some bound on.
use Rattle.sig_tree.proofs.Common.{◌≡◌, ℕ, zero, suc, ◌+◌, ◌≤◌, Option, None, Some, refl, sym, ◌∙◌, ap, arith}

infixl 10 ◌>>=◌
abbrev pub ◌>>=◌ : {A B : Type 0} → Option A → (A → Option B) → Option B
None >>= f = None
(Some x) >>= f = f x

pub record Settles {A : Type 0} (f : ℕ → A) (value : A) : Type 0 where
  pub bound : ℕ
  pub settled : (n : ℕ) → bound ≤ n → f n ≡ value

-- a constant
pub settles_now : {A : Type 0} (value : A) → Settles (λ n. value) value
settles_now value = record { bound = 0; settled = λ n within. refl }

-- a function that takes one more
pub settles_next : {A : Type 0} (f g : ℕ → A) (value : A) → ((n : ℕ) → g (suc n) ≡ f n) → Settles f value → Settles g value
settles_next f g value next s = record { bound = suc s.bound; settled = go } where
  go : (n : ℕ) → suc s.bound ≤ n → g n ≡ value
  go zero within = absurd (omega arith)
  go (suc n) within = next n ∙ s.settled n (omega arith)

-- two steps, where the first gives something
pub settles_bind : {A B : Type 0} (f : ℕ → Option A) (g : ℕ → A → Option B) (a : A) (value : Option B)
    → Settles f (Some a) → Settles (λ n. g n a) value → Settles (λ n. f n >>= g n) value
settles_bind f g a value first second = record {
  bound = first.bound + second.bound;
  settled = λ n within. ap (λ o. o >>= g n) (first.settled n (omega arith)) ∙ second.settled n (omega arith);
}

-- there is one such value
pub settles_once : {A : Type 0} (f : ℕ → A) (a b : A) → Settles f a → Settles f b → a ≡ b
settles_once f a b first second =
    sym (first.settled (first.bound + second.bound) (omega arith)) ∙ second.settled (first.bound + second.bound) (omega arith)
