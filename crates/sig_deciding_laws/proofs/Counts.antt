-- How many numbers below a bound meet what is decided of each.
use Rattle.sig_deciding_laws.proofs.Common.{◌<◌, ◌≤◌, ◌+◌, inl, inr, ℕ, zero, suc, subst, arith, cases_eq}

abbrev pub one_if : {A : Type 0} → Dec A → ℕ
one_if (yes a) = 1
one_if (no none) = 0

one_most : {A : Type 0} (a : Dec A) → one_if a ≤ 1
one_most (yes a) = omega arith
one_most (no none) = omega arith

one_more : {A B : Type 0} → (A → B) → (a : Dec A) (b : Dec B) → one_if a ≤ one_if b
one_more f (yes a) (yes b) = omega arith
one_more f (yes a) (no none) = absurd (none (f a))
one_more f (no none) (yes b) = omega arith
one_more f (no none) (no neither) = omega arith

one_less : {A B : Type 0} → (A → ⊥) → B → (a : Dec A) (b : Dec B) → one_if a < one_if b
one_less fails holds (yes a) b = absurd (fails a)
one_less fails holds (no none) (yes b) = omega arith
one_less fails holds (no none) (no neither) = absurd (neither holds)

abbrev pub counted : (P : ℕ → Type 0) → ((k : ℕ) → Dec (P k)) → ℕ → ℕ
counted P decide zero = 0
counted P decide (suc m) = counted P decide m + one_if (decide m)

pub counted_most : (P : ℕ → Type 0) (decide : (k : ℕ) → Dec (P k)) (m : ℕ) → counted P decide m ≤ m
counted_most P decide zero = omega arith
counted_most P decide (suc m) = omega (arith, counted_most P decide m, one_most (decide m))

module _ (P Q : ℕ → Type 0) (first : (k : ℕ) → Dec (P k)) (second : (k : ℕ) → Dec (Q k)) (wider : (k : ℕ) → P k → Q k) where
  pub counted_more : (m : ℕ) → counted P first m ≤ counted Q second m
  counted_more zero = omega arith
  counted_more (suc m) = omega (arith, counted_more m, one_more (wider m) (first m) (second m))

  pub counted_less : (m k : ℕ) → k < m → Q k → (P k → ⊥) → counted P first m < counted Q second m
  counted_less zero k less holds fails = absurd (omega (arith, less))
  counted_less (suc m) k less holds fails = elim (cases_eq k m) [
    | inl same ↦ omega (arith, counted_more m, one_less (subst (λ i. P i → ⊥) same fails) (subst Q same holds) (first m) (second m))
    | inr apart ↦ omega (arith, counted_less m k (omega (arith, less, apart)) holds fails, one_more (wider m) (first m) (second m))
  ]
