-- Lemmas on the functions of values.
use Rattle.std.proofs.Common.{◌≡◌, ◌≢◌, ◌⊎◌, inl, inr, ℤ, pos, ◌+ℤ◌, ◌-ℤ◌, ◌*ℤ◌, neg_ℤ, ◌<ℤ◌, ◌≤ℤ◌, Bool, true, false, List, [], ◌∷◌, length, refl, arith}
use Rattle.std.specs.Ordering.{int_eq}
use Rattle.std.proofs.lemmas.Bool.Decides.{Decides-int_eq}
use Rattle.std.proofs.lemmas.Int.{by_lt_z}
use Rattle.std.specs.Int.Signed.{clash_ℤ}
use Rattle.sig_base.specs.Traces.{Unbounded}
use Rattle.sig_base.specs.Functions.{Function, Identity, Negative, Not, And, Or, Xor, Equal, NotEqual, Less, LessEqual, Greater, GreaterEqual, Sum, Difference, Product, Quotient, Remainder, Tells, Gives, quotient, remainder, operand_count}

-- a statement that holds or does not
abbrev IsDecided : Type 0 → Type 0
IsDecided Statement = Statement ⊎ (Statement → ⊥)

equal : (a b : ℤ) → IsDecided (a ≡ b)
equal a b = by (int_eq a b) refl where
  by : (same : Bool) → int_eq a b ≡ same → IsDecided (a ≡ b)
  by true is = inl (grind (arith, Decides-int_eq a b, is))
  by false is = inr (λ e. grind (arith, Decides-int_eq a b, is, e))

less : (a b : ℤ) → IsDecided (a <ℤ b)
less a b = by_lt_z a b (λ lt. inl lt) (λ le. inr (λ lt. clash_ℤ lt le))

at_most : (a b : ℤ) → IsDecided (a ≤ℤ b)
at_most a b = by_lt_z b a (λ lt. inr (λ le. clash_ℤ lt le)) (λ le. inl le)

turned : {Statement : Type 0} → IsDecided Statement → IsDecided (Statement → ⊥)
turned {Statement} (inl is) = inr (λ fails. fails is)
turned {Statement} (inr fails) = inl fails

joined : {A B : Type 0} → IsDecided A → IsDecided B → IsDecided (A × B)
joined {A} {B} (inl a) (inl b) = inl (a, b)
joined {A} {B} (inl a) (inr fails) = inr (λ p. fails p.1)
joined {A} {B} (inr fails) b = inr (λ p. fails p.0)

either : {A B : Type 0} → IsDecided A → IsDecided B → IsDecided (A ⊎ B)
either {A} {B} (inl a) b = inl (inl a)
either {A} {B} (inr fails) (inl b) = inl (inr b)
either {A} {B} (inr fails) (inr nor) = inr (λ s. elim s [
  | inl a ↦ fails a
  | inr b ↦ nor b
])

told : (Statement : Type 0) → IsDecided Statement → (v : ℤ) × Tells v Statement
told Statement (inl is) = (pos 1, inl (is, refl))
told Statement (inr fails) = (pos 0, inr (fails, refl))

of_one : (function : Function) (a : ℤ) → operand_count function ≡ 1 → (v : ℤ) × Gives Unbounded function (a ∷ []) v
of_one Identity a one = (a, refl)
of_one Negative a one = (neg_ℤ a, refl)
of_one Not a one = told (a ≢ pos 1) (turned (equal a (pos 1)))
of_one function a one = absurd (omega (arith, one))

of_two : (function : Function) (a b : ℤ) → operand_count function ≡ 2 → (v : ℤ) × Gives Unbounded function (a ∷ b ∷ []) v
of_two And a b two = told ((a ≡ pos 1) × (b ≡ pos 1)) (joined (equal a (pos 1)) (equal b (pos 1)))
of_two Or a b two = told ((a ≡ pos 1) ⊎ (b ≡ pos 1)) (either (equal a (pos 1)) (equal b (pos 1)))
of_two Xor a b two = told (a ≢ b) (turned (equal a b))
of_two Equal a b two = told (a ≡ b) (equal a b)
of_two NotEqual a b two = told (a ≢ b) (turned (equal a b))
of_two Less a b two = told (a <ℤ b) (less a b)
of_two LessEqual a b two = told (a ≤ℤ b) (at_most a b)
of_two Greater a b two = told (b <ℤ a) (less b a)
of_two GreaterEqual a b two = told (b ≤ℤ a) (at_most b a)
of_two Sum a b two = (a +ℤ b, refl)
of_two Difference a b two = (a -ℤ b, refl)
of_two Product a b two = (a *ℤ b, refl)
of_two Quotient a b two = (quotient a b, (tt, refl))
of_two Remainder a b two = (remainder a b, (tt, refl))
of_two function a b two = absurd (omega (arith, two))

few : (function : Function) → (operand_count function ≡ 1) ⊎ (operand_count function ≡ 2)
few Identity = inl refl
few Negative = inl refl
few Not = inl refl
few function = inr refl

-- a function gives some value of as many operands as it has
pub some_value : (function : Function) (operands : List ℤ) → length operands ≡ operand_count function → (v : ℤ) × Gives Unbounded function operands v
some_value function operands count = by operands count (few function) where
  by : (operands : List ℤ) → length operands ≡ operand_count function → (operand_count function ≡ 1) ⊎ (operand_count function ≡ 2) → (v : ℤ) × Gives Unbounded function operands v
  by [] count (inl one) = absurd (omega (arith, count, one))
  by [] count (inr two) = absurd (omega (arith, count, two))
  by (a ∷ []) count (inl one) = of_one function a one
  by (a ∷ []) count (inr two) = absurd (omega (arith, count, two))
  by (a ∷ b ∷ []) count (inl one) = absurd (omega (arith, count, one))
  by (a ∷ b ∷ []) count (inr two) = of_two function a b two
  by (a ∷ b ∷ c ∷ more) count (inl one) = absurd (omega (arith, count, one))
  by (a ∷ b ∷ c ∷ more) count (inr two) = absurd (omega (arith, count, two))
