-- The results of functions are what functions give.
use Rattle.sig_exec.proofs.Common.{◌≡◌, ◌≢◌, ◌⊎◌, inl, inr, ℤ, pos, Bool, true, false, List, [], ◌∷◌, length, refl, sym, ◌∙◌, arith, Result, Ok, Err, not, ◌&&◌, ◌||◌, ◌<ℤ◌, ◌≤ℤ◌, int_lt, int_le, int_eq, Decides-int_eq, ints, Function, Identity, Negative, Equal, NotEqual, Less, LessEqual, Greater, GreaterEqual, Sum, Difference, Product, Quotient, Remainder, Gives, Tells, operand_count, Bounded, has_64_bits, HasZeroDivisor, computed, divides_by_zero, result_of, truth_value, answered, no_equation, Cause, Overflow, ZeroDivisor}
use Rattle.std.specs.Prelude.{negsuc}
use Rattle.sig_base.specs.Functions.{Not, And, Or, Xor}
use Rattle.sig_model.specs.Results.{has_64_bits as has_bits}

-- a test that decides a statement
pub record Tests (b : Bool) (Statement : Type 0) : Type 0 where
  pub yes : b ≡ true → Statement
  pub no : b ≡ false → Statement → ⊥

equal : (a b : ℤ) → Tests (int_eq a b) (a ≡ b)
equal a b = record {
  yes = λ is. grind (arith, Decides-int_eq a b, is);
  no = λ is e. grind (arith, Decides-int_eq a b, is, e);
}

told : (b : Bool) (Statement : Type 0) → Tests b Statement → Tells (truth_value b) Statement
told true Statement tests = inl (tests.yes refl, refl)
told false Statement tests = inr (tests.no refl, refl)

turned : {Statement : Type 0} (b : Bool) → Tests b Statement → Tests (not b) (Statement → ⊥)
turned {Statement} true tests = record { yes = λ is. absurd (let e : false ≡ true = is in cc); no = λ is fails. fails (tests.yes refl) }
turned {Statement} false tests = record { yes = λ is. tests.no refl; no = λ is. absurd (let e : true ≡ false = is in cc) }

joined : {A B : Type 0} (a b : Bool) → Tests a A → Tests b B → Tests (a && b) (A × B)
joined {A} {B} true b one two = record { yes = λ is. (one.yes refl, two.yes is); no = λ is p. two.no is p.1 }
joined {A} {B} false b one two = record { yes = λ is. absurd (let e : false ≡ true = is in cc); no = λ is p. one.no refl p.0 }

either : {A B : Type 0} (a b : Bool) → Tests a A → Tests b B → Tests (a || b) (A ⊎ B)
either {A} {B} true b one two = record { yes = λ is. inl (one.yes refl); no = λ is. absurd (let e : true ≡ false = is in cc) }
either {A} {B} false b one two = record { yes = λ is. inr (two.yes is); no = λ is s. elim s [ inl p ↦ one.no refl p | inr q ↦ two.no is q ] }

less : (a b : ℤ) → Tests (int_lt a b) (a <ℤ b)
less a b = record {
  yes = λ is. grind (arith, ints, is);
  no = λ is lt. grind (arith, ints, is, lt);
}

at_most : (a b : ℤ) → Tests (int_le a b) (a ≤ℤ b)
at_most a b = record {
  yes = λ is. grind (arith, ints, is);
  no = λ is le. grind (arith, ints, is, le);
}

-- where nothing is divided by 0, the result is what the function gives
pub given : (function : Function) (operands : List ℤ) → length operands ≡ operand_count function → divides_by_zero function operands ≡ false
    → Gives Bounded function operands (result_of function operands)
given Identity (a ∷ []) count apart = refl
given Negative (a ∷ []) count apart = refl
given Not (a ∷ []) count apart = told (not (int_eq a (pos 1))) (a ≢ pos 1) (turned (int_eq a (pos 1)) (equal a (pos 1)))
given And (a ∷ b ∷ []) count apart = told (int_eq a (pos 1) && int_eq b (pos 1)) ((a ≡ pos 1) × (b ≡ pos 1)) (joined (int_eq a (pos 1)) (int_eq b (pos 1)) (equal a (pos 1)) (equal b (pos 1)))
given Or (a ∷ b ∷ []) count apart = told (int_eq a (pos 1) || int_eq b (pos 1)) ((a ≡ pos 1) ⊎ (b ≡ pos 1)) (either (int_eq a (pos 1)) (int_eq b (pos 1)) (equal a (pos 1)) (equal b (pos 1)))
given Xor (a ∷ b ∷ []) count apart = told (not (int_eq a b)) (a ≢ b) (turned (int_eq a b) (equal a b))
given Equal (a ∷ b ∷ []) count apart = told (int_eq a b) (a ≡ b) (equal a b)
given NotEqual (a ∷ b ∷ []) count apart = told (not (int_eq a b)) (a ≢ b) (turned (int_eq a b) (equal a b))
given Less (a ∷ b ∷ []) count apart = told (int_lt a b) (a <ℤ b) (less a b)
given LessEqual (a ∷ b ∷ []) count apart = told (int_le a b) (a ≤ℤ b) (at_most a b)
given Greater (a ∷ b ∷ []) count apart = told (int_lt b a) (b <ℤ a) (less b a)
given GreaterEqual (a ∷ b ∷ []) count apart = told (int_le b a) (b ≤ℤ a) (at_most b a)
given Sum (a ∷ b ∷ []) count apart = refl
given Difference (a ∷ b ∷ []) count apart = refl
given Product (a ∷ b ∷ []) count apart = refl
given Quotient (a ∷ b ∷ []) count apart = ((equal b (pos 0)).no apart, refl)
given Remainder (a ∷ b ∷ []) count apart = ((equal b (pos 0)).no apart, refl)
given function operands count apart = absurd (omega (arith, count))

is_told : {v : ℤ} {Statement : Type 0} (b : Bool) → Tests b Statement → Tells v Statement → v ≡ truth_value b
is_told {v} {Statement} true tests (inl holds) = holds.1
is_told {v} {Statement} true tests (inr fails) = absurd (fails.0 (tests.yes refl))
is_told {v} {Statement} false tests (inl holds) = absurd (tests.no refl holds.0)
is_told {v} {Statement} false tests (inr fails) = fails.1

-- and what a function gives is the result
determined : (function : Function) (operands : List ℤ) (v : ℤ) → Gives Bounded function operands v → v ≡ result_of function operands
determined Identity (a ∷ []) v is = is
determined Negative (a ∷ []) v is = is
determined Not (a ∷ []) v is = is_told (not (int_eq a (pos 1))) (turned (int_eq a (pos 1)) (equal a (pos 1))) is
determined And (a ∷ b ∷ []) v is = is_told (int_eq a (pos 1) && int_eq b (pos 1)) (joined (int_eq a (pos 1)) (int_eq b (pos 1)) (equal a (pos 1)) (equal b (pos 1))) is
determined Or (a ∷ b ∷ []) v is = is_told (int_eq a (pos 1) || int_eq b (pos 1)) (either (int_eq a (pos 1)) (int_eq b (pos 1)) (equal a (pos 1)) (equal b (pos 1))) is
determined Xor (a ∷ b ∷ []) v is = is_told (not (int_eq a b)) (turned (int_eq a b) (equal a b)) is
determined Equal (a ∷ b ∷ []) v is = is_told (int_eq a b) (equal a b) is
determined NotEqual (a ∷ b ∷ []) v is = is_told (not (int_eq a b)) (turned (int_eq a b) (equal a b)) is
determined Less (a ∷ b ∷ []) v is = is_told (int_lt a b) (less a b) is
determined LessEqual (a ∷ b ∷ []) v is = is_told (int_le a b) (at_most a b) is
determined Greater (a ∷ b ∷ []) v is = is_told (int_lt b a) (less b a) is
determined GreaterEqual (a ∷ b ∷ []) v is = is_told (int_le b a) (at_most b a) is
determined Sum (a ∷ b ∷ []) v is = is
determined Difference (a ∷ b ∷ []) v is = is
determined Product (a ∷ b ∷ []) v is = is
determined Quotient (a ∷ b ∷ []) v is = is.1
determined Remainder (a ∷ b ∷ []) v is = is.1
determined function operands v is = absurd is

pub gives_one : (function : Function) (operands : List ℤ) (v w : ℤ) → Gives Bounded function operands v → Gives Bounded function operands w → v ≡ w
gives_one function operands v w one other = determined function operands v one ∙ sym (determined function operands w other)

-- nothing is given by a division by 0
pub zero_gives_nothing : (function : Function) (values : List ℤ) (v : ℤ) → Gives Bounded function values v → HasZeroDivisor function values → ⊥
zero_gives_nothing Quotient (a ∷ b ∷ []) v gives zeroed = gives.0 zeroed
zero_gives_nothing Remainder (a ∷ b ∷ []) v gives zeroed = gives.0 zeroed
zero_gives_nothing function values v gives zeroed = zeroed

by_zero : (function : Function) (values : List ℤ) → divides_by_zero function values ≡ true → HasZeroDivisor function values
by_zero Quotient (a ∷ b ∷ []) is = (equal b (pos 0)).yes is
by_zero Remainder (a ∷ b ∷ []) is = (equal b (pos 0)).yes is
by_zero function values is = absurd (let e : false ≡ true = is in cc)

-- ---- what is computed

-- what is computed is a result of 64 bits, or a result that has not 64 bits, or a division by 0
pub data Computed (function : Function) (values : List ℤ) : Result ℤ Cause → Type 0 where
  result : (v : ℤ) → Gives Bounded function values v → has_64_bits v ≡ true → Computed function values (Ok v)
  overflow : (v : ℤ) → Gives Bounded function values v → has_64_bits v ≡ false → Computed function values (Err (Overflow no_equation))
  zero_divisor : HasZeroDivisor function values → Computed function values (Err (ZeroDivisor no_equation))

-- both tests of 64 bits are one
same_bits : (v : ℤ) → has_bits v ≡ has_64_bits v
same_bits (pos n) = refl
same_bits (negsuc n) = refl

pub computed_is : (function : Function) (values : List ℤ) → length values ≡ operand_count function → Computed function values (answered (computed no_equation function values))
computed_is function values count = by (divides_by_zero function values) (has_bits (result_of function values)) refl refl where
  by : (zeroed small : Bool) → divides_by_zero function values ≡ zeroed → has_bits (result_of function values) ≡ small
      → Computed function values (answered (computed no_equation function values))
  by true small one two = rw one (zero_divisor (by_zero function values one))
  by false true one two = rw one (rw two (result (result_of function values) (given function values count one) (sym (same_bits (result_of function values)) ∙ two)))
  by false false one two = rw one (rw two (overflow (result_of function values) (given function values count one) (sym (same_bits (result_of function values)) ∙ two)))
