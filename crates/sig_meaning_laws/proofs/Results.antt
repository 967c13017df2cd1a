-- Lemmas on the results of functions, whose integers are all whole numbers.
use Rattle.sig_meaning_laws.proofs.Common.{◌≡◌, ◌≢◌, ◌⊎◌, inl, inr, ℤ, pos, Bool, true, false, not, ◌&&◌, ◌||◌, List, [], ◌∷◌, length, refl, arith, ◌<ℤ◌, ◌≤ℤ◌, int_lt, int_le, int_eq, Decides-int_eq, ints, Function, Identity, Negative, Not, And, Or, Xor, Equal, NotEqual, Less, LessEqual, Greater, GreaterEqual, Sum, Difference, Product, Quotient, Remainder, Gives, Tells, operand_count, Bounded, Unbounded, divides_by_zero, result_of, truth_value, Range, MayDivide}

-- a test that decides a statement
pub record Tests (b : Bool) (Statement : Type 0) : Type 0 where
  pub yes : b ≡ true → Statement
  pub no : b ≡ false → Statement → ⊥

pub equal : (a b : ℤ) → Tests (int_eq a b) (a ≡ b)
equal a b = record {
  yes = λ is. grind (arith, Decides-int_eq a b, is);
  no = λ is e. grind (arith, Decides-int_eq a b, is, e);
}

told : (b : Bool) (Statement : Type 0) → Tests b Statement → Tells (truth_value b) Statement
told true Statement tests = inl (tests.yes refl, refl)
told false Statement tests = inr (tests.no refl, refl)

turned : {Statement : Type 0} (b : Bool) → Tests b Statement → Tests (not b) (Statement → ⊥)
turned {Statement} true tests = record { yes = λ is. absurd (let e : false ≡ true = is in cc); no = λ is fails. fails (tests.yes refl) }
turned {Statement} false tests = record { yes = λ is. tests.no refl; no = λ is. absurd (let e : true ≡ false = is in cc) }

joined : {A B : Type 0} (a b : Bool) → Tests a A → Tests b B → Tests (a && b) (A × B)
joined {A} {B} true b one two = record { yes = λ is. (one.yes refl, two.yes is); no = λ is p. two.no is p.1 }
joined {A} {B} false b one two = record { yes = λ is. absurd (let e : false ≡ true = is in cc); no = λ is p. one.no refl p.0 }

either : {A B : Type 0} (a b : Bool) → Tests a A → Tests b B → Tests (a || b) (A ⊎ B)
either {A} {B} true b one two = record { yes = λ is. inl (one.yes refl); no = λ is. absurd (let e : true ≡ false = is in cc) }
either {A} {B} false b one two = record { yes = λ is. inr (two.yes is); no = λ is s. elim s [ inl p ↦ one.no refl p | inr q ↦ two.no is q ] }

less : (a b : ℤ) → Tests (int_lt a b) (a <ℤ b)
less a b = record {
  yes = λ is. grind (arith, ints, is);
  no = λ is lt. grind (arith, ints, is, lt);
}

at_most : (a b : ℤ) → Tests (int_le a b) (a ≤ℤ b)
at_most a b = record {
  yes = λ is. grind (arith, ints, is);
  no = λ is le. grind (arith, ints, is, le);
}

-- the result is what the function gives
pub given : (function : Function) (operands : List ℤ) → length operands ≡ operand_count function → Gives Unbounded function operands (result_of function operands)
given Identity (a ∷ []) count = refl
given Negative (a ∷ []) count = refl
given Not (a ∷ []) count = told (not (int_eq a (pos 1))) (a ≢ pos 1) (turned (int_eq a (pos 1)) (equal a (pos 1)))
given And (a ∷ b ∷ []) count = told (int_eq a (pos 1) && int_eq b (pos 1)) ((a ≡ pos 1) × (b ≡ pos 1)) (joined (int_eq a (pos 1)) (int_eq b (pos 1)) (equal a (pos 1)) (equal b (pos 1)))
given Or (a ∷ b ∷ []) count = told (int_eq a (pos 1) || int_eq b (pos 1)) ((a ≡ pos 1) ⊎ (b ≡ pos 1)) (either (int_eq a (pos 1)) (int_eq b (pos 1)) (equal a (pos 1)) (equal b (pos 1)))
given Xor (a ∷ b ∷ []) count = told (not (int_eq a b)) (a ≢ b) (turned (int_eq a b) (equal a b))
given Equal (a ∷ b ∷ []) count = told (int_eq a b) (a ≡ b) (equal a b)
given NotEqual (a ∷ b ∷ []) count = told (not (int_eq a b)) (a ≢ b) (turned (int_eq a b) (equal a b))
given Less (a ∷ b ∷ []) count = told (int_lt a b) (a <ℤ b) (less a b)
given LessEqual (a ∷ b ∷ []) count = told (int_le a b) (a ≤ℤ b) (at_most a b)
given Greater (a ∷ b ∷ []) count = told (int_lt b a) (b <ℤ a) (less b a)
given GreaterEqual (a ∷ b ∷ []) count = told (int_le b a) (b ≤ℤ a) (at_most b a)
given Sum (a ∷ b ∷ []) count = refl
given Difference (a ∷ b ∷ []) count = refl
given Product (a ∷ b ∷ []) count = refl
given Quotient (a ∷ b ∷ []) count = (tt, refl)
given Remainder (a ∷ b ∷ []) count = (tt, refl)
given function operands count = absurd (omega (arith, count))

is_told : {v : ℤ} {Statement : Type 0} (b : Bool) → Tests b Statement → Tells v Statement → v ≡ truth_value b
is_told {v} {Statement} true tests (inl holds) = holds.1
is_told {v} {Statement} true tests (inr fails) = absurd (fails.0 (tests.yes refl))
is_told {v} {Statement} false tests (inl holds) = absurd (tests.no refl holds.0)
is_told {v} {Statement} false tests (inr fails) = fails.1

-- and what a function gives is the result
pub determined : (function : Function) (operands : List ℤ) (v : ℤ) → Gives Unbounded function operands v → v ≡ result_of function operands
determined Identity (a ∷ []) v is = is
determined Negative (a ∷ []) v is = is
determined Not (a ∷ []) v is = is_told (not (int_eq a (pos 1))) (turned (int_eq a (pos 1)) (equal a (pos 1))) is
determined And (a ∷ b ∷ []) v is = is_told (int_eq a (pos 1) && int_eq b (pos 1)) (joined (int_eq a (pos 1)) (int_eq b (pos 1)) (equal a (pos 1)) (equal b (pos 1))) is
determined Or (a ∷ b ∷ []) v is = is_told (int_eq a (pos 1) || int_eq b (pos 1)) (either (int_eq a (pos 1)) (int_eq b (pos 1)) (equal a (pos 1)) (equal b (pos 1))) is
determined Xor (a ∷ b ∷ []) v is = is_told (not (int_eq a b)) (turned (int_eq a b) (equal a b)) is
determined Equal (a ∷ b ∷ []) v is = is_told (int_eq a b) (equal a b) is
determined NotEqual (a ∷ b ∷ []) v is = is_told (not (int_eq a b)) (turned (int_eq a b) (equal a b)) is
determined Less (a ∷ b ∷ []) v is = is_told (int_lt a b) (less a b) is
determined LessEqual (a ∷ b ∷ []) v is = is_told (int_le a b) (at_most a b) is
determined Greater (a ∷ b ∷ []) v is = is_told (int_lt b a) (less b a) is
determined GreaterEqual (a ∷ b ∷ []) v is = is_told (int_le b a) (at_most b a) is
determined Sum (a ∷ b ∷ []) v is = is
determined Difference (a ∷ b ∷ []) v is = is
determined Product (a ∷ b ∷ []) v is = is
determined Quotient (a ∷ b ∷ []) v is = is.1
determined Remainder (a ∷ b ∷ []) v is = is.1
determined function operands v is = absurd is

-- where it does not divide by 0, a function gives in each range what it gives in another
may_divide : (range : Range) (b : ℤ) → (range ≡ Bounded → int_eq b (pos 0) ≡ false) → MayDivide range b
may_divide Bounded b apart = (equal b (pos 0)).no (apart refl)
may_divide Unbounded b apart = tt

other_range : (function : Function) (a b : Range) (operands : List ℤ) (v : ℤ) → (b ≡ Bounded → divides_by_zero function operands ≡ false) → Gives a function operands v → Gives b function operands v
other_range Identity a b (x ∷ []) v apart is = is
other_range Negative a b (x ∷ []) v apart is = is
other_range Not a b (x ∷ []) v apart is = is
other_range And a b (x ∷ y ∷ []) v apart is = is
other_range Or a b (x ∷ y ∷ []) v apart is = is
other_range Xor a b (x ∷ y ∷ []) v apart is = is
other_range Equal a b (x ∷ y ∷ []) v apart is = is
other_range NotEqual a b (x ∷ y ∷ []) v apart is = is
other_range Less a b (x ∷ y ∷ []) v apart is = is
other_range LessEqual a b (x ∷ y ∷ []) v apart is = is
other_range Greater a b (x ∷ y ∷ []) v apart is = is
other_range GreaterEqual a b (x ∷ y ∷ []) v apart is = is
other_range Sum a b (x ∷ y ∷ []) v apart is = is
other_range Difference a b (x ∷ y ∷ []) v apart is = is
other_range Product a b (x ∷ y ∷ []) v apart is = is
other_range Quotient a b (x ∷ y ∷ []) v apart is = (may_divide b y apart, is.1)
other_range Remainder a b (x ∷ y ∷ []) v apart is = (may_divide b y apart, is.1)
other_range function a b operands v apart is = absurd is

-- functions give within 64 bits what they give without bounds
pub within_bounds : (function : Function) (operands : List ℤ) (v : ℤ) → Gives Bounded function operands v → Gives Unbounded function operands v
within_bounds function operands v is = other_range function Bounded Unbounded operands v (λ e. cc) is

-- a function that does not divide by 0 gives within 64 bits what it gives
pub bounded_gives : (function : Function) (operands : List ℤ) (v : ℤ) → divides_by_zero function operands ≡ false → Gives Unbounded function operands v → Gives Bounded function operands v
bounded_gives function operands v apart is = other_range function Unbounded Bounded operands v (λ e. apart) is

-- and one that divides by 0 gives nothing there
pub never_by_zero : (function : Function) (values : List ℤ) (v : ℤ) → Gives Bounded function values v → divides_by_zero function values ≡ true → ⊥
never_by_zero Quotient (a ∷ b ∷ []) v gives is = gives.0 ((equal b (pos 0)).yes is)
never_by_zero Remainder (a ∷ b ∷ []) v gives is = gives.0 ((equal b (pos 0)).yes is)
never_by_zero function values v gives is = let e : false ≡ true = is in cc
