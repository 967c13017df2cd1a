-- The test of a product tells whether it has 64 bits.
use Rattle.std.proofs.Common.{◌≡◌, ℕ, zero, suc, ℤ, pos, Bool, true, false, ◌*ℤ◌, ◌*◌, ◌/◌, ◌<◌, ◌^◌, ◌-◌, Some, refl, ap, ◌∙◌, arith, not, int_lt, nat_lt, div-lt_iff_lt-mul}
use Rattle.std.specs.Prelude.{negsuc, neg_ℤ}
use Rattle.std.proofs.Math.Nat.{mul_comm, div-le_self, mul-zero, zero-mul}
use Rattle.sig_base.specs.Traces.{has_64_bits}
use Rattle.sig_base.specs.Functions.{quotient}
use Rattle.sig_c.specs.SmallC.{Wide}
use Rattle.sig_c.specs.Meaning.{truth, value, is_zero, tested, divided}
use Rattle.sig_c.specs.Helpers.{least, most, product_overflows, all_wide, entered_with}
use Rattle.sig_c.proofs.Arithmetic.{Told}

-- a quotient is below a number where the dividend is below the product
by_quotient : (n k d : ℕ) → 0 < d → nat_lt (n / d) k ≡ nat_lt n (k * d)
by_quotient n k d positive = by (nat_lt (n / d) k) (nat_lt n (k * d)) refl refl
  where
    by : (p q : Bool) → nat_lt (n / d) k ≡ p → nat_lt n (k * d) ≡ q → p ≡ q
    by true true e f = refl
    by false false e f = refl
    by true false e f = absurd (let below : n < k * d = (div-lt_iff_lt-mul positive).0 (grind (arith, e)) in grind (arith, f, below))
    by false true e f = absurd (let below : n / d < k = (div-lt_iff_lt-mul positive).1 (grind (arith, f)) in grind (arith, e, below))

pub divided_is : (n w : ℤ) → is_zero w ≡ false → has_64_bits (quotient n w) ≡ true → divided Wide quotient n w ≡ Some (quotient n w)
divided_is n w there small = rw there (rw small refl)

-- ---- signs

positive : (x : ℕ) → int_lt (pos 0) (pos (suc x)) ≡ true
positive x = grind (arith)

not_positive : (y : ℕ) → int_lt (pos 0) (negsuc y) ≡ false
not_positive y = grind (arith)

not_zero : (x : ℕ) → is_zero (pos (suc x)) ≡ false
not_zero x = grind (arith)

abbrev pub negated : ℕ → ℤ
negated k = neg_ℤ (pos k)

below_negated : (k y : ℕ) → int_lt (negsuc y) (negated k) ≡ nat_lt k (suc y)
below_negated zero y = grind (arith)
below_negated (suc j) y = grind (arith)

zero_above_negated : (k : ℕ) → int_lt (pos 0) (negated k) ≡ false
zero_above_negated zero = refl
zero_above_negated (suc j) = grind (arith)

below_positive : (k x : ℕ) → int_lt (pos k) (pos (suc x)) ≡ nat_lt k (suc x)
below_positive k x = grind (arith)

negated_bits : (k : ℕ) → has_64_bits (negated k) ≡ not (nat_lt (2 ^ 63) k)
negated_bits zero = refl
negated_bits (suc j) = grind (arith)

over_most : (k : ℕ) → nat_lt (2 ^ 63 - 1) k ≡ not (has_64_bits (pos k))
over_most k = grind (arith)

pub over_least : (k : ℕ) → nat_lt (2 ^ 63) k ≡ not (has_64_bits (negated k))
over_least zero = refl
over_least (suc j) = grind (arith)

-- ---- the quotients by which the test goes

-- a quotient of a positive number
quotient_small : (n d : ℕ) → n < 2 ^ 63 → n / d < 2 ^ 63
quotient_small n d small = omega (arith, div-le_self n d)

most_by : (y : ℕ) → divided Wide quotient most (pos (suc y)) ≡ Some (pos ((2 ^ 63 - 1) / suc y))
most_by y = divided_is most (pos (suc y)) (not_zero y) (let small = quotient_small (2 ^ 63 - 1) (suc y) (grind (arith)) in grind (arith, small))

most_by_negative : (y : ℕ) → divided Wide quotient most (negsuc y) ≡ Some (negated ((2 ^ 63 - 1) / suc y))
most_by_negative y = divided_is most (negsuc y) refl (negated_bits ((2 ^ 63 - 1) / suc y) ∙ (let small = quotient_small (2 ^ 63 - 1) (suc y) (grind (arith)) in grind (arith, small)))

least_by : (y : ℕ) → divided Wide quotient least (pos (suc y)) ≡ Some (negated (2 ^ 63 / suc y))
least_by y = divided_is least (pos (suc y)) (not_zero y) (negated_bits (2 ^ 63 / suc y) ∙ (let small = div-le_self (2 ^ 63) (suc y) in grind (arith, small)))

-- ---- by signs

abbrev pub Tells : ℤ → ℤ → Type 0
Tells v w = Told (v *ℤ w) (value all_wide product_overflows (entered_with v w))

tested_truth : (b : Bool) → tested (Some (truth b)) ≡ Some (truth b)
tested_truth true = refl
tested_truth false = refl

some_truth : (b c : Bool) → b ≡ c → Some (truth b) ≡ Some (truth c)
some_truth b c e = ap (λ (t : Bool). Some (truth t)) e

both_positive : (x y : ℕ) → Tells (pos (suc x)) (pos (suc y))
both_positive x y =
    rw (positive x) (rw (positive y) (rw (most_by y)
    (some_truth _ _ (below_positive ((2 ^ 63 - 1) / suc y) x ∙ by_quotient (2 ^ 63 - 1) (suc x) (suc y) (grind (arith)) ∙ over_most (suc x * suc y)))))

first_positive : (x y : ℕ) → Tells (pos (suc x)) (negsuc y)
first_positive x y =
    rw (positive x) (rw (least_by x)
    (some_truth _ _ (below_negated (2 ^ 63 / suc x) y ∙ by_quotient (2 ^ 63) (suc y) (suc x) (grind (arith)) ∙ ap (nat_lt (2 ^ 63)) (mul_comm (suc y) (suc x)) ∙ over_least (suc x * suc y))))

second_positive : (x y : ℕ) → Tells (negsuc x) (pos (suc y))
second_positive x y =
    rw (positive y) (rw (least_by y)
    (some_truth _ _ (below_negated (2 ^ 63 / suc y) x ∙ by_quotient (2 ^ 63) (suc x) (suc y) (grind (arith)) ∙ over_least (suc x * suc y))))

both_negative : (x y : ℕ) → Tells (negsuc x) (negsuc y)
both_negative x y =
    rw (most_by_negative x) (tested_truth _ ∙
    some_truth _ _ (below_negated ((2 ^ 63 - 1) / suc x) y ∙ by_quotient (2 ^ 63 - 1) (suc y) (suc x) (grind (arith)) ∙ ap (nat_lt (2 ^ 63 - 1)) (mul_comm (suc y) (suc x)) ∙ over_most (suc x * suc y)))

none_over : (k : ℕ) → k ≡ 0 → false ≡ not (has_64_bits (pos k))
none_over k e = rw e refl

none_below : (k : ℕ) → k ≡ 0 → false ≡ not (has_64_bits (negated k))
none_below k e = rw e refl

first_zero : (y : ℕ) → Tells (pos 0) (pos (suc y))
first_zero y = rw (positive y) (rw (least_by y) (some_truth _ _ (zero_above_negated (2 ^ 63 / suc y) ∙ none_over (0 * suc y) (zero-mul (suc y)))))

second_zero : (x : ℕ) → Tells (pos (suc x)) (pos 0)
second_zero x = rw (positive x) (rw (least_by x) (some_truth _ _ (zero_above_negated (2 ^ 63 / suc x) ∙ none_over (suc x * 0) (mul-zero (suc x)))))

negative_by_zero : (x : ℕ) → Tells (negsuc x) (pos 0)
negative_by_zero x = rw (most_by_negative x) (tested_truth _ ∙ some_truth _ _ (zero_above_negated ((2 ^ 63 - 1) / suc x) ∙ none_below (suc x * 0) (mul-zero (suc x))))

zero_by_negative : (y : ℕ) → Tells (pos 0) (negsuc y)
zero_by_negative y = some_truth false _ (none_below (0 * suc y) (zero-mul (suc y)))

pub product_told : (v w : ℤ) → Tells v w
product_told (pos zero) (pos zero) = refl
product_told (pos zero) (pos (suc y)) = first_zero y
product_told (pos zero) (negsuc y) = zero_by_negative y
product_told (pos (suc x)) (pos zero) = second_zero x
product_told (pos (suc x)) (pos (suc y)) = both_positive x y
product_told (pos (suc x)) (negsuc y) = first_positive x y
product_told (negsuc x) (pos zero) = negative_by_zero x
product_told (negsuc x) (pos (suc y)) = second_positive x y
product_told (negsuc x) (negsuc y) = both_negative x y
