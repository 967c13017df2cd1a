-- The test of a quotient tells whether it has 64 bits; a remainder always has.
use Rattle.std.proofs.Common.{◌≡◌, ◌≢◌, ℕ, zero, suc, ℤ, pos, Bool, true, false, ◌/◌, ◌<◌, ◌≤◌, ◌^◌, Some, None, refl, ap, ◌∙◌, arith, not, nat_lt, int_rem}
use Rattle.std.specs.Prelude.{negsuc, unsigned_abs}
use Rattle.std.proofs.lemmas.Int.{ints, quot-rem, rem_below}
use Rattle.std.proofs.Math.Nat.{div-le_self, div-lt_self, div-one}
use Rattle.sig_base.specs.Traces.{has_64_bits}
use Rattle.sig_base.specs.Functions.{quotient, remainder}
use Rattle.sig_c.specs.Meaning.{truth, value, is_zero, int_same, chosen}
use Rattle.sig_c.specs.Helpers.{least, quotient_overflows, all_wide, entered_with}
use Rattle.sig_c.proofs.Arithmetic.{Told}
use Rattle.sig_c.proofs.Products.{negated}

abbrev pub Tells : ℤ → ℤ → Type 0
Tells v w = Told (quotient v w) (value all_wide quotient_overflows (entered_with v w))

-- whatever the first test says
no_second : (b : Bool) → chosen None (Some (truth b)) (Some (pos 0)) (Some (pos 0)) ≡ Some (pos 0)
no_second true = refl
no_second false = refl

no_such : (b : Bool) (d : ℕ) → chosen None (Some (truth b)) (Some (truth (not (is_zero (truth (int_same (negsuc (suc d)) (negsuc 0))))))) (Some (pos 0)) ≡ Some (pos 0)
no_such true d = let e : int_same (negsuc (suc d)) (negsuc 0) ≡ false = grind (arith) in rw e refl
no_such false d = refl

pos_small : (n d : ℕ) → n < 2 ^ 63 → has_64_bits (pos (n / d)) ≡ true
pos_small n d small = let e = div-le_self n d in grind (arith, e, small)

negated_small : (n d : ℕ) → n ≤ 2 ^ 63 → has_64_bits (negated (n / d)) ≡ true
negated_small n d small = by (n / d) (div-le_self n d)
  where
    by : (q : ℕ) → q ≤ n → has_64_bits (negated q) ≡ true
    by zero below = refl
    by (suc q) below = grind (arith, below, small)

by_positive : (v : ℤ) (d : ℕ) → has_64_bits v ≡ true → has_64_bits (quotient v (pos (suc d))) ≡ true
by_positive (pos n) d small = pos_small n (suc d) (grind (arith, small))
by_positive (negsuc n) d small = negated_small (suc n) (suc d) (grind (arith, small))

by_negative : (n d : ℕ) → has_64_bits (pos n) ≡ true → has_64_bits (quotient (pos n) (negsuc d)) ≡ true
by_negative n d small = negated_small n (suc d) (grind (arith, small))

half : (n d : ℕ) → has_64_bits (negsuc n) ≡ true → has_64_bits (quotient (negsuc n) (negsuc (suc d))) ≡ true
half n d small = let e : suc n / suc (suc d) < suc n = div-lt_self (grind (arith)) (grind (arith)) in grind (arith, e, small)

pub quotient_bits : (v w : ℤ) → has_64_bits v ≡ true → w ≢ pos 0 → int_same w (negsuc 0) ≡ false → has_64_bits (quotient v w) ≡ true
quotient_bits v (pos zero) small there other = absurd (there refl)
quotient_bits v (pos (suc d)) small there other = by_positive v d small
quotient_bits (pos n) (negsuc d) small there other = by_negative n d small
quotient_bits (negsuc n) (negsuc zero) small there other = absurd (let e : true ≡ false = other in cc e)
quotient_bits (negsuc n) (negsuc (suc d)) small there other = half n d small

pub quotient_told : (v w : ℤ) → has_64_bits v ≡ true → w ≢ pos 0 → Tells v w
quotient_told v (pos zero) small there = absurd (there refl)
quotient_told v (pos (suc d)) small there = rw (by_positive v d small) (no_second (int_same v least))
quotient_told (pos n) (negsuc d) small there = rw (by_negative n d small) refl
quotient_told (negsuc n) (negsuc zero) small there = by (int_same (negsuc n) least) refl
  where
    by : (b : Bool) → int_same (negsuc n) least ≡ b → chosen None (Some (truth b)) (Some (pos 1)) (Some (pos 0)) ≡ Some (truth (not (nat_lt (suc n / 1) (2 ^ 63))))
    by true e = rw (div-one (suc n)) (grind (arith, ints, e, small))
    by false e = rw (div-one (suc n)) (grind (arith, ints, e, small))
quotient_told (negsuc n) (negsuc (suc d)) small there = rw (half n d small) (no_such (int_same (negsuc n) least) d)

remainder_is : (v w : ℤ) → w ≢ pos 0 → remainder v w ≡ int_rem v w
remainder_is v (pos zero) there = absurd (there refl)
remainder_is v (pos (suc n)) there = omega (arith, ints, quot-rem v (pos (suc n)))
remainder_is v (negsuc n) there = omega (arith, ints, quot-rem v (negsuc n))

is_some_size : (w : ℤ) → w ≢ pos 0 → 0 < unsigned_abs w
is_some_size (pos zero) there = absurd (there refl)
is_some_size (pos (suc n)) there = grind (arith)
is_some_size (negsuc n) there = grind (arith)

size_bits : (w : ℤ) → has_64_bits w ≡ true → unsigned_abs w ≤ 2 ^ 63
size_bits (pos n) small = grind (arith, small)
size_bits (negsuc n) small = grind (arith, small)

below_bits : (r : ℤ) → unsigned_abs r < 2 ^ 63 → has_64_bits r ≡ true
below_bits (pos n) small = grind (arith, small)
below_bits (negsuc n) small = grind (arith, small)

no_size : (r : ℤ) → unsigned_abs r ≡ 0 → r ≡ pos 0
no_size (pos n) e = ap pos e
no_size (negsuc n) e = absurd (let f : suc n ≡ 0 = e in grind (arith, f))

pub remainder_bits : (v w : ℤ) → has_64_bits w ≡ true → w ≢ pos 0 → has_64_bits (remainder v w) ≡ true
remainder_bits v w small there = rw (remainder_is v w there) (below_bits (int_rem v w) (let e = rem_below v w (is_some_size w there) in let f = size_bits w small in grind (arith, e, f)))

pub remainder_by_one : (v : ℤ) → remainder v (negsuc 0) ≡ pos 0
remainder_by_one v = remainder_is v (negsuc 0) (λ e. absurd (let f : negsuc 0 ≡ pos 0 = e in cc f)) ∙ no_size (int_rem v (negsuc 0)) (let e = rem_below v (negsuc 0) (grind (arith)) in grind (arith, e))
