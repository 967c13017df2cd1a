-- The tests of sums and differences tell whether the result has 64 bits.
use Rattle.std.proofs.Common.{◌≡◌, ◌⊎◌, inl, inr, ℤ, pos, true, false, ◌+ℤ◌, ◌-ℤ◌, ◌≤ℤ◌, ◌<ℤ◌, Option, Some, refl, arith, not, int_lt}
use Rattle.std.specs.Prelude.{negsuc}
use Rattle.std.proofs.lemmas.Int.{ints, by_lt_z}
use Rattle.sig_base.specs.Traces.{has_64_bits}
use Rattle.sig_c.specs.Meaning.{truth, fitted, value}
use Rattle.sig_c.specs.Helpers.{least, most, sum_overflows, difference_overflows, all_wide, entered_with}

-- ---- what has 64 bits

pub bits_within : (v : ℤ) → has_64_bits v ≡ true → (least ≤ℤ v) × (v ≤ℤ most)
bits_within (pos n) h = (grind (arith, ints, h), grind (arith, ints, h))
bits_within (negsuc n) h = (grind (arith, ints, h), grind (arith, ints, h))

pub has_bits : (v : ℤ) → least ≤ℤ v → v ≤ℤ most → has_64_bits v ≡ true
has_bits (pos n) low high = grind (arith, ints, low, high)
has_bits (negsuc n) low high = grind (arith, ints, low, high)

pub has_not_bits : (v : ℤ) → (v <ℤ least) ⊎ (most <ℤ v) → has_64_bits v ≡ false
has_not_bits (pos n) (inl h) = grind (arith, ints, h)
has_not_bits (pos n) (inr h) = grind (arith, ints, h)
has_not_bits (negsuc n) (inl h) = grind (arith, ints, h)
has_not_bits (negsuc n) (inr h) = grind (arith, ints, h)

-- ---- the tests

pub by_less : (a b : ℤ) → ((int_lt a b ≡ true) × (a <ℤ b)) ⊎ ((int_lt a b ≡ false) × (b ≤ℤ a))
by_less a b = by_lt_z a b (λ lt. inl (grind (arith, ints, lt), lt)) (λ le. inr (grind (arith, ints, le), le))

fits : (v : ℤ) → least ≤ℤ v → v ≤ℤ most → fitted v ≡ Some v
fits v low high = rw (has_bits v low high) refl

-- the test tells whether the result has more than 64 bits
abbrev pub Told : ℤ → Option ℤ → Type 0
Told v told = told ≡ Some (truth (not (has_64_bits v)))

module _ (a b : ℤ) (small_a : has_64_bits a ≡ true) (small_b : has_64_bits b ≡ true) where
  pub sum_told : Told (a +ℤ b) (value all_wide sum_overflows (entered_with a b))
  sum_told =
      let ra = bits_within a small_a in
      let rb = bits_within b small_b in
      elim (by_less (pos 0) b) [
        | inl h ↦
            let up : fitted (most -ℤ b) ≡ Some (most -ℤ b) = fits (most -ℤ b) (omega (arith, ints, ra, rb, h.1)) (omega (arith, ints, ra, rb, h.1)) in
            rw h.0 (rw up (elim (by_less (most -ℤ b) a) [
              | inl g ↦ rw g.0 (rw (has_not_bits (a +ℤ b) (inr (omega (arith, ints, g.1)))) refl)
              | inr g ↦ rw g.0 (rw (has_bits (a +ℤ b) (omega (arith, ints, ra, rb, h.1)) (omega (arith, ints, g.1))) refl)
            ]))
        | inr h ↦
            let up : fitted (least -ℤ b) ≡ Some (least -ℤ b) = fits (least -ℤ b) (omega (arith, ints, ra, rb, h.1)) (omega (arith, ints, ra, rb, h.1)) in
            rw h.0 (rw up (elim (by_less a (least -ℤ b)) [
              | inl g ↦ rw g.0 (rw (has_not_bits (a +ℤ b) (inl (omega (arith, ints, g.1)))) refl)
              | inr g ↦ rw g.0 (rw (has_bits (a +ℤ b) (omega (arith, ints, g.1)) (omega (arith, ints, ra, rb, h.1))) refl)
            ]))
      ]

  pub difference_told : Told (a -ℤ b) (value all_wide difference_overflows (entered_with a b))
  difference_told =
      let ra = bits_within a small_a in
      let rb = bits_within b small_b in
      elim (by_less (pos 0) b) [
        | inl h ↦
            let up : fitted (least +ℤ b) ≡ Some (least +ℤ b) = fits (least +ℤ b) (omega (arith, ints, ra, rb, h.1)) (omega (arith, ints, ra, rb, h.1)) in
            rw h.0 (rw up (elim (by_less a (least +ℤ b)) [
              | inl g ↦ rw g.0 (rw (has_not_bits (a -ℤ b) (inl (omega (arith, ints, g.1)))) refl)
              | inr g ↦ rw g.0 (rw (has_bits (a -ℤ b) (omega (arith, ints, g.1)) (omega (arith, ints, ra, rb, h.1))) refl)
            ]))
        | inr h ↦
            let up : fitted (most +ℤ b) ≡ Some (most +ℤ b) = fits (most +ℤ b) (omega (arith, ints, ra, rb, h.1)) (omega (arith, ints, ra, rb, h.1)) in
            rw h.0 (rw up (elim (by_less (most +ℤ b) a) [
              | inl g ↦ rw g.0 (rw (has_not_bits (a -ℤ b) (inr (omega (arith, ints, g.1)))) refl)
              | inr g ↦ rw g.0 (rw (has_bits (a -ℤ b) (omega (arith, ints, ra, rb, h.1)) (omega (arith, ints, g.1))) refl)
            ]))
      ]
