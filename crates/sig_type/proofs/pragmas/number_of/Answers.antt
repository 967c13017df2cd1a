use Rattle.sig_type.proofs.{ℕ, ◌≡◌, ◌*◌, ◌^◌, ◌<◌, ◌≤◌, refl, lit<, arith, pow-le-pow_right}
use Rattle.sig_type.proofs.pragmas.number_of.Goals as goal

-- at most 9 digits, before the last
few_digits : (i n : ℕ) → i < 9 → n < 10 ^ i → n * 10 < 1000000000
few_digits i n h b =
    let p : 10 ^ i ≤ 10 ^ 8 = pow-le-pow_right {n = 10} (lit< tt) {i = i} {j = 8} (omega arith) in
    let q : 10 ^ 8 ≡ 100000000 = refl in
    omega (arith, p, q)

pub overflow_mul-number : goal.overflow_mul-number
overflow_mul-number c = let b = few_digits c.loop-digit.digit-index c.loop-digit.number (omega arith) c.loop-digit.invariant.1 in omega (arith, b)

pub overflow_add-number : goal.overflow_add-number
overflow_add-number c = let b = few_digits c.loop-digit.digit-index c.loop-digit.number (omega arith) c.loop-digit.invariant.1 in omega (arith, b, c.type_inv.digits c.loop-digit.digit-index)
