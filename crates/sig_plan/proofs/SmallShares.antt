-- How large the share of operations is.
use Rattle.sig_plan.proofs.Common.{◌≡◌, ◌≤◌, ◌+◌, ◌-◌, ◌*◌, ◌^◌, ℕ, List, length, sym, subst, arith, range_with_len, mul-le-mul_left, mul-le-mul_right, length-range_with_len, SigId, allowance, allowance_rises, Kernel, share_of}

at_most : (q p r : ℕ) → 2 * q ≤ r → 2 * q * (p - 1) ≤ r * p
at_most q p r le =
    let a : 2 * q * (p - 1) ≤ 2 * q * p = mul-le-mul_left (2 * q) (omega arith) in
    let b : 2 * q * p ≤ r * p = mul-le-mul_right p le in
    omega (arith, a, b)

wide : (u : ℕ) → allowance (range_with_len 0 u) ≡ 2 ^ u - 1
wide u = let e = length-range_with_len 0 u in λ j. 2 ^ e j - 1

-- over so many variables
share_over : (kernel : Kernel) (conditions : List SigId) (u r : ℕ) → length conditions ≤ u → 2 * length kernel.equations ≤ r → share_of kernel conditions ≤ r * 2 ^ u
share_over kernel conditions u r le few =
    let q = length kernel.equations in
    let k = length conditions in
    let rises : allowance (range_with_len 0 k) ≤ allowance (range_with_len 0 u) = allowance_rises (range_with_len 0 k) (range_with_len 0 u) (omega (arith, le, length-range_with_len 0 k, length-range_with_len 0 u)) in
    let first : share_of kernel conditions ≤ 2 * q * allowance (range_with_len 0 u) = mul-le-mul_left (2 * q) rises in
    let second : 2 * q * allowance (range_with_len 0 u) ≤ r * 2 ^ u = subst (λ (m : ℕ). 2 * q * m ≤ r * 2 ^ u) (sym (wide u)) (at_most q (2 ^ u) r few) in
    omega (arith, first, second)

turned : (p q : ℕ) → 3 * (q + 1) * p ≡ p * 3 * (q + 1)
turned p q = omega arith

turned_too : (p q c : ℕ) → 60 * (q + c) * p ≡ p * 60 * (q + c)
turned_too p q c = omega arith

pub small_of_conditions : (kernel : Kernel) (conditions : List SigId) → share_of kernel conditions ≤ 2 ^ length conditions * 3 * (length kernel.equations + 1)
small_of_conditions kernel conditions =
    let q = length kernel.equations in
    let k = length conditions in
    subst (λ (m : ℕ). share_of kernel conditions ≤ m) (turned (2 ^ k) q) (share_over kernel conditions k (3 * (q + 1)) (omega arith) (omega arith))

pub small_of_unknowns : (kernel : Kernel) (conditions : List SigId) (u : ℕ) → length conditions ≤ u → share_of kernel conditions ≤ 2 ^ u * 60 * (length kernel.equations + u * u * u)
small_of_unknowns kernel conditions u le =
    let q = length kernel.equations in
    subst (λ (m : ℕ). share_of kernel conditions ≤ m) (turned_too (2 ^ u) q (u * u * u)) (share_over kernel conditions u (60 * (q + u * u * u)) le (omega arith))
