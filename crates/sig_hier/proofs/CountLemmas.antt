-- If each of the first numbers is an element of a list, there are no more of them than elements.
use Rattle.sig_hier.proofs.Common.{◌≡◌, ℕ, zero, suc, ◌+◌, ◌<◌, ◌≤◌, true, false, List, length, inl, inr, sym, arith, get_or, eqb, eq-eqb, AllByRecursion, IsDistinct, list_any, range_with_len, nat_tests, nat_eq_equiv, list_any_at, length-range_with_len, IsDistinct-cons, length-le_from_is_member, eqb-true, or_cases}

differ : (a b : ℕ) → a < b → eqb a b ≡ false
differ a b lt = grind (arith, nat_tests)

range_above : (a b n : ℕ) → a < b → AllByRecursion (λ y. eqb a y ≡ false) (range_with_len b n)
range_above a b zero lt = tt
range_above a b (suc n) lt = (differ a b lt, range_above a (b + 1) n (omega arith))

range_distinct : (a n : ℕ) → IsDistinct eqb (range_with_len a n)
unfolding IsDistinct
range_distinct a zero = tt
range_distinct a (suc n) = IsDistinct-cons eqb a (range_with_len (a + 1) n) (range_above a (a + 1) n (omega arith)) (range_distinct (a + 1) n)

range_below : (a n q : ℕ) → list_any (eqb q) (range_with_len a n) ≡ true → q < a + n
range_below a zero q is = cc
range_below a (suc n) q is =
    elim (or_cases (eqb q a) (list_any (eqb q) (range_with_len (a + 1) n)) is) [
      | inl here ↦ let e = eqb-true q a here in omega (arith, e)
      | inr there ↦ let lt = range_below (a + 1) n q there in omega (arith, lt)
    ]

pub count_within : (n : ℕ) (xs : List ℕ) → ((c : ℕ) → c < n → (i : ℕ) × (i < length xs) × (get_or xs i 0 ≡ c)) → n ≤ length xs
count_within n xs each =
    let member : (q : ℕ) → list_any (eqb q) (range_with_len 0 n) ≡ true → list_any (eqb q) xs ≡ true =
    λ q is. let there = each q (omega (arith, range_below 0 n q is)) in
    list_any_at (eqb q) xs there.0 0 there.1 (eq-eqb q (get_or xs there.0 0) (sym there.2)) in
    let le = length-le_from_is_member nat_eq_equiv (range_with_len 0 n) xs (range_distinct 0 n) member in
    omega (arith, le, length-range_with_len 0 n)
