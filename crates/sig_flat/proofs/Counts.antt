-- How often a number stands in a list, and in a range of numbers.
use Rattle.sig_flat.proofs.Common.{◌≡◌, ◌≢◌, ◌++◌, ◌+◌, ◌<◌, ◌≤◌, ℕ, zero, suc, Bool, true, false, List, [], ◌∷◌, refl, ap, ◌∙◌, inl, inr, arith, if◌then◌else◌, nat_eq, eqb_tells, range_with_len}

-- how often a number stands in a list
abbrev pub times : ℕ → List ℕ → ℕ
times s [] = 0
times s (n ∷ ns) = if nat_eq n s then 1 + times s ns else times s ns

more_then : (b : Bool) (m n : ℕ) → (if b then 1 + (m + n) else m + n) ≡ (if b then 1 + m else m) + n
more_then true m n = omega arith
more_then false m n = refl

pub times_append : (s : ℕ) (xs ys : List ℕ) → times s (xs ++ ys) ≡ times s xs + times s ys
times_append s [] ys = omega arith
times_append s (x ∷ xs) ys = ap (λ n. if nat_eq x s then 1 + n else n) (times_append s xs ys) ∙ more_then (nat_eq x s) (times s xs) (times s ys)

pub range_append : (a m n : ℕ) → range_with_len a (m + n) ≡ range_with_len a m ++ range_with_len (a + m) n
range_append a zero n =
    let e : a ≡ a + 0 = omega arith in
    let f : 0 + n ≡ n = omega arith in
    ap (range_with_len a) f ∙ ap (λ b. range_with_len b n) e
range_append a (suc m) n =
    let e : a + 1 + m ≡ a + suc m = omega arith in
    let f : suc m + n ≡ suc (m + n) = omega arith in
    ap (range_with_len a) f ∙ (ap (λ r. a ∷ r) (range_append (a + 1) m n) ∙ ap (λ b. (a ∷ range_with_len (a + 1) m) ++ range_with_len b n) e)

-- a number of a range stands there once, and another one not at all
pub times_before : (s a n : ℕ) → s < a → times s (range_with_len a n) ≡ 0
times_before s a zero before = refl
times_before s a (suc n) before = elim (eqb_tells a s) [
  | inl met ↦ let same : a ≡ s = met.1 in absurd (omega arith)
  | inr apart ↦ ap (λ b. if b then 1 + times s (range_with_len (a + 1) n) else times s (range_with_len (a + 1) n)) apart.0
      ∙ times_before s (a + 1) n (omega arith)
]

pub times_within : (s a n : ℕ) → a ≤ s → s < a + n → times s (range_with_len a n) ≡ 1
times_within s a zero from to = absurd (omega arith)
times_within s a (suc n) from to = elim (eqb_tells a s) [
  | inl met ↦ let same : a ≡ s = met.1 in
      ap (λ b. if b then 1 + times s (range_with_len (a + 1) n) else times s (range_with_len (a + 1) n)) met.0
      ∙ ap (λ m. 1 + m) (times_before s (a + 1) n (omega arith))
  | inr apart ↦ let differ : a ≢ s = apart.1 in
      ap (λ b. if b then 1 + times s (range_with_len (a + 1) n) else times s (range_with_len (a + 1) n)) apart.0
      ∙ times_within s (a + 1) n (omega arith) (omega arith)
]
