-- Lists of numbers in a row.
use Rattle.std.proofs.Common.{Bool, Contains, List, [], ap, arith, false, filter, inl, inr, subst, suc, true, zero, ℕ, ◌++◌, ◌+◌, ◌<◌, ◌∙◌, ◌∷◌, ◌≡◌}
use Rattle.std.proofs.lemmas.List.Elements.{Contains-append_cases}
use Rattle.std.proofs.lemmas.List.FromFn.{get_or-range_with_len, length-range_with_len}
use Rattle.std.specs.List.{range_with_len}
use Rattle.sig_lists.proofs.Contained.{contains_cons, contains_none}
use Rattle.sig_lists.proofs.Filtered.{filter_drops, filter_keeps}

pub range_more : (a n : ℕ) → range_with_len a (suc n) ≡ range_with_len a n ++ (a + n) ∷ []
range_more a zero = ap (λ m. m ∷ []) (omega arith)
range_more a (suc n) =
    let end : a + 1 + n ≡ a + suc n = omega arith in
    ap (λ list. a ∷ list) (range_more (a + 1) n ∙ ap (λ m. range_with_len (a + 1) n ++ m ∷ []) end)

pub range_from_zero : (n : ℕ) → range_with_len 0 (n + 1) ≡ range_with_len 0 n ++ n ∷ []
range_from_zero n =
    let next : n + 1 ≡ suc n = omega arith in
    let last : 0 + n ≡ n = omega arith in
    ap (range_with_len 0) next ∙ range_more 0 n ∙ ap (λ m. range_with_len 0 n ++ m ∷ []) last

pub range_keeps : (p : ℕ → Bool) (n : ℕ) → p n ≡ true → filter p (range_with_len 0 (n + 1)) ≡ filter p (range_with_len 0 n) ++ n ∷ []
range_keeps p n is = ap (filter p) (range_from_zero n) ∙ filter_keeps p (range_with_len 0 n) n is

pub range_drops : (p : ℕ → Bool) (n : ℕ) → p n ≡ false → filter p (range_with_len 0 (n + 1)) ≡ filter p (range_with_len 0 n)
range_drops p n is = ap (filter p) (range_from_zero n) ∙ filter_drops p (range_with_len 0 n) n is

pub within_range : (n k : ℕ) → Contains (range_with_len 0 n) k → k < n
within_range zero k there = absurd (contains_none k there)
within_range (suc n) k there =
    let next : suc n ≡ n + 1 = omega arith in
    elim (Contains-append_cases (range_with_len 0 n) (n ∷ []) k (subst (λ (xs : List ℕ). Contains xs k) (ap (range_with_len 0) next ∙ range_from_zero n) there)) [
      | inl before ↦ omega (arith, within_range n k before)
      | inr at ↦ elim (contains_cons n k [] at) [ inl e ↦ omega (arith, e) | inr none ↦ absurd (contains_none k none) ]
    ]

pub in_range : (n v : ℕ) → v < n → Contains (range_with_len 0 n) v
in_range n v lt = (v, omega (arith, lt, length-range_with_len 0 n), get_or-range_with_len 0 n v v lt ∙ omega arith)
