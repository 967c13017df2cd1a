-- The conditions of a kernel as a list.
use Rattle.sig_rel.proofs.Common.{◌≡◌, ◌<◌, ◌≤◌, ◌+◌, inl, inr, ℕ, zero, suc, Bool, true, false, List, ◌∷◌, length, map, None, Some, refl, sym, ap, ◌∙◌, subst, arith, Contains, cond, filter, slice_get, range_with_len, cases_Bool, cases_eq, SigId, Kernel, conditions_of, is_condition, signal_id, at_contained, contains_head, contains_later, AreConditions, is_boolean, is_free, and_parts}
use Rattle.sig_rel.proofs.UnknownLemmas.{boolean_within}

-- the numbers of a range that pass a test, as signals
abbrev passing : (ℕ → Bool) → ℕ → ℕ → List SigId
passing p a n = map signal_id (filter p (range_with_len a n))

passed : (p : ℕ → Bool) (a n : ℕ) → p a ≡ true → passing p a (suc n) ≡ signal_id a ∷ passing p (a + 1) n
passed p a n is = ap (λ b. map signal_id (cond b (a ∷ filter p (range_with_len (a + 1) n)) (filter p (range_with_len (a + 1) n)))) is

left_out : (p : ℕ → Bool) (a n : ℕ) → p a ≡ false → passing p a (suc n) ≡ passing p (a + 1) n
left_out p a n is = ap (λ b. map signal_id (cond b (a ∷ filter p (range_with_len (a + 1) n)) (filter p (range_with_len (a + 1) n)))) is

module _ (p : ℕ → Bool) (a n : ℕ) (c : SigId) where
  listed_first : ((k : ℕ) → slice_get (passing p (a + 1) n) k ≡ Some c → (a + 1 ≤ c.0) × (p c.0 ≡ true)) → p a ≡ true → (k : ℕ) → slice_get (signal_id a ∷ passing p (a + 1) n) k ≡ Some c → (a ≤ c.0) × (p c.0 ≡ true)
  listed_first later is zero at = let e : signal_id a ≡ c = cc in (let same = ap (λ (s : SigId). s.0) e in omega (arith, same), ap (λ (s : SigId). p s.0) (sym e) ∙ is)
  listed_first later is (suc k) at = let rest = later k at in (let le = rest.0 in omega arith, rest.1)

  head_later : ((k : ℕ) → slice_get (passing p (a + 1) n) k ≡ Some c → (a + 1 ≤ c.0) × (p c.0 ≡ true)) → (k : ℕ) → slice_get (signal_id a ∷ passing p (a + 1) n) zero ≡ Some c → slice_get (passing p (a + 1) n) k ≡ Some c → ⊥
  head_later listed k here later =
      let e : signal_id a ≡ c = cc in
      let same = ap (λ (s : SigId). s.0) e in
      let le = (listed k later).0 in
      omega (arith, same, le)

  once_first : ((k : ℕ) → slice_get (passing p (a + 1) n) k ≡ Some c → (a + 1 ≤ c.0) × (p c.0 ≡ true)) → ((i j : ℕ) → slice_get (passing p (a + 1) n) i ≡ Some c → slice_get (passing p (a + 1) n) j ≡ Some c → i ≡ j)
      → (i j : ℕ) → slice_get (signal_id a ∷ passing p (a + 1) n) i ≡ Some c → slice_get (signal_id a ∷ passing p (a + 1) n) j ≡ Some c → i ≡ j
  once_first listed once zero zero at there = refl
  once_first listed once zero (suc j) at there = absurd (head_later listed j at there)
  once_first listed once (suc i) zero at there = absurd (head_later listed i there at)
  once_first listed once (suc i) (suc j) at there = ap suc (once i j at there)

-- what stands there is of the range, and passes
listed : (p : ℕ → Bool) (a n k : ℕ) (c : SigId) → slice_get (passing p a n) k ≡ Some c → (a ≤ c.0) × (p c.0 ≡ true)
listed p a zero k c at = absurd (let none : None ≡ Some c = at in cc)
listed p a (suc n) k c at = elim (cases_Bool (p a)) [
  | inl is ↦ listed_first p a n c (λ m. listed p (a + 1) n m c) is k (ap (λ xs. slice_get xs k) (sym (passed p a n is)) ∙ at)
  | inr isnt ↦ let rest = listed p (a + 1) n k c (ap (λ xs. slice_get xs k) (sym (left_out p a n isnt)) ∙ at) in (let le = rest.0 in omega arith, rest.1)
]

there_once : (p : ℕ → Bool) (a n i j : ℕ) (c : SigId) → slice_get (passing p a n) i ≡ Some c → slice_get (passing p a n) j ≡ Some c → i ≡ j
there_once p a zero i j c at there = absurd (let none : None ≡ Some c = at in cc)
there_once p a (suc n) i j c at there = elim (cases_Bool (p a)) [
  | inl is ↦ once_first p a n c (λ m. listed p (a + 1) n m c) (λ k l. there_once p (a + 1) n k l c) i j (ap (λ xs. slice_get xs i) (sym (passed p a n is)) ∙ at) (ap (λ xs. slice_get xs j) (sym (passed p a n is)) ∙ there)
  | inr isnt ↦ there_once p (a + 1) n i j c (ap (λ xs. slice_get xs i) (sym (left_out p a n isnt)) ∙ at) (ap (λ xs. slice_get xs j) (sym (left_out p a n isnt)) ∙ there)
]

found_in : (p : ℕ → Bool) (a n c : ℕ) → a ≤ c → c < a + n → p c ≡ true → Contains (passing p a n) (signal_id c)
found_in p a zero c low high is = absurd (omega (arith, low, high))
found_in p a (suc n) c low high is = elim (cases_eq c a) [
  | inl same ↦ subst (λ xs. Contains xs (signal_id c)) (sym (passed p a n (ap p (sym same) ∙ is))) (subst (λ m. Contains (signal_id m ∷ passing p (a + 1) n) (signal_id c)) same (contains_head (signal_id c) (passing p (a + 1) n)))
  | inr apart ↦
      let rest = found_in p (a + 1) n c (omega (arith, low, apart)) (omega (arith, high)) is in
      elim (cases_Bool (p a)) [
        | inl here ↦ subst (λ xs. Contains xs (signal_id c)) (sym (passed p a n here)) (contains_later (signal_id a) (signal_id c) (passing p (a + 1) n) rest)
        | inr isnt ↦ subst (λ xs. Contains xs (signal_id c)) (sym (left_out p a n isnt)) rest
      ]
]

pub conditions_are : (kernel : Kernel) → AreConditions kernel (conditions_of kernel)
conditions_are kernel = record {
  all = λ condition. (
    λ there. (listed (is_condition kernel) 0 (length kernel.signals) there.0 condition (at_contained (conditions_of kernel) condition there)).1,
    λ is. found_in (is_condition kernel) 0 (length kernel.signals) condition.0 (omega arith)
        (let lt = boolean_within kernel condition.0 (and_parts (is_boolean kernel condition.0) (is_free kernel condition.0) is).0 in omega arith) is,
  );
  once = λ i j condition at there. there_once (is_condition kernel) 0 (length kernel.signals) i j condition at there;
  count = refl;
}
