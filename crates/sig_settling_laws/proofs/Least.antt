-- Of actors that have steps left, one is at a least place.
use Rattle.sig_settling_laws.proofs.Common.{◌≡◌, ◌<◌, ◌⊎◌, inl, inr, ℕ, zero, suc, refl, ap, sym, subst, ◌∙◌, arith, Place, NotAfter, not_after_onward, total_places, cases_eq}

module _ (place : ℕ → Place) (more : ℕ → ℕ) where
  pub record LeastLeft (n : ℕ) : Type 0 where
    pub k : ℕ
    pub lt : k < n
    pub left : ℕ
    pub is : more k ≡ suc left
    pub least : (m : ℕ) → m < n → ((more m ≡ 0) → ⊥) → NotAfter (place k) (place m)

  self : (n : ℕ) → NotAfter (place n) (place n)
  self n = inr (refl, omega arith)

  with_last : (n left : ℕ) → more n ≡ suc left → ((m : ℕ) → m < n → ((more m ≡ 0) → ⊥) → NotAfter (place n) (place m)) → LeastLeft (suc n)
  with_last n left is before = record {
    k = n;
    lt = omega arith;
    left = left;
    is = is;
    least = λ m lt some. elim (cases_eq m n) [
      | inl same ↦ subst (λ i. NotAfter (place n) (place i)) (sym same) (self n)
      | inr apart ↦ before m (omega (arith, lt, apart)) some
    ];
  }

  with_earlier : (n : ℕ) (l : LeastLeft n) → (((more n ≡ 0) → ⊥) → NotAfter (place l.k) (place n)) → LeastLeft (suc n)
  with_earlier n l last = record {
    k = l.k;
    lt = omega (arith, l.lt);
    left = l.left;
    is = l.is;
    least = λ m lt some. elim (cases_eq m n) [
      | inl same ↦ subst (λ i. ((more i ≡ 0) → ⊥) → NotAfter (place l.k) (place i)) (sym same) last some
      | inr apart ↦ l.least m (omega (arith, lt, apart)) some
    ];
  }

  abbrev AllDone : ℕ → Type 0
  AllDone n = (k : ℕ) → k < n → more k ≡ 0

  next_left : (n left : ℕ) → more n ≡ left → AllDone n ⊎ LeastLeft n → AllDone (suc n) ⊎ LeastLeft (suc n)
  next_left n zero is (inl all) = inl (λ k lt. elim (cases_eq k n) [ inl same ↦ ap more same ∙ is | inr apart ↦ all k (omega (arith, lt, apart)) ])
  next_left n zero is (inr l) = inr (with_earlier n l (λ some. absurd (some is)))
  next_left n (suc left) is (inl all) = inr (with_last n left is (λ m lt some. absurd (some (all m lt))))
  next_left n (suc left) is (inr l) = elim (total_places (place n) (place l.k)) [
    | inl le ↦ inr (with_last n left is (λ m lt some. not_after_onward (place n) (place l.k) (place m) le (l.least m lt some)))
    | inr ge ↦ inr (with_earlier n l (λ some. ge))
  ]

  pub some_left : (n : ℕ) → ((k : ℕ) → k < n → more k ≡ 0) ⊎ LeastLeft n
  some_left zero = inl (λ k lt. absurd (omega (arith, lt)))
  some_left (suc n) = next_left n (more n) refl (some_left n)
