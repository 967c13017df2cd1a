-- Among more numbers below a count than it has, two are the same.
use Rattle.sig_plan.proofs.Common.{◌≡◌, ◌≢◌, ◌<◌, ◌⊎◌, inl, inr, ℕ, sym, ◌∙◌, subst, arith, zero, suc, cases_order}

same_or_not : (a b : ℕ) → (a ≡ b) ⊎ (a ≢ b)
same_or_not a b = elim (cases_order a b) [ inl e ↦ inl e | inr (inl lt) ↦ inr (λ e. omega (arith, e, lt)) | inr (inr lt) ↦ inr (λ e. omega (arith, e, lt)) ]

-- a number of a row is met, or none of them is
pub met_or_not : (f : ℕ → ℕ) (c m : ℕ) → ((k : ℕ) × (k < m) × (f k ≡ c)) ⊎ ((k : ℕ) → k < m → f k ≢ c)
met_or_not f c zero = inr (λ k lt. absurd (omega (arith, lt)))
met_or_not f c (suc m) = at (same_or_not (f m) c) (met_or_not f c m) where
  at : ((f m ≡ c) ⊎ (f m ≢ c)) → (((k : ℕ) × (k < m) × (f k ≡ c)) ⊎ ((k : ℕ) → k < m → f k ≢ c)) → ((k : ℕ) × (k < suc m) × (f k ≡ c)) ⊎ ((k : ℕ) → k < suc m → f k ≢ c)
  at (inl here) rest = inl (m, omega arith, here)
  at (inr not_here) (inl before) = inl (before.0, omega (arith, before.1), before.2)
  at (inr not_here) (inr none) = inr (λ k lt. elim (cases_order k m) [ inl e ↦ subst (λ (j : ℕ). f j ≢ c) (sym e) not_here | inr (inl less) ↦ none k less | inr (inr more) ↦ absurd (omega (arith, more, lt)) ])

-- a number, but c in the place of n
moved : ℕ → ℕ → ℕ → ℕ
moved n c x = elim (same_or_not x n) [ inl same ↦ c | inr other ↦ x ]

-- two of a row of numbers are the same
pub record AreTwo (f : ℕ → ℕ) (m : ℕ) : Type 0 where
  pub a : ℕ
  pub b : ℕ
  pub less : a < b
  pub within : b < m
  pub same : f a ≡ f b

moved_below : (n c x : ℕ) → x < suc n → x ≢ c → c < suc n → moved n c x < n
unfolding moved
moved_below n c x lt apart below = at (same_or_not x n) where
  at : (s : (x ≡ n) ⊎ (x ≢ n)) → (elim s [ inl same ↦ c | inr other ↦ x ]) < n
  at (inl same) = elim (cases_order c n) [ inl e ↦ absurd (apart (same ∙ sym e)) | inr (inl less) ↦ less | inr (inr more) ↦ absurd (omega (arith, more, below)) ]
  at (inr other) = elim (cases_order x n) [ inl e ↦ absurd (other e) | inr (inl less) ↦ less | inr (inr more) ↦ absurd (omega (arith, more, lt)) ]

moved_same : (n c x y : ℕ) → x ≢ c → y ≢ c → moved n c x ≡ moved n c y → x ≡ y
unfolding moved
moved_same n c x y apart_x apart_y = at (same_or_not x n) (same_or_not y n) where
  at : (s : (x ≡ n) ⊎ (x ≢ n)) (t : (y ≡ n) ⊎ (y ≢ n)) → ◌≡◌ {A = ℕ} (elim s [ inl same ↦ c | inr other ↦ x ]) (elim t [ inl same ↦ c | inr other ↦ y ]) → x ≡ y
  at (inl p) (inl q) e = p ∙ sym q
  at (inl p) (inr q) e = absurd (apart_y (sym e))
  at (inr p) (inl q) e = absurd (apart_x e)
  at (inr p) (inr q) e = e

pub two_are_same : (n : ℕ) (f : ℕ → ℕ) → ((k : ℕ) → k < suc n → f k < n) → AreTwo f (suc n)
two_are_same zero f below = absurd (omega (arith, below 0 (omega arith)))
two_are_same (suc n) f below = at (met_or_not f (f (suc n)) (suc n)) (two_are_same n (λ k. moved n (f (suc n)) (f k))) where
  at : (((k : ℕ) × (k < suc n) × (f k ≡ f (suc n))) ⊎ ((k : ℕ) → k < suc n → f k ≢ f (suc n))) → (((k : ℕ) → k < suc n → moved n (f (suc n)) (f k) < n) → AreTwo (λ k. moved n (f (suc n)) (f k)) (suc n)) → AreTwo f (suc (suc n))
  at (inl met) rest = record { a = met.0; b = suc n; less = met.1; within = omega arith; same = met.2 }
  at (inr none) rest =
      let two = rest (λ k lt. moved_below n (f (suc n)) (f k) (below k (omega (arith, lt))) (none k lt) (below (suc n) (omega arith))) in
      let less = two.less in
      let within = two.within in
      record {
        a = two.a;
        b = two.b;
        less = less;
        within = omega (arith, within);
        same = moved_same n (f (suc n)) (f two.a) (f two.b) (none two.a (omega (arith, less, within))) (none two.b within) two.same;
      }
