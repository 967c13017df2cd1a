-- Marks that are set.
use Rattle.sig_part.proofs.Common.{◌≡◌, ◌≢◌, ◌<◌, ◌+◌, ◌⊎◌, inl, inr, ◌↔◌, ℕ, Bool, true, false, List, [], ◌∷◌, length, get_or, set, replicate, refl, sym, ap, ◌∙◌, arith, get_or-set_same, get_or-set_other, zero, suc, sum_by, if◌then◌else◌, cases_order, false≢true, sum_by-set, SigId, mark_at, marked_count, signal_same}

pub no_mark : (n k : ℕ) → mark_at (replicate n false) k ≡ false
no_mark (suc n) (suc k) = no_mark n k
no_mark _ _ = refl

pub marked_within : (marks : List Bool) (k : ℕ) → mark_at marks k ≡ true → k < length marks
marked_within [] k is = absurd (false≢true is)
marked_within (b ∷ marks) zero is = omega arith
marked_within (b ∷ marks) (suc k) is = omega (arith, marked_within marks k is)

-- one more is marked
pub one_marked : (marks : List Bool) (q : ℕ) → q < length marks → mark_at marks q ≡ false → marked_count (set marks q true) ≡ marked_count marks + 1
one_marked marks q lt left =
    let weight : Bool → ℕ = λ mark. if mark then 1 else 0 in
    let e : sum_by weight (set marks q true) + weight (get_or marks q false) ≡ sum_by weight marks + 1 = sum_by-set weight marks q true false lt in
    let none : weight (get_or marks q false) ≡ 0 = ap weight left in
    omega (arith, e, none)

-- what is marked after one more
pub marked_more : (marks : List Bool) (x y : SigId) → x.0 < length marks → (mark_at (set marks x.0 true) y.0 ≡ true) ↔ ((mark_at marks y.0 ≡ true) ⊎ (y ≡ x))
marked_more marks x y lt = at (cases_order y.0 x.0) where
  other : y.0 ≢ x.0 → (mark_at (set marks x.0 true) y.0 ≡ true) ↔ ((mark_at marks y.0 ≡ true) ⊎ (y ≡ x))
  other apart =
      let same : mark_at (set marks x.0 true) y.0 ≡ mark_at marks y.0 = get_or-set_other marks x.0 y.0 true false apart in
      ((λ is. inl (sym same ∙ is)), (λ is. elim is [ inl before ↦ same ∙ before | inr e ↦ absurd (apart (ap (λ (s : SigId). s.0) e)) ]))

  at : ((y.0 ≡ x.0) ⊎ ((y.0 < x.0) ⊎ (x.0 < y.0))) → (mark_at (set marks x.0 true) y.0 ≡ true) ↔ ((mark_at marks y.0 ≡ true) ⊎ (y ≡ x))
  at (inl e) = ((λ is. inr (signal_same y x e)), (λ is. ap (mark_at (set marks x.0 true)) e ∙ get_or-set_same marks x.0 true false lt))
  at (inr (inl less)) = other (λ e. omega (arith, e, less))
  at (inr (inr more)) = other (λ e. omega (arith, e, more))
