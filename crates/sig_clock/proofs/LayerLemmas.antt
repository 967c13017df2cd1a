-- Lemmas on layers and refusals.
use Rattle.sig_clock.proofs.Common.{◌≡◌, ◌<◌, ◌≤◌, ◌+◌, ◌⊎◌, inl, inr, ℕ, Bool, true, false, refl, sym, ap, ◌∙◌, subst, arith, zero, suc, cases_order, false≢true, HasClocks, IsFirstPinned, IsLeast, IsMissingRoot, IsPossible, IsPossibleWithout, IsUnsolved, AgreeOn, EntersBy, HasLayer, IsDead, IsDetermined, IsEarlier, IsPinned, is_condition, Reaction, Speaks, is_present, is_silent, Kernel}

-- what fewer conditions determine, more do
determined_by_more : (kernel : Kernel) (Fewer More : ℕ → Type 0) (signal : ℕ) → ((condition : ℕ) → Fewer condition → More condition) → IsDetermined kernel Fewer signal → IsDetermined kernel More signal
determined_by_more kernel Fewer More signal wider is a b speaks_a speaks_b agree = is a b speaks_a speaks_b (λ condition there known. agree condition there (wider condition known))

pub enters_stays : (kernel : Kernel) (signal round : ℕ) → EntersBy kernel round signal → EntersBy kernel (suc round) signal
enters_stays kernel signal zero enters = absurd enters
enters_stays kernel signal (suc round) enters = determined_by_more kernel (EntersBy kernel round) (EntersBy kernel (suc round)) signal (λ condition known. enters_stays kernel condition round known) enters

pub one_layer : (kernel : Kernel) (signal a b : ℕ) → HasLayer kernel signal a → HasLayer kernel signal b → a ≡ b
one_layer kernel signal a b has_a has_b = elim (cases_order a b) [
  | inl same ↦ same
  | inr apart ↦ elim apart [ inl less ↦ absurd (has_b.first a less has_a.enters) | inr more ↦ absurd (has_a.first b more has_b.enters) ]
]

pub one_least : (P : ℕ → Type 0) (x y : ℕ) → IsLeast P x → IsLeast P y → x ≡ y
one_least P x y a b = omega (arith, a.least y b.holds, b.least x a.holds)

pub dead_has_none : (kernel : Kernel) → IsDead kernel → HasClocks kernel → ⊥
dead_has_none kernel dead has = false≢true (sym has.alive.1.some ∙ dead has.alive.0 has.alive.1.is)

pub same_roots : (kernel : Kernel) (x y u v : ℕ) → IsMissingRoot kernel x y → IsMissingRoot kernel u v → (x ≡ u) × (y ≡ v)
same_roots kernel x y u v a b =
    let first : x ≡ u = one_least (IsPossible kernel) x u a.first b.first in
    (first, one_least (IsPossibleWithout kernel u) y v (subst (λ m. IsLeast (IsPossibleWithout kernel m) y) first a.second) b.second)

-- of two conditions with layers one is earlier, or they are the same
order : (kernel : Kernel) (b d lb ld : ℕ) → is_condition kernel b ≡ true → is_condition kernel d ≡ true → HasLayer kernel b lb → HasLayer kernel d ld → (b ≡ d) ⊎ (IsEarlier kernel b d ⊎ IsEarlier kernel d b)
order kernel b d lb ld is_b is_d has_b has_d = by (cases_order lb ld) (cases_order b d) where
  before : (lb < ld) ⊎ ((lb ≡ ld) × (b < d)) → IsEarlier kernel b d
  before is = record { is = is_b; layer = lb; later_layer = ld; has = has_b; later_has = has_d; before = is }

  behind : (ld < lb) ⊎ ((ld ≡ lb) × (d < b)) → IsEarlier kernel d b
  behind is = record { is = is_d; layer = ld; later_layer = lb; has = has_d; later_has = has_b; before = is }

  by : ((lb ≡ ld) ⊎ ((lb < ld) ⊎ (ld < lb))) → ((b ≡ d) ⊎ ((b < d) ⊎ (d < b))) → (b ≡ d) ⊎ (IsEarlier kernel b d ⊎ IsEarlier kernel d b)
  by (inr (inl less)) numbers = inr (inl (before (inl less)))
  by (inr (inr more)) numbers = inr (inr (behind (inl more)))
  by (inl same) (inl equal) = inl equal
  by (inl same) (inr (inl less)) = inr (inl (before (inr (same, less))))
  by (inl same) (inr (inr more)) = inr (inr (behind (inr (sym same, more))))

pub same_pinned : (kernel : Kernel) (b d : ℕ) → IsFirstPinned kernel b → IsFirstPinned kernel d → b ≡ d
same_pinned kernel b d first second = elim (order kernel b d first.layer second.layer first.pinned.is second.pinned.is first.has second.has) [
  | inl same ↦ same
  | inr apart ↦ elim apart [ inl earlier ↦ absurd (second.first b earlier first.pinned) | inr later ↦ absurd (first.first d later second.pinned) ]
]
