-- Above each signal that is possible there is a maximal clock: it cannot be that there is none.
use Rattle.sig_pace.proofs.Common.{◌<◌, ◌≤◌, inl, inr, ℕ, zero, suc, length, sym, subst, ◌∙◌, arith, cases_eq, cases_lt, false≢true, true_from_ne_false, IsPossible, IsSignal, is_present, Kernel, AreOfOneClock, IsBelow, IsLeastMaximal}

module _ (kernel : Kernel) where
  pub below_itself : (x : ℕ) → IsBelow kernel x x
  below_itself x reaction speaks there = there

  pub below_on : (x y z : ℕ) → IsBelow kernel x y → IsBelow kernel y z → IsBelow kernel x z
  below_on x y z first second reaction speaks there = second reaction speaks (first reaction speaks there)

  stable_below : (x y : ℕ) → ((IsBelow kernel x y → ⊥) → ⊥) → IsBelow kernel x y
  stable_below x y twice reaction speaks there = true_from_ne_false (is_present reaction y) (λ absent. twice (λ below. false≢true (sym absent ∙ below reaction speaks there)))

  -- z lies above x, and among the first signals those above it are of its clock
  record IsTopFor (n x z : ℕ) : Type 0 where
    signal : IsSignal kernel z
    above : IsBelow kernel x z
    top : (y : ℕ) → y < n → IsBelow kernel z y → IsBelow kernel y z

  -- z lies below the signal n of another clock
  abbrev Rises : ℕ → ℕ → Type 0
  Rises n z = IsBelow kernel z n × (IsBelow kernel n z → ⊥)

  tops : (n x : ℕ) → IsSignal kernel x → n ≤ length kernel.signals → (((z : ℕ) × IsTopFor n x z) → ⊥) → ⊥
  tops zero x is le none = none (x, record { signal = is; above = below_itself x; top = λ y lt below. absurd (omega (arith, lt)) })
  tops (suc n) x is le none = tops n x is (omega (arith, le)) (λ found. stays found.0 found.1 (climbs found.0 found.1 (tops n n le (omega (arith, le))))) where
    climbs : (z : ℕ) → IsTopFor n x z → ((((y : ℕ) × IsTopFor n n y) → ⊥) → ⊥) → Rises n z → ⊥
    climbs z found above_n rises = above_n (λ higher. none (
      higher.0,
      record {
        signal = higher.1.signal;
        above = below_on x z higher.0 found.above (below_on z n higher.0 rises.0 higher.1.above);
        top = λ y lt below. elim (cases_eq y n) [
          | inl same ↦ subst (λ k. IsBelow kernel k higher.0) (sym same) higher.1.above
          | inr apart ↦ higher.1.top y (omega (arith, lt, apart)) below
        ];
      },
    ))

    stays : (z : ℕ) → IsTopFor n x z → (Rises n z → ⊥) → ⊥
    stays z found never = none (
      z,
      record {
        signal = found.signal;
        above = found.above;
        top = λ y lt below. elim (cases_eq y n) [
          | inl same ↦ subst (λ k. IsBelow kernel k z) (sym same) (stable_below n z (λ lower. never (subst (λ k. IsBelow kernel z k) same below, lower)))
          | inr apart ↦ found.top y (omega (arith, lt, apart)) below
        ];
      },
    )

  -- m is of the clock of z, and none of the first signals of that clock has a lesser number
  record IsLeastFor (n z m : ℕ) : Type 0 where
    signal : IsSignal kernel m
    one : AreOfOneClock kernel z m
    least : (y : ℕ) → y < n → AreOfOneClock kernel z y → m ≤ y

  -- the signal n is of the clock of z, and has a lesser number than m
  abbrev Falls : ℕ → ℕ → ℕ → Type 0
  Falls n z m = AreOfOneClock kernel z n × (n < m)

  leasts : (n z : ℕ) → IsSignal kernel z → n ≤ length kernel.signals → (((m : ℕ) × IsLeastFor n z m) → ⊥) → ⊥
  leasts zero z is le none = none (z, record { signal = is; one = record { up = below_itself z; down = below_itself z }; least = λ y lt one. absurd (omega (arith, lt)) })
  leasts (suc n) z is le none = leasts n z is (omega (arith, le)) (λ found. stays found.0 found.1 (falls found.0 found.1)) where
    falls : (m : ℕ) → IsLeastFor n z m → Falls n z m → ⊥
    falls m found less = none (
      n,
      record {
        signal = le;
        one = less.0;
        least = λ y lt one. elim (cases_eq y n) [
          | inl same ↦ omega (arith, same)
          | inr apart ↦ omega (arith, found.least y (omega (arith, lt, apart)) one, less.1)
        ];
      },
    )

    stays : (m : ℕ) → IsLeastFor n z m → (Falls n z m → ⊥) → ⊥
    stays m found never = none (
      m,
      record {
        signal = found.signal;
        one = found.one;
        least = λ y lt one. elim (cases_eq y n) [
          | inl same ↦ elim (cases_lt n m) [
            | inl less ↦ absurd (never (subst (AreOfOneClock kernel z) same one, less))
            | inr most ↦ omega (arith, same, most)
          ]
          | inr apart ↦ found.least y (omega (arith, lt, apart)) one
        ];
      },
    )

  -- it cannot be that no least signal of a maximal clock lies above a signal that is possible
  pub maximal_above : (x : ℕ) → IsSignal kernel x → IsPossible kernel x → (((m : ℕ) × IsLeastMaximal kernel m × IsBelow kernel x m) → ⊥) → ⊥
  maximal_above x is possible none = tops (length kernel.signals) x is (omega arith) (λ top. leasts (length kernel.signals) top.0 top.1.signal (omega arith) (λ first.
      let m = first.0 in
      let z = top.0 in
      let above = below_on x z m top.1.above first.1.one.up in
      none (
        m,
        record {
          maximal = record {
            is = first.1.signal;
            possible = (possible.0, possible.1, above possible.0 possible.1 possible.2);
            top = λ y is_y below. below_on y z m (top.1.top y is_y (below_on z m y first.1.one.up below)) first.1.one.up;
          };
          least = λ y is_y one. first.1.least y is_y (record { up = below_on z m y first.1.one.up one.up; down = below_on y m z one.down first.1.one.down });
        },
        above,
      )))
