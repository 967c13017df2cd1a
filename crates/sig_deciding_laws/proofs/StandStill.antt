-- Statements on numbers below a bound that come to hold round after round: they come to stand still.
use Rattle.sig_deciding_laws.proofs.Common.{◌<◌, ◌≤◌, ◌+◌, ◌⊎◌, inl, inr, ℕ, zero, suc, arith, map_dec, dec_both, dec_either, dec_not, searched_below}
use Rattle.sig_deciding_laws.proofs.Counts.{counted, counted_less, counted_most}

module _ (P : ℕ → ℕ → Type 0) (decide : (round k : ℕ) → Dec (P round k)) (rises : (round k : ℕ) → P round k → P (suc round) k) where
  -- of how many numbers below m the statement holds in a round
  abbrev count : ℕ → ℕ → ℕ
  count round m = counted (P round) (decide round) m

  count_less : (round m k : ℕ) → k < m → P (suc round) k → (P round k → ⊥) → count round m < count (suc round) m
  count_less round = counted_less (P round) (P (suc round)) (decide round) (decide (suc round)) (rises round)

  module _ (n : ℕ) where
    -- in the next round it holds of no more numbers below n
    abbrev pub IsStill : ℕ → Type 0
    IsStill round = (k : ℕ) → k < n → P (suc round) k → P round k

    abbrev IsNew : ℕ → ℕ → Type 0
    IsNew round k = P (suc round) k × (P round k → ⊥)

    none_new : (round : ℕ) → (((k : ℕ) × (k < n) × IsNew round k) → ⊥) → IsStill round
    none_new round none k less holds = elim (decide round k) [ yes before ↦ before | no fails ↦ absurd (none (k, less, (holds, fails))) ]

    still_within : (fuel round : ℕ) → n ≤ count round n + fuel → (last : ℕ) × IsStill last
    still_within zero round full = at (searched_below n (IsNew round) (λ k _. dec_both (decide (suc round) k) (dec_not (decide round k)))) where
      at : Dec ((k : ℕ) × (k < n) × IsNew round k) → (last : ℕ) × IsStill last
      at (yes found) = absurd (omega (arith, full, count_less round n found.0 found.1 found.2.0 found.2.1, counted_most (P (suc round)) (decide (suc round)) n))
      at (no none) = (round, none_new round none)
    still_within (suc fuel) round full = at (searched_below n (IsNew round) (λ k _. dec_both (decide (suc round) k) (dec_not (decide round k)))) (still_within fuel (suc round)) where
      at : Dec ((k : ℕ) × (k < n) × IsNew round k) → (n ≤ count (suc round) n + fuel → (last : ℕ) × IsStill last) → (last : ℕ) × IsStill last
      at (yes found) next = next (omega (arith, full, count_less round n found.0 found.1 found.2.0 found.2.1))
      at (no none) next = (round, none_new round none)

    -- some round is still
    pub still : (last : ℕ) × IsStill last
    still = still_within n 0 (omega arith)

-- What begins, and what it leads to, below a bound.
module _ (n : ℕ) (Begins : ℕ → Type 0) (Leads : ℕ → ℕ → Type 0) (begins : (k : ℕ) → Dec (Begins k)) (leads : (j k : ℕ) → Dec (Leads j k)) where
  abbrev Stage : ℕ → ℕ → Type 0
  Stage zero k = ⊥
  Stage (suc round) k = Begins k ⊎ ((j : ℕ) × (j < n) × (Stage round j × Leads j k))

  stage_decided : (round k : ℕ) → Dec (Stage round k)
  stage_decided zero k = no (λ none. none)
  stage_decided (suc round) k = dec_either (begins k) (searched_below n (λ j. Stage round j × Leads j k) (λ j _. dec_both (stage_decided round j) (leads j k)))

  stage_rises : (round k : ℕ) → Stage round k → Stage (suc round) k
  stage_rises zero k none = absurd none
  stage_rises (suc round) k (inl begin) = inl begin
  stage_rises (suc round) k (inr led) = inr (led.0, led.1, (stage_rises round led.0 led.2.0, led.2.1))

  -- the least statement that holds of what begins and of what it leads to is decided
  pub dec_least : (T : ℕ → Type 0) → ((k : ℕ) → Begins k → T k) → ((j k : ℕ) → T j → Leads j k → T k)
      → ((S : ℕ → Type 0) → ((k : ℕ) → k < n → Begins k → S k) → ((j k : ℕ) → j < n → k < n → S j → Leads j k → S k) → (k : ℕ) → T k → S k)
      → (k : ℕ) → Dec (T k)
  dec_least T begin lead least k = map_dec (from last.0 k) (least (Stage last.0) to_begin to_lead k) (stage_decided last.0 k) where
    last : (round : ℕ) × ((k : ℕ) → k < n → Stage (suc round) k → Stage round k)
    last = still Stage stage_decided stage_rises n

    from : (round k : ℕ) → Stage round k → T k
    from zero k none = absurd none
    from (suc round) k (inl is) = begin k is
    from (suc round) k (inr led) = lead led.0 k (from round led.0 led.2.0) led.2.1

    to_begin : (k : ℕ) → k < n → Begins k → Stage last.0 k
    to_begin k less is = last.1 k less (inl is)

    to_lead : (j k : ℕ) → j < n → k < n → Stage last.0 j → Leads j k → Stage last.0 k
    to_lead j k less_j less_k stage led = last.1 k less_k (inr (j, less_j, (stage, led)))
