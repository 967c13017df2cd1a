-- Operations have no cycle, or they have one, and some operation of it writes a least signal.
use Rattle.sig_deciding_laws.proofs.Common.{◌≡◌, ◌<◌, ◌⊎◌, inl, inr, ℕ, List, length, subst, refl, All, Some, slice_get, All-contains, SigId, signal_id, Operation, ComesBefore, HasNoCycle, IsCycle, IsOnCycle, Precedes, Reaches, Writes, directly, onward, contains_at, slice_get_within, map_dec, dec_both, dec_found, dec_number, dec_some, searched_below}
use Rattle.sig_deciding_laws.proofs.StandStill.{dec_least}
use Rattle.sig_deciding_laws.proofs.ClockFunctionsOfKernel.{IsSound}
use Rattle.sig_deciding_laws.proofs.Precedence.{dec_before}
use Rattle.sig_deciding_laws.proofs.Searchable.{some_least}

-- what is reached from a number, by one step after another
module _ (R : ℕ → ℕ → Type 0) (n : ℕ) (within : (i j : ℕ) → R i j → (i < n) × (j < n)) (last : ℕ) (S : ℕ → Type 0)
    (begin : (i : ℕ) → i < n → R i last → S i) (lead : (j i : ℕ) → j < n → i < n → S j → R i j → S i) where
  reaches_least : (i k : ℕ) → Reaches R i k → k ≡ last → S i
  reaches_least _ _ (directly i k first) same = begin i (within i k first).0 (subst (R i) same first)
  reaches_least _ _ (onward i j k first rest) same = lead j i (within i j first).1 (within i j first).0 (reaches_least j k rest same) first

first_step : (R : ℕ → ℕ → Type 0) (i k : ℕ) → Reaches R i k → (j : ℕ) × R i j
first_step R _ _ (directly i k first) = (k, first)
first_step R _ _ (onward i j k first rest) = (j, first)

module _ (conditions : List SigId) (operations : List Operation) (sound : All (IsSound (length conditions)) operations) where
  sound_at : (i : ℕ) (p : Operation) → slice_get operations i ≡ Some p → IsSound (length conditions) p
  sound_at i p is = All-contains (IsSound (length conditions)) operations p sound (contains_at operations i p is)

  abbrev pub Before : ℕ → ℕ → Type 0
  Before i j = Precedes conditions operations i j

  pub dec_precedes : (i j : ℕ) → Dec (Before i j)
  dec_precedes i j =
      map_dec (λ found. record { p = found.0; q = found.2.0; is = found.1; other = found.2.1; before = found.2.2 }) (λ before. (before.p, before.is, (before.q, before.other, before.before)))
      (dec_found (λ (p : Operation). (q : Operation) × (slice_get operations j ≡ Some q) × ComesBefore conditions p q) (slice_get operations i) (λ p is.
      dec_found (ComesBefore conditions p) (slice_get operations j) (λ q other. dec_before conditions p q (sound_at i p is) (sound_at j q other))))

  pub precedes_within : (i j : ℕ) → Before i j → (i < length operations) × (j < length operations)
  precedes_within i j before = (slice_get_within operations i before.p before.is, slice_get_within operations j before.q before.other)

  pub dec_reaches : (i last : ℕ) → Dec (Reaches Before i last)
  dec_reaches i last =
      dec_least (length operations) (λ i. Before i last) (λ j i. Before i j) (λ i. dec_precedes i last) (λ j i. dec_precedes i j)
      (λ i. Reaches Before i last) (λ i first. directly i last first) (λ j i rest first. onward i j last first rest)
      (λ S begin lead i reaches. reaches_least Before (length operations) precedes_within last S begin lead i last reaches refl) i

  abbrev OnCycle : ℕ → ℕ → Type 0
  OnCycle signal number = (p : Operation) × (slice_get operations number ≡ Some p) × (((x : SigId) × (p.writes ≡ Some x) × (x.0 ≡ signal)) × Reaches Before number number)

  dec_on_cycle : (signal : ℕ) → Dec (IsOnCycle conditions operations signal)
  dec_on_cycle signal =
      map_dec
      (λ found. let on = found.2 in record { number = found.0; p = on.0; writes = on.2.0.0; is = on.1; target = on.2.0.1; named = on.2.0.2; cycle = on.2.1 })
      (λ on. (on.number, slice_get_within operations on.number on.p on.is, (on.p, on.is, ((on.writes, on.target, on.named), on.cycle))))
      (searched_below (length operations) (OnCycle signal) (λ number _.
      dec_some (λ (p : Operation). ((x : SigId) × (p.writes ≡ Some x) × (x.0 ≡ signal)) × Reaches Before number number) (slice_get operations number) (λ p.
      dec_both (dec_some (λ (x : SigId). x.0 ≡ signal) p.writes (λ x. dec_number x.0 signal)) (dec_reaches number number))))

  -- an operation that comes before another one writes
  first_writes : (i j : ℕ) (before : Before i j) → (x : SigId) × Writes before.p x
  first_writes i j before = at before.before where
    at : ComesBefore conditions before.p before.q → (x : SigId) × Writes before.p x
    at (inl feeds) = (feeds.signal, feeds.writes)
    at (inr (inl decides)) = (decides.condition, decides.writes)
    at (inr (inr keeps)) = (sound_at i before.p before.is).writer keeps.read

  on_cycle : (i : ℕ) → Reaches Before i i → (signal : ℕ) × IsOnCycle conditions operations signal
  on_cycle i cycle =
      let step = first_step Before i i cycle in
      let before : Before i step.0 = step.1 in
      let target = first_writes i step.0 before in
      (target.0.0, record { number = i; p = before.p; writes = target.0; is = before.is; target = target.1; named = refl; cycle = cycle })

  pub acyclic_or_cycle : HasNoCycle conditions operations ⊎ ((x : SigId) × IsCycle conditions operations x.0)
  acyclic_or_cycle = at (searched_below (length operations) (λ i. Reaches Before i i) (λ i _. dec_reaches i i)) where
    at : Dec ((i : ℕ) × (i < length operations) × Reaches Before i i) → HasNoCycle conditions operations ⊎ ((x : SigId) × IsCycle conditions operations x.0)
    at (no none) = inl (λ i cycle. let step = first_step Before i i cycle in none (i, (precedes_within i step.0 step.1).0, cycle))
    at (yes found) =
        let on = on_cycle found.0 found.2 in
        let least = some_least (IsOnCycle conditions operations) dec_on_cycle on.0 on.1 in
        inr (signal_id least.0, least.1)
