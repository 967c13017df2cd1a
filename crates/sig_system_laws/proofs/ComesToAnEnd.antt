-- From each state some more events lead to a final one.
use Rattle.sig_system_laws.proofs.Common.{◌≡◌, ◌<◌, ◌≤◌, ◌+◌, ◌-◌, ◌++◌, ◌⊎◌, inl, inr, ℕ, zero, suc, ℤ, List, [], ◌∷◌, length, length-append, refl, ap, sym, subst, ◌∙◌, arith, append-nil, append_assoc, cases_eq, Option, None, Some, slice_get, slice_get_within, Bounded, Instant, IsLongest, IsPrefixOf, Trace, prefix_fits, prefix_length, reduce, reduced, speaks_last, comes_from, IsKernelTrace, Kernel, some_kernel_end, AreAccepted, Given, IsEnabled, IsFinal, IsReached, IsReachedFrom, State, TakesFrom, carried, committed, AreJoined, flows_of}
use Rattle.sig_system_laws.specs.Systems as systems
use Rattle.sig_system_laws.proofs.CarriedValues.{links_fit}
use Rattle.sig_system_laws.proofs.Reactions.{IsRun}
use Rattle.sig_system_laws.proofs.Reached.{at_each, at_other, at_own, fine, longer_run, one_kernel, reached_on, run_front}
use Rattle.sig_system_laws.proofs.Runs.{fits_from, takes_from}

pub few_instants : (given : Given) (s : State) → IsReached given s → (k : ℕ) → length (s k) ≤ given.limit k
few_instants given s systems.stays k = omega arith
few_instants given t (systems.goes_on s k x before event) j =
    at_each s k x (λ n trace. length trace ≤ given.limit n) (let w = event.within in omega (arith, w, length-append (s k) (x ∷ []))) (few_instants given s before) j

-- some number below a bound, or none
pub some_below : (P : ℕ → Type 0) → ((k : ℕ) → P k ⊎ (P k → ⊥)) → (n : ℕ) → ((k : ℕ) × P k) ⊎ ((k : ℕ) → k < n → P k → ⊥)
some_below P decide zero = inr (λ k lt holds. omega (arith, lt))
some_below P decide (suc n) = by (some_below P decide n) (decide n) where
  by : ((k : ℕ) × P k) ⊎ ((k : ℕ) → k < n → P k → ⊥) → P n ⊎ (P n → ⊥) → ((k : ℕ) × P k) ⊎ ((k : ℕ) → k < suc n → P k → ⊥)
  by (inl found) last = inl found
  by (inr none) (inl holds) = inl (n, holds)
  by (inr none) (inr fails) = inr (λ k lt holds. elim (cases_eq k n) [
    | inl same ↦ fails (subst P same holds)
    | inr apart ↦ none k (omega (arith, lt, apart)) holds
  ])

-- how many instants the first programs may still commit
abbrev pub left : Given → State → ℕ → ℕ
left given s zero = 0
left given s (suc n) = left given s n + (given.limit n - length (s n))

module _ (given : Given) (s : State) (k : ℕ) (x : Instant) where
  left_same : (n : ℕ) → n ≤ k → left given (committed s k x) n ≡ left given s n
  left_same zero le = refl
  left_same (suc n) le =
      let rest = left_same n (omega (arith, le)) in
      let here : length (committed s k x n) ≡ length (s n) = ap (λ (t : Trace). length t) (at_other s k x n (λ e. omega (arith, le, e))) in
      omega (arith, rest, here)

  pub left_fewer : (n : ℕ) → k < n → length (s k) < given.limit k → left given (committed s k x) n + 1 ≡ left given s n
  left_fewer zero lt room = absurd (omega (arith, lt))
  left_fewer (suc n) lt room = elim (cases_eq n k) [
    | inl same ↦
        let rest = left_same n (omega (arith, same)) in
        let here : length (committed s k x n) ≡ length (s n) + 1 =
        subst (λ m. length (committed s k x m) ≡ length (s m) + 1) (sym same) (ap (λ (t : Trace). length t) (at_own s k x) ∙ length-append (s k) (x ∷ [])) in
        let few : length (s n) < given.limit n = subst (λ m. length (s m) < given.limit m) (sym same) room in
        omega (arith, rest, here, few)
    | inr apart ↦
        let rest = left_fewer n (omega (arith, lt, apart)) room in
        let here : length (committed s k x n) ≡ length (s n) = ap (λ (t : Trace). length t) (at_other s k x n apart) in
        omega (arith, rest, here)
  ]

module _ (given : Given) (accepted : AreAccepted given.system) (joined : AreJoined given) where
  module _ (s : State) (reached : IsReached given s) where
    abbrev pub GoesOn : ℕ → Type 0
    GoesOn k = (x : Instant) × IsEnabled given s k x

    module _ (k : ℕ) (kernel : Kernel) (is : slice_get given.system.programs k ≡ Some kernel) where
      abbrev flows : List (List ℤ)
      flows = flows_of given s k kernel

      -- the longest trace for what was carried so far
      by_longest : (trace : Trace) → IsLongest (IsKernelTrace kernel) flows (given.limit k) trace → GoesOn k ⊎ (GoesOn k → ⊥)
      by_longest trace longest = by begins where
        own_run : IsRun kernel (s k)
        own_run = (fine given s reached k kernel is).run

        begins : IsPrefixOf (s k) trace
        begins =
            let own = fine given s reached k kernel is in
            let same : reduce (s k) ≡ s k = reduced (s k) own.run.speaks in
            subst (λ (t : Trace). IsPrefixOf t trace) same
            (longest.longest (s k) own.run.is (fits_from given accepted s reached k kernel is (s k) own.took) (subst (λ (t : Trace). length t ≤ given.limit k) (sym same) own.within))

        by : IsPrefixOf (s k) trace → GoesOn k ⊎ (GoesOn k → ⊥)
        by ([], e) = inr (λ next.
            let x : Instant = next.0 in
            let event = next.1 in
            let kernels : event.kernel ≡ kernel = one_kernel event.kernel kernel event.program is in
            let run : IsRun kernel (s k ++ x ∷ []) = subst (λ (z : Kernel). IsRun z (s k ++ x ∷ [])) kernels (longer_run given s (fine given s reached) k x event) in
            let there : TakesFrom kernel (carried given s k) (s k ++ x ∷ []) = subst (λ (z : Kernel). TakesFrom z (carried given s k) (s k ++ x ∷ [])) kernels event.there in
            let same : reduce (s k ++ x ∷ []) ≡ s k ++ x ∷ [] = reduced (s k ++ x ∷ []) run.speaks in
            let few : length (s k ++ x ∷ []) ≤ given.limit k = (let w = event.within in omega (arith, w, length-append (s k) (x ∷ []))) in
            let more : IsPrefixOf (s k ++ x ∷ []) trace =
            subst (λ (t : Trace). IsPrefixOf t trace) same
            (longest.longest (s k ++ x ∷ []) run.is (fits_from given accepted s reached k kernel is (s k ++ x ∷ []) there) (subst (λ (t : Trace). length t ≤ given.limit k) (sym same) few)) in
            let end : length trace ≡ length (s k) = ap (λ (t : Trace). length t) (e ∙ append-nil (s k)) in
            omega (arith, end, prefix_length (s k ++ x ∷ []) trace more, length-append (s k) (x ∷ [])))
        by (x ∷ rest, e) =
            let next : IsPrefixOf (s k ++ x ∷ []) trace = (rest, e ∙ sym (append_assoc (s k) (x ∷ []) rest)) in
            let front : IsRun kernel (s k ++ x ∷ []) = run_front kernel (s k ++ x ∷ []) trace next (record { is = longest.is; speaks = longest.speaks }) in
            let within = longest.within in
            inl (
              x,
              record {
                kernel = kernel;
                program = is;
                within = omega (arith, within, prefix_length (s k ++ x ∷ []) trace next, length-append (s k) (x ∷ []));
                reacts = (comes_from Bounded kernel (s k) x front.is).1;
                speaks = speaks_last (s k) x front.speaks;
                there = takes_from given accepted s reached k kernel is (s k ++ x ∷ []) (prefix_fits flows (s k ++ x ∷ []) trace next longest.fits);
              },
            )

      one_decided : GoesOn k ⊎ (GoesOn k → ⊥)
      one_decided =
          let good = accepted k kernel is in
          let end = some_kernel_end kernel good.0 good.1 flows (links_fit given accepted joined s reached k kernel is) (given.limit k) in
          by_longest end.0 end.3.longest

    pub decided : (k : ℕ) → GoesOn k ⊎ (GoesOn k → ⊥)
    decided k = by (slice_get given.system.programs k) refl where
      by : (found : Option Kernel) → slice_get given.system.programs k ≡ found → GoesOn k ⊎ (GoesOn k → ⊥)
      by None none = inr (λ next. let e : Some next.1.kernel ≡ None = sym next.1.program ∙ none in cc)
      by (Some kernel) is = one_decided k kernel is

    pub final_or_event : IsFinal given s ⊎ ((k : ℕ) × (x : Instant) × IsEnabled given s k x)
    final_or_event = elim (some_below GoesOn decided (length given.system.programs)) [
      | inl found ↦ inr (found.0, found.1.0, found.1.1)
      | inr none ↦ inl (λ k x event. none k (slice_get_within given.system.programs k event.kernel event.program) (x, event))
    ]

  abbrev Comes : State → Type 0
  Comes s = (t : State) × IsReachedFrom given s t × IsFinal given t

  -- by what is known of the states with fewer instants left
  one_further : (s : State) (reached : IsReached given s) → ((k : ℕ) (x : Instant) (event : IsEnabled given s k x) → left given (committed s k x) (length given.system.programs) + 1 ≡ left given s (length given.system.programs) → Comes (committed s k x)) → Comes s
  one_further s reached later = by (final_or_event s reached) where
    by : IsFinal given s ⊎ ((k : ℕ) × (x : Instant) × IsEnabled given s k x) → Comes s
    by (inl final) = (s, systems.stays, final)
    by (inr found) =
        let event = found.2 in
        let next : State = committed s found.0 found.1 in
        let fewer = left_fewer given s found.0 found.1 (length given.system.programs) (slice_get_within given.system.programs found.0 event.kernel event.program) event.within in
        let rest = later found.0 found.1 event fewer in
        (rest.0, reached_on given s next rest.0 (systems.goes_on s found.0 found.1 systems.stays event) rest.1, rest.2)

  comes : (fuel : ℕ) (s : State) → IsReached given s → left given s (length given.system.programs) ≤ fuel → Comes s
  comes zero s reached few = one_further s reached (λ k x event fewer. absurd (omega (arith, few, fewer)))
  comes (suc fuel) s reached few = one_further s reached (λ k x event fewer. comes fuel (committed s k x) (systems.goes_on s k x reached event) (omega (arith, few, fewer)))

  pub comes_to_an_end : (s : State) → IsReached given s → (t : State) × IsReachedFrom given s t × IsFinal given t
  comes_to_an_end s reached = comes (left given s (length given.system.programs)) s reached (omega arith)
