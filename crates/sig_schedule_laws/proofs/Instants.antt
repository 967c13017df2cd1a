-- The instants of a reference.
use Rattle.sig_schedule_laws.proofs.Common.{◌≡◌, ◌≤◌, ◌-◌, ◌++◌, ℕ, suc, ℤ, List, [], ◌∷◌, length, get_or, take, drop, ap, sym, subst, ◌∙◌, arith, Some, slice_get, length-take-le, take-append-drop, Instant, Trace, Memory, remembered, AreFlowsFor, IsNext, fitting, next_in, reference_front, reference_last, instant_at, IsReference, IsAccepted, PlanView, slice_get-get_or, got}
use Rattle.sig_schedule_laws.proofs.Lists.{take_next}

pub instants_to : (reference : Trace) (i : ℕ) → 1 ≤ i → i ≤ length reference → take i reference ≡ take (i - 1) reference ++ instant_at reference i ∷ []
instants_to reference i from within =
    let next : i ≡ suc (i - 1) = omega (arith, from) in
    ap (λ n. take n reference) next ∙ take_next (i - 1) reference (instant_at reference i) (slice_get-get_or reference (i - 1) [] (omega (arith, from, within)))

pub instants_before : (reference : Trace) (i : ℕ) → 1 ≤ i → i ≤ length reference → length (take (i - 1) reference) ≡ i - 1
instants_before reference i from within = length-take-le (i - 1) reference (omega (arith, from, within))

module _ (plan : PlanView) (accepted : IsAccepted plan) (flows : List (List ℤ)) (fit : AreFlowsFor plan.kernel flows) (reference : Trace) (is : IsReference plan.kernel flows (length reference) reference)
    (i : ℕ) (from : 1 ≤ i) (within : i ≤ length reference) where
  abbrev past : Trace
  past = take (i - 1) reference

  abbrev now : Instant
  now = instant_at reference i

  -- the reference up to an instant
  pub reference_to : IsReference plan.kernel flows (suc (length past)) (past ++ now ∷ [])
  reference_to =
      let whole : IsReference plan.kernel flows (length reference) (take i reference ++ drop i reference) = subst (λ (t : Trace). IsReference plan.kernel flows (length reference) t) (sym (take-append-drop i reference)) is in
      let front : IsReference plan.kernel flows (length (take i reference)) (take i reference) = reference_front (fitting plan accepted flows fit) (length reference) (take i reference) (drop i reference) whole in
      let count : length (take i reference) ≡ suc (length past) = omega (arith, length-take-le i reference within, instants_before reference i from within, from) in
      subst (λ (t : Trace). IsReference plan.kernel flows (suc (length past)) t) (instants_to reference i from within) (subst (λ n. IsReference plan.kernel flows n (take i reference)) count front)

  pub next_at : IsNext plan.kernel (remembered past) (next_in plan.kernel flows past) now
  next_at = reference_last (fitting plan accepted flows fit) (suc (length past)) past now reference_to

-- each instant of a reference meets the equations, with some memories and next values
pub next_some : (plan : PlanView) → IsAccepted plan → (flows : List (List ℤ)) → AreFlowsFor plan.kernel flows → (reference : Trace) → IsReference plan.kernel flows (length reference) reference
    → (m : ℕ) (instant : Instant) → slice_get reference m ≡ Some instant → (memory : Memory) × (next : ℕ → ℤ) × IsNext plan.kernel memory next instant
next_some plan accepted flows fit reference is m instant at =
    let there = got reference m [] instant at in
    let same : suc m - 1 ≡ m = omega arith in
    let now : instant_at reference (suc m) ≡ instant = ap (λ n. get_or reference n []) same ∙ there.1 in (
      remembered (take (suc m - 1) reference),
      next_in plan.kernel flows (take (suc m - 1) reference),
      subst (λ (t : Instant). IsNext plan.kernel (remembered (take (suc m - 1) reference)) (next_in plan.kernel flows (take (suc m - 1) reference)) t) now
          (next_at plan accepted flows fit reference is (suc m) (omega arith) (omega (arith, there.0))),
    )
