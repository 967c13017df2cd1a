-- The longest trace begins the reference, which has no fault there, and its first fault right behind.
use Rattle.sig_schedule_laws.proofs.Common.{compiled_operations, compiled_order, ◌≡◌, ◌<◌, ◌≤◌, ◌-◌, ◌+◌, ◌*◌, ◌++◌, inl, inr, ℕ, ℤ, List, [], ◌∷◌, length, take, drop, refl, ap, sym, subst, ◌∙◌, arith, append_assoc, length-append, same_from_push, take-append-drop, take-append-le, take_at, Instant, IsLongest, IsPrefixOf, Trace, Place, IsKernelTrace, AreFlowsFor, StopsBefore, IsFirstFault, compiled, fitting, IsClean, clean, longest_cut, at_most_or, Fitting, flow_count, reference_begins, bounds_without_faults, HasFault, place_at, IsFaulty, instant_at, IsReference, IsAccepted, PlanView, Cause}
use Rattle.sig_schedule_laws.proofs.Instants.{instants_to}
use Rattle.sig_schedule_laws.proofs.Words.{NotAfter}

module _ (plan : PlanView) (accepted : IsAccepted plan) (flows : List (List ℤ)) (fit : AreFlowsFor plan.kernel flows) (reference : Trace) (is : IsReference plan.kernel flows (length reference) reference)
    (limit : ℕ) (long : limit + 1 ≤ length reference) (trace : Trace) (longest : IsLongest (IsKernelTrace plan.kernel) flows limit trace) where
  abbrev f : Fitting plan.kernel flows
  f = fitting plan accepted flows fit

  pub is_clean : IsClean plan.kernel flows (length trace) trace
  is_clean = clean f trace longest.is longest.fits longest.speaks

  begins : IsPrefixOf trace reference
  begins = let within = longest.within in reference_begins f (length trace) (length reference) trace reference (omega (arith, within, long)) is_clean.reference is

  pub front_is : (i : ℕ) → i ≤ length trace → take i reference ≡ take i trace
  front_is i le = ap (take i) begins.1 ∙ take-append-le i trace begins.0 le

  pub trace_is : take (length trace) reference ≡ trace
  trace_is = ap (take (length trace)) begins.1 ∙ take_at trace begins.0 (length trace) refl

  -- the reference has no fault in the instants of the longest trace
  pub none_before : (q : Place) → IsFaulty plan flows reference q → q.instant ≤ length trace → ⊥
  none_before q faulty le =
      let i = q.instant in
      let past : Trace = take (i - 1) reference in
      let now : Instant = instant_at reference i in
      let split : trace ≡ past ++ now ∷ drop i trace =
      sym (take-append-drop i trace) ∙ ap (λ (t : Trace). t ++ drop i trace) (sym (front_is i le) ∙ instants_to reference i faulty.from faulty.within) ∙ append_assoc past (now ∷ []) (drop i trace) in
      bounds_without_faults plan.kernel plan.clocks.conditions (compiled_operations plan) (compiled_order plan) (compiled plan accepted) flows (flow_count f) past now ((longest_cut f limit trace longest).within past now (drop i trace) split)
      faulty.at faulty.cause (record { met = faulty.meets; fault = faulty.fault })

  -- the instant behind the longest trace, and its first fault
  module _ (short : length trace < limit) (instant : Instant) (k : ℕ) (cause : Cause) (stops : StopsBefore plan.kernel flows trace instant) (first : IsFirstFault plan.kernel (compiled_operations plan) (compiled_order plan) flows trace instant k cause) where
    abbrev n : ℕ
    n = length trace + 1

    from : 1 ≤ n
    from = omega arith

    within : n ≤ length reference
    within = omega (arith, short, long)

    here : (take (n - 1) reference ≡ trace) × (instant_at reference n ≡ instant)
    here =
        let more : IsPrefixOf (trace ++ instant ∷ []) reference = reference_begins f n (length reference) (trace ++ instant ∷ []) reference within stops.next is in
        let front : take n reference ≡ trace ++ instant ∷ [] = ap (take n) more.1 ∙ take_at (trace ++ instant ∷ []) more.0 n (length-append trace (instant ∷ [])) in
        same_from_push (take (n - 1) reference) trace (instant_at reference n) instant (sym (instants_to reference n from within) ∙ front)

    pub fault_there : HasFault plan.kernel flows (take (n - 1) reference) (instant_at reference n) cause
    fault_there = subst (λ (t : Trace). HasFault plan.kernel flows t (instant_at reference n) cause) (sym here.0) (subst (λ (z : Instant). HasFault plan.kernel flows trace z cause) (sym here.1) first.is.fault)

    pub first_faulty : IsFaulty plan flows reference (place_at n k)
    first_faulty = record {
      from = from;
      within = within;
      cause = cause;
      at = k;
      meets = first.is.met;
      is = refl;
      fault = fault_there;
    }

    -- a fault that has another cause at the same instant
    pub of_trace : (other : Cause) → HasFault plan.kernel flows (take (n - 1) reference) (instant_at reference n) other → HasFault plan.kernel flows trace instant other
    of_trace other fault = subst (λ (z : Instant). HasFault plan.kernel flows trace z other) here.1 (subst (λ (t : Trace). HasFault plan.kernel flows t (instant_at reference n) other) here.0 fault)

    -- no fault is before it
    pub least_faulty : (q : Place) → IsFaulty plan flows reference q → NotAfter (place_at n k) q
    least_faulty q faulty = elim (at_most_or q.instant (length trace)) [
      | inl le ↦ absurd (none_before q faulty le)
      | inr gt ↦ elim (at_most_or q.instant n) [
        | inr later ↦ inl later
        | inl le ↦
            let same : q.instant ≡ n = omega (arith, gt, le) in
            let fault : HasFault plan.kernel flows trace instant faulty.cause =
            of_trace faulty.cause (subst (λ m. HasFault plan.kernel flows (take (m - 1) reference) (instant_at reference m) faulty.cause) same faulty.fault) in
            let at_least = first.first faulty.at faulty.cause (record { met = faulty.meets; fault = fault }) in
            let position : q.pos ≡ 2 * faulty.at = ap (λ (p : Place). p.pos) faulty.is in
            inr (sym same, omega (arith, at_least, position))
      ]
    ]
