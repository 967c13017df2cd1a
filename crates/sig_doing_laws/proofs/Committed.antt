-- What is committed is a reference, goes on, begins the longest trace, and is it at the limit.
use Rattle.sig_doing_laws.proofs.Common.{◌≡◌, ◌≤◌, ◌+◌, ◌++◌, inl, ℕ, suc, ℤ, List, [], ◌∷◌, length, ap, sym, subst, ◌∙◌, arith, None, Instant, IsLongest, IsPrefixOf, Trace, reduced, IsCommitted, IsKernelTrace, remembered, AreFlowsFor, Kernel, fitting, next_in, IsClean, clean, cut_longest, memory_values, next_values, reference_more, IsEnd, IsReference, IsAccepted, PlanView, Limit, Ended}

-- within the limit, it begins the longest trace
pub begins_longest : (kernel : Kernel) (flows : List (List ℤ)) (limit : ℕ) (trace longest : Trace) → IsCommitted kernel flows trace → length trace ≤ limit
    → IsLongest (IsKernelTrace kernel) flows limit longest → IsPrefixOf trace longest
begins_longest kernel flows limit trace longest is le whole =
    let same = reduced trace is.speaks in
    subst (λ t. IsPrefixOf t longest) same (whole.longest trace is.is is.fits (omega (arith, le, ap length same)))

module _ (plan : PlanView) (accepted : IsAccepted plan) (flows : List (List ℤ)) (fit : AreFlowsFor plan.kernel flows) (trace : Trace) (is : IsCommitted plan.kernel flows trace) where
  pub committed_clean : IsClean plan.kernel flows (length trace) trace
  committed_clean = clean (fitting plan accepted flows fit) trace is.is is.fits is.speaks

  pub next_instant : (instant : Instant) × IsReference plan.kernel flows (length trace + 1) (trace ++ instant ∷ [])
  next_instant =
      let f = fitting plan accepted flows fit in
      let next = f.one.some (remembered trace) (next_in plan.kernel flows trace) (memory_values plan.kernel trace f.valid committed_clean.reference.is) (next_values plan.kernel flows trace f.fit) in
      let same : suc (length trace) ≡ length trace + 1 = omega arith in
      (next.0, subst (λ n. IsReference plan.kernel flows n (trace ++ next.0 ∷ [])) same (reference_more f (length trace) trace next.0 committed_clean.reference next.1))

  pub limit_end : (limit : ℕ) → length trace ≡ limit → (ended : Ended) → ended.instants ≡ limit → ended.cause ≡ Limit → IsEnd plan flows limit trace None ended
  limit_end limit at ended many named = record {
    longest = cut_longest (fitting plan accepted flows fit) limit trace (committed_clean, inl at);
    instants = many ∙ sym at;
    cause = (at, named);
  }
