-- The end of a run of an accepted plan.
use Rattle.sig_meaning_laws.proofs.Common.{◌≡◌, ◌<◌, ◌+◌, ◌++◌, ◌⊎◌, inl, inr, ℕ, suc, ℤ, List, [], ◌∷◌, length, refl, subst, arith, None, Option, Some, Instant, Trace, Place, AreFlowsFor, StopsBefore, IsEnd, place_at, IsReference, operations_in, IsAccepted, PlanView, numbers_of, Limit, Ended}
use Rattle.sig_meaning_laws.proofs.Accepted.{compiled}
use Rattle.sig_meaning_laws.proofs.NamedCause.{first_fault}
use Rattle.sig_meaning_laws.proofs.Longest.{IsClean, cut_longest, some_cut}
use Rattle.sig_meaning_laws.proofs.FirstFaultIsNamed.{first_cause}
use Rattle.sig_meaning_laws.proofs.WrittenInstant.{one_reaction}
use Rattle.sig_meaning_laws.proofs.References.{Fitting}

pub fitting : (plan : PlanView) → IsAccepted plan → (flows : List (List ℤ)) → AreFlowsFor plan.kernel flows → Fitting plan.kernel flows
fitting plan accepted flows fit = record {
  valid = accepted.valid;
  fit = fit;
  one = one_reaction plan.kernel plan.clocks.conditions (operations_in plan.store.nodes plan.ops) (numbers_of plan.order) (compiled plan accepted);
}

pub some_end : (plan : PlanView) → IsAccepted plan → (flows : List (List ℤ)) → AreFlowsFor plan.kernel flows → (limit : ℕ)
    → (trace : Trace) × (place : Option Place) × (ended : Ended) × IsEnd plan flows limit trace place ended
some_end plan accepted flows fit limit = by cut.0 cut.1.0 cut.1.1 where
  f : Fitting plan.kernel flows
  f = fitting plan accepted flows fit

  cut : (trace : Trace) × (IsClean plan.kernel flows (length trace) trace × ((length trace ≡ limit) ⊎ ((length trace < limit) × (instant : Instant) × StopsBefore plan.kernel flows trace instant)))
  cut = some_cut f limit

  by : (trace : Trace) → IsClean plan.kernel flows (length trace) trace → ((length trace ≡ limit) ⊎ ((length trace < limit) × (instant : Instant) × StopsBefore plan.kernel flows trace instant))
      → (trace : Trace) × (place : Option Place) × (ended : Ended) × IsEnd plan flows limit trace place ended
  by trace clean (inl at) = (
    trace,
    None,
    record { instants = length trace; cause = Limit },
    record {
      longest = cut_longest f limit trace (clean, inl at);
      instants = refl;
      cause = (at, refl);
    },
  )
  by trace clean (inr stops) =
      let next : IsReference plan.kernel flows (suc (length trace)) (trace ++ stops.1 ∷ []) = subst (λ n. IsReference plan.kernel flows n (trace ++ stops.1 ∷ [])) (omega arith) stops.2.next in
      let c = compiled plan accepted in
      let first = first_fault plan.kernel plan.clocks.conditions (operations_in plan.store.nodes plan.ops) (numbers_of plan.order) c flows f trace clean stops.1 next stops.2.beyond in (
        trace,
        Some (place_at (length trace + 1) first.0),
        record { instants = length trace; cause = first.1 },
        record {
          longest = cut_longest f limit trace (clean, inr (stops.0, stops.1, stops.2));
          instants = refl;
          cause = (stops.0, first_cause plan.kernel plan.clocks.conditions (operations_in plan.store.nodes plan.ops) (numbers_of plan.order) c flows f trace clean stops.1 next first.0 first.1 first.2);
        },
      )
