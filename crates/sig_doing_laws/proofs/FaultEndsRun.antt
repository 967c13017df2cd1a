-- An operation that is done and comes to a fault ends a run.
use Rattle.sig_doing_laws.proofs.Common.{compiled_operations, compiled_order, ◌≡◌, ◌<◌, ◌+◌, inl, inr, ℕ, ℤ, true, List, length, sym, subst, Some, Instant, Trace, test, IsAmid, StandsAt, AreFlowsFor, StopsBefore, IsFaultAt, IsFirstFault, IsOutcome, compiled, meets_at, fitting, cut_longest, first_cause, at_most_or, flow_count, bounds_without_faults, Actor, truths_of, HasFault, IsEnd, IsNamedCause, Meets, place_at, Faults, outcome, operation_in, IsAccepted, PlanView, Cause, Ended, Op}
use Rattle.sig_doing_laws.proofs.Amid.{here}
use Rattle.sig_doing_laws.proofs.Committed.{committed_clean}
use Rattle.sig_doing_laws.proofs.ReferenceInstant.{goes_on}
use Rattle.sig_doing_laws.proofs.Operated.{outcome_is}

module _ (plan : PlanView) (accepted : IsAccepted plan) (flows : List (List ℤ)) (fit : AreFlowsFor plan.kernel flows) (trace : Trace) (instant : Instant)
    (actor : Actor) (amid : IsAmid plan flows trace instant actor) (op : Op) (stands : StandsAt plan actor.step op)
    (ready : test plan.store.nodes op.guard (truths_of plan.clocks.conditions actor.registers) ≡ true) (cause : Cause) (fails : outcome plan.kernel flows actor op ≡ Faults cause) where
  met : Meets (operation_in plan.store.nodes op) cause × HasFault plan.kernel flows trace instant cause
  met = subst (IsOutcome plan.kernel flows trace instant (operation_in plan.store.nodes op)) fails (outcome_is plan accepted flows fit trace instant actor amid op stands ready)

  fault : IsFaultAt plan.kernel (compiled_operations plan) (compiled_order plan) flows trace instant actor.step cause
  fault =
      let there = here plan accepted flows fit trace instant actor amid op stands in
      record { met = meets_at (compiled_operations plan) (compiled_order plan) actor.step (operation_in plan.store.nodes op) cause there.0 there.1 met.0; fault = met.1 }

  first : IsFirstFault plan.kernel (compiled_operations plan) (compiled_order plan) flows trace instant actor.step cause
  first = record {
    is = fault;
    first = λ other another also. elim (at_most_or actor.step other) [ inl le ↦ le | inr lt ↦ absurd (amid.sound other another lt also) ];
  }

  stops : StopsBefore plan.kernel flows trace instant
  stops = record {
    next = amid.next;
    beyond = λ within. bounds_without_faults plan.kernel plan.clocks.conditions (compiled_operations plan) (compiled_order plan) (compiled plan accepted) flows (flow_count (fitting plan accepted flows fit)) trace instant within actor.step cause fault;
  }

  pub fault_end : (limit : ℕ) → length trace < limit → (ended : Ended) → ended.instants ≡ length trace → ended.cause ≡ cause → IsEnd plan flows limit trace (Some (place_at (length trace + 1) actor.step)) ended
  fault_end limit lt ended many named =
      let f = fitting plan accepted flows fit in
      let clean = committed_clean plan accepted flows fit trace amid.behind in
      record {
        longest = cut_longest f limit trace (clean, inr (lt, instant, stops));
        instants = many;
        cause = subst (λ (why : Cause). IsNamedCause plan.kernel (compiled_operations plan) (compiled_order plan) flows limit trace why (Some (place_at (length trace + 1) actor.step))) (sym named)
            (lt, first_cause plan.kernel plan.clocks.conditions (compiled_operations plan) (compiled_order plan) (compiled plan accepted) flows f trace clean instant (goes_on plan accepted flows fit trace instant amid.behind amid.next) actor.step cause first);
      }
