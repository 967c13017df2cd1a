-- An operation that is not done meets no fault, and leaves an actor amid the instant.
use Rattle.sig_doing_laws.proofs.Common.{◌≡◌, ◌<◌, ◌++◌, ◌⊎◌, inl, inr, ℕ, ℤ, Bool, true, false, List, [], ◌∷◌, length, get_or, ap, sym, ◌∙◌, arith, None, Some, slice_get, option_to_list, append-nil, Instant, Trace, flow_of, seen_at, EqId, SigId, prefix_length, test, IsAmid, stepped, IsDone, IsWrittenBefore, StandsAt, StandsBefore, remembered, AreFlowsFor, Equation, Delay, fitting, flow_more, Decided, flow_count, none_where, Actor, truths_of, HasFault, Meets, operation_in, IsAccepted, PlanView, numbers_of, Cause, Exhausted, Limit, Overflow, ZeroDivisor, Op, Read, Store}
use Rattle.sig_doing_laws.proofs.Amid.{guard_known, here, sound_next}
use Rattle.sig_doing_laws.proofs.ReferenceInstant.{compute_is, read_is, remembered_absent, store_is, delayed_below}
use Rattle.sig_doing_laws.proofs.Places.{decide_before, decide_read, decide_store, places, stands_before_or_here, stands_later, written_before_or_here, written_later}

pub flow_absent : (trace : Trace) (instant : Instant) (x : ℕ) → seen_at instant x ≡ None → flow_of x (trace ++ instant ∷ []) ≡ flow_of x trace
flow_absent trace instant x none = flow_more x trace instant ∙ ap (λ s. flow_of x trace ++ option_to_list s) none ∙ append-nil (flow_of x trace)

module _ (plan : PlanView) (accepted : IsAccepted plan) (flows : List (List ℤ)) (fit : AreFlowsFor plan.kernel flows) (trace : Trace) (instant : Instant)
    (actor : Actor) (amid : IsAmid plan flows trace instant actor) (op : Op) (stands : StandsAt plan actor.step op)
    (passed : test plan.store.nodes op.guard (truths_of plan.clocks.conditions actor.registers) ≡ false) where
  abbrev own : List Bool
  own = truths_of plan.clocks.conditions (seen_at instant)

  undone : test plan.store.nodes op.guard own ≡ false
  undone = sym (guard_known plan accepted flows fit trace instant actor amid op stands) ∙ passed

  not_done : IsDone plan instant op → ⊥
  not_done done = let clash : true ≡ false = sym done ∙ undone in cc

  unread_signal : (x : SigId) → op.kind ≡ Read x → seen_at instant x.0 ≡ None
  unread_signal x kind = none_where (seen_at instant x.0) (sym (read_is plan accepted flows fit trace instant amid.behind amid.next actor.step op stands x kind).2 ∙ undone)

  no_fault : (cause : Cause) → Meets (operation_in plan.store.nodes op) cause → HasFault plan.kernel flows trace instant cause → ⊥
  no_fault (Exhausted x) kind past =
      let is = read_is plan accepted flows fit trace instant amid.behind amid.next actor.step op stands x kind in
      let same = flow_absent trace instant x.0 (unread_signal x kind) in
      let few = prefix_length (flow_of x.0 trace) (get_or flows x.0 []) (amid.behind.fits x.0 (omega (arith, is.1, flow_count (fitting plan accepted flows fit)))) in
      omega (arith, past, few, ap length same)
  no_fault (Overflow e) meets fault = not_done (compute_is plan accepted flows fit trace instant amid.behind amid.next actor.step op stands meets.0 e meets.1 fault.0).2
  no_fault (ZeroDivisor e) meets fault = not_done (compute_is plan accepted flows fit trace instant amid.behind amid.next actor.step op stands meets.0 e meets.1 fault.0).2
  no_fault Limit meets fault = meets

  place_before : actor.step < length (numbers_of plan.order)
  place_before = (here plan accepted flows fit trace instant actor amid op stands).0

  pub passed_over : IsAmid plan flows trace instant (stepped actor)
  passed_over = record {
    behind = amid.behind;
    next = amid.next;
    number = amid.number;
    within = omega (arith, place_before, places plan);
    written = λ x w. written x (written_before_or_here plan instant actor.step op stands x w);
    unwritten = λ x none. amid.unwritten x (λ w. none (written_later plan instant actor.step x w));
    stored = λ e equation y x initial at form before. stored e equation y x initial at form (stands_before_or_here plan actor.step op stands (Store e) before);
    kept = λ e equation y x initial at form none. amid.kept e equation y x initial at form (λ before. none (stands_later plan actor.step (Store e) before));
    read = λ x lt before. read x lt (stands_before_or_here plan actor.step op stands (Read x) before);
    unread = λ x lt none. amid.unread x lt (λ before. none (stands_later plan actor.step (Read x) before));
    sound = sound_next plan accepted flows fit trace instant actor amid op stands no_fault;
  } where
    written : (x : SigId) → IsWrittenBefore plan instant actor.step x ⊎ ((op.writes ≡ Some x) × IsDone plan instant op) → actor.registers x.0 ≡ seen_at instant x.0
    written x (inl before) = amid.written x before
    written x (inr now) = absurd (not_done now.1)

    stored : (e : EqId) (equation : Equation) (y x : SigId) (initial : ℤ) → slice_get plan.kernel.equations e.0 ≡ Some equation → equation.form ≡ Delay y x initial
        → StandsBefore plan actor.step (Store e) ⊎ (op.kind ≡ Store e) → actor.memories y.0 ≡ remembered (trace ++ instant ∷ []) y.0 x.0 initial
    stored e equation y x initial at form (inl before) = amid.stored e equation y x initial at form before
    stored e equation y x initial at form (inr kind) = by (decide_before plan accepted (Store e) (decide_store e) actor.step (omega (arith, place_before))) where
      absent : seen_at instant x.0 ≡ None
      absent = none_where (seen_at instant x.0) (sym (store_is plan accepted flows fit trace instant amid.behind amid.next actor.step op stands e kind equation y x initial at form (delayed_below plan.kernel accepted.valid e.0 equation y x initial at form)) ∙ undone)

      by : Decided (StandsBefore plan actor.step (Store e)) → actor.memories y.0 ≡ remembered (trace ++ instant ∷ []) y.0 x.0 initial
      by (inl before) = amid.stored e equation y x initial at form before
      by (inr none) = amid.kept e equation y x initial at form none ∙ sym (remembered_absent trace instant y x initial absent)

    read : (x : SigId) → x.0 < plan.kernel.inputs → StandsBefore plan actor.step (Read x) ⊎ (op.kind ≡ Read x) → actor.taken x.0 ≡ length (flow_of x.0 (trace ++ instant ∷ []))
    read x lt (inl before) = amid.read x lt before
    read x lt (inr kind) = by (decide_before plan accepted (Read x) (decide_read x) actor.step (omega (arith, place_before))) where
      by : Decided (StandsBefore plan actor.step (Read x)) → actor.taken x.0 ≡ length (flow_of x.0 (trace ++ instant ∷ []))
      by (inl before) = amid.read x lt before
      by (inr none) = amid.unread x lt none ∙ sym (ap length (flow_absent trace instant x.0 (unread_signal x kind)))
