-- An operation that is passed over, or comes to a value, has no fault.
use Rattle.sig_schedule_laws.proofs.Common.{compiled_operations, ◌≡◌, ◌<◌, ◌≤◌, ◌-◌, ◌*◌, ◌++◌, ◌⊎◌, inl, inr, ℕ, ℤ, Bool, true, false, List, [], ◌∷◌, length, map, get_or, take, refl, ap, sym, subst, ◌∙◌, arith, Contains, None, Option, Some, is_some, option_to_list, slice_get, append-nil, Instant, Seen, Trace, flow_of, seen_at, EqId, OpId, SigId, Place, test, gives_bounded, one_longer, function_of, remembered, AreFlowsFor, IsOutcome, compiled, Compiled, one_either, flow_more, next_in, at_most_or, form_in, have_map, none_where, same_operands, Actor, guard_holds, truths_of, Computes, HasFault, Meets, Faults, Gives, computed, computed_at, computed_by, computed_for, next_of, operand_in, outcome, outcome_by, IsActorOn, IsFaulty, instant_at, IsReference, divides_by_zero, has_64_bits, CodeView, Operation, operation_in, operations_in, signals_of, IsAccepted, PlanView, numbers_of, Step, Do, Cause, Exhausted, Limit, Overflow, ZeroDivisor, Op, OpKind, Compute, Read, written_below, IsSoundActor, get_map, got}
use Rattle.sig_schedule_laws.proofs.Amid.{next_now}
use Rattle.sig_schedule_laws.proofs.Done.{clock_is}
use Rattle.sig_schedule_laws.proofs.NextOnReference.{is_at, outcome_is, reads}
use Rattle.sig_schedule_laws.proofs.Inputs.{done_by, in_kernel}
use Rattle.sig_schedule_laws.proofs.Instants.{instants_to}
use Rattle.sig_schedule_laws.proofs.Steps.{op_done}

-- a fault at the place of a step is one that its operation meets
pub fault_here : (plan : PlanView) (accepted : IsAccepted plan) (flows : List (List ℤ)) (reference : Trace) (k : ℕ) (code : CodeView) (coded : slice_get plan.codes k ≡ Some code) (i s : ℕ) (step : Step) (o : OpId) (op : Op)
    → slice_get code.steps s ≡ Some step → step.kind ≡ Do o → slice_get plan.ops o.0 ≡ Some op → IsFaulty plan flows reference (record { instant = i; pos = step.pos })
    → (cause : Cause) × Meets (operation_in plan.store.nodes op) cause × HasFault plan.kernel flows (take (i - 1) reference) (instant_at reference i) cause
fault_here plan accepted flows reference k code coded i s step o op at_s kind at f =
    let found = op_done plan accepted k code coded s step o op at_s kind at in
    let position : step.pos ≡ 2 * found.1.j = found.0.position ∙ found.1.position in
    let other : step.pos ≡ 2 * f.at = ap (λ (p : Place). p.pos) f.is in
    let same : f.at ≡ found.1.j = omega (arith, position, other) in
    let e : Some f.meets.number ≡ Some o.0 = sym f.meets.ordered ∙ ap (slice_get (numbers_of plan.order)) same ∙ found.1.stands.place in
    let number : f.meets.number ≡ o.0 = cc in
    let g : Some f.meets.operation ≡ Some (operation_in plan.store.nodes op) = sym f.meets.is ∙ ap (slice_get (operations_in plan.store.nodes plan.ops)) number ∙ get_map (operation_in plan.store.nodes) plan.ops o.0 op at in
    let one : f.meets.operation ≡ operation_in plan.store.nodes op = cc in
    (f.cause, subst (λ (p : Operation). Meets p f.cause) one f.meets.meets, f.fault)

module _ (plan : PlanView) (accepted : IsAccepted plan) (flows : List (List ℤ)) (fit : AreFlowsFor plan.kernel flows) (reference : Trace) (is : IsReference plan.kernel flows (length reference) reference)
    (k : ℕ) (code : CodeView) (coded : slice_get plan.codes k ≡ Some code) (actor : Actor) (on : IsActorOn plan reference code actor) (step : Step) (at_s : slice_get code.steps actor.step ≡ Some step)
    (o : OpId) (op : Op) (kind : step.kind ≡ Do o) (at : slice_get plan.ops o.0 ≡ Some op) where
  abbrev c : Compiled plan.kernel plan.clocks.conditions (compiled_operations plan) (numbers_of plan.order)
  c = compiled plan accepted

  abbrev now : Instant
  now = instant_at reference actor.instant

  abbrev past : Trace
  past = take (actor.instant - 1) reference

  abbrev own : List Bool
  own = truths_of plan.clocks.conditions (seen_at now)

  abbrev p : Operation
  p = operation_in plan.store.nodes op

  at_p : slice_get (compiled_operations plan) o.0 ≡ Some p
  at_p = get_map (operation_in plan.store.nodes) plan.ops o.0 op at

  clock : (x : SigId) → x.0 < length plan.kernel.signals → is_some (seen_at now x.0) ≡ c.has.presence x own
  clock x lt = clock_is plan accepted (remembered past) (next_in plan.kernel flows past) now (next_now plan accepted flows fit reference is k code coded actor on step at_s) x lt

  -- the read of an input is done where the input is there
  read_is : (x : SigId) → op.kind ≡ Read x → test plan.store.nodes op.guard own ≡ is_some (seen_at now x.0)
  read_is x of =
      let either = (one_either plan.kernel c.has.presence p (in_kernel plan accepted o.0 p at_p)).0 x of in
      let lt : x.0 < length plan.kernel.signals = omega (arith, either.1, c.valid.parts.interface, c.valid.parts.declared) in
      ap (λ g. g own) either.2 ∙ sym (clock x lt)

  -- what computes is done where it gives a result
  compute_is : op.kind ≡ Compute → (e : EqId) → op.eq ≡ Some e → (d : Computes plan.kernel now e) → (op.writes ≡ Some d.target) × (op.reads ≡ signals_of d.operands) × (test plan.store.nodes op.guard own ≡ true)
  compute_is of e is_e d =
      let form = ap form_in d.is ∙ ap Some d.form in
      let either = (one_either plan.kernel c.has.presence p (in_kernel plan accepted o.0 p at_p)).1 e d.target d.function d.operands of is_e form in
      let lt = written_below plan.kernel c.valid plan.clocks.conditions (compiled_operations plan) c.has o.0 p at_p d.target either.0 in
      (either.0, either.2, ap (λ g. g own) either.1 ∙ sym (clock d.target lt) ∙ ap (λ (s : Seen). is_some s) d.gives)

  -- ---- an operation that is not done

  module _ (passed : guard_holds plan code (seen_at now) step ≡ false) (sound : IsSoundActor plan flows reference code actor) where
    undone : test plan.store.nodes op.guard own ≡ false
    undone = sym (done_by plan accepted k code coded actor.step step o op at_s kind at now) ∙ passed

    -- what was read so far is within the flow
    flow_within : (x : SigId) → op.kind ≡ Read x → length (flow_of x.0 past) ≤ length (get_or flows x.0 [])
    flow_within x of = elim (at_most_or (length (flow_of x.0 past)) (length (get_or flows x.0 []))) [
      | inl le ↦ le
      | inr more ↦ absurd (by (at_most_or actor.instant 1) more)
    ] where
      by : (actor.instant ≤ 1) ⊎ (1 < actor.instant) → length (get_or flows x.0 []) < length (flow_of x.0 past) → ⊥
      by (inl first) more =
          let zeroed : actor.instant - 1 ≡ 0 = omega (arith, first) in
          let none : length (flow_of x.0 past) ≡ 0 = ap (λ n. length (flow_of x.0 (take n reference))) zeroed in
          omega (arith, none, more)
      by (inr later) more =
          let i = actor.instant - 1 in
          let within = on.within in
          let found = op_done plan accepted k code coded actor.step step o op at_s kind at in
          let position : step.pos ≡ 2 * found.1.j = found.0.position ∙ found.1.position in
          let joined : flow_of x.0 (take (i - 1) reference ++ instant_at reference i ∷ []) ≡ flow_of x.0 past = ap (flow_of x.0) (sym (instants_to reference i (omega (arith, later)) (omega (arith, within)))) in
          let counted : length (flow_of x.0 (take (i - 1) reference ++ instant_at reference i ∷ [])) ≡ length (flow_of x.0 past) = ap (λ (vs : List ℤ). length vs) joined in
          sound i actor.step step o at_s kind (inl (omega (arith, later))) (record {
            from = omega (arith, later);
            within = omega (arith, within);
            cause = Exhausted x;
            at = found.1.j;
            meets = record { number = o.0; ordered = found.1.stands.place; operation = p; is = at_p; meets = of };
            is = λ t. record { instant = i; pos = position t };
            fault = omega (arith, more, counted);
          })

    pub passed_fault : (cause : Cause) → Meets p cause → HasFault plan.kernel flows past now cause → ⊥
    passed_fault (Exhausted x) of beyond =
        let none : seen_at now x.0 ≡ None = none_where (seen_at now x.0) (sym (read_is x of) ∙ undone) in
        let same : length (flow_of x.0 (past ++ now ∷ [])) ≡ length (flow_of x.0 past) =
        ap (λ (vs : List ℤ). length vs) (flow_more x.0 past now ∙ ap (λ s. flow_of x.0 past ++ option_to_list s) none ∙ append-nil (flow_of x.0 past)) in
        omega (arith, beyond, same, flow_within x of)
    passed_fault (Overflow e) meets fault = let clash : true ≡ false = sym (compute_is meets.0 e meets.1 fault.0).2 ∙ undone in cc
    passed_fault (ZeroDivisor e) meets fault = let clash : true ≡ false = sym (compute_is meets.0 e meets.1 fault.0).2 ∙ undone in cc
    passed_fault Limit meets fault = meets

  -- ---- an operation that comes to a value

  module _ (holds : guard_holds plan code (seen_at now) step ≡ true) (v : ℤ) (gives : outcome plan.kernel flows actor op ≡ Gives v) where
    by_kind : (kd : OpKind) → op.kind ≡ kd → outcome_by plan.kernel flows actor op kd ≡ Gives v
    by_kind kd of = ap (outcome_by plan.kernel flows actor op) (sym of) ∙ gives

    within_flow : (x : SigId) → op.kind ≡ Read x → actor.taken x.0 < length (get_or flows x.0 [])
    within_flow x of = by (slice_get (get_or flows x.0 []) (actor.taken x.0)) refl where
      by : (found : Option ℤ) → slice_get (get_or flows x.0 []) (actor.taken x.0) ≡ found → actor.taken x.0 < length (get_or flows x.0 [])
      by None none = absurd (let g : Faults (Exhausted x) ≡ Gives v = sym (ap (next_of x) none) ∙ by_kind (Read x) of in cc)
      by (Some w) some = (got (get_or flows x.0 []) (actor.taken x.0) w w some).0

    written : (x : SigId) → op.writes ≡ Some x → seen_at now x.0 ≡ Some v
    written = subst (IsOutcome plan.kernel flows past now p) gives (outcome_is plan accepted flows fit reference is k code coded actor on step at_s holds o op kind at)

    fine : (e : EqId) → op.kind ≡ Compute → op.eq ≡ Some e → (d : Computes plan.kernel now e) → (has_64_bits d.result ≡ true) × (divides_by_zero (function_of d.function) d.values ≡ false)
    fine e of is_e d =
        let is_done = compute_is of e is_e d in
        let known = reads plan accepted flows fit reference is k code coded actor on step at_s holds o op kind at in
        let values : d.values ≡ map (operand_in actor.registers) d.operands =
        have_map now d.operands d.values d.have ∙ same_operands (seen_at now) actor.registers d.operands (λ x inside. sym (known x (subst (λ (xs : List SigId). Contains xs x) (sym is_done.1) inside))) in
        let result : computed e (function_of d.function) (map (operand_in actor.registers) d.operands) ≡ Gives v =
        ap (computed_by actor.registers e) (sym d.form) ∙ ap (computed_at actor.registers e) (sym d.is) ∙ ap (computed_for plan.kernel actor.registers) (sym is_e) ∙ by_kind Compute of in
        let parts = gives_bounded e (function_of d.function) (map (operand_in actor.registers) d.operands) v result in
        let both : Some d.result ≡ Some v = sym d.gives ∙ written d.target is_done.0 in
        let same : d.result ≡ v = cc in
        (ap has_64_bits same ∙ parts.1, ap (divides_by_zero (function_of d.function)) values ∙ parts.0)

    pub done_fault : (cause : Cause) → Meets p cause → HasFault plan.kernel flows past now cause → ⊥
    done_fault (Exhausted x) of beyond = omega (arith, beyond, within_flow x of, (is_at plan accepted flows fit reference is k code coded actor on step at_s holds o op kind at).taken x of, one_longer past now x.0)
    done_fault (Overflow e) meets fault = let clash : true ≡ false = sym (fine e meets.0 meets.1 fault.0).0 ∙ fault.1 in cc
    done_fault (ZeroDivisor e) meets fault = let clash : true ≡ false = sym fault.1 ∙ (fine e meets.0 meets.1 fault.0).1 in cc
    done_fault Limit meets fault = meets
