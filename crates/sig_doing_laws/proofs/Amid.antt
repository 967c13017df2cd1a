-- An actor amid an instant knows the guard at its place, and has what the operation there reads.
use Rattle.sig_doing_laws.proofs.Common.{compiled_operations, compiled_order, ◌≡◌, ◌<◌, ◌≤◌, ◌+◌, ◌⊎◌, inl, inr, ℕ, ℤ, Bool, true, false, List, length, refl, ap, sym, subst, ◌∙◌, arith, Contains, Some, is_some, slice_get, slice_index, Instant, Trace, seen_at, SigId, test, AreAlike, IsAmid, IsWrittenBefore, StandsAt, StandsBefore, IsFaultAt, met_place, at_most_or, HasFault, Meets, Cause, remembered, AreFlowsFor, compiled, Compiled, condition_signal, own_written, truth_at, next_in, none_where, Actor, is_true, truths_of, Operation, operation_in, Needs, IsAccepted, PlanView, Op, OpKind, Read, Store, guards_alone, needed_earlier, read_earlier, slice_get_within, some_at}
use Rattle.sig_doing_laws.proofs.ReferenceInstant.{is_next, written_at, written_is_there}
use Rattle.sig_doing_laws.proofs.Places.{at_place}

-- actors that are alike are amid alike
pub amid_alike : (plan : PlanView) (flows : List (List ℤ)) (trace : Trace) (instant : Instant) (a b : Actor) → AreAlike a b → IsAmid plan flows trace instant b → IsAmid plan flows trace instant a
amid_alike plan flows trace instant a b alike amid = record {
  behind = amid.behind;
  next = amid.next;
  number = alike.instant ∙ amid.number;
  within = omega (arith, alike.step, amid.within);
  written = λ x w. alike.registers x.0 ∙ amid.written x (subst (λ n. IsWrittenBefore plan instant n x) alike.step w);
  unwritten = λ x none. alike.registers x.0 ∙ amid.unwritten x (λ w. none (subst (λ n. IsWrittenBefore plan instant n x) (sym alike.step) w));
  stored = λ e equation y x initial at form before. alike.memories y.0 ∙ amid.stored e equation y x initial at form (forth (Store e) before);
  kept = λ e equation y x initial at form none. alike.memories y.0 ∙ amid.kept e equation y x initial at form (λ before. none (back (Store e) before));
  read = λ x lt before. alike.taken x.0 ∙ amid.read x lt (forth (Read x) before);
  unread = λ x lt none. alike.taken x.0 ∙ amid.unread x lt (λ before. none (back (Read x) before));
  sound = λ place cause lt fault. amid.sound place cause (omega (arith, lt, alike.step)) fault;
} where
  forth : (kind : OpKind) → StandsBefore plan a.step kind → StandsBefore plan b.step kind
  forth kind before = subst (λ n. StandsBefore plan n kind) alike.step before

  back : (kind : OpKind) → StandsBefore plan b.step kind → StandsBefore plan a.step kind
  back kind before = subst (λ n. StandsBefore plan n kind) (sym alike.step) before

module _ (plan : PlanView) (accepted : IsAccepted plan) (flows : List (List ℤ)) (fit : AreFlowsFor plan.kernel flows) (trace : Trace) (instant : Instant)
    (actor : Actor) (amid : IsAmid plan flows trace instant actor) (op : Op) (stands : StandsAt plan actor.step op) where
  abbrev c : Compiled plan.kernel plan.clocks.conditions (compiled_operations plan) (compiled_order plan)
  c = compiled plan accepted

  abbrev next : ℕ → ℤ
  next = next_in plan.kernel flows trace

  abbrev own : List Bool
  own = truths_of plan.clocks.conditions (seen_at instant)

  abbrev q : Operation
  q = operation_in plan.store.nodes op

  pub here : (actor.step < length (compiled_order plan)) × (slice_get (compiled_operations plan) (slice_index (compiled_order plan) actor.step) ≡ Some q)
  here = at_place plan actor.step op stands

  pub place_within : actor.step < length (compiled_operations plan)
  place_within = omega (arith, here.0, c.ordered.all)

  -- a condition on which the guard depends is known
  condition_known : (x : SigId) → x.0 < length plan.kernel.signals → Needs plan.clocks.conditions q x → actor.registers x.0 ≡ seen_at instant x.0
  condition_known x lt needs = by (is_some (seen_at instant x.0)) refl where
    by : (b : Bool) → is_some (seen_at instant x.0) ≡ b → actor.registers x.0 ≡ seen_at instant x.0
    by true some =
        let w = own_written plan.kernel plan.clocks.conditions (compiled_operations plan) (compiled_order plan) c (remembered trace) next instant (is_next plan accepted flows fit trace instant amid.behind amid.next) x lt some in
        let e = needed_earlier plan.kernel c.valid plan.clocks.conditions (compiled_operations plan) c.has (compiled_order plan) c.ordered actor.step place_within q here.1 x needs w.0 w.1 w.2 w.3 in
        amid.written x (written_at plan accepted flows fit trace instant amid.behind amid.next e.0 w.1 x actor.step (omega (arith, e.1, here.0)) e.1 (ap (slice_get (compiled_operations plan)) e.2 ∙ w.2) w.3 w.4)
    by false none =
        amid.unwritten x (λ w. let clash : true ≡ false = sym (written_is_there plan accepted flows fit trace instant amid.behind amid.next actor.step x w) ∙ none in cc)
        ∙ sym (none_where (seen_at instant x.0) none)

  pub guard_known : test plan.store.nodes op.guard (truths_of plan.clocks.conditions actor.registers) ≡ test plan.store.nodes op.guard own
  guard_known = c.agree (slice_index (compiled_order plan) actor.step) q here.1 (truths_of plan.clocks.conditions actor.registers) own (λ v depends.
      let there = some_at plan.clocks.conditions v (guards_alone plan.kernel c.valid plan.clocks.conditions (compiled_operations plan) c.has (slice_index (compiled_order plan) actor.step) q here.1 v depends) in
      let needs : Needs plan.clocks.conditions q there.0 = record { variable = v; is = there.1; depends = depends } in
      let signal = condition_signal plan.kernel plan.clocks.conditions c.has.order v there.0 there.1 in
      let same = condition_known there.0 (slice_get_within plan.kernel.signals there.0.0 signal.0 signal.1) needs in
      truth_at plan.clocks.conditions actor.registers v there.0 there.1 ∙ ap is_true same ∙ sym (truth_at plan.clocks.conditions (seen_at instant) v there.0 there.1))

  -- what is read where the operation is done is there
  pub reads_known : test plan.store.nodes op.guard own ≡ true → (x : SigId) → Contains op.reads x → actor.registers x.0 ≡ seen_at instant x.0
  reads_known done x reads =
      let e = read_earlier plan.kernel c.valid plan.clocks.conditions (compiled_operations plan) c.has (compiled_order plan) c.ordered actor.step place_within q here.1 own done x reads in
      amid.written x (written_at plan accepted flows fit trace instant amid.behind amid.next e.0 e.1 x actor.step (omega (arith, e.2, here.0)) e.2 e.3 e.4 e.5)

  -- an operation that meets no fault leaves none before the next place
  pub sound_next : ((cause : Cause) → Meets q cause → HasFault plan.kernel flows trace instant cause → ⊥) → (place : ℕ) (cause : Cause) → place < actor.step + 1
      → IsFaultAt plan.kernel (compiled_operations plan) (compiled_order plan) flows trace instant place cause → ⊥
  sound_next none place cause lt fault = by (at_most_or actor.step place) where
    by : (actor.step ≤ place) ⊎ (place < actor.step) → ⊥
    by (inl le) =
        let same : place ≡ actor.step = omega (arith, le, lt) in
        let there = met_place (compiled_operations plan) (compiled_order plan) place cause fault.met in
        let one : Some q ≡ Some fault.met.operation = sym here.1 ∙ ap (λ k. slice_get (compiled_operations plan) (slice_index (compiled_order plan) k)) (sym same) ∙ there.1 in
        let is_q : fault.met.operation ≡ q = cc in
        none cause (subst (λ (p : Operation). Meets p cause) is_q fault.met.meets) fault.fault
    by (inr before) = amid.sound place cause before fault
