-- An actor amid an instant knows the guards of the operations before its place and at it.
use Rattle.sig_machine.proofs.Common.{◌≡◌, ◌<◌, ◌≤◌, ◌∙◌, ℕ, ℤ, Bool, true, false, List, length, slice_get, Some, refl, ap, sym, arith, is_some, Actor, AreFlowsFor, Instant, IsAccepted, IsAmid, Op, Operation, PlanView, SigId, StandsAt, Trace, compiled, condition_signal, get_within, is_next, is_true, numbers_of, operation_in, operations_in, seen_at, test, truths_of}
use Rattle.sig_doing_laws.proofs.Common.{slice_index, Needs, guards_alone, needed_earlier, none_where, own_written, some_at, truth_at}
use Rattle.sig_doing_laws.proofs.ReferenceInstant.{written_at, written_is_there}
use Rattle.sig_doing_laws.proofs.Places.{at_place}

module _ (plan : PlanView) (accepted : IsAccepted plan) (flows : List (List ℤ)) (fit : AreFlowsFor plan.kernel flows) (trace : Trace) (instant : Instant)
    (actor : Actor) (amid : IsAmid plan flows trace instant actor) (place : ℕ) (op : Op) (stands : StandsAt plan place op) (before : place ≤ actor.step) where
  abbrev conditions : List SigId
  conditions = plan.clocks.conditions

  abbrev operations : List Operation
  operations = operations_in plan.store.nodes plan.ops

  abbrev order : List ℕ
  order = numbers_of plan.order

  abbrev q : Operation
  q = operation_in plan.store.nodes op

  there : (place < length order) × (slice_get operations (slice_index order place) ≡ Some q)
  there = at_place plan place op stands

  condition_known : (x : SigId) → x.0 < length plan.kernel.signals → Needs conditions q x → actor.registers x.0 ≡ seen_at instant x.0
  condition_known x lt needs = by (is_some (seen_at instant x.0)) refl where
    by : (b : Bool) → is_some (seen_at instant x.0) ≡ b → actor.registers x.0 ≡ seen_at instant x.0
    by true some =
        let c = compiled plan accepted in
        let w = own_written plan.kernel conditions operations order c _ _ instant (is_next plan accepted flows fit trace instant amid.behind amid.next) x lt some in
        let e = needed_earlier plan.kernel c.valid conditions operations c.has order c.ordered place (let all = c.ordered.all in let here = there.0 in omega (arith, here, all)) q there.1 x needs w.0 w.1 w.2 w.3 in
        amid.written x
        (written_at plan accepted flows fit trace instant amid.behind amid.next e.0 w.1 x actor.step (let here = there.0 in omega (arith, e.1, here)) (omega (arith, e.1, before))
        (ap (slice_get operations) e.2 ∙ w.2) w.3 w.4)
    by false none =
        amid.unwritten x (λ w. let clash : true ≡ false = sym (written_is_there plan accepted flows fit trace instant amid.behind amid.next actor.step x w) ∙ none in cc)
        ∙ sym (none_where (seen_at instant x.0) none)

  pub guard_stays : test plan.store.nodes op.guard (truths_of conditions actor.registers) ≡ test plan.store.nodes op.guard (truths_of conditions (seen_at instant))
  guard_stays =
      let c = compiled plan accepted in
      c.agree (slice_index order place) q there.1 (truths_of conditions actor.registers) (truths_of conditions (seen_at instant)) (λ v depends.
      let found = some_at conditions v (guards_alone plan.kernel c.valid conditions operations c.has (slice_index order place) q there.1 v depends) in
      let needs : Needs conditions q found.0 = record { variable = v; is = found.1; depends = depends } in
      let signal = condition_signal plan.kernel conditions c.has.order v found.0 found.1 in
      let same = condition_known found.0 (get_within plan.kernel.signals found.0.0 signal.0 signal.1) needs in
      truth_at conditions actor.registers v found.0 found.1 ∙ ap is_true same ∙ sym (truth_at conditions (seen_at instant) v found.0 found.1))
