-- An actor on the reference knows the guard of its next step, and has what the step needs.
use Rattle.sig_schedule_laws.proofs.Common.{◌≡◌, ◌-◌, inl, inr, ℕ, ℤ, Bool, true, false, cond, List, length, take, refl, ap, sym, ◌∙◌, Contains, None, Option, Some, is_some, option_and_then, slice_get, ◌&&◌, and_from, eq-eqb, Instant, Seen, Trace, seen_at, OpId, SigId, abstraction_of, is_present, depends_agree, Depends, test, Memory, remembered, AreFlowsFor, IsNext, truth_at, next_in, none_where, Actor, guard_holds, is_true, slot_holds, truths_of, IsActorOn, fills, instant_at, is_filled, names, target_of_op, IsReference, CodeView, of_slot, HasBefore, HasGuard, IsOutput, IsAccepted, PlanView, Step, Do, Send, Commit, Op, LinkInfo, step_has_conditions, step_has_outputs, step_has_reads, step_has_sent, guard_alone, guard_held, some_at, any_passes_from_place, get_taken}
use Rattle.sig_clock.specs.Reactions.{Reaction}
use Rattle.sig_plan.specs.Holding.{Gives}
use Rattle.sig_schedule_laws.proofs.Done.{keeps, present_is, speaks}
use Rattle.sig_schedule_laws.proofs.Instants.{next_at}
use Rattle.sig_schedule_laws.proofs.Steps.{DoesStep, step_does}

when_absent : (b : Bool) (s : Seen) → s ≡ None → (let kept : Seen = cond b s None in kept) ≡ s
when_absent true s none = refl
when_absent false s none = sym none

module _ (plan : PlanView) (accepted : IsAccepted plan) (flows : List (List ℤ)) (fit : AreFlowsFor plan.kernel flows) (reference : Trace) (is : IsReference plan.kernel flows (length reference) reference)
    (k : ℕ) (code : CodeView) (coded : slice_get plan.codes k ≡ Some code) (actor : Actor) (on : IsActorOn plan reference code actor) (step : Step) (at_s : slice_get code.steps actor.step ≡ Some step) where
  abbrev now : Instant
  now = instant_at reference actor.instant

  abbrev past : Trace
  past = take (actor.instant - 1) reference

  abbrev memory : Memory
  memory = remembered past

  abbrev next : ℕ → ℤ
  next = next_in plan.kernel flows past

  abbrev own : List Bool
  own = truths_of plan.clocks.conditions (seen_at now)

  abbrev left_of : Reaction
  left_of = abstraction_of plan.kernel.signals now

  pub next_now : IsNext plan.kernel memory next now
  next_now = next_at plan accepted flows fit reference is actor.instant on.from on.within

  filling : (x : SigId) (other : Step) → Gives plan x other → fills plan other.kind ≡ Some x
  filling x other (inl (number, op, at, writes, kind)) = ap (fills plan) kind ∙ ap target_of_op at ∙ writes
  filling x other (inr (link, info, at, carries, kind)) = ap (fills plan) kind ∙ ap (λ (o : Option LinkInfo). option_and_then (λ (l : LinkInfo). l.signal) o) at ∙ carries

  -- what an earlier step has written or received is there
  filled : (x : SigId) → HasBefore plan code own actor.step x → actor.registers x.0 ≡ seen_at now x.0
  filled x before =
      let holds : guard_holds plan code (seen_at now) before.step ≡ true = ap (slot_holds plan.store.nodes own) before.guarded.has ∙ before.holds in
      let named : names x.0 (fills plan before.step.kind) ≡ true = ap (names x.0) (filling x before.step before.gives) ∙ eq-eqb x.0 x.0 refl in
      let some : is_filled plan code now (take actor.step code.steps) x.0 ≡ true =
      any_passes_from_place (λ other. guard_holds plan code (seen_at now) other && names x.0 (fills plan other.kind)) (take actor.step code.steps) before.place before.step (get_taken actor.step code.steps before.place before.step before.before before.is)
      (and_from (guard_holds plan code (seen_at now) before.step) (names x.0 (fills plan before.step.kind)) holds named) in
      on.registers x.0 ∙ ap (λ b. cond b (seen_at now x.0) None) some

  absent : (x : SigId) → seen_at now x.0 ≡ None → actor.registers x.0 ≡ seen_at now x.0
  absent x none = on.registers x.0 ∙ when_absent (is_filled plan code now (take actor.step code.steps) x.0) (seen_at now x.0) none

  -- a signal is known where it is absent, or where an earlier step gives it
  known : (x : SigId) → (is_present left_of x.0 ≡ true → HasBefore plan code own actor.step x) → actor.registers x.0 ≡ seen_at now x.0
  known x given = by (is_some (seen_at now x.0)) refl where
    by : (b : Bool) → is_some (seen_at now x.0) ≡ b → actor.registers x.0 ≡ seen_at now x.0
    by true some = filled x (given (present_is plan accepted memory next now next_now x.0 ∙ some))
    by false none = absent x (none_where (seen_at now x.0) none)

  abbrev d : DoesStep plan accepted k code coded actor.step step
  d = step_does plan accepted k code coded actor.step step at_s

  guarded : HasGuard code step d.slot
  guarded = record { has = d.has }

  condition_known : (v : ℕ) (x : SigId) → slice_get plan.clocks.conditions v ≡ Some x → Depends (test plan.store.nodes d.slot.guard) v → actor.registers x.0 ≡ seen_at now x.0
  condition_known v x at depends = known x (λ present.
      step_has_conditions plan accepted own left_of (speaks plan accepted memory next now next_now) (keeps plan accepted memory next now next_now) k code coded actor.step step d.slot at_s guarded v x at present depends)

  pub guard_known : guard_holds plan code actor.registers step ≡ guard_holds plan code (seen_at now) step
  guard_known =
      ap (slot_holds plan.store.nodes (truths_of plan.clocks.conditions actor.registers)) d.has
      ∙ depends_agree plan.store accepted.store d.slot.guard (guard_held plan accepted d.slot.guard (of_slot k step.slot code d.slot coded d.has)) (truths_of plan.clocks.conditions actor.registers) own (λ v depends.
      let there = some_at plan.clocks.conditions v (guard_alone plan accepted d.slot.guard (of_slot k step.slot code d.slot coded d.has) v depends) in
      truth_at plan.clocks.conditions actor.registers v there.0 there.1 ∙ ap is_true (condition_known v there.0 there.1 depends) ∙ sym (truth_at plan.clocks.conditions (seen_at now) v there.0 there.1))
      ∙ sym (ap (slot_holds plan.store.nodes own) d.has)

  module _ (holds : guard_holds plan code (seen_at now) step ≡ true) where
    passes : test plan.store.nodes d.slot.guard own ≡ true
    passes = sym (ap (slot_holds plan.store.nodes own) d.has) ∙ holds

    -- what an operation reads
    pub reads_known : (o : OpId) (op : Op) → step.kind ≡ Do o → slice_get plan.ops o.0 ≡ Some op → (x : SigId) → Contains op.reads x → actor.registers x.0 ≡ seen_at now x.0
    reads_known o op kind at x reads = filled x
        (step_has_reads plan accepted own left_of (speaks plan accepted memory next now next_now) (keeps plan accepted memory next now next_now) k code coded actor.step step d.slot at_s guarded o.0 op kind at passes x reads)

    -- what is sent
    pub sent_known : (link : ℕ) (info : LinkInfo) (x : SigId) → step.kind ≡ Send link → slice_get plan.links link ≡ Some info → info.signal ≡ Some x → actor.registers x.0 ≡ seen_at now x.0
    sent_known link info x kind at carries = filled x
        (step_has_sent plan accepted own left_of (speaks plan accepted memory next now next_now) (keeps plan accepted memory next now next_now) k code coded actor.step step d.slot at_s guarded link info x kind at carries passes)

    -- what is committed
    pub outputs_known : step.kind ≡ Commit → (x : SigId) → IsOutput plan.kernel x → actor.registers x.0 ≡ seen_at now x.0
    outputs_known kind x is_output = known x (λ present.
        step_has_outputs plan accepted own left_of (speaks plan accepted memory next now next_now) (keeps plan accepted memory next now next_now) k code coded actor.step step d.slot at_s guarded kind x is_output present)
