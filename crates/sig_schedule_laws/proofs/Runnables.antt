-- An accepted plan has what the code of its actors asks of it.
use Rattle.sig_schedule_laws.proofs.Common.{◌≡◌, ◌<◌, ℕ, List, length, refl, sym, subst, None, Option, Some, slice_get, option_and_then, EqId, defined_local, target_of, Equation, code_of, defined_by, IsRunnable, IsThere, carried, CodeView, ImpliesSlot, IsLastBelow, of_slot, operation_in, operations_in, IsAccepted, PlanView, Slot, Op, LinkInfo, plan_operations, written_below, carrying_ends, step_slot, guard_alone, guard_held, slice_get_within, get_map, some_at}
use Rattle.sig_schedule_laws.proofs.Beginnings.{code_begins}
use Rattle.sig_schedule_laws.proofs.Coded.{code_is, slot_coded, step_coded}
use Rattle.sig_schedule_laws.proofs.Fillings.{fills_earlier}

module _ (plan : PlanView) (accepted : IsAccepted plan) where
  signals_written : (number : ℕ) (op : Op) → slice_get plan.ops number ≡ Some op → IsThere plan op.writes
  signals_written number op at x writes =
      written_below plan.kernel accepted.valid plan.clocks.conditions (operations_in plan.store.nodes plan.ops) (plan_operations plan accepted) number (operation_in plan.store.nodes op)
      (get_map (operation_in plan.store.nodes) plan.ops number op at) x writes

  signals_carried : (j : ℕ) → IsThere plan (carried plan.links j)
  signals_carried j x is = by (slice_get plan.links j) (λ info e. e) is where
    by : (o : Option LinkInfo) → ((info : LinkInfo) → o ≡ Some info → slice_get plan.links j ≡ Some info) → option_and_then (λ (l : LinkInfo). l.signal) o ≡ Some x → x.0 < length plan.kernel.signals
    by None at is = absurd (let e : None ≡ Some x = is in cc)
    by (Some info) at is =
        let there = subst (λ (ls : List LinkInfo). slice_get ls j ≡ Some info) (sym accepted.links) (at info refl) in
        let ends = carrying_ends plan.kernel accepted.valid plan.clocks.conditions (operations_in plan.store.nodes plan.ops) (plan_operations plan accepted) accepted.parts accepted.split j info x there is in
        slice_get_within plan.kernel.signals x.0 ends.owner ends.owned

  signals_defined : (e : EqId) → IsThere plan (defined_by plan.kernel e)
  signals_defined e x is = by (slice_get plan.kernel.equations e.0) (λ d s. s) is where
    by : (o : Option Equation) → ((d : Equation) → o ≡ Some d → slice_get plan.kernel.equations e.0 ≡ Some d) → option_and_then (λ (equation : Equation). target_of equation.form) o ≡ Some x → x.0 < length plan.kernel.signals
    by None at is = absurd (let f : None ≡ Some x = is in cc)
    by (Some d) at is = (defined_local plan.kernel accepted.valid e.0 d x (at d refl) is).1

  actor_begins : (k : ℕ) → k < length plan.codes → 0 < length (code_of plan k).steps
  actor_begins k lt =
      let code = some_at plan.codes k lt in
      subst (λ (c : CodeView). 0 < length c.steps) (sym (code_is plan k code.0 code.1)) (code_begins plan accepted k code.0 code.1 lt)

  slot_parents : (k number parent : ℕ) (slot : Slot) → slice_get (code_of plan k).slots number ≡ Some slot → slot.parent ≡ Some parent → IsLastBelow (ImpliesSlot plan.store.nodes (code_of plan k).slots slot) number (Some parent)
  slot_parents k number parent slot at is =
      subst (λ o. IsLastBelow (ImpliesSlot plan.store.nodes (code_of plan k).slots slot) number o) is
      ((accepted.codes.each k (code_of plan k) (slot_coded plan k number slot at)).slots.parents number slot at)

  pub is_runnable : IsRunnable plan
  is_runnable = record {
    writes = signals_written;
    carries = signals_carried;
    defines = signals_defined;
    begins = actor_begins;
    slots = λ k number step at. step_slot plan accepted k (code_of plan k) (step_coded plan k number step at) number step at;
    held = λ k number slot at. guard_held plan accepted slot.guard (of_slot k number (code_of plan k) slot (slot_coded plan k number slot at) at);
    needs = λ k number slot at. guard_alone plan accepted slot.guard (of_slot k number (code_of plan k) slot (slot_coded plan k number slot at) at);
    first = λ k number earlier step at lt. (accepted.codes.each k (code_of plan k) (step_coded plan k number step at)).slots.first number step at earlier lt;
    parents = λ k number parent slot at is. let last = slot_parents k number parent slot at is in (last.0, last.1.0, last.1.1, last.1.2);
    earlier = λ k number filling v slot condition here depends is there.
        fills_earlier plan accepted k (code_of plan k) (step_coded plan k number here.step here.is) number filling v here.step there.step slot condition here.is here.has depends is there.is there.does;
  }
