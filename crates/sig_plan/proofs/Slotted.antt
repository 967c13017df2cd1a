-- The guards of an accepted plan's operations and slots.
use Rattle.sig_plan.proofs.Common.{◌≡◌, ◌≢◌, ◌<◌, ◌⊎◌, inl, inr, ℕ, Bool, false, true, List, length, get_or, refl, sym, ap, ◌∙◌, subst, arith, None, Some, slice_get, All-contains, SigId, KeepsTo, Reaction, Speaks, status_at, ref_depends, asked_agree, asks_depends, asks_no_idle, Depends, truth_of, with_truth, Holds, IsRefOf, diagram, test, Asks, IsIdle, Ref, CodeView, Instruction, always, instructions_of, IsFor, does, receives, sends, Guard, Operation, operation_in, operations_in, IsAccepted, PlanView, numbers_of, Slot, Op, LinkInfo, IsGuardOf, of_operation, of_slot, contains_at, slice_get-get_or, slice_get_within, get_map}
use Rattle.sig_plan.proofs.Accepted.{plan_operations}
use Rattle.sig_plan.proofs.Earlier.{guards_alone, guards_idle}
use Rattle.sig_plan.proofs.InstructionsOfActors.{instruction_for}

module _ (plan : PlanView) (is : IsAccepted plan) where
  abbrev operations : List Operation
  operations = operations_in plan.store.nodes plan.ops

  -- the function of a guard of the plan is that of an operation, or true everywhere
  FromOperation : Guard → Type 0
  FromOperation guard = ((number : ℕ) × (p : Operation) × (slice_get operations number ≡ Some p) × (guard ≡ p.guard)) ⊎ (guard ≡ always)

  of_instruction : (order : List ℕ) (links : List LinkInfo) (clusters actor : ℕ) (instruction : Instruction) → IsFor operations order links clusters actor instruction → FromOperation instruction.guard
  unfolding FromOperation
  of_instruction order links clusters actor _ (does j number p stands own) = inl (number, p, stands.is, refl)
  of_instruction order links clusters actor _ (sends j number link p stands own from) = inl (number, p, stands.is, refl)
  of_instruction order links clusters actor _ (receives j number link p stands other from reader) = inl (number, p, stands.is, refl)
  of_instruction order links clusters actor _ _ = inr refl

  slot_guard : (actor : ℕ) (code : CodeView) → slice_get plan.codes actor ≡ Some code → (i : ℕ) (slot : Slot) → slice_get code.slots i ≡ Some slot
      → (guard : Guard) × FromOperation guard × IsRefOf plan.store.nodes guard slot.guard
  slot_guard actor code at i slot there =
      let all = instructions_of operations (numbers_of plan.order) is.parts actor in
      let coded = is.codes.each actor code at in
      let (number, step, at_step, same) = coded.slots.used i (slice_get_within code.slots i slot there) in
      let within : number < length all = (let lt = slice_get_within code.steps number step at_step in let count = coded.count in omega (arith, lt, count)) in
      let instruction : Instruction = get_or all number (record { kind = step.kind; position = 0; guard = always }) in
      let found : slice_get all number ≡ Some instruction = slice_get-get_or all number (record { kind = step.kind; position = 0; guard = always }) within in
      let done = coded.steps number instruction step found at_step in
      let slots : done.slot ≡ slot = (let e : Some done.slot ≡ Some slot = sym done.has ∙ (ap (slice_get code.slots) same ∙ there) in cc) in (
        instruction.guard,
        of_instruction (numbers_of plan.order) is.parts.links is.parts.clusters actor instruction
            (instruction_for operations (numbers_of plan.order) is.parts actor instruction (contains_at all number instruction found)),
        subst (λ (s : Slot). IsRefOf plan.store.nodes instruction.guard s.guard) slots done.guard,
      )

  depends_alone : (guard : Guard) → FromOperation guard → (v : ℕ) → Depends guard v → v < length plan.clocks.conditions
  unfolding FromOperation
  depends_alone guard (inl (number, p, at, same)) v d =
      guards_alone plan.kernel is.valid plan.clocks.conditions operations (plan_operations plan is) number p at v (subst (λ (g : Guard). Depends g v) same d)
  depends_alone guard (inr same) v (ts, ne) = absurd (ne (ap (λ (g : Guard). g (with_truth ts v false)) same ∙ sym (ap (λ (g : Guard). g (with_truth ts v true)) same)))

  idle_of : (guard : Guard) → FromOperation guard → (proposal : List Bool) (reaction : Reaction) → Speaks plan.kernel reaction → KeepsTo plan.clocks.conditions proposal reaction
      → (v : ℕ) (condition : SigId) → slice_get plan.clocks.conditions v ≡ Some condition → status_at reaction condition.0 ≡ None → IsIdle guard proposal v
  unfolding FromOperation
  idle_of guard (inl (number, p, at, same)) proposal reaction speaks keeps v condition there absent =
      subst (λ (g : Guard). IsIdle g proposal v) (sym same)
      (guards_idle plan.kernel is.valid plan.clocks.conditions operations (plan_operations plan is) proposal reaction speaks keeps v condition there absent number p at)
  idle_of guard (inr same) proposal reaction speaks keeps v condition there absent = subst (λ (g : Guard). IsIdle g proposal v) (sym same) (λ other agree. refl)

  op_guard : (number : ℕ) (op : Op) → slice_get plan.ops number ≡ Some op → (guard : Guard) × FromOperation guard × IsRefOf plan.store.nodes guard op.guard
  unfolding FromOperation
  op_guard number op at = (
    test plan.store.nodes op.guard,
    inl (number, operation_in plan.store.nodes op, get_map (operation_in plan.store.nodes) plan.ops number op at, refl),
    record { holds = All-contains (λ (o : Op). Holds plan.store.nodes o.guard) plan.ops op is.operations.held (contains_at plan.ops number op at); function = λ ts. refl },
  )

  guard_function : (guard : Ref) → IsGuardOf plan guard → (function : Guard) × FromOperation function × IsRefOf plan.store.nodes function guard
  guard_function _ (of_operation number op at) = op_guard number op at
  guard_function _ (of_slot actor number code slot at there) = slot_guard actor code at number slot there

  module _ (guard : Ref) (of : IsGuardOf plan guard) where
    pub guard_held : Holds plan.store.nodes guard
    guard_held = (guard_function guard of).2.holds

    -- it depends on conditions alone
    pub guard_alone : (v : ℕ) → Depends (test plan.store.nodes guard) v → v < length plan.clocks.conditions
    guard_alone v d =
        let (function, from, ref) = guard_function guard of in
        depends_alone function from v (ref_depends plan.store.nodes function guard ref v d)

    module _ (proposal : List Bool) (reaction : Reaction) (speaks : Speaks plan.kernel reaction) (keeps : KeepsTo plan.clocks.conditions proposal reaction) where
      not_absent : (v : ℕ) (condition : SigId) → slice_get plan.clocks.conditions v ≡ Some condition → Asks (diagram plan.store.nodes guard) proposal v → status_at reaction condition.0 ≢ None
      not_absent v condition there asks absent =
          let (function, from, ref) = guard_function guard of in
          let idle = idle_of function from proposal reaction speaks keeps v condition there absent in
          asks_no_idle plan.store is.store guard guard_held proposal v asks (λ other agree. ref.function _ ∙ (idle other agree ∙ sym (ref.function _)))

      -- and its walk asks only for conditions that are present
      pub guard_asks : (v : ℕ) → Asks (diagram plan.store.nodes guard) proposal v → (condition : SigId) × (slice_get plan.clocks.conditions v ≡ Some condition) × (status_at reaction condition.0 ≢ None)
      guard_asks v asks =
          let lt = guard_alone v (asks_depends plan.store is.store guard guard_held proposal v asks) in
          let there = slice_get-get_or plan.clocks.conditions v (record { 0 = 0 }) lt in
          (_, there, not_absent v _ there asks)

      -- so truths that agree on these give it one value
      pub guard_agrees : (other : List Bool) → ((v : ℕ) (condition : SigId) → slice_get plan.clocks.conditions v ≡ Some condition → status_at reaction condition.0 ≢ None → truth_of proposal v ≡ truth_of other v)
          → test plan.store.nodes guard proposal ≡ test plan.store.nodes guard other
      guard_agrees other agree =
          asked_agree plan.store is.store guard guard_held proposal other (λ v asks. let (condition, there, present) = guard_asks v asks in agree v condition there present)
