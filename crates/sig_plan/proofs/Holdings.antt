-- Before a step of an accepted plan whose guard holds, its actor has what the step needs.
use Rattle.sig_plan.proofs.Common.{◌≡◌, ◌<◌, ◌≤◌, inl, inr, ℕ, Bool, true, List, length, get_or, sym, ap, ◌∙◌, subst, arith, Contains, Some, slice_get, SigId, KeepsTo, Reaction, Speaks, is_present, ref_depends, Depends, IsRefOf, test, CodeView, Instruction, IsStepOf, instructions_of, op_id, Gives, HasBefore, HasGuard, IsProvidedBefore, Provides, Operation, operation_in, operations_in, IsOutput, IsAccepted, PlanView, numbers_of, Slot, Step, Do, Send, Commit, Op, LinkInfo, slice_get-get_or, slice_get_within, get_map, map_get}
use Rattle.sig_plan.proofs.Accepted.{plan_operations}
use Rattle.sig_plan.proofs.NamedInSteps.{step_instruction}
use Rattle.sig_plan.proofs.Provided.{committed_before, condition_before, read_before, sent_before}

module _ (plan : PlanView) (is : IsAccepted plan) (proposal : List Bool) (reaction : Reaction) (speaks : Speaks plan.kernel reaction) (keeps : KeepsTo plan.clocks.conditions proposal reaction)
    (actor : ℕ) (code : CodeView) (coded : slice_get plan.codes actor ≡ Some code) where
  abbrev operations : List Operation
  operations = operations_in plan.store.nodes plan.ops

  abbrev all : List Instruction
  all = instructions_of operations (numbers_of plan.order) is.parts actor

  most : actor ≤ is.parts.clusters
  most = let lt = slice_get_within plan.codes actor code coded in let count = is.codes.actors in omega (arith, lt, count)

  -- the guard of a step's slot is that of its instruction
  guard_of_step : (k : ℕ) (step : Step) (slot : Slot) → (at : slice_get code.steps k ≡ Some step) → HasGuard code step slot → IsRefOf plan.store.nodes (step_instruction plan is actor code coded k step at).0.guard slot.guard
  guard_of_step k step slot at guarded =
      let done = (step_instruction plan is actor code coded k step at).2 in
      let same : done.slot ≡ slot = (let e : Some done.slot ≡ Some slot = sym done.has ∙ guarded.has in cc) in
      subst (λ (s : Slot). IsRefOf plan.store.nodes (step_instruction plan is actor code coded k step at).0.guard s.guard) same done.guard

  gives : (x : SigId) (i : Instruction) (step : Step) → step.kind ≡ i.kind → Provides operations is.parts.links x i → Gives plan x step
  gives x i step kind (inl (number, p, at, writes, does)) =
      let (op, there, same) = map_get (operation_in plan.store.nodes) plan.ops number p at in
      inl (number, op, there, ap (λ (q : Operation). q.writes) same ∙ writes, kind ∙ does)
  gives x i step kind (inr (link, info, at, carries, receives)) =
      inr (link, info, subst (λ (ls : List LinkInfo). slice_get ls link ≡ Some info) is.links at, carries, kind ∙ receives)

  -- what an instruction before provides, a step before has given
  has_before : (k : ℕ) (x : SigId) → k < length code.steps → IsProvidedBefore operations is.parts.links all proposal k x → HasBefore plan code proposal k x
  has_before k x within (i, instruction, less, at, holds, provides) =
      let d : Step = record { kind = Commit; pos = 0; slot = 0 } in
      let step : Step = get_or code.steps i d in
      let there : slice_get code.steps i ≡ Some step = slice_get-get_or code.steps i d (omega (arith, less, within)) in
      let found = step_instruction plan is actor code coded i step there in
      let same : found.0 ≡ instruction = (let e : Some found.0 ≡ Some instruction = sym found.1 ∙ at in cc) in
      let done = found.2 in
      record {
        place = i;
        step = step;
        slot = done.slot;
        before = less;
        is = there;
        guarded = record { has = done.has };
        holds = done.guard.function proposal ∙ (ap (λ (j : Instruction). j.guard proposal) same ∙ holds);
        gives = gives x instruction step (done.kind ∙ ap (λ (j : Instruction). j.kind) same) provides;
      }

  module _ (k : ℕ) (step : Step) (slot : Slot) (at : slice_get code.steps k ≡ Some step) (guarded : HasGuard code step slot) where
    found : (i : Instruction) × (slice_get all k ≡ Some i) × IsStepOf plan.store.nodes code.slots i step
    found = step_instruction plan is actor code coded k step at

    within : k < length code.steps
    within = slice_get_within code.steps k step at

    guard_holds : test plan.store.nodes slot.guard proposal ≡ true → found.0.guard proposal ≡ true
    unfolding found
    guard_holds holds = sym ((guard_of_step k step slot at guarded).function proposal) ∙ holds

    pub step_has_conditions : (v : ℕ) (condition : SigId) → slice_get plan.clocks.conditions v ≡ Some condition → is_present reaction condition.0 ≡ true → Depends (test plan.store.nodes slot.guard) v → HasBefore plan code proposal k condition
    unfolding found
    step_has_conditions v condition there present depends =
        has_before k condition within
        (condition_before plan.kernel is.valid plan.clocks.conditions operations (plan_operations plan is) (numbers_of plan.order) is.order is.parts is.split proposal reaction speaks keeps actor most v condition there present
        k found.0 found.1 (ref_depends plan.store.nodes found.0.guard slot.guard (guard_of_step k step slot at guarded) v depends))

    pub step_has_reads : (number : ℕ) (op : Op) → step.kind ≡ Do (op_id number) → slice_get plan.ops number ≡ Some op → test plan.store.nodes slot.guard proposal ≡ true → (x : SigId) → Contains op.reads x → HasBefore plan code proposal k x
    unfolding found
    step_has_reads number op kind there holds x reads =
        has_before k x within
        (read_before plan.kernel is.valid plan.clocks.conditions operations (plan_operations plan is) (numbers_of plan.order) is.order is.parts is.split proposal reaction speaks keeps actor most
        k found.0 found.1 number (operation_in plan.store.nodes op) (sym found.2.kind ∙ kind) (get_map (operation_in plan.store.nodes) plan.ops number op there) (guard_holds holds) x reads)

    pub step_has_sent : (link : ℕ) (info : LinkInfo) (x : SigId) → step.kind ≡ Send link → slice_get plan.links link ≡ Some info → info.signal ≡ Some x → test plan.store.nodes slot.guard proposal ≡ true → HasBefore plan code proposal k x
    unfolding found
    step_has_sent link info x kind there carries holds =
        has_before k x within
        (sent_before plan.kernel is.valid plan.clocks.conditions operations (plan_operations plan is) (numbers_of plan.order) is.order is.parts is.split proposal reaction speaks keeps actor most
        k found.0 found.1 link info x (sym found.2.kind ∙ kind) (subst (λ (ls : List LinkInfo). slice_get ls link ≡ Some info) (sym is.links) there) carries (guard_holds holds))

    pub step_has_outputs : step.kind ≡ Commit → (x : SigId) → IsOutput plan.kernel x → is_present reaction x.0 ≡ true → HasBefore plan code proposal k x
    unfolding found
    step_has_outputs kind x is_output present =
        has_before k x within
        (committed_before plan.kernel is.valid plan.clocks.conditions operations (plan_operations plan is) (numbers_of plan.order) is.order is.parts is.split proposal reaction speaks keeps actor most
        k found.0 found.1 (sym found.2.kind ∙ kind) x is_output present)
