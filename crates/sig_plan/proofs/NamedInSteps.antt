-- The steps of an accepted plan do their instructions, and name operations, links and slots that are there.
use Rattle.sig_plan.proofs.Common.{◌≡◌, ◌<◌, ℕ, List, length, get_or, sym, ap, ◌∙◌, subst, arith, None, Option, Some, slice_get, length-map, CodeView, Instruction, IsLastBelow, ImpliesSlot, IsStepOf, always, instructions_of, IsFor, NamesWithin, collects, commits, does, receives, reports, sends, Operation, operation_in, operations_in, IsAccepted, PlanView, numbers_of, Slot, Step, StepKind, LinkInfo, contains_at, slice_get-get_or, slice_get_within}
use Rattle.sig_plan.proofs.InstructionsOfActors.{instruction_for}

instruction_names : (operations : List Operation) (order : List ℕ) (links : List LinkInfo) (clusters actor : ℕ) (i : Instruction) → IsFor operations order links clusters actor i → NamesWithin (length operations) (length links) i.kind
instruction_names operations order links clusters actor _ (does j number p stands own) = slice_get_within operations number p stands.is
instruction_names operations order links clusters actor _ (sends j number link p stands own from) = slice_get_within links link from.info from.is
instruction_names operations order links clusters actor _ (receives j number link p stands other from reader) = slice_get_within links link from.info from.is
instruction_names operations order links clusters actor _ (reports link info other at none writer) = slice_get_within links link info at
instruction_names operations order links clusters actor _ (collects link info own at none) = slice_get_within links link info at
instruction_names operations order links clusters actor _ (commits own) = tt

last_below : (P : ℕ → Type 0) (bound : ℕ) (o : Option ℕ) (last : ℕ) → IsLastBelow P bound o → o ≡ Some last → last < bound
last_below P bound None last is same = cc
last_below P bound (Some k) last is same = let e : k ≡ last = cc in subst (λ m. m < bound) e is.0

module _ (plan : PlanView) (is : IsAccepted plan) where
  abbrev all : ℕ → List Instruction
  all actor = instructions_of (operations_in plan.store.nodes plan.ops) (numbers_of plan.order) is.parts actor

  module _ (actor : ℕ) (code : CodeView) (coded : slice_get plan.codes actor ≡ Some code) where
    -- a step does the instruction at its place
    pub step_instruction : (k : ℕ) (step : Step) → slice_get code.steps k ≡ Some step → (i : Instruction) × (slice_get (all actor) k ≡ Some i) × IsStepOf plan.store.nodes code.slots i step
    step_instruction k step at =
        let made = is.codes.each actor code coded in
        let d : Instruction = record { kind = step.kind; position = 0; guard = always } in
        let lt = slice_get_within code.steps k step at in
        let count = made.count in
        let there : slice_get (all actor) k ≡ Some (get_or (all actor) k d) = slice_get-get_or (all actor) k d (omega (arith, lt, count)) in
        (get_or (all actor) k d, there, made.steps k (get_or (all actor) k d) step there at)

    pub step_names : (k : ℕ) (step : Step) → slice_get code.steps k ≡ Some step → NamesWithin (length plan.ops) (length plan.links) step.kind
    step_names k step at =
        let (i, there, done) = step_instruction k step at in
        let named = instruction_names (operations_in plan.store.nodes plan.ops) (numbers_of plan.order) is.parts.links is.parts.clusters actor i
        (instruction_for (operations_in plan.store.nodes plan.ops) (numbers_of plan.order) is.parts actor i (contains_at (all actor) k i there)) in
        subst (λ (kind : StepKind). NamesWithin (length plan.ops) (length plan.links) kind) (sym done.kind)
        (subst (λ n. NamesWithin n (length plan.links) i.kind) (length-map plan.ops (operation_in plan.store.nodes))
        (subst (λ n. NamesWithin (length (operations_in plan.store.nodes plan.ops)) n i.kind) (ap length is.links) named))

    pub step_slot : (k : ℕ) (step : Step) → slice_get code.steps k ≡ Some step → step.slot < length code.slots
    step_slot k step at = let (i, there, done) = step_instruction k step at in slice_get_within code.slots step.slot done.slot done.has

    pub slot_parent : (number : ℕ) (slot : Slot) → slice_get code.slots number ≡ Some slot → (last : ℕ) → slot.parent ≡ Some last → last < number
    slot_parent number slot at last same = last_below (ImpliesSlot plan.store.nodes code.slots slot) number slot.parent last ((is.codes.each actor code coded).slots.parents number slot at) same

  -- the order names operations
  pub order_names : (k : ℕ) (number : ℕ) → slice_get (numbers_of plan.order) k ≡ Some number → number < length plan.ops
  order_names k number at =
      let full = is.order.all in
      let lt = slice_get_within (numbers_of plan.order) k number at in
      let ready = (is.order.each k (omega (arith, lt, full))).holds.within in
      let same : get_or (numbers_of plan.order) k 0 ≡ number = (let e : Some (get_or (numbers_of plan.order) k 0) ≡ Some number = sym (slice_get-get_or (numbers_of plan.order) k 0 lt) ∙ at in cc) in
      let mapped = length-map plan.ops (operation_in plan.store.nodes) in
      omega (arith, ready, same, mapped)
