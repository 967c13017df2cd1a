-- The steps of an actor's code, and what they are for.
use Rattle.sig_schedule_laws.proofs.Common.{compiled_operations, compiled_order, ◌≡◌, ◌<◌, ◌*◌, ◌⊎◌, inl, inr, ℕ, Bool, List, length, refl, ap, sym, subst, ◌∙◌, arith, Contains, Some, slice_get, cases_order, OpId, Registers, guard_holds, slot_holds, truths_of, CodeView, Instruction, instructions_of, IsFor, StandsAt, does, sends, receives, reports, collects, commits, Operation, operation_in, Precedes, IsAccepted, PlanView, Slot, Step, Do, Send, Receive, Report, Collect, Commit, Op, instruction_for, step_instruction, stands_once, positions_rise, at_contained, contains_at, get_map, got, some_at}
use Rattle.sig_schedule_laws.proofs.Ranks.{instruction_once}

do_same : (a b : OpId) → Do a ≡ Do b → a.0 ≡ b.0
do_same a b is = let same : a ≡ b = cc in ap (λ (o : OpId). o.0) same

-- the operation p of this number stands at the place j, and belongs to the actor
pub record DoesAt (operations : List Operation) (order : List ℕ) (k : ℕ) (i : Instruction) (number : ℕ) : Type 0 where
  pub j : ℕ
  pub p : Operation
  pub stands : StandsAt operations order j number p
  pub own : p.cluster ≡ k
  pub position : i.position ≡ 2 * j
  pub guard : i.guard ≡ p.guard

module _ (plan : PlanView) (accepted : IsAccepted plan) where
  -- one operation stands at one place
  pub places_once : (i j number : ℕ) (p q : Operation) → StandsAt (compiled_operations plan) (compiled_order plan) i number p → StandsAt (compiled_operations plan) (compiled_order plan) j number q → (i ≡ j) × (p ≡ q)
  places_once i j number p q one two =
      let full = accepted.order.all in
      let here = got (compiled_order plan) i 0 number one.place in
      let there = got (compiled_order plan) j 0 number two.place in
      let e : Some p ≡ Some q = sym one.is ∙ two.is in
      (stands_once (Precedes plan.clocks.conditions (compiled_operations plan)) (length (compiled_operations plan)) (compiled_order plan) accepted.order i j (omega (arith, here.0, full)) (omega (arith, there.0, full)) (here.1 ∙ sym there.1), cc)

  module _ (k : ℕ) (code : CodeView) (coded : slice_get plan.codes k ≡ Some code) where
    abbrev all : List Instruction
    all = instructions_of (compiled_operations plan) (compiled_order plan) accepted.parts k

    -- a step does an instruction, under its guard
    pub record DoesStep (number : ℕ) (step : Step) : Type 0 where
      pub i : Instruction
      pub at : slice_get all number ≡ Some i
      pub known : IsFor (compiled_operations plan) (compiled_order plan) accepted.parts.links accepted.parts.clusters k i
      pub kind : step.kind ≡ i.kind
      pub position : step.pos ≡ i.position
      pub slot : Slot
      pub has : slice_get code.slots step.slot ≡ Some slot
      pub guard : (registers : Registers) → guard_holds plan code registers step ≡ i.guard (truths_of plan.clocks.conditions registers)

    pub step_does : (number : ℕ) (step : Step) → slice_get code.steps number ≡ Some step → DoesStep number step
    step_does number step at =
        let found = step_instruction plan accepted k code coded number step at in
        let done = found.2 in
        record {
          i = found.0;
          at = found.1;
          known = instruction_for (compiled_operations plan) (compiled_order plan) accepted.parts k found.0 (contains_at all number found.0 found.1);
          kind = done.kind;
          position = done.position;
          slot = done.slot;
          has = done.has;
          guard = λ registers.
              let truths : List Bool = truths_of plan.clocks.conditions registers in
              ap (slot_holds plan.store.nodes truths) done.has ∙ done.guard.function truths;
        }

    -- an instruction is done by a step
    pub instruction_step : (i : Instruction) → Contains all i → (number : ℕ) × (step : Step) × (slice_get code.steps number ≡ Some step) × (d : DoesStep number step) × (d.i ≡ i)
    instruction_step i there =
        let count = (accepted.codes.each k code coded).count in
        let found = some_at code.steps there.0 (omega (arith, there.1, count)) in
        let d = step_does there.0 found.0 found.1 in
        let e : Some d.i ≡ Some i = sym d.at ∙ at_contained all i there in
        (there.0, found.0, found.1, d, cc)

    -- equal instructions are at one place of the code
    pub same_place : (m n : ℕ) (a b : Step) (d : DoesStep m a) (e : DoesStep n b) → d.i ≡ e.i → m ≡ n
    same_place m n a b d e same = instruction_once (compiled_operations plan) (compiled_order plan) accepted.parts k accepted.order.all m n e.i (d.at ∙ ap Some same) e.at

    -- a step of an earlier position is before
    pub before_by_position : (m n : ℕ) (a b : Step) (d : DoesStep m a) (e : DoesStep n b) → d.i.position < e.i.position → m < n
    before_by_position m n a b d e lt = by (cases_order m n) where
      by : (m ≡ n) ⊎ ((m < n) ⊎ (n < m)) → m < n
      by (inl same) =
          let f : Some d.i ≡ Some e.i = sym d.at ∙ ap (slice_get all) same ∙ e.at in
          let one : d.i ≡ e.i = cc in
          absurd (omega (arith, lt, ap (λ (i : Instruction). i.position) one))
      by (inr (inl less)) = less
      by (inr (inr more)) = absurd (omega (arith, lt, positions_rise (compiled_operations plan) (compiled_order plan) accepted.parts k accepted.order.all n m e.i d.i more e.at d.at))

    -- ---- a step that does an operation

    pub does_op : (i : Instruction) → IsFor (compiled_operations plan) (compiled_order plan) accepted.parts.links accepted.parts.clusters k i → (o : OpId) → i.kind ≡ Do o → DoesAt (compiled_operations plan) (compiled_order plan) k i o.0
    does_op _ (does j number p stands own) o is =
        let same : number ≡ o.0 = do_same (record { 0 = number }) o is in
        record { j = j; p = p; stands = subst (λ n. StandsAt (compiled_operations plan) (compiled_order plan) j n p) same stands; own = own; position = refl; guard = refl }
    does_op _ (sends j number link p stands own from) o is = absurd (let e : Send link ≡ Do o = is in cc)
    does_op _ (receives j number link p stands other from reader) o is = absurd (let e : Receive link ≡ Do o = is in cc)
    does_op _ (reports link info other at none writer) o is = absurd (let e : Report link ≡ Do o = is in cc)
    does_op _ (collects link info own at none) o is = absurd (let e : Collect link ≡ Do o = is in cc)
    does_op _ (commits own) o is = absurd (let e : Commit ≡ Do o = is in cc)

    -- it does it once
    pub does_once : (m n : ℕ) (a b : Step) (o p : OpId) → slice_get code.steps m ≡ Some a → slice_get code.steps n ≡ Some b → a.kind ≡ Do o → b.kind ≡ Do p → o.0 ≡ p.0 → m ≡ n
    does_once m n a b o p at_m at_n kind_a kind_b same =
        let d = step_does m a at_m in
        let e = step_does n b at_n in
        let one = does_op d.i d.known o (sym d.kind ∙ kind_a) in
        let two = does_op e.i e.known p (sym e.kind ∙ kind_b) in
        let place = places_once one.j two.j o.0 one.p two.p one.stands (subst (λ z. StandsAt (compiled_operations plan) (compiled_order plan) two.j z two.p) (sym same) two.stands) in
        let position : d.i.position ≡ e.i.position = one.position ∙ ap (λ z. 2 * z) place.0 ∙ sym two.position in
        let guard : d.i.guard ≡ e.i.guard = one.guard ∙ ap (λ (q : Operation). q.guard) place.1 ∙ sym two.guard in
        let ids : o ≡ p = (λ t. record { 0 = same t }) in
        let kind : d.i.kind ≡ e.i.kind = sym d.kind ∙ kind_a ∙ ap Do ids ∙ sym kind_b ∙ e.kind in
        same_place m n a b d e (λ t. record { kind = kind t; position = position t; guard = guard t })

    -- the operation that a step does, as the plan has it
    pub op_done : (number : ℕ) (step : Step) (o : OpId) (op : Op) → slice_get code.steps number ≡ Some step → step.kind ≡ Do o → slice_get plan.ops o.0 ≡ Some op
        → (d : DoesStep number step) × (e : DoesAt (compiled_operations plan) (compiled_order plan) k d.i o.0) × (e.p ≡ operation_in plan.store.nodes op)
    op_done number step o op at kind there =
        let d = step_does number step at in
        let e = does_op d.i d.known o (sym d.kind ∙ kind) in
        let f : Some e.p ≡ Some (operation_in plan.store.nodes op) = sym e.stands.is ∙ get_map (operation_in plan.store.nodes) plan.ops o.0 op there in
        (d, e, cc)
