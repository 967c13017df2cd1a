-- A condition that the guard of a step needs is filled by earlier steps alone.
use Rattle.sig_schedule_laws.proofs.Common.{compiled_operations, compiled_order, ◌≡◌, ◌<◌, ◌≤◌, ◌+◌, ◌*◌, ◌⊎◌, inl, inr, ℕ, List, length, refl, ap, sym, subst, ◌∙◌, arith, None, Option, Some, slice_get, option_and_then, cases_order, SigId, ref_depends, Depends, IsRefOf, test, fills, target_of_op, CodeView, Instruction, IsStepOf, instructions_of, IsFor, StandsAt, does, sends, receives, Operation, operation_in, Needs, Precedes, Writes, IsAccepted, PlanView, Slot, Step, LinkInfo, plan_operations, needed_earlier, instruction_for, step_instruction, stands_once, positions_rise, contains_at, got, map_get}

-- an instruction fills a signal that is written at its place
pub record FilledAt (operations : List Operation) (order : List ℕ) (i : Instruction) (x : SigId) : Type 0 where
  pub j : ℕ
  pub number : ℕ
  pub p : Operation
  pub stands : StandsAt operations order j number p
  pub writes : Writes p x
  pub position : i.position ≤ 2 * j + 1

-- the guard of an instruction is that of the operation at its place
pub record GuardedAt (operations : List Operation) (order : List ℕ) (i : Instruction) (v : ℕ) : Type 0 where
  pub j : ℕ
  pub number : ℕ
  pub p : Operation
  pub stands : StandsAt operations order j number p
  pub depends : Depends p.guard v
  pub position : 2 * j ≤ i.position

module _ (plan : PlanView) (accepted : IsAccepted plan) where
  abbrev IsKnown : ℕ → Instruction → Type 0
  IsKnown k i = IsFor (compiled_operations plan) (compiled_order plan) accepted.parts.links accepted.parts.clusters k i

  -- the signal that a link carries
  pub carried_is : (link : ℕ) (info : LinkInfo) → slice_get accepted.parts.links link ≡ Some info → option_and_then (λ (l : LinkInfo). l.signal) (slice_get plan.links link) ≡ info.signal
  carried_is link info at = ap (λ (o : Option LinkInfo). option_and_then (λ (l : LinkInfo). l.signal) o) (subst (λ (ls : List LinkInfo). slice_get ls link ≡ Some info) accepted.links at)

  -- what an operation of the plan writes
  pub target_is : (number : ℕ) (p : Operation) → slice_get (compiled_operations plan) number ≡ Some p → target_of_op (slice_get plan.ops number) ≡ p.writes
  target_is number p at =
      let made = map_get (operation_in plan.store.nodes) plan.ops number p at in
      ap target_of_op made.1 ∙ ap (λ (q : Operation). q.writes) made.2

  pub filled_at : (k : ℕ) (i : Instruction) → IsKnown k i → (x : SigId) → fills plan i.kind ≡ Some x → FilledAt (compiled_operations plan) (compiled_order plan) i x
  filled_at k _ (does j number p stands own) x is = record { j = j; number = number; p = p; stands = stands; writes = sym (target_is number p stands.is) ∙ is; position = omega arith }
  filled_at k _ (receives j number link p stands other from reader) x is = record {
    j = j;
    number = number;
    p = p;
    stands = stands;
    writes = from.writes ∙ sym from.carries ∙ sym (carried_is link from.info from.is) ∙ is;
    position = omega arith;
  }
  filled_at k _ _ x is = absurd (let e : None ≡ Some x = is in cc)

  pub guarded_at : (k : ℕ) (i : Instruction) → IsKnown k i → (v : ℕ) → Depends i.guard v → GuardedAt (compiled_operations plan) (compiled_order plan) i v
  guarded_at k _ (does j number p stands own) v depends = record { j = j; number = number; p = p; stands = stands; depends = depends; position = omega arith }
  guarded_at k _ (receives j number link p stands other from reader) v depends = record { j = j; number = number; p = p; stands = stands; depends = depends; position = omega arith }
  guarded_at k _ (sends j number link p stands own from) v depends = record { j = j; number = number; p = p; stands = stands; depends = depends; position = omega arith }
  guarded_at k _ _ v depends = absurd (depends.1 refl)

  -- what the guard at one place needs is written at an earlier one
  pub needed_before : (i a : Instruction) (v : ℕ) (condition : SigId) → slice_get plan.clocks.conditions v ≡ Some condition → (g : GuardedAt (compiled_operations plan) (compiled_order plan) i v) (f : FilledAt (compiled_operations plan) (compiled_order plan) a condition) → f.j < g.j
  needed_before i a v condition at g f =
      let full = accepted.order.all in
      let here = got (compiled_order plan) g.j 0 g.number g.stands.place in
      let there = got (compiled_order plan) f.j 0 f.number f.stands.place in
      let needs : Needs plan.clocks.conditions g.p condition = record { variable = v; is = at; depends = g.depends } in
      let e = needed_earlier plan.kernel accepted.valid plan.clocks.conditions (compiled_operations plan) (plan_operations plan accepted) (compiled_order plan) accepted.order g.j (omega (arith, here.0, full)) g.p
      (ap (slice_get (compiled_operations plan)) here.1 ∙ g.stands.is) condition needs f.number f.p f.stands.is f.writes in
      let same = stands_once (Precedes plan.clocks.conditions (compiled_operations plan)) (length (compiled_operations plan)) (compiled_order plan) accepted.order e.0 f.j (omega (arith, e.1, here.0, full)) (omega (arith, there.0, full)) (e.2 ∙ sym there.1) in
      omega (arith, same, e.1)

  module _ (k : ℕ) (code : CodeView) (coded : slice_get plan.codes k ≡ Some code) where
    abbrev all : List Instruction
    all = instructions_of (compiled_operations plan) (compiled_order plan) accepted.parts k

    abbrev Done : ℕ → Step → Type 0
    Done number step = (i : Instruction) × (slice_get all number ≡ Some i) × IsStepOf plan.store.nodes code.slots i step

    -- the guard of a step's slot is that of its instruction
    pub slot_guard : (step : Step) (i : Instruction) (slot : Slot) → IsStepOf plan.store.nodes code.slots i step → slice_get code.slots step.slot ≡ Some slot → IsRefOf plan.store.nodes i.guard slot.guard
    slot_guard step i slot done has =
        let e : Some done.slot ≡ Some slot = sym done.has ∙ has in
        let same : done.slot ≡ slot = cc in
        subst (λ (s : Slot). IsRefOf plan.store.nodes i.guard s.guard) same done.guard

    pub fills_earlier : (number filling v : ℕ) (step other : Step) (slot : Slot) (condition : SigId) → slice_get code.steps number ≡ Some step → slice_get code.slots step.slot ≡ Some slot
        → Depends (test plan.store.nodes slot.guard) v → slice_get plan.clocks.conditions v ≡ Some condition → slice_get code.steps filling ≡ Some other → fills plan other.kind ≡ Some condition → filling < number
    fills_earlier number filling v step other slot condition at has depends is at_filling does_fill = by (cases_order filling number) where
      a : Done number step
      a = step_instruction plan accepted k code coded number step at

      b : Done filling other
      b = step_instruction plan accepted k code coded filling other at_filling

      less : b.0.position < a.0.position
      less =
          let g = guarded_at k a.0 (instruction_for (compiled_operations plan) (compiled_order plan) accepted.parts k a.0 (contains_at all number a.0 a.1)) v (ref_depends plan.store.nodes a.0.guard slot.guard (slot_guard step a.0 slot a.2 has) v depends) in
          let f = filled_at k b.0 (instruction_for (compiled_operations plan) (compiled_order plan) accepted.parts k b.0 (contains_at all filling b.0 b.1)) condition (ap (fills plan) (sym b.2.kind) ∙ does_fill) in
          omega (arith, needed_before a.0 b.0 v condition is g f, g.position, f.position)

      by : (filling ≡ number) ⊎ ((filling < number) ⊎ (number < filling)) → filling < number
      by (inl same) =
          let e : Some b.0 ≡ Some a.0 = sym b.1 ∙ ap (slice_get all) same ∙ a.1 in
          let one : b.0 ≡ a.0 = cc in
          absurd (omega (arith, less, ap (λ (i : Instruction). i.position) one))
      by (inr (inl lt)) = lt
      by (inr (inr gt)) = absurd (omega (arith, less, positions_rise (compiled_operations plan) (compiled_order plan) accepted.parts k accepted.order.all number filling a.0 b.0 gt a.1 b.1))
