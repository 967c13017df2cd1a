-- Where a store holds the guards of operations, each actor has a code.
use Rattle.sig_deciding_laws.proofs.Common.{◌≡◌, ◌<◌, ◌+◌, ℕ, zero, suc, Bool, true, List, [], ◌∷◌, length, refl, sym, ap, ◌∙◌, subst, arith, Contains, Option, Some, slice_get, slice_index_or, if◌then◌else◌, Choice, Constant, Diagram, value_at, Implies, IsRefOf, diagram, test, Node, Ref, diagram-true, AreCodes, AreSlots, CodeView, ImpliesSlot, Instruction, IsCode, IsLastBelow, IsStepOf, always, instructions_of, unguarded, IsFor, does, receives, sends, Operation, PartsView, Slot, Step, Commit, instruction_for, value_there, contains_head, contains_later, slice_get-get_or, slice_get_within, map_dec, dec_both, dec_not, dec_number, dec_truth}
use Rattle.sig_deciding_laws.proofs.ClockFunctionsOfKernel.{Sees}
use Rattle.sig_deciding_laws.proofs.FirstNumbers.{AreNumbered, numbered_exist}
use Rattle.sig_deciding_laws.proofs.Precedence.{dec_some_proposal}
use Rattle.sig_deciding_laws.proofs.Searchable.{last_as, last_below}
use Rattle.sig_deciding_laws.proofs.Tables.{table, table_get, table_is, table_length}

-- ---- what one reference implies

pub dec_reference : (f g : Ref) → Dec (f ≡ g)
dec_reference f g = map_dec (λ same. λ j. record { number = same j }) (λ same. ap (λ (r : Ref). r.number) same) (dec_number f.number g.number)

-- a diagram sees the first truths alone
diagram_sees : (d : Diagram) → (n : ℕ) × Sees n (value_at d)
unfolding value_at
diagram_sees (Constant b) = (0, λ p q agree. refl)
diagram_sees (Choice v low high) = at (diagram_sees low) (diagram_sees high) where
  at : ((n : ℕ) × Sees n (value_at low)) → ((n : ℕ) × Sees n (value_at high)) → (n : ℕ) × Sees n (value_at (Choice v low high))
  at l h = (
    suc v + l.0 + h.0,
    λ p q agree. λ j.
        if agree v (omega arith) j then h.1 p q (λ u less. agree u (omega (arith, less))) j else l.1 p q (λ u less. agree u (omega (arith, less))) j,
  )

pub dec_implied : (nodes : List Node) (f g : Ref) → Dec (Implies nodes f g)
dec_implied nodes f g = at (diagram_sees (diagram nodes f)) (diagram_sees (diagram nodes g)) where
  Parts : List Bool → Type 0
  Parts truths = (test nodes f truths ≡ true) × (test nodes g truths ≡ true → ⊥)

  none_parts : (((truths : List Bool) × Parts truths) → ⊥) → Implies nodes f g
  none_parts none truths is = elim (dec_truth (test nodes g truths) true) [ yes holds ↦ holds | no fails ↦ absurd (none (truths, (is, fails))) ]

  at : ((n : ℕ) × Sees n (test nodes f)) → ((n : ℕ) × Sees n (test nodes g)) → Dec (Implies nodes f g)
  at a b =
      map_dec none_parts (λ implies found. found.1.1 (implies found.0 found.1.0))
      (dec_not (dec_some_proposal (a.0 + b.0) Parts (λ truths. dec_both (dec_truth (test nodes f truths) true) (dec_not (dec_truth (test nodes g truths) true))) (λ p q agree parts. (
        sym (a.1 p q (λ v less. agree v (omega (arith, less)))) ∙ parts.0,
        (λ is. parts.1 (b.1 p q (λ v less. agree v (omega (arith, less))) ∙ is)),
      ))))

-- ---- the guards of instructions

pub record AreRefs (nodes : List Node) (instructions : List Instruction) (refs : List Ref) : Type 0 where
  pub count : length refs ≡ length instructions
  pub each : (k : ℕ) (i : Instruction) → slice_get instructions k ≡ Some i → (r : Ref) × (slice_get refs k ≡ Some r) × IsRefOf nodes i.guard r

refs_exist : (nodes : List Node) (instructions : List Instruction) → ((i : Instruction) → Contains instructions i → (r : Ref) × IsRefOf nodes i.guard r) → (refs : List Ref) × AreRefs nodes instructions refs
refs_exist nodes [] held = ([], record { count = refl; each = λ k i is. cc })
refs_exist nodes (first ∷ instructions) held = at (held first (contains_head first instructions)) (refs_exist nodes instructions (λ i there. held i (contains_later first i instructions there))) where
  at : ((r : Ref) × IsRefOf nodes first.guard r) → ((refs : List Ref) × AreRefs nodes instructions refs) → (refs : List Ref) × AreRefs nodes (first ∷ instructions) refs
  at r rest = (r.0 ∷ rest.0, record { count = (let count = rest.1.count in omega (arith, count)); each = each }) where
    each : (k : ℕ) (i : Instruction) → slice_get (first ∷ instructions) k ≡ Some i → (s : Ref) × (slice_get (r.0 ∷ rest.0) k ≡ Some s) × IsRefOf nodes i.guard s
    each zero i is = let same : first ≡ i = cc in (r.0, refl, subst (λ (x : Instruction). IsRefOf nodes x.guard r.0) same r.1)
    each (suc k) i is = rest.1.each k i is

-- ---- a code

module _ (nodes : List Node) (instructions : List Instruction) (refs keys : List Ref) (numbers : List ℕ) (are : AreRefs nodes instructions refs) (numbered : AreNumbered refs keys numbers) where
  abbrev key : ℕ → Ref
  key i = slice_index_or keys i (record { number = 0 })

  parent : (i : ℕ) → (found : Option ℕ) × IsLastBelow (λ k. Implies nodes (key i) (key k)) i found
  parent i = last_below (λ k. Implies nodes (key i) (key k)) (λ k. dec_implied nodes (key i) (key k)) i

  abbrev slot_at : ℕ → Slot
  slot_at i = record { guard = key i; parent = (parent i).0 }

  abbrev slots : List Slot
  slots = table slot_at (length keys)

  abbrev instruction_at : ℕ → Instruction
  instruction_at k = slice_index_or instructions k (unguarded Commit 0)

  abbrev step_at : ℕ → Step
  step_at k = record { kind = (instruction_at k).kind; pos = (instruction_at k).position; slot = slice_index_or numbers k 0 }

  abbrev steps : List Step
  steps = table step_at (length instructions)

  key_there : (i : ℕ) → i < length keys → slice_get keys i ≡ Some (key i)
  key_there i less = slice_get-get_or keys i (record { number = 0 }) less

  -- the number of a step's slot
  number_there : (k : ℕ) → k < length instructions → slice_get numbers k ≡ Some (slice_index_or numbers k 0)
  number_there k less = let count = numbered.count in let all = are.count in slice_get-get_or numbers k 0 (omega (arith, less, count, all))

  step_there : (k i : ℕ) → slice_get numbers k ≡ Some i → (slice_get steps k ≡ Some (step_at k)) × ((step_at k).slot ≡ i)
  step_there k i is =
      let count = numbered.count in
      let all = are.count in
      let within = slice_get_within numbers k i is in
      (table_get step_at (length instructions) k (omega (arith, within, count, all)), value_there numbers k 0 i is)

  is_step : (k : ℕ) (i : Instruction) → slice_get instructions k ≡ Some i → IsStepOf nodes slots i (step_at k)
  is_step k i is =
      let same : instruction_at k ≡ i = value_there instructions k (unguarded Commit 0) i is in
      let held = are.each k i is in
      let number = numbered.is k held.0 held.1 in
      let own : slice_index_or numbers k 0 ≡ number.0 = value_there numbers k 0 number.0 number.1 in
      let guard : key number.0 ≡ held.0 = value_there keys number.0 (record { number = 0 }) held.0 number.2 in
      record {
        kind = ap (λ (x : Instruction). x.kind) same;
        position = ap (λ (x : Instruction). x.position) same;
        slot = slot_at number.0;
        has = ap (slice_get slots) own ∙ table_get slot_at (length keys) number.0 (slice_get_within keys number.0 held.0 number.2);
        guard = subst (IsRefOf nodes i.guard) (sym guard) held.2;
      }

  slots_differ : (i j : ℕ) (s t : Slot) → slice_get slots i ≡ Some s → slice_get slots j ≡ Some t → s.guard ≡ t.guard → i ≡ j
  slots_differ i j s t at_i at_j same =
      let of_s = table_is slot_at (length keys) i s at_i in
      let of_t = table_is slot_at (length keys) j t at_j in
      let guards : key i ≡ key j = ap (λ (x : Slot). x.guard) of_s.1 ∙ same ∙ sym (ap (λ (x : Slot). x.guard) of_t.1) in
      numbered.differ i j (key i) (key_there i of_s.0) (key_there j of_t.0 ∙ ap Some (sym guards))

  slots_first : (number : ℕ) (step : Step) → slice_get steps number ≡ Some step
      → (earlier : ℕ) → earlier < step.slot → (k : ℕ) × (other : Step) × (k < number) × (slice_get steps k ≡ Some other) × (other.slot ≡ earlier)
  slots_first number step at earlier less =
      let of = table_is step_at (length instructions) number step at in
      let own : slice_index_or numbers number 0 ≡ step.slot = ap (λ (x : Step). x.slot) of.1 in
      let from = numbered.first number (slice_index_or numbers number 0) (number_there number of.0) earlier (omega (arith, less, own)) in
      let there = step_there from.0 earlier from.2 in
      (from.0, step_at from.0, from.1, there.0, there.1)

  slots_used : (i : ℕ) → i < length slots → (number : ℕ) × (step : Step) × (slice_get steps number ≡ Some step) × (step.slot ≡ i)
  slots_used i less =
      let count = table_length slot_at (length keys) in
      let from = numbered.used i (omega (arith, less, count)) in
      let there = step_there from.0 i from.1 in
      (from.0, step_at from.0, there.0, there.1)

  slot_parent : (i : ℕ) → i < length keys → IsLastBelow (ImpliesSlot nodes slots (slot_at i)) i (slot_at i).parent
  slot_parent i less = last_as (λ k. Implies nodes (key i) (key k)) (ImpliesSlot nodes slots (slot_at i)) i to back (parent i).0 (parent i).1 where
    to : (k : ℕ) → k < i → Implies nodes (key i) (key k) → ImpliesSlot nodes slots (slot_at i) k
    to k before implies = (slot_at k, table_get slot_at (length keys) k (omega (arith, before, less)), implies)

    back : (k : ℕ) → k < i → ImpliesSlot nodes slots (slot_at i) k → Implies nodes (key i) (key k)
    back k before (other, at, implies) = subst (λ (x : Slot). Implies nodes (key i) x.guard) (sym (table_is slot_at (length keys) k other at).1) implies

  slots_parents : (i : ℕ) (s : Slot) → slice_get slots i ≡ Some s → IsLastBelow (ImpliesSlot nodes slots s) i s.parent
  slots_parents i s at =
      let of = table_is slot_at (length keys) i s at in
      subst (λ (x : Slot). IsLastBelow (ImpliesSlot nodes slots x) i x.parent) of.1 (slot_parent i of.0)

  are_slots : AreSlots nodes steps slots
  are_slots = record { differ = slots_differ; first = slots_first; used = slots_used; parents = slots_parents }

  pub code : CodeView
  code = record { steps = steps; slots = slots }

  pub is_code : (operations : List Operation) (order : List ℕ) (parts : PartsView) (actor : ℕ) → instructions ≡ instructions_of operations order parts actor → IsCode nodes operations order parts actor code
  unfolding code
  is_code operations order parts actor same = record {
    count = table_length step_at (length instructions) ∙ ap length same;
    steps = λ k i step is at.
        let of = table_is step_at (length instructions) k step at in
        subst (IsStepOf nodes slots i) of.1 (is_step k i (ap (λ (xs : List Instruction). slice_get xs k) same ∙ is));
    slots = are_slots;
  }

-- ---- codes

module _ (nodes : List Node) (operations : List Operation) (order : List ℕ) (parts : PartsView) (held : (number : ℕ) (p : Operation) → slice_get operations number ≡ Some p → (r : Ref) × IsRefOf nodes p.guard r) where
  true_ref : (r : Ref) × IsRefOf nodes always r
  unfolding value_at
  true_ref = (record { number = 1 }, record { holds = omega arith; function = λ truths. ap (λ d. value_at d truths) (diagram-true nodes (record { number = 1 }) refl) })

  guard_held : (actor : ℕ) (i : Instruction) → IsFor operations order parts.links parts.clusters actor i → (r : Ref) × IsRefOf nodes i.guard r
  guard_held actor _ (does j number p stands own) = held number p stands.is
  guard_held actor _ (sends j number link p stands own from) = held number p stands.is
  guard_held actor _ (receives j number link p stands other from to) = held number p stands.is
  guard_held actor _ _ = true_ref

  code_exists : (actor : ℕ) → (code : CodeView) × IsCode nodes operations order parts actor code
  code_exists actor =
      let instructions = instructions_of operations order parts actor in
      let refs = refs_exist nodes instructions (λ i there. guard_held actor i (instruction_for operations order parts actor i there)) in
      let numbered = numbered_exist dec_reference refs.0 in
      (code nodes instructions refs.0 numbered.0 numbered.1 refs.1 numbered.2, is_code nodes instructions refs.0 numbered.0 numbered.1 refs.1 numbered.2 operations order parts actor refl)

  abbrev code_of : ℕ → CodeView
  code_of actor = (code_exists actor).0

  pub codes_exist : (codes : List CodeView) × AreCodes nodes operations order parts codes
  codes_exist = (
    table code_of (parts.clusters + 1),
    record {
      actors = table_length code_of (parts.clusters + 1);
      each = λ actor code at.
          let of = table_is code_of (parts.clusters + 1) actor code at in
          subst (IsCode nodes operations order parts actor) of.1 (code_exists actor).1;
    },
  )
