-- The accepted plans of a kernel differ in the references of guards alone.
use Rattle.sig_plan.proofs.Common.{◌≡◌, ◌<◌, ◌+◌, ◌⊎◌, inl, inr, ℕ, List, [], ◌∷◌, length, get_or, refl, sym, ap, ◌∙◌, subst, arith, zero, suc, All, None, Option, Some, slice_get, cases_order, ext_get_or, OpId, one_reference, Agree, IsStore, StoreView, test, Node, Kernel, HasOperations, AreAlike, AreSlots, CodeView, ImpliesSlot, Instruction, IsLastBelow, IsStepOf, always, instructions_of, Operation, operations_in, presence_in, IsCompiledOrder, Precedes, AreParts, IsAccepted, PlanView, numbers_of, Slot, Step, Commit, slice_get-get_or, slice_get_within}
use Rattle.sig_plan.proofs.Accepted.{plan_operations}
use Rattle.sig_plan.proofs.OperationsOnce.{operations_once}
use Rattle.sig_plan.proofs.Orders.{same_order}
use Rattle.sig_plan.proofs.PartsOnce.{WritesWithin, operations_fine, parts_once}

-- ---- what is derived before the codes

id_same : (x y : OpId) → x.0 ≡ y.0 → x ≡ y
id_same x y same = λ j. record { 0 = same j }

ids_once : (xs ys : List OpId) → numbers_of xs ≡ numbers_of ys → xs ≡ ys
ids_once [] [] same = refl
ids_once (x ∷ xs) (y ∷ ys) same =
    let head : x.0 ≡ y.0 = cc in
    let tail : numbers_of xs ≡ numbers_of ys = cc in
    let first = id_same x y head in
    let rest = ids_once xs ys tail in
    λ j. first j ∷ rest j
ids_once _ _ same = cc

module _ (a b : PlanView) (one : IsAccepted a) (other : IsAccepted b) (kernels : a.kernel ≡ b.kernel) where
  has : HasOperations a.kernel b.clocks.conditions (operations_in b.store.nodes b.ops)
  has = subst (λ (k : Kernel). HasOperations k b.clocks.conditions (operations_in b.store.nodes b.ops)) (sym kernels) (plan_operations b other)

  made : (a.clocks.conditions ≡ b.clocks.conditions) × (operations_in a.store.nodes a.ops ≡ operations_in b.store.nodes b.ops)
  made = operations_once a.kernel one.valid a.clocks.conditions b.clocks.conditions (operations_in a.store.nodes a.ops) (operations_in b.store.nodes b.ops) (plan_operations a one) has

  pub same_conditions : a.clocks.conditions ≡ b.clocks.conditions
  same_conditions = made.0

  pub same_operations : operations_in a.store.nodes a.ops ≡ operations_in b.store.nodes b.ops
  same_operations = made.1

  abbrev operations : List Operation
  operations = operations_in b.store.nodes b.ops

  own_order : IsCompiledOrder b.clocks.conditions operations (numbers_of a.order)
  own_order =
      subst (λ c. IsCompiledOrder c operations (numbers_of a.order)) same_conditions
      (subst (λ (o : List Operation). IsCompiledOrder a.clocks.conditions o (numbers_of a.order)) same_operations one.order)

  own_parts : AreParts a.kernel b.clocks.conditions operations one.parts
  own_parts =
      subst (λ c. AreParts a.kernel c operations one.parts) same_conditions
      (subst (λ (o : List Operation). AreParts a.kernel a.clocks.conditions o one.parts) same_operations one.split)

  split : AreParts a.kernel b.clocks.conditions operations other.parts
  split = subst (λ (k : Kernel). AreParts k b.clocks.conditions operations other.parts) (sym kernels) other.split

  pub same_numbers : numbers_of a.order ≡ numbers_of b.order
  same_numbers = same_order (Precedes b.clocks.conditions operations) (length operations) (numbers_of a.order) (numbers_of b.order) own_order other.order

  pub same_ids : a.order ≡ b.order
  same_ids = ids_once a.order b.order same_numbers

  same_parts : (one.parts.clusters ≡ other.parts.clusters) × (one.parts.links ≡ other.parts.links)
  same_parts =
      let fine = subst (λ (o : List Operation). All (WritesWithin (length a.kernel.signals)) o) (sym one.operations.are ∙ same_operations) (operations_fine a.kernel (presence_in a.store.nodes a.clocks) one.valid) in
      parts_once a.kernel b.clocks.conditions operations fine one.parts other.parts own_parts split

  pub same_links : a.links ≡ b.links
  same_links = sym one.links ∙ (same_parts.1 ∙ other.links)

  pub same_actors : length a.codes ≡ length b.codes
  same_actors = one.codes.actors ∙ ap (λ m. m + 1) same_parts.0 ∙ sym other.codes.actors

  pub same_instructions : (actor : ℕ) → instructions_of (operations_in a.store.nodes a.ops) (numbers_of a.order) one.parts actor ≡ instructions_of (operations_in b.store.nodes b.ops) (numbers_of b.order) other.parts actor
  same_instructions actor = λ j. instructions_of (same_operations j) (same_numbers j) (record { clusters = same_parts.0 j; links = same_parts.1 j; imports = one.parts.imports }) actor

-- ---- codes of the same instructions

-- a code of these instructions
record IsCodeOf (nodes : List Node) (instructions : List Instruction) (code : CodeView) : Type 0 where
  count : length code.steps ≡ length instructions
  steps : (k : ℕ) (instruction : Instruction) (step : Step) → slice_get instructions k ≡ Some instruction → slice_get code.steps k ≡ Some step → IsStepOf nodes code.slots instruction step
  slots : AreSlots nodes code.steps code.slots

nothing : Instruction
nothing = record { kind = Commit; position = 0; guard = always }

module _ (instructions : List Instruction) (s : StoreView) (store : IsStore s) (code : CodeView) (is : IsCodeOf s.nodes instructions code) where
  instruction_at : (k : ℕ) (step : Step) → slice_get code.steps k ≡ Some step → slice_get instructions k ≡ Some (get_or instructions k nothing)
  instruction_at k step at = let lt = slice_get_within code.steps k step at in let count = is.count in slice_get-get_or instructions k nothing (omega (arith, lt, count))

  done : (k : ℕ) (step : Step) → slice_get code.steps k ≡ Some step → IsStepOf s.nodes code.slots (get_or instructions k nothing) step
  done k step at = is.steps k (get_or instructions k nothing) step (instruction_at k step at) at

  -- the guard of a step's slot is that of its instruction
  slot_function : (k : ℕ) (step : Step) (slot : Slot) → slice_get code.steps k ≡ Some step → slice_get code.slots step.slot ≡ Some slot → Agree (test s.nodes slot.guard) (get_or instructions k nothing).guard
  slot_function k step slot at there =
      let same : (done k step at).slot ≡ slot = (let e : Some (done k step at).slot ≡ Some slot = sym (done k step at).has ∙ there in cc) in
      subst (λ (t : Slot). Agree (test s.nodes t.guard) (get_or instructions k nothing).guard) same (done k step at).guard.function

  -- steps of one slot have one function
  one_function : (k m : ℕ) (x y : Step) → slice_get code.steps k ≡ Some x → slice_get code.steps m ≡ Some y → x.slot ≡ y.slot → Agree (get_or instructions k nothing).guard (get_or instructions m nothing).guard
  one_function k m x y at_k at_m same ts =
      let there = (done m y at_m).has in
      sym (slot_function k x (done m y at_m).slot at_k (ap (slice_get code.slots) same ∙ there) ts) ∙ slot_function m y (done m y at_m).slot at_m there ts

  -- and of one function one slot
  one_slot : (k m : ℕ) (x y : Step) → slice_get code.steps k ≡ Some x → slice_get code.steps m ≡ Some y → Agree (get_or instructions k nothing).guard (get_or instructions m nothing).guard → x.slot ≡ y.slot
  one_slot k m x y at_k at_m same =
      let first = done k x at_k in
      let second = done m y at_m in
      is.slots.differ x.slot y.slot first.slot second.slot first.has second.has
      (one_reference s store first.slot.guard second.slot.guard first.guard.holds second.guard.holds (λ ts. first.guard.function ts ∙ (same ts ∙ sym (second.guard.function ts))))

last_once : (P Q : ℕ → Type 0) (bound : ℕ) → ((k : ℕ) → k < bound → P k → Q k) → ((k : ℕ) → k < bound → Q k → P k) → (x y : Option ℕ) → IsLastBelow P bound x → IsLastBelow Q bound y → x ≡ y
last_once P Q bound to from None None one other = refl
last_once P Q bound to from None (Some m) one other = absurd (one m other.0 (from m other.0 other.1))
last_once P Q bound to from (Some k) None one other = absurd (other k one.0 (to k one.0 one.1))
last_once P Q bound to from (Some k) (Some m) one other = elim (cases_order k m) [
  | inl same ↦ ap Some same
  | inr (inl less) ↦ absurd (one.2 m less other.0 (from m other.0 other.1))
  | inr (inr more) ↦ absurd (other.2 k more one.0 (to k one.0 one.1))
]

module _ (instructions : List Instruction) (s t : StoreView) (store : IsStore s) (others : IsStore t) (a b : CodeView) (one : IsCodeOf s.nodes instructions a) (other : IsCodeOf t.nodes instructions b) where
  counts : length a.steps ≡ length b.steps
  counts = one.count ∙ sym other.count

  step_of_b : (k : ℕ) (x : Step) → slice_get a.steps k ≡ Some x → (y : Step) × (slice_get b.steps k ≡ Some y)
  step_of_b k x at = let lt = slice_get_within a.steps k x at in (get_or b.steps k x, slice_get-get_or b.steps k x (omega (arith, lt, counts)))

  step_of_a : (k : ℕ) (y : Step) → slice_get b.steps k ≡ Some y → (x : Step) × (slice_get a.steps k ≡ Some x)
  step_of_a k y at = let lt = slice_get_within b.steps k y at in (get_or a.steps k y, slice_get-get_or a.steps k y (omega (arith, lt, counts)))

  slots_same : (n k : ℕ) → k < n → (x y : Step) → slice_get a.steps k ≡ Some x → slice_get b.steps k ≡ Some y → x.slot ≡ y.slot
  slots_same zero k lt x y at_a at_b = absurd (omega (arith, lt))
  slots_same (suc n) k lt x y at_a at_b = by (cases_order x.slot y.slot) (slots_same n)
    where
      by : ((x.slot ≡ y.slot) ⊎ ((x.slot < y.slot) ⊎ (y.slot < x.slot))) → ((m : ℕ) → m < n → (u v : Step) → slice_get a.steps m ≡ Some u → slice_get b.steps m ≡ Some v → u.slot ≡ v.slot) → x.slot ≡ y.slot
      by (inl same) before = same
      by (inr (inl less)) before =
          let (m, v, lt_m, at_m, is) = other.slots.first k y at_b x.slot less in
          let (u, at_u) = step_of_a m v at_m in
          let same = before m (omega (arith, lt_m, lt)) u v at_u at_m in
          let agree = one_function instructions s store a one m k u x at_u at_a (same ∙ is) in
          sym is ∙ one_slot instructions t others b other m k v y at_m at_b agree
      by (inr (inr more)) before =
          let (m, u, lt_m, at_m, is) = one.slots.first k x at_a y.slot more in
          let (v, at_v) = step_of_b m u at_m in
          let same = before m (omega (arith, lt_m, lt)) u v at_m at_v in
          let agree = one_function instructions t others b other m k v y at_v at_b (sym same ∙ is) in
          sym (one_slot instructions s store a one m k u x at_m at_a agree) ∙ is

  step_same : (k : ℕ) (x y : Step) → slice_get a.steps k ≡ Some x → slice_get b.steps k ≡ Some y → x ≡ y
  step_same k x y at_a at_b =
      let first = done instructions s store a one k x at_a in
      let second = done instructions t others b other k y at_b in
      let kind = first.kind ∙ sym second.kind in
      let position = first.position ∙ sym second.position in
      let slot = slots_same (suc k) k (omega arith) x y at_a at_b in
      λ j. record { kind = kind j; pos = position j; slot = slot j }

  steps_same : a.steps ≡ b.steps
  steps_same =
      let d : Step = record { kind = Commit; pos = 0; slot = 0 } in
      ext_get_or d a.steps b.steps counts (λ k lt. step_same k (get_or a.steps k d) (get_or b.steps k d) (slice_get-get_or a.steps k d lt) (slice_get-get_or b.steps k d (omega (arith, lt, counts))))

  -- a slot of one code is there in the other one, with the same function
  matched : (i : ℕ) (x : Slot) → slice_get a.slots i ≡ Some x → (y : Slot) × (slice_get b.slots i ≡ Some y) × Agree (test s.nodes x.guard) (test t.nodes y.guard)
  matched i x at =
      let (k, u, at_u, is) = one.slots.used i (slice_get_within a.slots i x at) in
      let (v, at_v) = step_of_b k u at_u in
      let same = slots_same (suc k) k (omega arith) u v at_u at_v in
      let second = done instructions t others b other k v at_v in (
        second.slot,
        ap (slice_get b.slots) (sym is ∙ same) ∙ second.has,
        λ ts.
            slot_function instructions s store a one k u x at_u (ap (slice_get a.slots) is ∙ at) ts ∙ sym (second.guard.function ts),
      )

  matched_back : (i : ℕ) (y : Slot) → slice_get b.slots i ≡ Some y → (x : Slot) × (slice_get a.slots i ≡ Some x) × Agree (test s.nodes x.guard) (test t.nodes y.guard)
  matched_back i y at =
      let (k, v, at_v, is) = other.slots.used i (slice_get_within b.slots i y at) in
      let (u, at_u) = step_of_a k v at_v in
      let same = slots_same (suc k) k (omega arith) u v at_u at_v in
      let first = done instructions s store a one k u at_u in (
        first.slot,
        ap (slice_get a.slots) (sym is ∙ sym same) ∙ first.has,
        λ ts.
            first.guard.function ts ∙ sym (slot_function instructions t others b other k v y at_v (ap (slice_get b.slots) is ∙ at) ts),
      )

  slot_same : (i : ℕ) (x : Slot) (y z : Slot) → slice_get b.slots i ≡ Some y → slice_get b.slots i ≡ Some z → y ≡ z
  slot_same i x y z at also = let e : Some y ≡ Some z = sym at ∙ also in cc

  guards_same : (i : ℕ) (x y : Slot) → slice_get a.slots i ≡ Some x → slice_get b.slots i ≡ Some y → Agree (test s.nodes x.guard) (test t.nodes y.guard)
  guards_same i x y at_a at_b =
      let (z, at_z, agree) = matched i x at_a in
      subst (λ (w : Slot). Agree (test s.nodes x.guard) (test t.nodes w.guard)) (slot_same i x z y at_z at_b) agree

  slot_counts : length a.slots ≡ length b.slots
  slot_counts = elim (cases_order (length a.slots) (length b.slots)) [
    | inl same ↦ same
    | inr (inl less) ↦
        let d : Slot = record { guard = record { number = 0 }; parent = None } in
        let (x, at, agree) = matched_back (length a.slots) (get_or b.slots (length a.slots) d) (slice_get-get_or b.slots (length a.slots) d less) in
        absurd (let lt = slice_get_within a.slots (length a.slots) x at in omega (arith, lt))
    | inr (inr more) ↦
        let d : Slot = record { guard = record { number = 0 }; parent = None } in
        let (y, at, agree) = matched (length b.slots) (get_or a.slots (length b.slots) d) (slice_get-get_or a.slots (length b.slots) d more) in
        absurd (let lt = slice_get_within b.slots (length b.slots) y at in omega (arith, lt))
  ]

  parents_same : (i : ℕ) (x y : Slot) → slice_get a.slots i ≡ Some x → slice_get b.slots i ≡ Some y → x.parent ≡ y.parent
  parents_same i x y at_a at_b =
      last_once (ImpliesSlot s.nodes a.slots x) (ImpliesSlot t.nodes b.slots y) i
      (λ k lt (u, at_u, implies). let (v, at_v, agree) = matched k u at_u in
      (v, at_v, λ ts holds. sym (agree ts) ∙ implies ts (guards_same i x y at_a at_b ts ∙ holds)))
      (λ k lt (v, at_v, implies). let (u, at_u, agree) = matched_back k v at_v in
      (u, at_u, λ ts holds. agree ts ∙ implies ts (sym (guards_same i x y at_a at_b ts) ∙ holds)))
      x.parent y.parent (one.slots.parents i x at_a) (other.slots.parents i y at_b)

  alike : AreAlike s.nodes t.nodes a b
  alike = record { steps = steps_same; count = slot_counts; parents = parents_same; guards = guards_same }

module _ (a b : PlanView) (one : IsAccepted a) (other : IsAccepted b) (kernels : a.kernel ≡ b.kernel) where
  -- the codes of an actor are alike
  pub codes_alike : (actor : ℕ) (x y : CodeView) → slice_get a.codes actor ≡ Some x → slice_get b.codes actor ≡ Some y → AreAlike a.store.nodes b.store.nodes x y
  codes_alike actor x y at_a at_b =
      let first = one.codes.each actor x at_a in
      let second = other.codes.each actor y at_b in
      alike (instructions_of (operations_in b.store.nodes b.ops) (numbers_of b.order) other.parts actor) a.store b.store one.store other.store x y
      (subst (λ (is : List Instruction). IsCodeOf a.store.nodes is x) (same_instructions a b one other kernels actor) (record { count = first.count; steps = first.steps; slots = first.slots }))
      (record { count = second.count; steps = second.steps; slots = second.slots })
