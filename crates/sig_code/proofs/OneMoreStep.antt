-- A code that goes on by one step.
use Rattle.sig_code.proofs.Common.{◌≡◌, ℕ, ◌<◌, ◌≤◌, true, List, ◌∷◌, ◌++◌, [], length, None, Some, Option, get_or, slice_get, refl, sym, ap, ◌∙◌, subst, inl, inr, arith, length-append, position, position_or_len, cases_lt, eq-eqb, eqb-true, lt-ltb, All-push, position-Some, fails_before_first, get_or_from_slice_get, slice_get-get_or, slice_get_within, Adds, AreHeld, FindsSlot, HasNoSlot, IsCodeOf, IsNewSlot, IsSlotOf, IsWithin, has_guard, doing, Holds, IsRefOf, test, Node, Ref, AreSlots, CodeView, ImpliesSlot, Instruction, IsLastBelow, IsStepOf, Slot, Step, StepKind, get_last, get_pushed}
use Rattle.sig_code.proofs.Parents.{no_slot}
use Rattle.sig_code.proofs.OneMoreElement.{push_old}

-- a slot that was found has the guard
pub slot_found : (slots : List Slot) (guard : Ref) (number : ℕ) → position (has_guard guard) slots ≡ Some number → IsSlotOf slots guard number
slot_found slots guard number is =
    let found = position-Some (has_guard guard) slots number no_slot is in
    let same = eqb-true (get_or slots number no_slot).guard.number guard.number found.1 in
    record {
      slot = get_or slots number no_slot;
      has = slice_get-get_or slots number no_slot found.0;
      guarded = ap (λ (n : ℕ). let r : Ref = record { number = n } in r) same;
    }

-- where none is found, there is none
pub none_found : (slots : List Slot) (guard : Ref) → position (has_guard guard) slots ≡ None → HasNoSlot slots guard
none_found slots guard is number has =
    let lt = slice_get_within slots number has.slot has.has in
    let at = get_or_from_slice_get slots number has.slot no_slot has.has in
    let passes : has_guard guard (get_or slots number no_slot) ≡ true = ap (has_guard guard) at ∙ eq-eqb has.slot.guard.number guard.number (ap (λ (r : Ref). r.number) has.guarded) in
    let first = position_or_len (has_guard guard) slots in
    elim (cases_lt first (length slots)) [
      | inl found ↦ let test = lt-ltb first (length slots) found in cc
      | inr past ↦ let fails = fails_before_first (has_guard guard) slots number no_slot (omega (arith, lt, past)) in cc
    ]

-- of the steps, one has each of the slots below a number
abbrev AllMet : List Step → ℕ → Type 0
AllMet steps bound = (earlier : ℕ) → earlier < bound → (k : ℕ) × (other : Step) × (k < length steps) × (slice_get steps k ≡ Some other) × (other.slot ≡ earlier)

module _ (steps : List Step) (slots : List Slot) (used : (i : ℕ) → i < length slots → (number : ℕ) × (step : Step) × (slice_get steps number ≡ Some step) × (step.slot ≡ i)) where
  all_met : AllMet steps (length slots)
  all_met earlier lt = let u = used earlier lt in (u.0, u.1, slice_get_within steps u.0 u.1 u.2, u.2, u.3)

module _ (nodes : List Node) (steps : List Step) (slots : List Slot) (are : AreSlots nodes steps slots) (last : Step) where
  abbrev More : List Step
  More = steps ++ last ∷ []

  -- one more step: its slot is one of those that are met, or the one behind them
  first_more : last.slot ≤ length slots → (number : ℕ) (step : Step) → slice_get More number ≡ Some step
      → (earlier : ℕ) → earlier < step.slot → (k : ℕ) × (other : Step) × (k < number) × (slice_get More k ≡ Some other) × (other.slot ≡ earlier)
  first_more le number step is earlier lt =
      elim (get_pushed steps last number step is) [
        | inl before ↦ let f = are.first number step before earlier lt in (f.0, f.1, f.2, push_old steps last f.0 f.1 f.3, f.4)
        | inr here ↦
            let slot = ap (λ (s : Step). s.slot) here.1 in
            let m = all_met steps slots are.used earlier (omega (arith, lt, le, slot)) in
            (m.0, m.1, omega (arith, m.2, here.0), push_old steps last m.0 m.1 m.3, m.4)
      ]

  used_more : (i : ℕ) → i < length slots → (number : ℕ) × (step : Step) × (slice_get More number ≡ Some step) × (step.slot ≡ i)
  used_more i lt = let u = are.used i lt in (u.0, u.1, push_old steps last u.0 u.1 u.2, u.3)

  -- the slot of the step is an older one
  pub slots_same : last.slot < length slots → AreSlots nodes More slots
  slots_same lt = record { differ = are.differ; first = first_more (omega (arith, lt)); used = used_more; parents = are.parents }

  -- or it is a new one
  module _ (guard : Ref) (new : List Slot) (number : ℕ) (one : IsNewSlot nodes slots new guard number) (at : last.slot ≡ number) where
    abbrev Slots : List Slot
    Slots = slots ++ one.slot ∷ []

    not_both : (k : ℕ) (s : Slot) → slice_get slots k ≡ Some s → s.guard ≡ one.slot.guard → ⊥
    not_both k s is same = one.none k (record { slot = s; has = is; guarded = same ∙ one.guarded })

    differ_more : (i j : ℕ) (s t : Slot) → slice_get Slots i ≡ Some s → slice_get Slots j ≡ Some t → s.guard ≡ t.guard → i ≡ j
    differ_more i j s t is other same =
        elim (get_pushed slots one.slot i s is) [
          | inl before ↦
              elim (get_pushed slots one.slot j t other) [
                | inl too ↦ are.differ i j s t before too same
                | inr here ↦ absurd (not_both i s before (same ∙ ap (λ (x : Slot). x.guard) (sym here.1)))
              ]
          | inr here ↦
              elim (get_pushed slots one.slot j t other) [
                | inl before ↦ absurd (not_both j t before (sym same ∙ ap (λ (x : Slot). x.guard) (sym here.1)))
                | inr too ↦ here.0 ∙ sym too.0
              ]
        ]

    used_new : (i : ℕ) → i < length Slots → (k : ℕ) × (step : Step) × (slice_get More k ≡ Some step) × (step.slot ≡ i)
    used_new i lt =
        elim (cases_lt i (length slots)) [
          | inl before ↦ used_more i before
          | inr past ↦
              let is : i ≡ length slots = omega (arith, lt, length-append slots (one.slot ∷ [])) in
              (length steps, last, get_last steps last, at ∙ one.place ∙ sym is)
        ]

    -- the slots below a bound are the same
    back : (guard : Ref) (k : ℕ) → k < length slots → IsWithin nodes Slots guard k → IsWithin nodes slots guard k
    back guard k lt within =
        elim (get_pushed slots one.slot k within.0 within.1) [ inl before ↦ (within.0, before, within.2) | inr here ↦ absurd (omega (arith, lt, here.0)) ]

    last_below : (guard : Ref) (bound : ℕ) (parent : Option ℕ) → bound ≤ length slots → IsLastBelow (IsWithin nodes slots guard) bound parent
        → IsLastBelow (IsWithin nodes Slots guard) bound parent
    last_below guard bound None le none = λ k lt within. none k lt (back guard k (omega (arith, lt, le)) within)
    last_below guard bound (Some parent) le is =
        (is.0, (is.1.0, push_old slots one.slot parent is.1.0 is.1.1, is.1.2), λ k above lt within. is.2 k above lt (back guard k (omega (arith, lt, le)) within))

    parent_last : IsLastBelow (ImpliesSlot nodes Slots one.slot) (length slots) one.slot.parent
    parent_last =
        subst (λ (g : Ref). IsLastBelow (IsWithin nodes Slots g) (length slots) one.slot.parent) (sym one.guarded)
        (last_below guard (length slots) one.slot.parent (omega arith) one.parent)

    parents_more : (i : ℕ) (s : Slot) → slice_get Slots i ≡ Some s → IsLastBelow (ImpliesSlot nodes Slots s) i s.parent
    parents_more i s is =
        elim (get_pushed slots one.slot i s is) [
          | inl before ↦ let lt = slice_get_within slots i s before in last_below s.guard i s.parent (omega (arith, lt)) (are.parents i s before)
          | inr here ↦
              subst (λ (x : Slot). IsLastBelow (ImpliesSlot nodes Slots x) i x.parent) here.1
              (subst (λ (n : ℕ). IsLastBelow (ImpliesSlot nodes Slots one.slot) n one.slot.parent) (sym here.0) parent_last)
        ]

    pub slots_new : AreSlots nodes More Slots
    slots_new = record {
      differ = differ_more;
      first = first_more (omega (arith, at, one.place));
      used = used_new;
      parents = parents_more;
    }

-- the slots of a code are held, since each is that of some step
step_kept : (nodes : List Node) (slots : List Slot) (s : Slot) (instruction : Instruction) (step : Step) → IsStepOf nodes slots instruction step
    → IsStepOf nodes (slots ++ s ∷ []) instruction step
step_kept nodes slots s instruction step is = record {
  kind = is.kind;
  position = is.position;
  slot = is.slot;
  has = push_old slots s step.slot is.slot is.has;
  guard = is.guard;
}

-- the step that does an instruction
step_done : (nodes : List Node) (slots : List Slot) (guard : Ref) (pos : ℕ) (kind : StepKind) (number : ℕ) → Holds nodes guard → IsSlotOf slots guard number
    → IsStepOf nodes slots (doing nodes guard pos kind) (record { kind = kind; pos = pos; slot = number })
step_done nodes slots guard pos kind number held is = record {
  kind = refl;
  position = refl;
  slot = is.slot;
  has = is.has;
  guard = subst (λ (g : Ref). IsRefOf nodes (test nodes guard) g) (sym is.guarded) (record { holds = held; function = λ truths. refl });
}

module _ (nodes : List Node) (guard : Ref) (pos : ℕ) (kind : StepKind) (number : ℕ) (held : Holds nodes guard) (old : CodeView) where
  abbrev Done : Step
  Done = record { kind = kind; pos = pos; slot = number }

  abbrev After : List Slot → CodeView
  After slots = record { steps = old.steps ++ Done ∷ []; slots = slots }

  -- the steps of the instructions so far, and the last
  steps_more : (slots : List Slot) (before : List Instruction) → IsCodeOf nodes before old → IsSlotOf slots guard number
      → ((instruction : Instruction) (step : Step) → IsStepOf nodes old.slots instruction step → IsStepOf nodes slots instruction step)
      → (k : ℕ) (instruction : Instruction) (step : Step) → slice_get (before ++ doing nodes guard pos kind ∷ []) k ≡ Some instruction
      → slice_get (old.steps ++ Done ∷ []) k ≡ Some step → IsStepOf nodes slots instruction step
  steps_more slots before is has kept k instruction step at there =
      elim (get_pushed before (doing nodes guard pos kind) k instruction at) [
        | inl earlier ↦
            elim (get_pushed old.steps Done k step there) [
              | inl too ↦ kept instruction step (is.steps k instruction step earlier too)
              | inr here ↦ let lt = slice_get_within before k instruction earlier in absurd (omega (arith, lt, here.0, is.count))
            ]
        | inr here ↦
            elim (get_pushed old.steps Done k step there) [
              | inl earlier ↦ let lt = slice_get_within old.steps k step earlier in absurd (omega (arith, lt, here.0, is.count))
              | inr too ↦
                  subst (λ (x : Step). IsStepOf nodes slots instruction x) too.1
                  (subst (λ (x : Instruction). IsStepOf nodes slots x Done) here.1 (step_done nodes slots guard pos kind number held has))
            ]
      ]

  count_more : (before : List Instruction) → length old.steps ≡ length before → length (old.steps ++ Done ∷ []) ≡ length (before ++ doing nodes guard pos kind ∷ [])
  count_more before same = omega (arith, same, length-append old.steps (Done ∷ []), length-append before (doing nodes guard pos kind ∷ []))

  new_slot : (new : List Slot) (one : IsNewSlot nodes old.slots new guard number) → IsSlotOf (old.slots ++ one.slot ∷ []) guard number
  new_slot new one = record {
    slot = one.slot;
    has = ap (λ (n : ℕ). slice_get (old.slots ++ one.slot ∷ []) n) one.place ∙ get_last old.slots one.slot;
    guarded = one.guarded;
  }

  pub adds_old : AreHeld nodes old.slots → IsSlotOf old.slots guard number → Adds nodes (doing nodes guard pos kind ∷ []) old (After old.slots)
  adds_old slots has = record {
    held = slots;
    goes_on = λ before is. record {
      count = count_more before is.count;
      steps = steps_more old.slots before is has (λ instruction step done. done);
      slots = slots_same nodes old.steps old.slots is.slots Done (slice_get_within old.slots number has.slot has.has);
    };
  }

  pub adds_new : AreHeld nodes old.slots → (new : List Slot) (one : IsNewSlot nodes old.slots new guard number)
      → Adds nodes (doing nodes guard pos kind ∷ []) old (After (old.slots ++ one.slot ∷ []))
  adds_new slots new one = record {
    held = All-push (λ (s : Slot). Holds nodes s.guard) old.slots one.slot slots (subst (λ (g : Ref). Holds nodes g) (sym one.guarded) held);
    goes_on = λ before is. record {
      count = count_more before is.count;
      steps = steps_more (old.slots ++ one.slot ∷ []) before is (new_slot new one) (λ instruction step done. step_kept nodes old.slots one.slot instruction step done);
      slots = slots_new nodes old.steps old.slots is.slots Done guard new number one refl;
    };
  }

-- a step with the slot of its guard
pub adds_step : (nodes : List Node) (guard : Ref) (pos : ℕ) (kind : StepKind) (number : ℕ) (old : CodeView) (slots : List Slot) (code : CodeView) → Holds nodes guard → AreHeld nodes old.slots
    → FindsSlot nodes old.slots slots guard number → code.slots ≡ slots → code.steps ≡ old.steps ++ record { kind = kind; pos = pos; slot = number } ∷ []
    → Adds nodes (doing nodes guard pos kind ∷ []) old code
adds_step nodes guard pos kind number old slots code held are found slots_are steps_are =
    let result = λ (ss : List Slot). Adds nodes (doing nodes guard pos kind ∷ []) old (record { steps = old.steps ++ record { kind = kind; pos = pos; slot = number } ∷ []; slots = ss }) in
    let adds : result slots =
    elim found [
      | inl same ↦ subst result (sym same.0) (adds_old nodes guard pos kind number held old are same.1)
      | inr one ↦ subst result (sym one.added) (adds_new nodes guard pos kind number held old are slots one)
    ] in
    subst (λ (c : CodeView). Adds nodes (doing nodes guard pos kind ∷ []) old c) (λ j. record { steps = sym steps_are j; slots = sym slots_are j }) adds

-- no instructions
pub empty_code : (nodes : List Node) (code : CodeView) → code.steps ≡ [] → code.slots ≡ [] → IsCodeOf nodes [] code
empty_code nodes code no_steps no_slots =
    let none : CodeView = record { steps = []; slots = [] } in
    let P : CodeView → Type 0 = IsCodeOf nodes [] in
    let nothing : (k : ℕ) (s : Slot) → slice_get {X = Slot} [] k ≡ Some s → ⊥ = λ k s is. let lt = slice_get_within [] k s is in omega (arith, lt) in
    let nowhere : (k : ℕ) (s : Step) → slice_get {X = Step} [] k ≡ Some s → ⊥ = λ k s is. let lt = slice_get_within [] k s is in omega (arith, lt) in
    let is : P none =
    record {
      count = refl;
      steps = λ k instruction step at there. absurd (nowhere k step there);
      slots = record {
        differ = λ i j s t is other same. absurd (nothing i s is);
        first = λ number step is earlier lt. absurd (nowhere number step is);
        used = λ i lt. absurd (omega (arith, lt));
        parents = λ i s is. absurd (nothing i s is);
      };
    } in
    subst P (λ j. record { steps = sym no_steps j; slots = sym no_slots j }) is
