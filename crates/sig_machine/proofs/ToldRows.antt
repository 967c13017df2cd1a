-- The truths that instructions in a row tell.
use Rattle.sig_machine.proofs.Common.{◌≡◌, ◌≤◌, ◌+◌, ◌⊎◌, ◌∙◌, inl, inr, ℕ, ℤ, Bool, List, length, set, slice_get, Option, None, Some, refl, sym, ap, subst, arith, length-set, eqb_tells, get_within, is_one, AreToldBetween, IsNextTold, cell, told_at, Instruction}
use Rattle.sig_machine.proofs.Lists.{same_Some}
use Rattle.sig_lists.proofs.SetItems.{get_set_other, get_set_same}
use Rattle.std.proofs.lemmas.Bool.{cases_lt}

-- ---- one truth

-- whether a place of a table stands for a variable
stands_for : (found : Option (Option ℕ)) (variable : ℕ) → (found ≡ Some (Some variable)) ⊎ (found ≡ Some (Some variable) → ⊥)
stands_for None variable = inr (λ e. let clash : None ≡ Some (Some variable) = e in cc)
stands_for (Some None) variable = inr (λ e. let clash : None ≡ Some variable = same_Some None (Some variable) e in cc)
stands_for (Some (Some other)) variable = elim (eqb_tells other variable) [
  | inl same ↦ inl (ap (λ (v : ℕ). Some (Some v)) same.1)
  | inr differ ↦ inr (λ e. differ.1 (same_Some other variable (same_Some (Some other) (Some variable) e)))
]

pub told_count : (found : Option (Option ℕ)) (holds : Bool) (truths : List Bool) → length (told_at found holds truths) ≡ length truths
told_count None holds truths = refl
told_count (Some None) holds truths = refl
told_count (Some (Some variable)) holds truths = length-set truths variable holds

told_this : (found : Option (Option ℕ)) (holds : Bool) (truths : List Bool) (variable : ℕ) (h : Bool) → found ≡ Some (Some variable) → slice_get (told_at found holds truths) variable ≡ Some h → h ≡ holds
told_this found holds truths variable h is there =
    let set_there : slice_get (set truths variable holds) variable ≡ Some h = subst (λ (o : Option (Option ℕ)). slice_get (told_at o holds truths) variable ≡ Some h) is there in
    let within = get_within (set truths variable holds) variable h set_there in
    let count = length-set truths variable holds in
    same_Some h holds (sym set_there ∙ get_set_same truths variable holds (omega (arith, within, count)))

told_other : (found : Option (Option ℕ)) (holds : Bool) (truths : List Bool) (variable : ℕ) → (found ≡ Some (Some variable) → ⊥) → slice_get (told_at found holds truths) variable ≡ slice_get truths variable
told_other None holds truths variable other = refl
told_other (Some None) holds truths variable other = refl
told_other (Some (Some told)) holds truths variable other = get_set_other truths told variable holds (λ e. other (ap (λ (v : ℕ). Some (Some v)) (sym e)))

-- ---- those between two places

module _ (instructions : List Instruction) (variables : List (Option ℕ)) (cells : List ℤ) where
  pub none_told : (place : ℕ) (truths : List Bool) → AreToldBetween instructions variables cells place place truths truths
  none_told place truths = record {
    count = refl;
    each = λ variable holds is. inr (is, λ number instruction later before. absurd (omega (arith, later, before)));
  }

  -- up to the next place that tells one
  pub none_told_before : (place next to : ℕ) (truths : List Bool) → IsNextTold instructions variables place next → to ≤ next → AreToldBetween instructions variables cells place to truths truths
  none_told_before place next to truths is early = record {
    count = refl;
    each = λ variable holds there. inr (there, λ number instruction later before at. is.between number instruction later (omega (arith, before, early)) at variable);
  }

  pub one_told : (place next : ℕ) (instruction : Instruction) (old new : List Bool) → IsNextTold instructions variables place next → slice_get instructions next ≡ Some instruction
      → new ≡ told_at (slice_get variables instruction.target) (is_one (cell cells instruction.target)) old → AreToldBetween instructions variables cells place (next + 1) old new
  one_told place next instruction old new is at told = record {
    count = ap length told ∙ told_count (slice_get variables instruction.target) (is_one (cell cells instruction.target)) old;
    each = λ variable holds there.
        let here = sym (ap (λ (ts : List Bool). slice_get ts variable) told) ∙ there in
        elim (stands_for (slice_get variables instruction.target) variable) [
          | inl stands ↦ inl (record {
            place = next;
            instruction = instruction;
            later = is.forth;
            before = omega arith;
            is = at;
            tells = stands;
            value = told_this (slice_get variables instruction.target) (is_one (cell cells instruction.target)) old variable holds stands here;
          })
          | inr other ↦ inr (
            sym (told_other (slice_get variables instruction.target) (is_one (cell cells instruction.target)) old variable other) ∙ here,
            λ number one later before there_one tells. elim (eqb_tells number next) [
              | inl same ↦ other (subst (λ (i : Instruction). slice_get variables i.target ≡ Some (Some variable)) (same_Some one instruction (sym there_one ∙ ap (slice_get instructions) same.1 ∙ at)) tells)
              | inr differ ↦ is.between number one later (let apart = differ.1 in omega (arith, before, apart)) there_one variable tells
            ],
          )
        ];
  }

  -- one row behind another
  pub told_further : (from mid to : ℕ) (old between new : List Bool) → from ≤ mid → mid ≤ to → AreToldBetween instructions variables cells from mid old between
      → AreToldBetween instructions variables cells mid to between new → AreToldBetween instructions variables cells from to old new
  told_further from mid to old between new early late first second = record {
    count = second.count ∙ first.count;
    each = λ variable holds there. elim (second.each variable holds there) [
      | inl told ↦ inl (record { place = told.place; instruction = told.instruction; later = let a = told.later in omega (arith, a, early); before = told.before; is = told.is; tells = told.tells; value = told.value })
      | inr (was, none) ↦ elim (first.each variable holds was) [
        | inl told ↦ inl (record { place = told.place; instruction = told.instruction; later = told.later; before = let b = told.before in omega (arith, b, late); is = told.is; tells = told.tells; value = told.value })
        | inr (at_first, none_before) ↦ inr (
          at_first,
          λ number instruction later before at. elim (cases_lt number mid) [
            | inl earlier ↦ none_before number instruction later earlier at
            | inr behind ↦ none number instruction behind before at
          ],
        )
      ]
    ];
  }
