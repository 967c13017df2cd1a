-- Truths of the unknowns that fit a reaction, where a schedule writes nothing.
use Rattle.sig_rel.proofs.Common.{◌≡◌, ◌<◌, inl, inr, ℕ, Bool, true, false, List, length, Option, None, Some, refl, sym, ap, ◌∙◌, arith, if◌then◌else◌, slice_get, slice_index, slice_index_or, cases_eq, slice_get-get_or, IsValid, Kernel, IsReaction, Reaction, Status, status_at, AreLeast, with_truth, truth_of-with_other, AreUnknowns, is_boolean, truth_in, Values, has, AreSubstituted, Fits, Unknowns, Rules}
use Rattle.sig_rel.proofs.ChosenTruths.{choice_of_presence, choice_of_truth, choices}
use Rattle.sig_rel.proofs.ValueReactions.{reaction, reaction_at, reaction_has}
use Rattle.sig_rel.proofs.UnknownLemmas.{boolean_within}

-- a signal that is present has the truth of its values
truth_told : (p t b : Bool) → (let s : Status = if p then Some t else None in s) ≡ Some b → t ≡ b
truth_told true t b e = cc
truth_told false t b e = absurd (let no : None ≡ Some b = e in cc)

module _ (kernel : Kernel) (rules : Rules) (count : ℕ) (unknowns : Unknowns) (are : AreUnknowns kernel count unknowns.present.items unknowns.truth.items) where
  present_there : (class : ℕ) → class < length kernel.signals → slice_get unknowns.present.items class ≡ Some (slice_index unknowns.present.items class)
  present_there class lt = slice_get-get_or unknowns.present.items class 0 (let e = are.presences in omega arith)

  truth_there : (signal : ℕ) → is_boolean kernel signal ≡ true → slice_get unknowns.truth.items signal ≡ Some (slice_index_or unknowns.truth.items signal None)
  truth_there signal boolean = slice_get-get_or unknowns.truth.items signal None (let lt = boolean_within kernel signal boolean in let e = are.truths in omega arith)

  -- the truths that are chosen for a reaction fit it
  pub chosen_fit : (r : Reaction) (is : IsReaction kernel r) → Fits kernel rules unknowns r (choices kernel count unknowns.present.items unknowns.truth.items are r is)
  chosen_fit r is = record {
    classes = λ class cut. choice_of_presence kernel count unknowns.present.items unknowns.truth.items are r is class (slice_index unknowns.present.items class) (present_there class cut.0.0);
    truths_had = λ signal b cut e. choice_of_truth kernel count unknowns.present.items unknowns.truth.items are r is signal (slice_index_or unknowns.truth.items signal None) b
        (boolean_within kernel signal cut.0) (truth_there signal cut.0) e;
  }

  -- truths fit the reaction that the values at them are
  pub reading_fits : (valid : IsValid kernel) (are_least : AreLeast kernel rules.least.items) (truths : List Bool) (values : Values) (all : AreSubstituted kernel rules unknowns truths values)
      → Fits kernel rules unknowns (reaction kernel valid rules.least.items are_least values all.plain) truths
  reading_fits valid are_least truths values all = record {
    classes = λ class cut.
        sym (all.cut_classes class cut) ∙ ap values.present (sym cut.0.1) ∙ sym (reaction_has kernel valid rules.least.items are_least values all.plain class cut.0.0);
    truths_had = λ signal b cut e.
        sym (all.cut_truths signal cut)
        ∙ truth_told (has rules.least.items values signal) (values.truth signal) b (sym (reaction_at kernel valid rules.least.items are_least values all.plain signal (boolean_within kernel signal cut.0)) ∙ e);
  }

  -- the truth of a boolean that is absent makes no difference
  module _ (r : Reaction) (truths : List Bool) (fits : Fits kernel rules unknowns r truths) (s v : ℕ) (b : Bool) (at : slice_get unknowns.truth.items s ≡ Some (Some v)) (absent : status_at r s ≡ None) where
    truth_stays : (signal : ℕ) → (signal ≡ s → ⊥) → (t : Option ℕ) → slice_get unknowns.truth.items signal ≡ Some t → truth_in (with_truth truths v b) t ≡ truth_in truths t
    truth_stays signal apart None there = refl
    truth_stays signal apart (Some w) there = truth_of-with_other truths v b w (λ e. apart (are.apart signal s v (there ∙ ap (λ n. Some (Some n)) e) at))

    pub changed_fits : Fits kernel rules unknowns r (with_truth truths v b)
    changed_fits = record {
      classes = λ class cut.
          truth_of-with_other truths v b (slice_index unknowns.present.items class) (λ e. are.differ class s v (present_there class cut.0.0 ∙ ap Some e) at) ∙ fits.classes class cut;
      truths_had = λ signal c cut e. elim (cases_eq signal s) [
        | inl same ↦ absurd (let no : None ≡ Some c = sym absent ∙ ap (status_at r) (sym same) ∙ e in cc)
        | inr apart ↦ truth_stays signal apart (slice_index_or unknowns.truth.items signal None) (truth_there signal cut.0) ∙ fits.truths_had signal c cut e
      ];
    }
