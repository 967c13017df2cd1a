-- A relation looks at the reaction alone that truths are.
use Rattle.sig_rel.proofs.Common.{◌≡◌, ◌≢◌, ◌<◌, ℕ, Bool, true, false, List, length, get_or, Option, None, Some, refl, sym, ap, ◌∙◌, subst, arith, if◌then◌else◌, inl, inr, slice_get, is_some, cases_eq, ext_get_or, slice_get-get_or, Kernel, IsReaction, Status, is_present, status_at, truth_of, with_truth, test, Node, truth_of-with_other, AreUnknowns, IsRelation, RelationView, reaction_in, status_in, truth_in}
use Rattle.sig_rel.proofs.ChosenTruths.{length_in}
use Rattle.sig_rel.proofs.Reactions.{status_of_unknowns}

same_by : (a b : Bool) → (a ≡ true → b ≡ true) → (b ≡ true → a ≡ true) → a ≡ b
same_by true b to from = sym (to refl)
same_by false true to from = from refl
same_by false false to from = refl

pub same_test : (kernel : Kernel) (count : ℕ) (nodes : List Node) (relation : RelationView) → IsRelation kernel count nodes relation → (truths others : List Bool)
    → reaction_in truths relation.present relation.truth ≡ reaction_in others relation.present relation.truth → test nodes relation.whole truths ≡ test nodes relation.whole others
same_test kernel count nodes relation is truths others same =
    same_by (test nodes relation.whole truths) (test nodes relation.whole others)
    (λ holds. (is.reactions others).1 (subst (IsReaction kernel) same ((is.reactions truths).0 holds)))
    (λ holds. (is.reactions truths).1 (subst (IsReaction kernel) (sym same) ((is.reactions others).0 holds)))

-- the status of a signal, of its own unknowns
pub status_told : (truths : List Bool) (present : List ℕ) (truth : List (Option ℕ)) (s : ℕ) → s < length present → s < length truth
    → status_at (reaction_in truths present truth) s ≡ status_in truths (get_or present s 0) (get_or truth s None)
status_told truths present truth s lp lt = status_of_unknowns truths present truth s (get_or present s 0) (get_or truth s None) (slice_get-get_or present s 0 lp) (slice_get-get_or truth s None lt)

some_where : (b c : Bool) → is_some (let s : Status = if b then Some c else None in s) ≡ b
some_where true c = refl
some_where false c = refl

pub presence_told : (truths : List Bool) (present : List ℕ) (truth : List (Option ℕ)) (s : ℕ) → s < length present → s < length truth
    → is_present (reaction_in truths present truth) s ≡ truth_of truths (get_or present s 0)
presence_told truths present truth s lp lt = ap is_some (status_told truths present truth s lp lt) ∙ some_where (truth_of truths (get_or present s 0)) (truth_in truths (get_or truth s None))

module _ (kernel : Kernel) (count : ℕ) (present : List ℕ) (truth : List (Option ℕ)) (are : AreUnknowns kernel count present truth) (truths : List Bool) (signal v : ℕ) (b : Bool)
    (at : slice_get truth signal ≡ Some (Some v)) (absent : truth_of truths (get_or present signal 0) ≡ false) where
  presence_stays : (s : ℕ) → s < length present → truth_of (with_truth truths v b) (get_or present s 0) ≡ truth_of truths (get_or present s 0)
  presence_stays s lt = truth_of-with_other truths v b (get_or present s 0) (λ e. are.differ s signal v (slice_get-get_or present s 0 lt ∙ ap Some e) at)

  truth_stays : (s : ℕ) (t : Option ℕ) → slice_get truth s ≡ Some t → s ≢ signal → truth_in (with_truth truths v b) t ≡ truth_in truths t
  truth_stays s None is apart = refl
  truth_stays s (Some w) is apart = truth_of-with_other truths v b w (λ e. apart (are.apart s signal v (is ∙ ap (λ n. Some (Some n)) e) at))

  status_stays : (s : ℕ) → s < length present → s < length truth → status_in (with_truth truths v b) (get_or present s 0) (get_or truth s None) ≡ status_in truths (get_or present s 0) (get_or truth s None)
  status_stays s lp lt = elim (cases_eq s signal) [
    | inl same ↦
        let away : truth_of truths (get_or present s 0) ≡ false = ap (λ n. truth_of truths (get_or present n 0)) same ∙ absent in
        ap (λ (p : Bool). if p then Some (truth_in (with_truth truths v b) (get_or truth s None)) else None) (presence_stays s lp ∙ away)
        ∙ sym (ap (λ (p : Bool). if p then Some (truth_in truths (get_or truth s None)) else None) away)
    | inr apart ↦ (λ j. if presence_stays s lp j then Some (truth_stays s (get_or truth s None) (slice_get-get_or truth s None lt) apart j) else None)
  ]

  -- the truth of a signal that is absent makes no difference
  pub reaction_stays : reaction_in (with_truth truths v b) present truth ≡ reaction_in truths present truth
  reaction_stays =
      let long : length truth ≡ length present = are.truths ∙ sym are.presences in
      let left = length_in (with_truth truths v b) present truth long in
      let right = length_in truths present truth long in
      ext_get_or None (reaction_in (with_truth truths v b) present truth) (reaction_in truths present truth) (left ∙ sym right)
      (λ s lt.
      let lp : s < length present = omega (arith, lt, left) in
      let lt' : s < length truth = omega (arith, lp, long) in
      status_told (with_truth truths v b) present truth s lp lt' ∙ status_stays s lp lt' ∙ sym (status_told truths present truth s lp lt'))
