-- Values that keep to a schedule's equations are the reaction that its cuts and conditions fit.
use Rattle.sig_rel.proofs.Common.{◌≡◌, ◌<◌, ℕ, zero, suc, Bool, true, List, length, get_or, map, take, Option, None, Some, refl, sym, ap, ◌∙◌, arith, Contains, is_some, slice_get, option_map, range_with_len, false≢true, ext_get_or, get_or-map-range_with_len, length-map-range_with_len, IsValid, Equation, Kernel, IsReaction, Reaction, Status, status_at, truth_of_status, at_contained, contains_at, is_boolean, Values, value_status, IsOrderOfWriting, AreSubstituted, Fits, IsCutClass, IsClass, Element, Presence, Truth, Unknowns, Rules}
use Rattle.sig_rel.proofs.ChosenTruths.{all_statuses}
use Rattle.sig_rel.proofs.ClassLemmas.{least_own, least_within}
use Rattle.sig_rel.proofs.PlacingLemmas.{past}
use Rattle.sig_rel.proofs.ToldElements.{Told, class_told, told_whole, truth_told}
use Rattle.sig_rel.proofs.TriangleLemmas.{before_place}
use Rattle.sig_rel.proofs.UnknownLemmas.{boolean_within}

module _ (kernel : Kernel) (valid : IsValid kernel) (rules : Rules) (list : List Element) (order : IsOrderOfWriting kernel rules list) (r : Reaction) (reaction : IsReaction kernel r)
    (unknowns : Unknowns) (truths : List Bool) (values : Values) (are : AreSubstituted kernel rules unknowns truths values) (fits : Fits kernel rules unknowns r truths) where
  abbrev least : List ℕ
  least = rules.least.items

  abbrev IsTold : Element → Type 0
  IsTold = Told kernel valid least order.named.are_least r reaction values are.plain

  module _ (k : ℕ) (told : (element : Element) → Contains (take k list) element → IsTold element) where
    -- a class is told by its equation, and a cut by its unknown
    class_by : (class : ℕ) → slice_get list k ≡ Some (Presence class) → (o : Option (Option ℕ)) → slice_get rules.counted.items class ≡ o → IsTold (Presence class)
    class_by class at None there =
        let is = order.classes class (contains_at list k (Presence class) at) in
        absurd (past rules.counted.items class there (let lt = is.0 in let long = order.named.countings in omega (arith, lt, long)))
    class_by class at (Some None) there =
        let cut : IsCutClass kernel rules class = (order.classes class (contains_at list k (Presence class) at), there) in
        sym (fits.classes class cut) ∙ sym (are.cut_classes class cut)
    class_by class at (Some (Some number)) there =
        let named = order.named.presence class number there in
        let needs = order.order k (Presence class) at number named.0 there named.1 in
        class_told kernel valid least order.named.are_least r reaction values are.plain (take k list) told class number named.0 named.1 named.2 needs.0 needs.1 (are.classes class number named.0 (there, named.1))

    cut_told : (signal : ℕ) → is_boolean kernel signal ≡ true → slice_get rules.defined.items signal ≡ Some None → (b : Bool) → status_at r signal ≡ Some b → b ≡ values.truth signal
    cut_told signal boolean there b e = sym (fits.truths_had signal b (boolean, there) e) ∙ sym (are.cut_truths signal (boolean, there))

    given_told : (signal number : ℕ) → slice_get list k ≡ Some (Truth signal) → slice_get rules.defined.items signal ≡ Some (Some number) → (b : Bool) → status_at r signal ≡ Some b → b ≡ values.truth signal
    given_told signal number at there b e =
        let named = order.named.truth signal number there in
        let at_form = ap (option_map (λ (x : Equation). x.form)) named.1 in
        let needs = order.order k (Truth signal) at number named.0.form there at_form in
        truth_told kernel valid least order.named.are_least r reaction values are.plain (take k list) told signal b e named.3 named.4 number named.0.form at_form named.2 needs.0 needs.1
        (λ c gives. are.truths_given signal number named.0.form c (there, at_form) gives)

    truth_by : (signal : ℕ) → slice_get list k ≡ Some (Truth signal) → (o : Option (Option ℕ)) → slice_get rules.defined.items signal ≡ o → IsTold (Truth signal)
    truth_by signal at o there present = by (status_at r signal) refl where
      boolean : is_boolean kernel signal ≡ true
      boolean = order.truths signal (contains_at list k (Truth signal) at)

      some_by : (b : Bool) → status_at r signal ≡ Some b → (p : Option (Option ℕ)) → slice_get rules.defined.items signal ≡ p → b ≡ values.truth signal
      some_by b e None it = absurd (past rules.defined.items signal it (let lt = boolean_within kernel signal boolean in let long = order.named.definitions in omega (arith, lt, long)))
      some_by b e (Some None) it = cut_told signal boolean it b e
      some_by b e (Some (Some number)) it = given_told signal number at it b e

      by : (s : Status) → status_at r signal ≡ s → truth_of_status (status_at r signal) ≡ values.truth signal
      by None e = absurd (false≢true (ap is_some (sym e) ∙ present))
      by (Some b) e = ap truth_of_status e ∙ some_by b e o there

  told_below : (m k : ℕ) (element : Element) → k < m → slice_get list k ≡ Some element → IsTold element
  told_below zero k element lt at = absurd (omega (arith, lt))
  told_below (suc m) k (Presence class) lt at =
      class_by k (λ element among. let before = before_place k list element among in told_below m before.0 element (let lb = before.1 in omega (arith, lt, lb)) before.2) class at (slice_get rules.counted.items class) refl
  told_below (suc m) k (Truth signal) lt at =
      truth_by k (λ element among. let before = before_place k list element among in told_below m before.0 element (let lb = before.1 in omega (arith, lt, lb)) before.2) signal at (slice_get rules.defined.items signal) refl

  told_in_list : (element : Element) → Contains list element → IsTold element
  told_in_list element there = told_below (suc there.0) there.0 element (omega arith) (at_contained list element there)

  module _ (all_classes : (class : ℕ) → IsClass kernel least class → Contains list (Presence class)) (all_truths : (signal : ℕ) → is_boolean kernel signal ≡ true → Contains list (Truth signal)) where
    pub agreeing : (x : ℕ) → x < length kernel.signals → value_status least values x ≡ status_at r x
    agreeing x lt = sym (told_whole kernel valid least order.named.are_least r reaction values are.plain list told_in_list x lt
        (all_classes (get_or least x 0) (least_within kernel least order.named.are_least x lt, least_own kernel least order.named.are_least x lt))
        (λ boolean. all_truths x boolean))

    pub agreeing_all : map (value_status least values) (range_with_len 0 (length kernel.signals)) ≡ r
    agreeing_all =
        let long = length-map-range_with_len (value_status least values) 0 (length kernel.signals) in
        ext_get_or None (map (value_status least values) (range_with_len 0 (length kernel.signals))) r (long ∙ sym (all_statuses kernel.signals r reaction.kinds)) (λ x lt.
        let within : x < length kernel.signals = omega (arith, lt, long) in
        get_or-map-range_with_len (value_status least values) 0 (length kernel.signals) x x None within (omega arith) ∙ agreeing x within)
