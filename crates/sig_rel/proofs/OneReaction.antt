-- A reaction that keeps to a proposal is the one that the values are that keep to the tables of a triangular kernel.
use Rattle.sig_rel.proofs.Common.{◌≡◌, ◌<◌, inl, inr, ℕ, zero, suc, Bool, true, false, List, [], ◌∷◌, length, get_or, map, take, Option, None, Some, refl, sym, ap, ◌∙◌, subst, arith, Contains, is_some, slice_get, option_map, range_with_len, cases_Bool, false≢true, ext_get_or, get_or-map-range_with_len, length-map-range_with_len, SigId, kind_at, IsValid, Equation, Form, When, WhenConst, Default, Kernel, Allows, KeepsTo, is_condition, signal_id, Reaction, Speaks, Status, is_present, is_silent, status_at, truth_of_status, where_true, or_else, constant_truth, at_contained, contains_at, contains_head, contains_later, statuses_are_same, truth_of, is_boolean, AreRules, AreValues, Values, value_status, AreConditions, Governs, IsTriangle, MayHold, form_at, operand_signals, Element, Presence, Truth, or_from}
use Rattle.sig_rel.proofs.ChosenTruths.{all_statuses}
use Rattle.sig_rel.proofs.ClassLemmas.{least_within, least_own}
use Rattle.sig_rel.proofs.FormLemmas.{inside, met, three, two}
use Rattle.sig_rel.proofs.ToldElements.{Told, class_told, of_class as class_presence, told_whole, truth_told}
use Rattle.sig_rel.proofs.TriangleLemmas.{before_place, class_place, not_own, place_of_class}
use Rattle.sig_rel.proofs.ValueFits.{or_else_present}

quiet_if_absent : (reaction : Reaction) → ((k : ℕ) → k < length reaction → is_present reaction k ≡ false) → is_silent reaction ≡ true
quiet_if_absent [] absent = refl
quiet_if_absent (None ∷ reaction) absent = quiet_if_absent reaction (λ k lt. absent (suc k) (omega (arith, lt)))
quiet_if_absent (Some b ∷ reaction) absent = absurd (false≢true (sym (absent 0 (omega arith))))

no_condition : (s x : Status) → is_some s ≡ false → is_some (where_true s x) ≡ false
no_condition None x absent = refl
no_condition (Some b) x absent = absurd (false≢true (sym absent))

module _ (kernel : Kernel) (valid : IsValid kernel) (least : List ℕ) (counted defined : List (Option ℕ)) (rules : AreRules kernel least counted defined)
    (list : List Element) (tri : IsTriangle kernel least list) (r : Reaction) (speaks : Speaks kernel r) where
  count : length r ≡ length kernel.signals
  count = all_statuses kernel.signals r speaks.is.kinds

  -- a signal is present with the least one of its class
  of_class : (x : ℕ) → x < length kernel.signals → is_present r x ≡ is_present r (get_or least x 0)
  of_class x lt = class_presence kernel valid least rules.are_least r speaks.is x lt

  -- ---- where the top is absent

  -- a class that an equation gives its presence is absent where the operands' classes are
  absent_by : (class number : ℕ) (form : Form) → form_at kernel number ≡ Some form → Governs least class form → ((x : ℕ) → Contains (operand_signals form) x → x < length kernel.signals → is_present r x ≡ false) → is_present r class ≡ false
  absent_by class number (When y x b) at governs absent =
      let l = three kernel y x b (inside kernel valid number (When y x b) at) in
      let e = statuses_are_same (status_at r y.0) (where_true (status_at r b.0) (status_at r x.0)) (met kernel valid number (When y x b) at r speaks.is) in
      let pb = absent b.0 (contains_later x.0 b.0 (b.0 ∷ []) (contains_head b.0 [])) l.2 in
      ap (is_present r) (sym governs) ∙ sym (of_class y.0 l.0) ∙ e ∙ no_condition (status_at r b.0) (status_at r x.0) pb
  absent_by class number (WhenConst y c b) at governs absent =
      let l = two kernel y b (inside kernel valid number (WhenConst y c b) at) in
      let e = statuses_are_same (status_at r y.0) (where_true (status_at r b.0) (Some (constant_truth (kind_at kernel.signals y) c))) (met kernel valid number (WhenConst y c b) at r speaks.is) in
      let pb = absent b.0 (contains_head b.0 []) l.1 in
      ap (is_present r) (sym governs) ∙ sym (of_class y.0 l.0) ∙ e ∙ no_condition (status_at r b.0) (Some (constant_truth (kind_at kernel.signals y) c)) pb
  absent_by class number (Default y u v) at governs absent =
      let l = three kernel y u v (inside kernel valid number (Default y u v) at) in
      let e = statuses_are_same (status_at r y.0) (or_else (status_at r u.0) (status_at r v.0)) (met kernel valid number (Default y u v) at r speaks.is) in
      ap (is_present r) (sym governs) ∙ sym (of_class y.0 l.0) ∙ e ∙ or_else_present (status_at r u.0) (status_at r v.0)
      ∙ or_from (is_present r u.0) (is_present r v.0) (absent u.0 (contains_head u.0 (v.0 ∷ [])) l.1) (absent v.0 (contains_later u.0 v.0 (v.0 ∷ []) (contains_head v.0 [])) l.2)
  absent_by class number _ at governs absent = absurd governs

  absent_below : is_present r tri.top ≡ false → (m k class : ℕ) → k < m → slice_get list k ≡ Some (Presence class) → is_present r class ≡ false
  absent_below top zero k class lt at = absurd (omega (arith, lt))
  absent_below top (suc m) zero class lt at = let both : Some (Presence class) ≡ Some (Presence tri.top) = sym at ∙ tri.first in let e : Presence class ≡ Presence tri.top = cc in let same : class ≡ tri.top = cc in ap (is_present r) same ∙ top
  absent_below top (suc m) (suc k) class lt at =
      let may = tri.order (suc k) (Presence class) (omega arith) at in
      absent_by class may.number may.form may.counted.at may.counted.governs (λ x there lx.
      let before = before_place (suc k) list (Presence (get_or least x 0)) (may.classes x there) in
      of_class x lx ∙ absent_below top m before.0 (get_or least x 0) (let lb = before.1 in omega (arith, lt, lb)) before.2)

  all_absent : is_present r tri.top ≡ false → is_silent r ≡ true
  all_absent top = quiet_if_absent r (λ k lt.
      let within : k < length kernel.signals = let e = count in omega (arith, lt, e) in
      let place = class_place kernel least list tri (get_or least k 0) (least_within kernel least rules.are_least k within, least_own kernel least rules.are_least k within) in
      of_class k within ∙ absent_below top (suc place.0) place.0 (get_or least k 0) (omega arith) place.1)

  -- the top is present in each reaction that is not silent
  pub top_present : is_present r tri.top ≡ true
  top_present = by (is_present r tri.top) refl where
    by : (b : Bool) → is_present r tri.top ≡ b → is_present r tri.top ≡ true
    by true e = e
    by false e = absurd (false≢true (sym speaks.some ∙ all_absent e))

  module _ (conditions : List SigId) (are : AreConditions kernel conditions) (proposal : List Bool) (values : Values)
      (keeps : AreValues kernel least counted defined conditions tri.top proposal values) (kept : KeepsTo conditions proposal r) where
    abbrev IsTold : Element → Type 0
    IsTold = Told kernel valid least rules.are_least r speaks.is values keeps.plain

    -- ---- element by element

    boolean_told : (before : List Element) → ((element : Element) → Contains before element → IsTold element) → (signal : ℕ) → is_boolean kernel signal ≡ true → MayHold kernel least before signal → IsTold (Truth signal)
    boolean_told before told signal boolean may present = by (status_at r signal) refl where
      condition_told : (a : Bool) → status_at r signal ≡ Some a → is_condition kernel signal ≡ true → a ≡ values.truth signal
      condition_told a e is =
          let there : Contains conditions (signal_id signal) = (are.all (signal_id signal)).1 is in
          let place = at_contained conditions (signal_id signal) there in
          let allowed : Allows (Some a) (truth_of proposal there.0) = subst (λ s. Allows s (truth_of proposal there.0)) e (kept there.0 (signal_id signal) place) in
          allowed ∙ sym (keeps.proposals there.0 (signal_id signal) place)

      other_told : (a : Bool) → status_at r signal ≡ Some a → is_condition kernel signal ≡ false → a ≡ values.truth signal
      other_told a e isnt =
          let number = rules.all_defined signal boolean isnt in
          let is = rules.is_defined signal number.0 number.1 in
          let at = ap (option_map (λ (e : Equation). e.form)) is.1 in
          let among = contains_at kernel.equations number.0 is.0 is.1 in
          truth_told kernel valid least rules.are_least r speaks.is values keeps.plain before told signal a e boolean isnt number.0 is.0.form at is.2 (may.classes isnt is.0 among is.2) (may.truths isnt is.0 among is.2) (λ b gives. keeps.truths signal number.0 is.0.form b number.1 at gives)

      by : (s : Status) → status_at r signal ≡ s → truth_of_status (status_at r signal) ≡ values.truth signal
      by None e = absurd (false≢true (ap is_some (sym e) ∙ present))
      by (Some a) e = ap truth_of_status e ∙ elim (cases_Bool (is_condition kernel signal)) [ inl is ↦ condition_told a e is | inr isnt ↦ other_told a e isnt ]

    told_below : (m k : ℕ) (element : Element) → k < m → slice_get list k ≡ Some element → IsTold element
    told_below zero k element lt at = absurd (omega (arith, lt))
    told_below (suc m) zero element lt at =
        let both : Some (Presence tri.top) ≡ Some element = sym tri.first ∙ at in
        let e : Presence tri.top ≡ element = cc in
        subst IsTold e (top_present ∙ sym keeps.highest)
    told_below (suc m) (suc k) (Presence class) lt at =
        let may = tri.order (suc k) (Presence class) (omega arith) at in
        let there = rules.all_counted class may.number may.form (place_of_class kernel least list tri (suc k) class at) may.counted (not_own kernel least list tri (suc k) class at may) in
        class_told kernel valid least rules.are_least r speaks.is values keeps.plain (take (suc k) list) (λ element among. let before = before_place (suc k) list element among in told_below m before.0 element (let lb = before.1 in omega (arith, lt, lb)) before.2)
        class may.number may.form may.counted.at may.counted.governs may.classes may.tests (keeps.classes class may.number may.form there may.counted.at)
    told_below (suc m) (suc k) (Truth signal) lt at =
        boolean_told (take (suc k) list) (λ element among. let before = before_place (suc k) list element among in told_below m before.0 element (let lb = before.1 in omega (arith, lt, lb)) before.2)
        signal ((tri.truths signal).0 (contains_at list (suc k) (Truth signal) at)) (tri.order (suc k) (Truth signal) (omega arith) at)

    told_in_list : (element : Element) → Contains list element → IsTold element
    told_in_list element there = told_below (suc there.0) there.0 element (omega arith) (at_contained list element there)

    told_at : (x : ℕ) → x < length kernel.signals → status_at r x ≡ value_status least values x
    told_at x lt = told_whole kernel valid least rules.are_least r speaks.is values keeps.plain list told_in_list x lt
        ((tri.classes (get_or least x 0)).1 (least_within kernel least rules.are_least x lt, least_own kernel least rules.are_least x lt))
        (λ boolean. (tri.truths x).1 boolean)

    pub one_reaction : map (value_status least values) (range_with_len 0 (length kernel.signals)) ≡ r
    one_reaction =
        let long = length-map-range_with_len (value_status least values) 0 (length kernel.signals) in
        ext_get_or None (map (value_status least values) (range_with_len 0 (length kernel.signals))) r (long ∙ sym count) (λ x lt.
        let within : x < length kernel.signals = omega (arith, lt, long) in
        get_or-map-range_with_len (value_status least values) 0 (length kernel.signals) x x None within (omega arith) ∙ sym (told_at x within))
