-- A schedule that is put together one step after another.
use Rattle.sig_rel.proofs.Common.{◌≡◌, ◌<◌, ◌++◌, inl, inr, ℕ, zero, suc, Bool, true, false, not, List, [], ◌∷◌, length, get_or, map, replicate, take, Option, None, Some, refl, sym, ap, ◌∙◌, subst, arith, Contains, ◌&&◌, ◌==◌, slice_get, slice_set, slice_index, slice_index_or, range_with_len, and_parts, and_from, eq-eqb, eqb-true, false≢true, ltb-true, length-replicate, length-set, take-append-le, take_all, SigId, IsValid, form_within, is_below, Equation, Form, Fun, Delay, When, WhenConst, Default, Sync, Event, Kernel, AreLeast, contains_at, is_boolean, AreNamed, IsOrderOfWriting, IsPlannedStep, IsScheduling, IsStepBy, IsTaken, IsWhole, ReadsBefore, is_left, with_counted, with_defined, AreConditions, IsFreshWithin, counted_for, defined_for, governs, has_class, presence_ready, Governs, HasClasses, HasTruths, IsClass, form_at, operand_signals, tested, Element, Presence, Truth, Placed, Rules, Scheduling, Step, target_number, signal_of, is_ready, IsByTable, form_by, may_take, slice_get-get_or}
use Rattle.sig_rel.proofs.ElementLemmas.{same_element}
use Rattle.sig_rel.proofs.ClassLemmas.{least_own, least_within}
use Rattle.sig_rel.proofs.OnceDefined.{within_at}
use Rattle.sig_rel.proofs.PlacingLemmas.{among_more, both_said, fresh_within, got_more, governed_class, left_fresh, marks_more, not_listed, presence_says, row_there}
use Rattle.sig_rel.proofs.RuleLemmas.{are_rules, governs_true}
use Rattle.sig_rel.proofs.UnknownLemmas.{boolean_within}

-- ---- rows of tables

pub set_same : {X : Type 0} (xs : List X) (i : ℕ) (y : X) → i < length xs → slice_get (slice_set xs i y) i ≡ Some y
set_same [] i y lt = absurd (omega (arith, lt))
set_same (x ∷ xs) zero y lt = refl
set_same (x ∷ xs) (suc i) y lt = set_same xs i y (omega (arith, lt))

pub set_other : {X : Type 0} (xs : List X) (i k : ℕ) (y : X) → (k ≡ i → ⊥) → slice_get (slice_set xs i y) k ≡ slice_get xs k
set_other (x ∷ xs) zero zero y apart = absurd (apart refl)
set_other (x ∷ xs) (suc i) (suc k) y apart = set_other xs i k y (λ e. apart (ap suc e))
set_other _ _ _ y apart = refl

none_named : (n k number : ℕ) → slice_get (replicate n (let o : Option ℕ = None in o)) k ≡ Some (Some number) → ⊥
none_named zero k number at = let no : None ≡ Some (Some number) = at in cc
none_named (suc n) zero number at = let none : Option ℕ = None in let no : Some none ≡ Some (Some number) = at in cc
none_named (suc n) (suc k) number at = none_named n k number at

-- the table of classes with one more row
counted_other : (counted : List (Option ℕ)) (element : Element) (equation : Option ℕ) (class : ℕ) → (element ≡ Presence class → ⊥) → slice_get (with_counted counted element equation) class ≡ slice_get counted class
counted_other counted (Presence c) equation class apart = set_other counted c class equation (λ e. apart (ap Presence (sym e)))
counted_other counted (Truth s) equation class apart = refl

counted_length : (counted : List (Option ℕ)) (element : Element) (equation : Option ℕ) → length (with_counted counted element equation) ≡ length counted
counted_length counted (Presence c) equation = length-set counted c equation
counted_length counted (Truth s) equation = refl

defined_other : (defined : List (Option ℕ)) (element : Element) (equation : Option ℕ) (signal : ℕ) → (element ≡ Truth signal → ⊥) → slice_get (with_defined defined element equation) signal ≡ slice_get defined signal
defined_other defined (Presence c) equation signal apart = refl
defined_other defined (Truth s) equation signal apart = set_other defined s signal equation (λ e. apart (ap Truth (sym e)))

defined_length : (defined : List (Option ℕ)) (element : Element) (equation : Option ℕ) → length (with_defined defined element equation) ≡ length defined
defined_length defined (Presence c) equation = refl
defined_length defined (Truth s) equation = length-set defined s equation

one_form_at : (kernel : Kernel) (m n : ℕ) (f g : Form) → m ≡ n → form_at kernel m ≡ Some f → form_at kernel n ≡ Some g → f ≡ g
one_form_at kernel m n f g same at there = let both : Some f ≡ Some g = sym at ∙ ap (form_at kernel) same ∙ there in cc

-- ---- classes that equations govern

pub named_class : (kernel : Kernel) (valid : IsValid kernel) (rules : Rules) (named : AreNamed kernel rules) (class number : ℕ) → slice_get rules.counted.items class ≡ Some (Some number) → IsClass kernel rules.least.items class
named_class kernel valid rules named class number at = let is = named.presence class number at in governed_class kernel valid rules.least.items named.are_least class number is.0 is.1 is.2

-- ---- nothing is scheduled at first

pub named_first : (kernel : Kernel) (valid : IsValid kernel) (conditions : List SigId) (are : AreConditions kernel conditions) (rules : Rules) → AreLeast kernel rules.least.items
    → rules.counted.items ≡ replicate (length kernel.signals) None → rules.defined.items ≡ map (defined_for kernel conditions) (range_with_len 0 (length kernel.signals)) → AreNamed kernel rules
named_first kernel valid conditions are rules are_least none defined_are =
    let full = are_rules kernel valid rules.least.items conditions are (map (counted_for kernel rules.least.items) (range_with_len 0 (length kernel.signals))) rules.defined.items are_least refl defined_are in
    record {
      are_least = are_least;
      countings = ap length none ∙ length-replicate (length kernel.signals) None;
      definitions = full.definitions;
      presence = λ class number at. absurd (none_named (length kernel.signals) class number (ap (λ xs. slice_get xs class) (sym none) ∙ at));
      truth = full.is_defined;
    }

-- ---- one more step

step_class : (kernel : Kernel) (rules : Rules) (before : List Element) (class : ℕ) (equation : Option ℕ) → IsStepBy kernel rules before (Presence class) equation → IsClass kernel rules.least.items class
step_class kernel rules before class None is = is
step_class kernel rules before class (Some number) is = is.0

step_truth : (kernel : Kernel) (rules : Rules) (before : List Element) (signal : ℕ) (equation : Option ℕ) → IsStepBy kernel rules before (Truth signal) equation → is_boolean kernel signal ≡ true
step_truth kernel rules before signal None is = is
step_truth kernel rules before signal (Some number) is = is.0

module _ (kernel : Kernel) (old new : Scheduling) (step : Step) (is : IsScheduling kernel old) (planned : IsPlannedStep kernel old step) (taken : IsTaken old new step) where
  abbrev list : List Element
  list = old.placed.list.items

  least_kept : old.rules.least.items ≡ new.rules.least.items
  least_kept = ap (λ v. v.items) (sym taken.least)

  fresh_in_list : Contains list step.element → ⊥
  fresh_in_list there = not_listed kernel old.rules.least.items old.placed is.marks step.element planned.fresh there

  counted_row : (class : ℕ) → (step.element ≡ Presence class → ⊥) → slice_get new.rules.counted.items class ≡ slice_get old.rules.counted.items class
  counted_row class apart = ap (λ xs. slice_get xs class) taken.counted ∙ counted_other old.rules.counted.items step.element step.equation class apart

  defined_row : (signal : ℕ) → (step.element ≡ Truth signal → ⊥) → slice_get new.rules.defined.items signal ≡ slice_get old.rules.defined.items signal
  defined_row signal apart = ap (λ xs. slice_get xs signal) taken.defined ∙ defined_other old.rules.defined.items step.element step.equation signal apart

  class_within : (class : ℕ) → step.element ≡ Presence class → class < length old.rules.counted.items
  class_within class same =
      let here = fresh_within kernel old.rules.least.items old.placed is.marks step.element planned.fresh in
      let lt : class < length kernel.signals = subst (λ e. signal_of e < length kernel.signals) same here in
      let long = is.order.named.countings in
      omega (arith, lt, long)

  truth_within : (signal : ℕ) → step.element ≡ Truth signal → signal < length old.rules.defined.items
  truth_within signal same =
      let here = fresh_within kernel old.rules.least.items old.placed is.marks step.element planned.fresh in
      let lt : signal < length kernel.signals = subst (λ e. signal_of e < length kernel.signals) same here in
      let long = is.order.named.definitions in
      omega (arith, lt, long)

  counted_here : (class : ℕ) → step.element ≡ Presence class → slice_get new.rules.counted.items class ≡ Some step.equation
  counted_here class same = ap (λ xs. slice_get xs class) taken.counted ∙ ap (λ e. slice_get (with_counted old.rules.counted.items e step.equation) class) same ∙ set_same old.rules.counted.items class step.equation (class_within class same)

  defined_here : (signal : ℕ) → step.element ≡ Truth signal → slice_get new.rules.defined.items signal ≡ Some step.equation
  defined_here signal same = ap (λ xs. slice_get xs signal) taken.defined ∙ ap (λ e. slice_get (with_defined old.rules.defined.items e step.equation) signal) same ∙ set_same old.rules.defined.items signal step.equation (truth_within signal same)

  -- what the step's equation is
  step_by : (element : Element) (equation : Option ℕ) → step.element ≡ element → step.equation ≡ equation → IsStepBy kernel old.rules list element equation
  step_by element equation same here = subst (λ e. IsStepBy kernel old.rules list e equation) same (subst (λ o. IsStepBy kernel old.rules list step.element o) here planned.by)

  given_here : (entry : Option (Option ℕ)) (number : ℕ) → entry ≡ Some step.equation → entry ≡ Some (Some number) → step.equation ≡ Some number
  given_here entry number first second = let both : Some step.equation ≡ Some (Some number) = sym first ∙ second in cc

  named_more : AreNamed kernel new.rules
  named_more = record {
    are_least = subst (AreLeast kernel) least_kept is.order.named.are_least;
    countings = ap length taken.counted ∙ counted_length old.rules.counted.items step.element step.equation ∙ is.order.named.countings;
    definitions = ap length taken.defined ∙ defined_length old.rules.defined.items step.element step.equation ∙ is.order.named.definitions;
    presence = λ class number at. elim (same_element step.element (Presence class)) [
      | inr apart ↦ let named = is.order.named.presence class number (sym (counted_row class apart) ∙ at) in (named.0, named.1, subst (λ least. Governs least class named.0) least_kept named.2)
      | inl same ↦
          let by = step_by (Presence class) (Some number) same (given_here (slice_get new.rules.counted.items class) number (counted_here class same) at) in
          (by.1.0, by.1.1, subst (λ least. Governs least class by.1.0) least_kept by.1.2)
    ];
    truth = λ signal number at. elim (same_element step.element (Truth signal)) [
      | inr apart ↦ is.order.named.truth signal number (sym (defined_row signal apart) ∙ at)
      | inl same ↦
          let by = step_by (Truth signal) (Some number) same (given_here (slice_get new.rules.defined.items signal) number (defined_here signal same) at) in
          is.order.named.truth signal number by.1
    ];
  }

  -- an element that was scheduled earlier reads what it read
  reads_kept : (before : List Element) (element : Element) → (step.element ≡ element → ⊥) → ReadsBefore kernel old.rules before element → ReadsBefore kernel new.rules before element
  reads_kept before (Presence class) apart reads = λ number form at there.
      let has = reads number form (sym (counted_row class apart) ∙ at) there in
      (subst (λ least. HasClasses least before (operand_signals form)) least_kept has.0, has.1)
  reads_kept before (Truth signal) apart reads = λ number form at there.
      let has = reads number form (sym (defined_row signal apart) ∙ at) there in
      (subst (λ least. HasClasses least before (operand_signals form)) least_kept has.0, has.1)

  reads_here : (element : Element) → step.element ≡ element → ReadsBefore kernel new.rules list element
  reads_here (Presence class) same = λ number form at there.
      let by = step_by (Presence class) (Some number) same (given_here (slice_get new.rules.counted.items class) number (counted_here class same) at) in
      let e = one_form_at kernel number number by.1.0 form refl by.1.1 there in
      (subst (λ least. HasClasses least list (operand_signals form)) least_kept (subst (λ f. HasClasses old.rules.least.items list (operand_signals f)) e by.1.3), subst (λ f. HasTruths kernel list (tested f)) e by.1.4)
  reads_here (Truth signal) same = λ number form at there.
      let by = step_by (Truth signal) (Some number) same (given_here (slice_get new.rules.defined.items signal) number (defined_here signal same) at) in
      let has = by.2 form there in
      (subst (λ least. HasClasses least list (operand_signals form)) least_kept has.0, has.1)

  order_more : IsOrderOfWriting kernel new.rules (list ++ step.element ∷ [])
  order_more = record {
    named = named_more;
    classes = λ class there. subst (λ least. IsClass kernel least class) least_kept (elim (among_more list step.element (Presence class) there) [
      | inl earlier ↦ is.order.classes class earlier
      | inr same ↦ step_class kernel old.rules list class step.equation (step_by (Presence class) step.equation (sym same) refl)
    ]);
    truths = λ signal there. elim (among_more list step.element (Truth signal) there) [
      | inl earlier ↦ is.order.truths signal earlier
      | inr same ↦ step_truth kernel old.rules list signal step.equation (step_by (Truth signal) step.equation (sym same) refl)
    ];
    once = λ i j e at there. elim (got_more list step.element i e at) [
      | inl a ↦ elim (got_more list step.element j e there) [
        | inl b ↦ is.order.once i j e a.1 b.1
        | inr b ↦ absurd (fresh_in_list (subst (Contains list) b.1 (contains_at list i e a.1)))
      ]
      | inr a ↦ elim (got_more list step.element j e there) [
        | inl b ↦ absurd (fresh_in_list (subst (Contains list) a.1 (contains_at list j e b.1)))
        | inr b ↦ a.0 ∙ sym b.0
      ]
    ];
    order = λ k e at. elim (got_more list step.element k e at) [
      | inl a ↦ subst (λ before. ReadsBefore kernel new.rules before e) (sym (take-append-le k list (step.element ∷ []) (let lt = a.0 in omega arith)))
          (reads_kept (take k list) e (λ same. fresh_in_list (subst (Contains list) (sym same) (contains_at list k e a.1))) (is.order.order k e a.1))
      | inr a ↦ subst (λ before. ReadsBefore kernel new.rules before e)
          (sym (take-append-le k list (step.element ∷ []) (let same = a.0 in omega arith) ∙ take_all k list (let same = a.0 in omega arith)))
          (reads_here e (sym a.1))
    ];
  }

  pub scheduling_more : IsScheduling kernel new
  scheduling_more = record {
    order = subst (IsOrderOfWriting kernel new.rules) (sym taken.list) order_more;
    marks = marks_more (length kernel.signals) old.placed new.placed step.element is.marks (fresh_within kernel old.rules.least.items old.placed is.marks step.element planned.fresh) taken.list taken.classes taken.truths;
  }

-- ---- what may be next

module _ (kernel : Kernel) (valid : IsValid kernel) (scheduling : Scheduling) (is : IsScheduling kernel scheduling) where
  abbrev least : List ℕ
  least = scheduling.rules.least.items

  abbrev placed : Placed
  placed = scheduling.placed

  left_boolean : (signal : ℕ) → is_left kernel least placed (Truth signal) ≡ true → is_boolean kernel signal ≡ true
  left_boolean signal left =
      let parts = and_parts (is_boolean kernel signal && has_class least placed signal) (not (slice_index_or placed.truths.items signal false)) left in
      (and_parts (is_boolean kernel signal) (has_class least placed signal) parts.0).0

  cut_by : (element : Element) → signal_of element < length kernel.signals → is_left kernel least placed element ≡ true → IsStepBy kernel scheduling.rules placed.list.items element None
  cut_by (Presence class) lt left = (lt, eqb-true (slice_index least class) class (and_parts (slice_index least class == class) (not (slice_index_or placed.classes.items class false)) left).0)
  cut_by (Truth signal) lt left = left_boolean signal left

  pub planned_cut : (step : Step) (element : Element) → step.element ≡ element → step.equation ≡ None → signal_of element < length kernel.signals → is_left kernel least placed element ≡ true → IsPlannedStep kernel scheduling step
  planned_cut step element same none lt left = record {
    fresh = subst (IsFreshWithin placed) (sym same) (left_fresh kernel least placed is.marks element lt left);
    by = subst (λ e. IsStepBy kernel scheduling.rules placed.list.items e step.equation) (sym same) (subst (λ o. IsStepBy kernel scheduling.rules placed.list.items element o) (sym none) (cut_by element lt left));
  }

  class_by : (class number : ℕ) (o : Option Form) → form_at kernel number ≡ o → is_ready kernel least placed (Presence class) o ≡ true → IsStepBy kernel scheduling.rules placed.list.items (Presence class) (Some number)
  class_by class number None at ready = absurd (false≢true ready)
  class_by class number (Some form) at ready =
      let parts = and_parts (governs least class form) (presence_ready kernel least placed form) ready in
      let governs_it = governs_true least class form parts.0 in
      let says = presence_says kernel least placed is.marks class form governs_it parts.1 in
      (governed_class kernel valid least is.order.named.are_least class number form at governs_it, (form, at, governs_it, says.0, says.1))

  made_by : (element : Element) (equation : Option ℕ) → ((signal : ℕ) → element ≡ Truth signal → equation ≡ slice_index_or scheduling.rules.defined.items signal None) → is_left kernel least placed element ≡ true
      → is_ready kernel least placed element (form_by kernel equation) ≡ true → IsStepBy kernel scheduling.rules placed.list.items element equation
  made_by (Presence class) None tabled left ready = absurd (false≢true ready)
  made_by (Presence class) (Some number) tabled left ready = class_by class number (form_at kernel number) refl ready
  made_by (Truth signal) None tabled left ready = left_boolean signal left
  made_by (Truth signal) (Some number) tabled left ready = (
    left_boolean signal left,
    row_there scheduling.rules.defined.items signal number (sym (tabled signal refl)),
    λ form at.
        let says = both_said kernel least placed is.marks form (sym (ap (is_ready kernel least placed (Truth signal)) at) ∙ ready) in
        ((λ z among. (says z among).0), (λ z among. (says z among).1)),
  )

  made_within : (element : Element) (equation : Option ℕ) → IsStepBy kernel scheduling.rules placed.list.items element equation → signal_of element < length kernel.signals
  made_within (Presence class) equation made = (step_class kernel scheduling.rules placed.list.items class equation made).0
  made_within (Truth signal) equation made = boolean_within kernel signal (step_truth kernel scheduling.rules placed.list.items signal equation made)

  -- a step that may be taken is planned
  pub planned_step : (step : Step) → IsByTable scheduling.rules step → may_take kernel least placed step ≡ true → IsPlannedStep kernel scheduling step
  planned_step step tabled may =
      let both = and_parts (is_left kernel least placed step.element) (is_ready kernel least placed step.element (form_by kernel step.equation)) may in
      let made = made_by step.element step.equation tabled both.0 both.1 in
      record { fresh = left_fresh kernel least placed is.marks step.element (made_within step.element step.equation made) both.0; by = made }

  -- the class that an equation is tried for is the number of a signal
  pub tried_within : (number : ℕ) (otherwise : Equation) → number < length kernel.equations → slice_index least (target_number (slice_index_or kernel.equations number otherwise).form) < length kernel.signals
  tried_within number otherwise lt =
      let equation : Equation = slice_index_or kernel.equations number otherwise in
      least_within kernel least is.order.named.are_least (target_number equation.form) (target_below equation.form (within_at kernel valid number equation (slice_get-get_or kernel.equations number otherwise lt))) where
        below : (y : SigId) (rest : Bool) → is_below (length kernel.signals) y && rest ≡ true → y.0 < length kernel.signals
        below y rest within = ltb-true y.0 (length kernel.signals) (and_parts (is_below (length kernel.signals) y) rest within).0

        target_below : (form : Form) → form_within (length kernel.signals) form ≡ true → target_number form < length kernel.signals
        target_below (Fun y op operands) within = below y _ within
        target_below (Delay y x c) within = below y _ within
        target_below (When y x b) within = below y _ within
        target_below (WhenConst y c b) within = below y _ within
        target_below (Default y u v) within = below y _ within
        target_below (Sync x y) within = below x _ within
        target_below (Event y x) within = below y _ within

  -- ---- nothing is left

  pub nothing_left : ((class : ℕ) → class < length kernel.signals → is_left kernel least placed (Presence class) ≡ false) → ((signal : ℕ) → signal < length kernel.signals → is_left kernel least placed (Truth signal) ≡ false) → IsWhole kernel scheduling
  nothing_left no_class no_truth = record { classes = class_there; truths = truth_there } where
    class_marked : (class : ℕ) → IsClass kernel least class → slice_index_or placed.classes.items class false ≡ true
    class_marked class of = by (slice_index_or placed.classes.items class false) refl where
      by : (b : Bool) → slice_index_or placed.classes.items class false ≡ b → slice_index_or placed.classes.items class false ≡ true
      by true e = e
      by false e = absurd (false≢true (sym (no_class class of.0) ∙ and_from (slice_index least class == class) (not (slice_index_or placed.classes.items class false)) (eq-eqb (slice_index least class) class of.1) (ap not e)))

    class_there : (class : ℕ) → IsClass kernel least class → Contains placed.list.items (Presence class)
    class_there class of = (is.marks.classes class).0 (class_marked class of)

    truth_there : (signal : ℕ) → is_boolean kernel signal ≡ true → Contains placed.list.items (Truth signal)
    truth_there signal boolean = (is.marks.truths signal).0 (by (slice_index_or placed.truths.items signal false) refl) where
      lt : signal < length kernel.signals
      lt = boolean_within kernel signal boolean

      own : has_class least placed signal ≡ true
      own = class_marked (get_or least signal 0) (least_within kernel least is.order.named.are_least signal lt, least_own kernel least is.order.named.are_least signal lt)

      by : (b : Bool) → slice_index_or placed.truths.items signal false ≡ b → slice_index_or placed.truths.items signal false ≡ true
      by true e = e
      by false e = absurd (false≢true (sym (no_truth signal lt)
          ∙ and_from (is_boolean kernel signal && has_class least placed signal) (not (slice_index_or placed.truths.items signal false)) (and_from (is_boolean kernel signal) (has_class least placed signal) boolean own) (ap not e)))
