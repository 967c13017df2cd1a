-- The tables of a kernel.
use Rattle.sig_rel.proofs.Common.{◌≡◌, ◌<◌, ◌≤◌, ◌⊎◌, inl, inr, ℕ, zero, suc, Bool, true, false, not, List, [], ◌∷◌, length, get_or, map, Option, None, Some, refl, sym, ap, ◌∙◌, subst, arith, Contains, if◌then◌else◌, ◌&&◌, ◌||◌, ◌==◌, nat_lt, position, slice_get, option_map, list_all, list_any, position_or_len, range_with_len, and_parts, cases_Bool, cases_lt, cond-true, eq-eqb, eqb-true, false≢true, lt-ltb, not-true, or_cases, get_or-map-range_with_len, length-map-range_with_len, position-Some, fails_before_first, get_or_from_slice_get, slice_get-get_or, slice_get_within, SigId, target_of, IsValid, defines, is_target, Equation, Form, When, WhenConst, Default, Kernel, is_condition, signal_id, AreLeast, at_contained, contains_at, is_boolean, AreRules, AreConditions, counted_at, counted_for, counted_if, defined_for, gives, governs, has_operand_of, is_excused, is_numbered, repeats, target_number, Governs, HasOperandOf, IsCounted, Repeats, form_at, any_passes_from_place, or_left, or_right}
use Rattle.sig_rel.proofs.OnceDefined.{any_place, defined_once, some_definition}
use Rattle.sig_rel.proofs.UnknownLemmas.{boolean_within}

-- ---- the tests say what they ask

pub governs_true : (least : List ℕ) (class : ℕ) (form : Form) → governs least class form ≡ true → Governs least class form
governs_true least class (When y x b) is = eqb-true (get_or least y.0 0) class is
governs_true least class (WhenConst y c b) is = eqb-true (get_or least y.0 0) class is
governs_true least class (Default y u v) is = eqb-true (get_or least y.0 0) class is
governs_true least class _ is = absurd (false≢true is)

pub governs_from : (least : List ℕ) (class : ℕ) (form : Form) → Governs least class form → governs least class form ≡ true
governs_from least class (When y x b) is = eq-eqb (get_or least y.0 0) class is
governs_from least class (WhenConst y c b) is = eq-eqb (get_or least y.0 0) class is
governs_from least class (Default y u v) is = eq-eqb (get_or least y.0 0) class is
governs_from least class _ is = absurd is

pub operand_true : (least : List ℕ) (class : ℕ) (form : Form) → has_operand_of least class form ≡ true → HasOperandOf least class form
operand_true least class (Default y u v) is = elim (or_cases (get_or least u.0 0 == class) (get_or least v.0 0 == class) is) [
  | inl e ↦ inl (sym (eqb-true (get_or least u.0 0) class e))
  | inr e ↦ inr (sym (eqb-true (get_or least v.0 0) class e))
]
operand_true least class _ is = absurd (false≢true is)

pub operand_from : (least : List ℕ) (class : ℕ) (form : Form) → HasOperandOf least class form → has_operand_of least class form ≡ true
operand_from least class (Default y u v) is = elim is [
  | inl e ↦ or_left (get_or least u.0 0 == class) (get_or least v.0 0 == class) (eq-eqb (get_or least u.0 0) class (sym e))
  | inr e ↦ or_right (get_or least u.0 0 == class) (get_or least v.0 0 == class) (eq-eqb (get_or least v.0 0) class (sym e))
]
operand_from least class _ is = absurd is

repeats_true : (least : List ℕ) (class : ℕ) (counted form : Form) → repeats least class counted form ≡ true → Repeats least class counted form
repeats_true least class counted (Default y u v) is =
    elim (or_cases ((get_or least u.0 0 == class) && has_operand_of least (get_or least v.0 0) counted) ((get_or least v.0 0 == class) && has_operand_of least (get_or least u.0 0) counted) is) [
      | inl both ↦ let parts = and_parts (get_or least u.0 0 == class) (has_operand_of least (get_or least v.0 0) counted) both in inl (eqb-true (get_or least u.0 0) class parts.0, operand_true least (get_or least v.0 0) counted parts.1)
      | inr both ↦ let parts = and_parts (get_or least v.0 0 == class) (has_operand_of least (get_or least u.0 0) counted) both in inr (eqb-true (get_or least v.0 0) class parts.0, operand_true least (get_or least u.0 0) counted parts.1)
    ]
repeats_true least class counted _ is = absurd (false≢true is)

repeats_from : (least : List ℕ) (class : ℕ) (counted form : Form) → Repeats least class counted form → repeats least class counted form ≡ true
repeats_from least class counted (Default y u v) is = elim is [
  | inl both ↦ or_left ((get_or least u.0 0 == class) && has_operand_of least (get_or least v.0 0) counted) ((get_or least v.0 0 == class) && has_operand_of least (get_or least u.0 0) counted)
      (λ j. eq-eqb (get_or least u.0 0) class both.0 j && operand_from least (get_or least v.0 0) counted both.1 j)
  | inr both ↦ or_right ((get_or least u.0 0 == class) && has_operand_of least (get_or least v.0 0) counted) ((get_or least v.0 0 == class) && has_operand_of least (get_or least u.0 0) counted)
      (λ j. eq-eqb (get_or least v.0 0) class both.0 j && operand_from least (get_or least u.0 0) counted both.1 j)
]
repeats_from least class counted _ is = absurd is

-- what repeats has an operand of the class
repeats_own : (least : List ℕ) (class : ℕ) (counted form : Form) → Repeats least class counted form → HasOperandOf least class form
repeats_own least class counted (Default y u v) is = elim is [ inl both ↦ inl (sym both.0) | inr both ↦ inr (sym both.0) ]
repeats_own least class counted _ is = absurd is

-- what governs defines its target
governing_target : (least : List ℕ) (class : ℕ) (form : Form) → Governs least class form → is_target (target_number form) (target_of form) ≡ true
governing_target least class (When y x b) is = eq-eqb y.0 y.0 refl
governing_target least class (WhenConst y c b) is = eq-eqb y.0 y.0 refl
governing_target least class (Default y u v) is = eq-eqb y.0 y.0 refl
governing_target least class _ is = absurd is

-- ---- lists

pub position_found : {X : Type 0} (p : X → Bool) (xs : List X) (k : ℕ) (x : X) → slice_get xs k ≡ Some x → p x ≡ true → (m : ℕ) × (position p xs ≡ Some m)
position_found p xs k x at is =
    let lt = slice_get_within xs k x at in
    let here = ap p (get_or_from_slice_get xs k x x at) ∙ is in
    let le : position_or_len p xs ≤ k = elim (cases_lt k (position_or_len p xs)) [ inl before ↦ absurd (false≢true (sym (fails_before_first p xs k x before) ∙ here)) | inr le ↦ le ] in
    let within : position_or_len p xs < length xs = omega (arith, lt, le) in
    (position_or_len p xs, cond-true (nat_lt (position_or_len p xs) (length xs)) (Some (position_or_len p xs)) None (lt-ltb (position_or_len p xs) (length xs) within))

pub position_place : {X : Type 0} (p : X → Bool) (xs : List X) (m : ℕ) → position p xs ≡ Some m → (x : X) × (slice_get xs m ≡ Some x) × (p x ≡ true)
position_place p [] m is = absurd (let none : None ≡ Some m = is in cc)
position_place p (y ∷ xs) m is = let place = position-Some p (y ∷ xs) m y is in (get_or (y ∷ xs) m y, slice_get-get_or (y ∷ xs) m y place.0, place.1)

pub found_at : {X : Type 0} (p : X → Bool) (xs : List X) (m : ℕ) (x : X) → position p xs ≡ Some m → slice_get xs m ≡ Some x → p x ≡ true
found_at p xs m x is at = ap p (sym (get_or_from_slice_get xs m x x at)) ∙ (position-Some p xs m x is).1

pub all_from : {X : Type 0} (p : X → Bool) (xs : List X) → ((k : ℕ) (x : X) → slice_get xs k ≡ Some x → p x ≡ true) → list_all p xs ≡ true
all_from p [] each = refl
all_from p (x ∷ xs) each = (λ j. each 0 x refl j && list_all p xs) ∙ all_from p xs (λ k y at. each (suc k) y at)

pub all_at : {X : Type 0} (p : X → Bool) (xs : List X) (k : ℕ) (x : X) → list_all p xs ≡ true → slice_get xs k ≡ Some x → p x ≡ true
all_at p [] k x all at = absurd (let no : None ≡ Some x = at in cc)
all_at p (y ∷ xs) zero x all at = let e : y ≡ x = cc in ap p (sym e) ∙ (and_parts (p y) (list_all p xs) all).0
all_at p (y ∷ xs) (suc k) x all at = all_at p xs k x (and_parts (p y) (list_all p xs) all).1 at

pub got_map_range : {Y : Type 0} (f : ℕ → Y) (n k : ℕ) (y : Y) → slice_get (map f (range_with_len 0 n)) k ≡ Some y → (k < n) × (f k ≡ y)
got_map_range f n k y at =
    let long = length-map-range_with_len f 0 n in
    let within = slice_get_within (map f (range_with_len 0 n)) k y at in
    let lt : k < n = omega (arith, long, within) in
    (lt, sym (get_or-map-range_with_len f 0 n k k y lt (omega arith)) ∙ get_or_from_slice_get (map f (range_with_len 0 n)) k y y at)

pub map_range_got : {Y : Type 0} (f : ℕ → Y) (n k : ℕ) → k < n → slice_get (map f (range_with_len 0 n)) k ≡ Some (f k)
map_range_got f n k lt =
    let long = length-map-range_with_len f 0 n in
    let within : k < length (map f (range_with_len 0 n)) = omega (arith, long, lt) in
    slice_get-get_or (map f (range_with_len 0 n)) k (f k) within ∙ ap Some (get_or-map-range_with_len f 0 n k k (f k) lt (omega arith))

module _ (kernel : Kernel) (valid : IsValid kernel) (least : List ℕ) where
  -- ---- the counted equation of a class

  gives_parts : (class : ℕ) (equation : Equation) → gives least class equation ≡ true → Governs least class equation.form × (HasOperandOf least class equation.form → ⊥)
  gives_parts class equation is =
      let parts = and_parts (governs least class equation.form) (not (has_operand_of least class equation.form)) is in
      (governs_true least class equation.form parts.0, λ own. false≢true (sym (not-true (has_operand_of least class equation.form) parts.1) ∙ operand_from least class equation.form own))

  gives_from : (class : ℕ) (equation : Equation) → Governs least class equation.form → (HasOperandOf least class equation.form → ⊥) → gives least class equation ≡ true
  gives_from class equation is plain = by (has_operand_of least class equation.form) refl where
    by : (b : Bool) → has_operand_of least class equation.form ≡ b → gives least class equation ≡ true
    by true e = absurd (plain (operand_true least class equation.form e))
    by false e = (λ j. governs_from least class equation.form is j && not (e j))

  excused_by : (class : ℕ) (counted : Equation) (number k : ℕ) (equation : Equation) → slice_get kernel.equations number ≡ Some counted → slice_get kernel.equations k ≡ Some equation
      → IsCounted kernel least class number counted.form → is_excused least class counted.form equation ≡ true
  excused_by class counted number k equation at there is = elim (cases_Bool (governs least class equation.form)) [
    | inr outside ↦ or_left (not (governs least class equation.form)) (repeats least class counted.form equation.form || defines (target_number counted.form) equation) (ap not outside)
    | inl inside ↦ or_right (not (governs least class equation.form)) (repeats least class counted.form equation.form || defines (target_number counted.form) equation)
        (elim (is.others k equation.form (ap (option_map (λ (e : Equation). e.form)) there) (governs_true least class equation.form inside)) [
          | inl same ↦
              let both : Some equation ≡ Some counted = sym there ∙ ap (slice_get kernel.equations) same ∙ at in
              let e : equation ≡ counted = cc in
              or_right (repeats least class counted.form equation.form) (defines (target_number counted.form) equation) (ap (defines (target_number counted.form)) e ∙ governing_target least class counted.form is.governs)
          | inr again ↦ or_left (repeats least class counted.form equation.form) (defines (target_number counted.form) equation) (repeats_from least class counted.form equation.form again)
        ])
  ]

  counted_from : (class number : ℕ) → counted_for kernel least class ≡ Some number → (form : Form) × IsCounted kernel least class number form × (HasOperandOf least class form → ⊥)
  counted_from class number is = by (position (gives least class) kernel.equations) refl is where
    at_last : (m : ℕ) (counted : Equation) → position (gives least class) kernel.equations ≡ Some m → slice_get kernel.equations m ≡ Some counted → list_all (is_excused least class counted.form) kernel.equations ≡ true
        → (form : Form) × IsCounted kernel least class m form × (HasOperandOf least class form → ⊥)
    at_last m counted first at all =
        let parts = gives_parts class counted (found_at (gives least class) kernel.equations m counted first at) in (
          counted.form,
          record {
            at = ap (option_map (λ (e : Equation). e.form)) at;
            governs = parts.0;
            others = λ k form there governs_it. other_form k form there governs_it (slice_get kernel.equations k) refl;
          },
          parts.1,
        ) where
          other_at : (k : ℕ) (equation : Equation) → slice_get kernel.equations k ≡ Some equation → Governs least class equation.form → (k ≡ m) ⊎ Repeats least class counted.form equation.form
          other_at k equation there governs_it =
              let excused = all_at (is_excused least class counted.form) kernel.equations k equation all there in
              elim (or_cases (not (governs least class equation.form)) (repeats least class counted.form equation.form || defines (target_number counted.form) equation) excused) [
                | inl outside ↦ absurd (false≢true (sym (not-true (governs least class equation.form) outside) ∙ governs_from least class equation.form governs_it))
                | inr rest ↦ elim (or_cases (repeats least class counted.form equation.form) (defines (target_number counted.form) equation) rest) [
                  | inl again ↦ inr (repeats_true least class counted.form equation.form again)
                  | inr same ↦ inl (defined_once kernel valid (target_number counted.form) k m equation counted there at same
                      (governing_target least class counted.form (gives_parts class counted (found_at (gives least class) kernel.equations m counted first at)).0))
                ]
              ]

          other_form : (k : ℕ) (form : Form) → form_at kernel k ≡ Some form → Governs least class form → (o : Option Equation) → slice_get kernel.equations k ≡ o → (k ≡ m) ⊎ Repeats least class counted.form form
          other_form k form there governs_it None e = absurd (let none : None ≡ Some form = sym (ap (option_map (λ (d : Equation). d.form)) e) ∙ there in cc)
          other_form k form there governs_it (Some equation) e =
              let both : Some equation.form ≡ Some form = sym (ap (option_map (λ (d : Equation). d.form)) e) ∙ there in
              let same : equation.form ≡ form = cc in
              subst (λ f. (k ≡ m) ⊎ Repeats least class counted.form f) same (other_at k equation e (subst (Governs least class) (sym same) governs_it))

    at_equation : (m : ℕ) (o : Option Equation) → position (gives least class) kernel.equations ≡ Some m → slice_get kernel.equations m ≡ o → counted_at kernel least class m o ≡ Some number
        → (form : Form) × IsCounted kernel least class number form × (HasOperandOf least class form → ⊥)
    at_equation m None first at is = absurd (let none : None ≡ Some number = is in cc)
    at_equation m (Some counted) first at is = elim (cases_Bool (list_all (is_excused least class counted.form) kernel.equations)) [
      | inl all ↦
          let both : Some m ≡ Some number = sym (ap (λ (b : Bool). if b then Some m else None) all) ∙ is in
          let e : m ≡ number = cc in
          subst (λ n. (form : Form) × IsCounted kernel least class n form × (HasOperandOf least class form → ⊥)) e (at_last m counted first at all)
      | inr some ↦ absurd (let none : None ≡ Some number = sym (ap (λ (b : Bool). if b then Some m else None) some) ∙ is in cc)
    ]

    by : (o : Option ℕ) → position (gives least class) kernel.equations ≡ o → counted_if kernel least class o ≡ Some number → (form : Form) × IsCounted kernel least class number form × (HasOperandOf least class form → ⊥)
    by None first is = absurd (let none : None ≡ Some number = is in cc)
    by (Some m) first is = at_equation m (slice_get kernel.equations m) first refl is

  counted_there : (class number : ℕ) (form : Form) → IsCounted kernel least class number form → (HasOperandOf least class form → ⊥) → counted_for kernel least class ≡ Some number
  counted_there class number form is plain = by (slice_get kernel.equations number) refl is.at where
    at_first : (counted : Equation) → slice_get kernel.equations number ≡ Some counted → IsCounted kernel least class number counted.form → (HasOperandOf least class counted.form → ⊥) → counted_for kernel least class ≡ Some number
    at_first counted at is plain =
        let found = position_found (gives least class) kernel.equations number counted at (gives_from class counted is.governs plain) in
        let place = position-Some (gives least class) kernel.equations found.0 counted found.1 in
        let there = slice_get-get_or kernel.equations found.0 counted place.0 in
        let first : Equation = get_or kernel.equations found.0 counted in
        let parts = gives_parts class first place.1 in
        let same : found.0 ≡ number = elim (is.others found.0 first.form (ap (option_map (λ (e : Equation). e.form)) there) parts.0) [ inl same ↦ same | inr again ↦ absurd (parts.1 (repeats_own least class counted.form first.form again)) ] in
        ap (counted_if kernel least class) (found.1 ∙ ap Some same) ∙ ap (counted_at kernel least class number) at
        ∙ ap (λ (b : Bool). if b then Some number else None) (all_from (is_excused least class counted.form) kernel.equations (λ k equation here. excused_by class counted number k equation at here is))

    by : (o : Option Equation) → slice_get kernel.equations number ≡ o → option_map (λ (e : Equation). e.form) o ≡ Some form → counted_for kernel least class ≡ Some number
    by None at e = absurd (let none : None ≡ Some form = e in cc)
    by (Some counted) at e =
        let same : form ≡ counted.form = cc in
        at_first counted at (subst (IsCounted kernel least class number) same is) (subst (λ f. HasOperandOf least class f → ⊥) same plain)

  -- ---- the equation that defines a boolean

  module _ (conditions : List SigId) (are : AreConditions kernel conditions) where
    listed : (signal : ℕ) → is_condition kernel signal ≡ list_any (is_numbered signal) conditions
    listed signal = by (is_condition kernel signal) (list_any (is_numbered signal) conditions) refl refl where
      by : (a b : Bool) → is_condition kernel signal ≡ a → list_any (is_numbered signal) conditions ≡ b → is_condition kernel signal ≡ list_any (is_numbered signal) conditions
      by true false ea eb =
          let there : Contains conditions (signal_id signal) = (are.all (signal_id signal)).1 ea in
          absurd (false≢true (sym eb ∙ any_passes_from_place (is_numbered signal) conditions there.0 (signal_id signal) (at_contained conditions (signal_id signal) there) (eq-eqb signal signal refl)))
      by false true ea eb =
          let place = any_place (is_numbered signal) conditions eb in
          let is = (are.all place.1.0).0 (contains_at conditions place.0 place.1.0 place.1.1) in
          absurd (false≢true (sym ea ∙ ap (is_condition kernel) (sym (eqb-true place.1.0.0 signal place.1.2)) ∙ is))
      by _ _ ea eb = ea ∙ sym eb

    defined_from : (signal number : ℕ) → defined_for kernel conditions signal ≡ Some number → (equation : Equation) × (slice_get kernel.equations number ≡ Some equation) × (defines signal equation ≡ true)
        × (is_boolean kernel signal ≡ true) × (is_condition kernel signal ≡ false)
    defined_from signal number is = elim (cases_Bool (is_boolean kernel signal && not (list_any (is_numbered signal) conditions))) [
      | inl asked ↦
          let parts = and_parts (is_boolean kernel signal) (not (list_any (is_numbered signal) conditions)) asked in
          let place = position_place (defines signal) kernel.equations number (sym (ap (λ (b : Bool). if b then position (defines signal) kernel.equations else None) asked) ∙ is) in
          (place.0, place.1, place.2, parts.0, listed signal ∙ not-true (list_any (is_numbered signal) conditions) parts.1)
      | inr other ↦ absurd (let none : None ≡ Some number = sym (ap (λ (b : Bool). if b then position (defines signal) kernel.equations else None) other) ∙ is in cc)
    ]

    defined_there : (signal : ℕ) → is_boolean kernel signal ≡ true → is_condition kernel signal ≡ false → (number : ℕ) × (defined_for kernel conditions signal ≡ Some number)
    defined_there signal boolean free =
        let some = some_definition kernel valid signal free boolean (boolean_within kernel signal boolean) in
        let found = position_found (defines signal) kernel.equations some.0 some.1.0 some.1.1 some.1.2 in
        (found.0, (λ j. if boolean j && not ((sym (listed signal) ∙ free) j) then position (defines signal) kernel.equations else None) ∙ found.1)

    pub are_rules : (counted defined : List (Option ℕ)) → AreLeast kernel least → counted ≡ map (counted_for kernel least) (range_with_len 0 (length kernel.signals))
        → defined ≡ map (defined_for kernel conditions) (range_with_len 0 (length kernel.signals)) → AreRules kernel least counted defined
    are_rules counted defined are_least counts defines_them = record {
      are_least = are_least;
      countings = ap length counts ∙ length-map-range_with_len (counted_for kernel least) 0 (length kernel.signals);
      definitions = ap length defines_them ∙ length-map-range_with_len (defined_for kernel conditions) 0 (length kernel.signals);
      is_counted = λ class number at. counted_from class number (got_map_range (counted_for kernel least) (length kernel.signals) class (Some number) (ap (λ xs. slice_get xs class) (sym counts) ∙ at)).1;
      all_counted = λ class number form is counted_it plain.
          ap (λ xs. slice_get xs class) counts ∙ map_range_got (counted_for kernel least) (length kernel.signals) class is.0 ∙ ap Some (counted_there class number form counted_it plain);
      is_defined = λ signal number at. defined_from signal number (got_map_range (defined_for kernel conditions) (length kernel.signals) signal (Some number) (ap (λ xs. slice_get xs signal) (sym defines_them) ∙ at)).1;
      all_defined = λ signal boolean free.
          let there = defined_there signal boolean free in
          (there.0, ap (λ xs. slice_get xs signal) defines_them ∙ map_range_got (defined_for kernel conditions) (length kernel.signals) signal (boolean_within kernel signal boolean) ∙ ap Some there.1);
    }
