-- Values that keep to the tables of a triangular kernel are a reaction that is not silent.
use Rattle.sig_rel.proofs.Common.{◌≡◌, ◌<◌, ◌⊎◌, inl, inr, ℕ, Bool, true, false, List, [], ◌∷◌, length, get_or, map, Option, None, Some, refl, sym, ap, ◌∙◌, subst, Contains, if◌then◌else◌, ◌||◌, slice_get, option_map, list_any, cases_Bool, eq-eqb, SigId, kind_at, operands_of, target_of, IsValid, defines, is_signal, is_target, Equation, Form, Fun, When, WhenConst, Default, Event as EventOf, FunOp, Operand, Kernel, freed, frees, is_number, Reaction, Speaks, compares, is_silent, status_at, truth_function, constant_truth, related, contains_head, contains_later, absent_in_silence, is_boolean, is_met, AreRules, AreValues, Values, has, operand_value, presence_by, truth_by_form, value_status, Governs, HasOperandOf, IsTriangle, Repeats, form_at, truth_given, Element, or_comm}
use Rattle.sig_rel.proofs.ClassLemmas.{least_own, least_within}
use Rattle.sig_rel.proofs.FormLemmas.{at_form, fits, inside, three, two}
use Rattle.sig_rel.proofs.OnceDefined.{defined_once, not_freed, speaks_at}
use Rattle.sig_rel.proofs.RuleLemmas.{all_from}
use Rattle.sig_rel.proofs.TriangleKinds.{plain_constant, plain_first, plain_function, plain_second, plain_when}
use Rattle.sig_rel.proofs.TriangleLemmas.{class_cases, top_is_class}
use Rattle.sig_rel.proofs.ValueReactions.{reaction, reaction_at, related_have, values_react}
use Rattle.sig_rel.proofs.ValueFits.{constant_fits, default_fits, event_fits, status, truth_fits, when_fits}

either_of : (p a b : Bool) → (p ≡ a) ⊎ (p ≡ b) → p ≡ true → (a || b) ≡ true
either_of p false false (inl e) is = sym e ∙ is
either_of p false false (inr e) is = sym e ∙ is
either_of p _ _ one is = refl

-- what is below one of two is below their disjunction
merged : (c v a b : Bool) → c ≡ (a || b) → (v ≡ a) ⊎ (v ≡ b) → (c || v) ≡ c
merged false true true b is one = sym is
merged false true false true is one = sym is
merged false true false false is (inl e) = e
merged false true false false is (inr e) = e
merged _ _ a b is one = refl

module _ (kernel : Kernel) (valid : IsValid kernel) (least : List ℕ) (counted defined : List (Option ℕ)) (rules : AreRules kernel least counted defined)
    (conditions : List SigId) (list : List Element) (tri : IsTriangle kernel least list) (proposal : List Bool) (values : Values)
    (keeps : AreValues kernel least counted defined conditions tri.top proposal values) where
  -- the reaction that the values are
  abbrev pub seen : Reaction
  seen = reaction kernel valid least rules.are_least values keeps.plain

  module _ (number : ℕ) (equation : Equation) (at : slice_get kernel.equations number ≡ Some equation) where
    -- a boolean has the truth that an equation gives that frees nothing
    boolean_here : (y : ℕ) (b : Bool) → defines y equation ≡ true → frees kernel.signals y equation ≡ false → is_boolean kernel y ≡ true → truth_by_form kernel.signals least values equation.form ≡ Some b → values.truth y ≡ b
    boolean_here y b defined_here unfreed boolean gives =
        let there = rules.all_defined y boolean (not_freed kernel valid y number equation at defined_here unfreed) in
        let is = rules.is_defined y there.0 there.1 in
        let same = defined_once kernel valid y there.0 number is.0 equation is.1 at is.2 defined_here in
        keeps.truths y number equation.form b (subst (λ n. slice_get defined y ≡ Some (Some n)) same there.1) (ap (option_map (λ (e : Equation). e.form)) at) gives

  module _ (number : ℕ) (form : Form) (at : form_at kernel number ≡ Some form) where
    speaks : list_any is_signal (operands_of form) ≡ true
    speaks = at_form kernel valid number form at (λ f. list_any is_signal (operands_of f) ≡ true) (λ equation there. speaks_at kernel valid number equation there)

    -- what an equation relates is present together
    related_here : (x z : ℕ) → x < length kernel.signals → z < length kernel.signals → Contains (related form) x → Contains (related form) z → has least values x ≡ has least values z
    related_here = at_form kernel valid number form at (λ f. (x z : ℕ) → x < length kernel.signals → z < length kernel.signals → Contains (related f) x → Contains (related f) z → has least values x ≡ has least values z)
        (λ equation there. related_have kernel valid least rules.are_least values keeps.plain number equation there)

    -- the truth of the signal that a form defines and does not free
    given_here : (y : ℕ) (b : Bool) → is_target y (target_of form) ≡ true → is_number y (freed kernel.signals form) ≡ false → truth_by_form kernel.signals least values form ≡ Some b
        → (is_boolean kernel y ≡ false → b ≡ true) → values.truth y ≡ b
    given_here y b target unfreed gives plain = elim (cases_Bool (is_boolean kernel y)) [
      | inl boolean ↦ at_form kernel valid number form at (λ f. is_target y (target_of f) ≡ true → is_number y (freed kernel.signals f) ≡ false → truth_by_form kernel.signals least values f ≡ Some b → values.truth y ≡ b)
          (λ equation there target unfreed gives. boolean_here number equation there y b target unfreed boolean gives) target unfreed gives
      | inr other ↦ keeps.plain y other ∙ sym (plain other)
    ]

    -- a class has the presence that a form gives that is no Default
    governed : (y : ℕ) → y < length kernel.signals → Governs least (get_or least y 0) form → ((f : Form) → Repeats least (get_or least y 0) f form → ⊥) → ((class : ℕ) → HasOperandOf least class form → ⊥)
        → has least values y ≡ presence_by least values form
    governed y ly governs never plain = elim (class_cases kernel least list tri counted defined rules (get_or least y 0) (least_within kernel least rules.are_least y ly, least_own kernel least rules.are_least y ly)) [
      | inl top ↦ absurd (plain tri.top (tri.is_top number form at (subst (λ c. Governs least c form) top governs)))
      | inr has_one ↦ elim (has_one.is_counted.others number form at governs) [
        | inl same ↦ keeps.classes (get_or least y 0) number form (subst (λ n. slice_get counted (get_or least y 0) ≡ Some (Some n)) (sym same) has_one.there) at
        | inr repeats ↦ absurd (never has_one.form repeats)
      ]
    ]

  -- what an operand of a class's Default adds nothing to
  merged_present : (class other : ℕ) (f : Form) → HasOperandOf least other f → values.present class ≡ presence_by least values f → (values.present class || values.present other) ≡ values.present class
  merged_present class other (Default z a b) own is =
      merged (values.present class) (values.present other) (has least values a.0) (has least values b.0) is
      (elim own [ inl e ↦ inl (ap values.present e) | inr e ↦ inr (ap values.present e) ])
  merged_present class other _ own is = absurd own

  default_present : (number : ℕ) (y u v : SigId) → form_at kernel number ≡ Some (Default y u v) → y.0 < length kernel.signals → has least values y.0 ≡ (has least values u.0 || has least values v.0)
  default_present number y u v at ly = elim (class_cases kernel least list tri counted defined rules (get_or least y.0 0) (least_within kernel least rules.are_least y.0 ly, least_own kernel least rules.are_least y.0 ly)) [
    | inl top ↦
        let own : HasOperandOf least tri.top (Default y u v) = tri.is_top number (Default y u v) at top in
        let high : has least values y.0 ≡ true = ap values.present top ∙ keeps.highest in
        high ∙ sym (either_of (values.present tri.top) (has least values u.0) (has least values v.0) (elim own [ inl e ↦ inl (ap values.present e) | inr e ↦ inr (ap values.present e) ]) keeps.highest)
    | inr has_one ↦
        let is = keeps.classes (get_or least y.0 0) has_one.number has_one.form has_one.there has_one.is_counted.at in
        elim (has_one.is_counted.others number (Default y u v) at refl) [
          | inl same ↦ keeps.classes (get_or least y.0 0) number (Default y u v) (subst (λ n. slice_get counted (get_or least y.0 0) ≡ Some (Some n)) (sym same) has_one.there) at
          | inr (inl repeats) ↦ sym (ap (λ b. b || has least values v.0) (ap values.present repeats.0) ∙ merged_present (get_or least y.0 0) (get_or least v.0 0) has_one.form repeats.1 is)
          | inr (inr repeats) ↦ sym (or_comm (has least values u.0) (has least values v.0) ∙ ap (λ b. b || has least values u.0) (ap values.present repeats.0)
              ∙ merged_present (get_or least y.0 0) (get_or least u.0 0) has_one.form repeats.1 is)
        ]
  ]

  function_fits : (number : ℕ) (y : SigId) (op : FunOp) (operands : List Operand) → form_at kernel number ≡ Some (Fun y op operands) → is_met kernel.signals least values (Fun y op operands) ≡ true
  function_fits number y op operands at =
      truth_fits (has least values y.0) (values.truth y.0) (truth_given kernel.signals op operands (operand_value values)) (λ b present told.
      elim (cases_Bool (compares kernel.signals op operands)) [
        | inl comparing ↦ absurd (let none : None ≡ Some b = sym (ap (λ (c : Bool). if c then None else truth_function op (map (operand_value values) operands)) comparing) ∙ told in cc)
        | inr differs ↦ given_here number (Fun y op operands) at y.0 b (eq-eqb y.0 y.0 refl) (ap (λ (c : Bool). is_number y.0 (if c then Some y else None)) differs) told
            (λ plain. plain_function kernel.signals y plain (operand_value values) (λ x other. keeps.plain x.0 other) op operands b (fits kernel valid number (Fun y op operands) at) (speaks number (Fun y op operands) at) told)
      ])

  both_true : (c a b : Bool) → a ≡ true → b ≡ true → (if c then a else b) ≡ true
  both_true true a b ea eb = ea
  both_true false a b ea eb = eb

  -- each equation is met
  met : (number : ℕ) (form : Form) → form_at kernel number ≡ Some form → is_met kernel.signals least values form ≡ true
  met number (Fun y op operands) at = function_fits number y op operands at
  met number (When y x b) at =
      let l = three kernel y x b (inside kernel valid number (When y x b) at) in
      when_fits (has least values y.0) (values.truth y.0) (has least values x.0) (values.truth x.0) (has least values b.0) (values.truth b.0)
      (governed number (When y x b) at y.0 l.0 refl (λ f r. r) (λ c r. r))
      (λ present. given_here number (When y x b) at y.0 (values.truth x.0) (eq-eqb y.0 y.0 refl) refl refl (λ plain. keeps.plain x.0 (plain_when kernel.signals y x b (fits kernel valid number (When y x b) at) plain)))
  met number (WhenConst y c b) at =
      let l = two kernel y b (inside kernel valid number (WhenConst y c b) at) in
      constant_fits (has least values y.0) (values.truth y.0) (has least values b.0) (values.truth b.0) (constant_truth (kind_at kernel.signals y) c)
      (governed number (WhenConst y c b) at y.0 l.0 refl (λ f r. r) (λ k r. r))
      (λ present. given_here number (WhenConst y c b) at y.0 (constant_truth (kind_at kernel.signals y) c) (eq-eqb y.0 y.0 refl) refl refl (λ plain. plain_constant (kind_at kernel.signals y) c plain))
  met number (Default y u v) at =
      let l = three kernel y u v (inside kernel valid number (Default y u v) at) in
      default_fits (has least values y.0) (values.truth y.0) (has least values u.0) (values.truth u.0) (has least values v.0) (values.truth v.0)
      (default_present number y u v at l.0)
      (λ present. given_here number (Default y u v) at y.0 (if has least values u.0 then values.truth u.0 else values.truth v.0) (eq-eqb y.0 y.0 refl) refl refl
      (λ plain. both_true (has least values u.0) (values.truth u.0) (values.truth v.0)
      (keeps.plain u.0 (plain_first kernel.signals y u v (fits kernel valid number (Default y u v) at) plain))
      (keeps.plain v.0 (plain_second kernel.signals y v u (fits kernel valid number (Default y u v) at) plain))))
  met number (EventOf y x) at =
      let l = two kernel y x (inside kernel valid number (EventOf y x) at) in
      event_fits (has least values y.0) (values.truth y.0) (has least values x.0) (values.truth x.0)
      (related_here number (EventOf y x) at y.0 x.0 l.0 l.1 (contains_head y.0 (x.0 ∷ [])) (contains_later y.0 x.0 (x.0 ∷ []) (contains_head x.0 [])))
      (given_here number (EventOf y x) at y.0 true (eq-eqb y.0 y.0 refl) refl refl (λ plain. refl))
  met number _ at = refl

  top_here : status_at seen tri.top ≡ None → ⊥
  top_here none =
      let is = top_is_class kernel least list tri in
      let here : value_status least values tri.top ≡ Some (values.truth tri.top) = ap (λ b. status b (values.truth tri.top)) (ap values.present is.1 ∙ keeps.highest) in
      let both : None ≡ Some (values.truth tri.top) = sym none ∙ reaction_at kernel valid least rules.are_least values keeps.plain tri.top is.0 ∙ here in
      absurd cc

  pub values_speak : Speaks kernel seen
  values_speak = record {
    is = values_react kernel valid least rules.are_least values keeps.plain (all_from (λ (equation : Equation). is_met kernel.signals least values equation.form) kernel.equations
        (λ k equation at. met k equation.form (ap (option_map (λ (e : Equation). e.form)) at)));
    some = by (is_silent seen) refl;
  } where
    by : (b : Bool) → is_silent seen ≡ b → is_silent seen ≡ false
    by true e = absurd (top_here (absent_in_silence seen tri.top e))
    by false e = e
