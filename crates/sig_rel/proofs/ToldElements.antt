-- What a reaction that is met has at an element, where values tell what it has at those that the element's equation reads.
use Rattle.sig_rel.proofs.Common.{◌≡◌, ◌<◌, inl, inr, ℕ, Bool, true, false, List, [], ◌∷◌, length, get_or, map, None, Some, refl, sym, ap, ◌∙◌, Contains, if◌then◌else◌, ◌&&◌, ◌||◌, is_some, list_all, and_parts, cases_Bool, eqb-true, false≢true, Boolean, SigId, kind_at, kind_of, target_of, IsValid, is_below, is_target, operand_within, Form, Fun, Delay, When, WhenConst, Default, Sync, Event, FunOp, Operand, Sig, Const, Kernel, freed, is_condition, is_number, IsReaction, Reaction, Status, compares, function_truth, has_truth, is_boolean_kind, is_present, is_status_of, is_with, same_truth, operand_truth, status_at, truth_function, truth_of_status, where_present, where_true, or_else, constant_truth, same_status, AreLeast, signals_among, contains_head, contains_later, present_together, statuses_are_same, truths_are_same, is_boolean, Values, has, operand_value, presence_by, truth_by_form, value_status, Governs, HasClasses, HasTruths, form_at, operand_signals, tested, truth_given, Element, Presence, Truth, some_at}
use Rattle.sig_rel.proofs.ChosenTruths.{status_fits_at, true_unless_boolean}
use Rattle.sig_rel.proofs.FormLemmas.{at_form, below, fits, inside, met, three, two}
use Rattle.sig_rel.proofs.OnceDefined.{condition_freed}
use Rattle.sig_rel.proofs.TriangleKinds.{boolean_kind, given_truth}
use Rattle.sig_rel.proofs.ValueFits.{or_else_present, status, status_from, truth_constant, truth_or_else, truth_present, truth_where_true, where_true_present}

module _ (kernel : Kernel) (valid : IsValid kernel) (least : List ℕ) (are_least : AreLeast kernel least) (r : Reaction) (reaction : IsReaction kernel r) where
  -- a signal is present with the least one of its class
  pub of_class : (x : ℕ) → x < length kernel.signals → is_present r x ≡ is_present r (get_or least x 0)
  of_class x lt = present_together kernel r x (get_or least x 0) reaction (are_least.same x lt)

  module _ (values : Values) (all_plain : (signal : ℕ) → is_boolean kernel signal ≡ false → values.truth signal ≡ true) where
    -- the values tell what the reaction has at an element
    abbrev pub Told : Element → Type 0
    Told (Presence class) = is_present r class ≡ values.present class
    Told (Truth signal) = is_present r signal ≡ true → truth_of_status (status_at r signal) ≡ values.truth signal

    -- a signal that is no boolean is true
    plain_truth : (x : ℕ) → x < length kernel.signals → is_boolean kernel x ≡ false → is_present r x ≡ true → truth_of_status (status_at r x) ≡ true
    plain_truth x lt plain present = by (status_at r x) refl where
      by : (s : Status) → status_at r x ≡ s → truth_of_status (status_at r x) ≡ true
      by None e = absurd (false≢true (ap is_some (sym e) ∙ present))
      by (Some b) e =
          let signal = some_at kernel.signals x lt in
          let fit = status_fits_at kernel.signals r x signal.0 reaction.kinds signal.1 in
          ap truth_of_status e ∙ true_unless_boolean signal.0.kind b (ap (is_status_of signal.0.kind) (sym e) ∙ fit)
          (λ boolean. false≢true (sym (ap (λ o. is_boolean_kind (kind_of o)) (sym signal.1) ∙ plain) ∙ boolean))

    -- what is told of a signal whose class is told, and its truth where it is a boolean
    told_status : (x : ℕ) → x < length kernel.signals → is_present r x ≡ has least values x → (is_boolean kernel x ≡ true → Told (Truth x)) → status_at r x ≡ value_status least values x
    told_status x lt present truth = status_from (status_at r x) (has least values x) (values.truth x) present (λ has_it. elim (cases_Bool (is_boolean kernel x)) [
      | inl boolean ↦ truth boolean (present ∙ has_it)
      | inr plain ↦ plain_truth x lt plain (present ∙ has_it) ∙ sym (all_plain x plain)
    ])

    module _ (before : List Element) (told : (element : Element) → Contains before element → Told element) where
      told_present : (x : ℕ) → x < length kernel.signals → Contains before (Presence (get_or least x 0)) → is_present r x ≡ has least values x
      told_present x lt there = of_class x lt ∙ told (Presence (get_or least x 0)) there

      pub told_whole : (x : ℕ) → x < length kernel.signals → Contains before (Presence (get_or least x 0)) → (is_boolean kernel x ≡ true → Contains before (Truth x)) → status_at r x ≡ value_status least values x
      told_whole x lt there truth = told_status x lt (told_present x lt there) (λ boolean. told (Truth x) (truth boolean))

      and_one : (a : Bool) → (a && true) ≡ a
      and_one true = refl
      and_one false = refl

      pub class_told : (class number : ℕ) (form : Form) → form_at kernel number ≡ Some form → Governs least class form → HasClasses least before (operand_signals form) → HasTruths kernel before (tested form)
          → values.present class ≡ presence_by least values form → is_present r class ≡ values.present class
      class_told class number (When y x b) at governs classes tests is =
          let l = three kernel y x b (inside kernel valid number (When y x b) at) in
          let e = statuses_are_same (status_at r y.0) (where_true (status_at r b.0) (status_at r x.0)) (met kernel valid number (When y x b) at r reaction) in
          let px = told_present x.0 l.1 (classes x.0 (contains_head x.0 (b.0 ∷ []))) in
          let sb = told_whole b.0 l.2 (classes b.0 (contains_later x.0 b.0 (b.0 ∷ []) (contains_head b.0 []))) (λ boolean. tests b.0 (contains_head b.0 []) boolean) in
          ap (is_present r) (sym governs) ∙ sym (of_class y.0 l.0) ∙ e ∙ ap (λ s. is_some (where_true s (status_at r x.0))) sb
          ∙ where_true_present (has least values b.0) (values.truth b.0) (status_at r x.0) ∙ ap (λ p. (has least values b.0 && values.truth b.0) && p) px ∙ sym is
      class_told class number (WhenConst y c b) at governs classes tests is =
          let l = two kernel y b (inside kernel valid number (WhenConst y c b) at) in
          let constant : Status = Some (constant_truth (kind_at kernel.signals y) c) in
          let e = statuses_are_same (status_at r y.0) (where_true (status_at r b.0) constant) (met kernel valid number (WhenConst y c b) at r reaction) in
          let sb = told_whole b.0 l.1 (classes b.0 (contains_head b.0 [])) (λ boolean. tests b.0 (contains_head b.0 []) boolean) in
          ap (is_present r) (sym governs) ∙ sym (of_class y.0 l.0) ∙ e ∙ ap (λ s. is_some (where_true s constant)) sb
          ∙ where_true_present (has least values b.0) (values.truth b.0) constant ∙ and_one (has least values b.0 && values.truth b.0) ∙ sym is
      class_told class number (Default y u v) at governs classes tests is =
          let l = three kernel y u v (inside kernel valid number (Default y u v) at) in
          let e = statuses_are_same (status_at r y.0) (or_else (status_at r u.0) (status_at r v.0)) (met kernel valid number (Default y u v) at r reaction) in
          let pu = told_present u.0 l.1 (classes u.0 (contains_head u.0 (v.0 ∷ []))) in
          let pv = told_present v.0 l.2 (classes v.0 (contains_later u.0 v.0 (v.0 ∷ []) (contains_head v.0 []))) in
          ap (is_present r) (sym governs) ∙ sym (of_class y.0 l.0) ∙ e ∙ or_else_present (status_at r u.0) (status_at r v.0) ∙ (λ j. pu j || pv j) ∙ sym is
      class_told class number _ at governs classes tests is = absurd governs

      -- the operands of a function have the truths that the values tell
      operands_told : (present : Bool) → present ≡ true → (operands : List Operand) → list_all (operand_within (length kernel.signals)) operands ≡ true → list_all (is_with r present) operands ≡ true
          → HasClasses least before (signals_among operands) → HasTruths kernel before (signals_among operands) → map (operand_truth r) operands ≡ map (operand_value values) operands
      operands_told present here [] within with classes truths = refl
      operands_told present here (Sig x ∷ operands) within with classes truths =
          let parts = and_parts (is_below (length kernel.signals) x) (list_all (operand_within (length kernel.signals)) operands) within in
          let withs = and_parts (same_truth present (is_present r x.0)) (list_all (is_with r present) operands) with in
          let lx = below kernel x parts.0 in
          let there = classes x.0 (contains_head x.0 (signals_among operands)) in
          let whole = told_whole x.0 lx there (truths x.0 (contains_head x.0 (signals_among operands))) in
          let has_it = sym (told_present x.0 lx there) ∙ sym (truths_are_same present (is_present r x.0) withs.0) ∙ here in
          let first = ap truth_of_status whole ∙ ap (λ p. truth_of_status (status p (values.truth x.0))) has_it in
          let rest = operands_told present here operands parts.1 withs.1 (λ z among. classes z (contains_later x.0 z (signals_among operands) among)) (λ z among. truths z (contains_later x.0 z (signals_among operands) among)) in
          (λ j. first j ∷ rest j)
      operands_told present here (Const c ∷ operands) within with classes truths =
          ap (λ rest. operand_value values (Const c) ∷ rest) (operands_told present here operands (and_parts true (list_all (operand_within (length kernel.signals)) operands) within).1 (and_parts true (list_all (is_with r present) operands) with).1 classes truths)

      module _ (signal : ℕ) (a : Bool) (present : status_at r signal ≡ Some a) (boolean : is_boolean kernel signal ≡ true) (free : is_condition kernel signal ≡ false) where
        target_status : (y : SigId) → is_target signal (Some y) ≡ true → status_at r y.0 ≡ Some a
        target_status y target = ap (status_at r) (eqb-true y.0 signal target) ∙ present

        target_kind : (y : SigId) → is_target signal (Some y) ≡ true → kind_at kernel.signals y ≡ Some Boolean
        target_kind y target = boolean_kind (kind_at kernel.signals y) (ap (is_boolean kernel) (eqb-true y.0 signal target) ∙ boolean)

        -- an equation that frees the signal makes it a condition
        never_freed : (number : ℕ) (form : Form) → form_at kernel number ≡ Some form → is_number signal (freed kernel.signals form) ≡ true → ⊥
        never_freed number form at frees_it = false≢true (sym free ∙ at_form kernel valid number form at (λ f. is_number signal (freed kernel.signals f) ≡ true → is_condition kernel signal ≡ true)
            (λ equation there frees_here. condition_freed kernel signal number equation there frees_here boolean) frees_it)

        function_told : (number : ℕ) (y : SigId) (op : FunOp) (operands : List Operand) → form_at kernel number ≡ Some (Fun y op operands) → is_target signal (Some y) ≡ true
            → HasClasses least before (signals_among operands) → HasTruths kernel before (signals_among operands)
            → ((b : Bool) → truth_given kernel.signals op operands (operand_value values) ≡ Some b → values.truth signal ≡ b) → a ≡ values.truth signal
        function_told number y op operands at target classes truths gives = elim (cases_Bool (compares kernel.signals op operands)) [
          | inl comparing ↦ absurd (never_freed number (Fun y op operands) at (ap (λ (c : Bool). is_number signal (if c then Some y else None)) comparing ∙ target))
          | inr plainly ↦
              let within = and_parts (is_below (length kernel.signals) y) (list_all (operand_within (length kernel.signals)) operands) (inside kernel valid number (Fun y op operands) at) in
              let parts = and_parts (list_all (is_with r (is_present r y.0)) operands) (has_truth (status_at r y.0) (function_truth kernel.signals r op operands)) (met kernel valid number (Fun y op operands) at r reaction) in
              let here = ap is_some (target_status y target) in
              let same = operands_told (is_present r y.0) here operands within.1 parts.0 classes truths in
              let given = given_truth kernel.signals y (operand_value values) (target_kind y target) operands op (fits kernel valid number (Fun y op operands) at) plainly in
              let told_truth : function_truth kernel.signals r op operands ≡ Some given.0 = ap (λ ts. if compares kernel.signals op operands then None else truth_function op ts) same ∙ given.1 in
              let last : has_truth (Some a) (Some given.0) ≡ true = sym (λ j. has_truth (target_status y target j) (told_truth j)) ∙ parts.1 in
              truths_are_same a given.0 last ∙ sym (gives given.0 given.1)
        ]

        pub truth_told : (number : ℕ) (form : Form) → form_at kernel number ≡ Some form → is_target signal (target_of form) ≡ true → HasClasses least before (operand_signals form) → HasTruths kernel before (operand_signals form)
            → ((b : Bool) → truth_by_form kernel.signals least values form ≡ Some b → values.truth signal ≡ b) → a ≡ values.truth signal
        truth_told number (Fun y op operands) at target classes truths gives = function_told number y op operands at target classes truths gives
        truth_told number (Delay y x c) at target classes truths gives = absurd (never_freed number (Delay y x c) at target)
        truth_told number (When y x b) at target classes truths gives =
            let l = three kernel y x b (inside kernel valid number (When y x b) at) in
            let sx = told_whole x.0 l.1 (classes x.0 (contains_head x.0 (b.0 ∷ []))) (truths x.0 (contains_head x.0 (b.0 ∷ []))) in
            let sb = told_whole b.0 l.2 (classes b.0 (contains_later x.0 b.0 (b.0 ∷ []) (contains_head b.0 []))) (truths b.0 (contains_later x.0 b.0 (b.0 ∷ []) (contains_head b.0 []))) in
            truth_where_true a (has least values b.0) (values.truth b.0) (has least values x.0) (values.truth x.0)
            (sym (λ j. same_status (target_status y target j) (where_true (sb j) (sx j))) ∙ met kernel valid number (When y x b) at r reaction) ∙ sym (gives (values.truth x.0) refl)
        truth_told number (WhenConst y c b) at target classes truths gives =
            truth_constant a (constant_truth (kind_at kernel.signals y) c) (status_at r b.0)
            (sym (ap (λ s. same_status s (where_true (status_at r b.0) (Some (constant_truth (kind_at kernel.signals y) c)))) (target_status y target)) ∙ met kernel valid number (WhenConst y c b) at r reaction)
            ∙ sym (gives (constant_truth (kind_at kernel.signals y) c) refl)
        truth_told number (Default y u v) at target classes truths gives =
            let l = three kernel y u v (inside kernel valid number (Default y u v) at) in
            let su = told_whole u.0 l.1 (classes u.0 (contains_head u.0 (v.0 ∷ []))) (truths u.0 (contains_head u.0 (v.0 ∷ []))) in
            let sv = told_whole v.0 l.2 (classes v.0 (contains_later u.0 v.0 (v.0 ∷ []) (contains_head v.0 []))) (truths v.0 (contains_later u.0 v.0 (v.0 ∷ []) (contains_head v.0 []))) in
            truth_or_else a (has least values u.0) (values.truth u.0) (has least values v.0) (values.truth v.0)
            (sym (λ j. same_status (target_status y target j) (or_else (su j) (sv j))) ∙ met kernel valid number (Default y u v) at r reaction)
            ∙ sym (gives (if has least values u.0 then values.truth u.0 else values.truth v.0) refl)
        truth_told number (Sync x y) at target classes truths gives = absurd (false≢true target)
        truth_told number (Event y x) at target classes truths gives =
            truth_present a (status_at r x.0) (sym (ap (λ s. same_status s (where_present (status_at r x.0) true)) (target_status y target)) ∙ met kernel valid number (Event y x) at r reaction) ∙ sym (gives true refl)
