-- The reaction that values are meets the equations that the values meet.
use Rattle.sig_rel.proofs.Common.{◌≡◌, ◌<◌, ℕ, suc, Bool, true, false, List, [], ◌∷◌, length, get_or, map, None, Some, refl, sym, ap, ◌∙◌, subst, arith, Contains, if◌then◌else◌, ◌&&◌, is_some, slice_get, list_all, range_with_len, and_parts, get_or-map-range_with_len, length-map-range_with_len, Kind, Integer, Boolean, EventKind, Signal, kind_at, kind_of, IsValid, form_within, is_below, operand_within, Equation, Form, Fun, Delay, When, WhenConst, Default, Sync, Event, FunOp, Operand, Sig, Const, Kernel, IsReaction, Reaction, are_statuses, compares, constant_truth, function_truth, has_truth, is_boolean_kind, is_present, is_status_of, is_with, meets, operand_truth, or_else, same_status, same_truth, status_at, truth_function, truth_of_status, where_present, where_true, AreLeast, given, related, signals_among, contains_head, contains_later, get_at, is_boolean, is_met, Values, has, operand_value, value_status, truth_given}
use Rattle.sig_rel.proofs.ClassLemmas.{least_of_class}
use Rattle.sig_rel.proofs.FormLemmas.{below, three, two}
use Rattle.sig_rel.proofs.OnceDefined.{got_or, got_within, within_at}
use Rattle.sig_rel.proofs.RuleLemmas.{all_at, all_from}
use Rattle.sig_rel.proofs.ValueFits.{present_of, same_as_itself, status}

pub statuses_fit : (signals : List Signal) (reaction : Reaction) → length reaction ≡ length signals
    → ((k : ℕ) (signal : Signal) → slice_get signals k ≡ Some signal → is_status_of signal.kind (status_at reaction k) ≡ true) → are_statuses signals reaction ≡ true
statuses_fit [] [] count fit = refl
statuses_fit (signal ∷ signals) (s ∷ reaction) count fit =
    (λ j. fit 0 signal refl j && are_statuses signals reaction) ∙ statuses_fit signals reaction (omega (arith, count)) (λ k x at. fit (suc k) x at)
statuses_fit _ _ count fit = absurd (omega (arith, count))

kind_fits_status : (kind : Kind) (p t : Bool) → (is_boolean_kind (Some kind) ≡ false → t ≡ true) → is_status_of kind (status p t) ≡ true
kind_fits_status Boolean p t plain = refl
kind_fits_status Integer false t plain = refl
kind_fits_status EventKind false t plain = refl
kind_fits_status _ true t plain = rw (plain refl) refl

module _ (kernel : Kernel) (valid : IsValid kernel) (least : List ℕ) (are_least : AreLeast kernel least) (values : Values)
    (all_plain : (signal : ℕ) → is_boolean kernel signal ≡ false → values.truth signal ≡ true) where
  abbrev size : ℕ
  size = length kernel.signals

  -- the reaction that the values are
  abbrev pub reaction : Reaction
  reaction = map (value_status least values) (range_with_len 0 size)

  pub reaction_at : (x : ℕ) → x < size → status_at reaction x ≡ value_status least values x
  reaction_at x lt = get_or-map-range_with_len (value_status least values) 0 size x x None lt (omega arith)

  pub reaction_has : (x : ℕ) → x < size → is_present reaction x ≡ has least values x
  reaction_has x lt = ap is_some (reaction_at x lt) ∙ present_of (has least values x) (values.truth x)

  kinds : are_statuses kernel.signals reaction ≡ true
  kinds = statuses_fit kernel.signals reaction (length-map-range_with_len (value_status least values) 0 size) (λ k signal at.
      let lt = got_within kernel.signals k signal at in
      ap (is_status_of signal.kind) (reaction_at k lt)
      ∙ kind_fits_status signal.kind (has least values k) (values.truth k) (λ plain. all_plain k (ap (λ o. is_boolean_kind (kind_of o)) at ∙ plain)))

  module _ (number : ℕ) (equation : Equation) (at : slice_get kernel.equations number ≡ Some equation) where
    -- what an equation relates is present together
    pub related_have : (x z : ℕ) → x < size → z < size → Contains (related equation.form) x → Contains (related equation.form) z → has least values x ≡ has least values z
    related_have x z lx lz left right =
        let lt = got_within kernel.equations number equation at in
        let is : (d : Equation) → get_or kernel.equations number d ≡ equation = λ d. got_or kernel.equations number equation d at in
        ap values.present (least_of_class kernel least are_least x z lx lz (given x z (record {
          number = number;
          within = lt;
          left = λ d. subst (λ (e : Equation). Contains (related e.form) x) (sym (is d)) left;
          right = λ d. subst (λ (e : Equation). Contains (related e.form) z) (sym (is d)) right;
        })))

  together : (y x : ℕ) → y < size → x < size → has least values y ≡ has least values x → same_truth (is_present reaction y) (is_present reaction x) ≡ true
  together y x ly lx same = ap (same_truth (is_present reaction y)) (reaction_has x lx ∙ sym same ∙ sym (reaction_has y ly)) ∙ same_as_itself (is_present reaction y)

  module _ (y : ℕ) (ly : y < size) where
    all_with : (operands : List Operand) → list_all (operand_within size) operands ≡ true → ((x : ℕ) → x < size → Contains (signals_among operands) x → has least values y ≡ has least values x)
        → list_all (is_with reaction (is_present reaction y)) operands ≡ true
    all_with [] inside same = refl
    all_with (Sig x ∷ operands) inside same =
        let parts = and_parts (is_below size x) (list_all (operand_within size) operands) inside in
        let lx = below kernel x parts.0 in
        (λ j. together y x.0 ly lx (same x.0 lx (contains_head x.0 (signals_among operands))) j && list_all (is_with reaction (is_present reaction y)) operands)
        ∙ all_with operands parts.1 (λ z lz there. same z lz (contains_later x.0 z (signals_among operands) there))
    all_with (Const c ∷ operands) inside same = all_with operands (and_parts true (list_all (operand_within size) operands) inside).1 same

    truths_with : has least values y ≡ true → (operands : List Operand) → list_all (operand_within size) operands ≡ true
        → ((x : ℕ) → x < size → Contains (signals_among operands) x → has least values y ≡ has least values x) → map (operand_truth reaction) operands ≡ map (operand_value values) operands
    truths_with present [] inside same = refl
    truths_with present (Sig x ∷ operands) inside same =
        let parts = and_parts (is_below size x) (list_all (operand_within size) operands) inside in
        let lx = below kernel x parts.0 in
        let here = sym (same x.0 lx (contains_head x.0 (signals_among operands))) ∙ present in
        let truth = ap truth_of_status (reaction_at x.0 lx) ∙ ap (λ b. truth_of_status (status b (values.truth x.0))) here in
        let rest = truths_with present operands parts.1 (λ z lz there. same z lz (contains_later x.0 z (signals_among operands) there)) in
        (λ j. truth j ∷ rest j)
    truths_with present (Const c ∷ operands) inside same =
        ap (λ rest. operand_value values (Const c) ∷ rest) (truths_with present operands (and_parts true (list_all (operand_within size) operands) inside).1 same)

    function_same : (op : FunOp) (operands : List Operand) → list_all (operand_within size) operands ≡ true → ((x : ℕ) → x < size → Contains (signals_among operands) x → has least values y ≡ has least values x)
        → (p : Bool) → has least values y ≡ p → has_truth (status p (values.truth y)) (function_truth kernel.signals reaction op operands) ≡ has_truth (status p (values.truth y)) (truth_given kernel.signals op operands (operand_value values))
    function_same op operands inside same false absent = refl
    function_same op operands inside same true present =
        ap (λ ts. has_truth (Some (values.truth y)) (if compares kernel.signals op operands then None else truth_function op ts)) (truths_with present operands inside same)

  -- an equation is met by the reaction where the values meet it
  met_by : (number : ℕ) (equation : Equation) → slice_get kernel.equations number ≡ Some equation → (form : Form) → form_within size form ≡ true
      → ((x z : ℕ) → x < size → z < size → Contains (related form) x → Contains (related form) z → has least values x ≡ has least values z) → meets kernel.signals reaction form ≡ is_met kernel.signals least values form
  met_by number equation at (Fun y op operands) within have =
      let parts = and_parts (is_below size y) (list_all (operand_within size) operands) within in
      let ly = below kernel y parts.0 in
      let same : (x : ℕ) → x < size → Contains (signals_among operands) x → has least values y.0 ≡ has least values x =
      λ x lx there. have y.0 x ly lx (contains_head y.0 (signals_among operands)) (contains_later y.0 x (signals_among operands) there) in
      ap (λ b. b && has_truth (status_at reaction y.0) (function_truth kernel.signals reaction op operands)) (all_with y.0 ly operands parts.1 same)
      ∙ ap (λ s. has_truth s (function_truth kernel.signals reaction op operands)) (reaction_at y.0 ly)
      ∙ function_same y.0 ly op operands parts.1 same (has least values y.0) refl
  met_by number equation at (Delay y x c) within have =
      let l = two kernel y x within in
      together y.0 x.0 l.0 l.1 (have y.0 x.0 l.0 l.1 (contains_head y.0 (x.0 ∷ [])) (contains_later y.0 x.0 (x.0 ∷ []) (contains_head x.0 [])))
  met_by number equation at (When y x b) within have =
      let l = three kernel y x b within in
      (λ j. same_status (reaction_at y.0 l.0 j) (where_true (reaction_at b.0 l.2 j) (reaction_at x.0 l.1 j)))
  met_by number equation at (WhenConst y c b) within have =
      let l = two kernel y b within in
      (λ j. same_status (reaction_at y.0 l.0 j) (where_true (reaction_at b.0 l.1 j) (Some (constant_truth (kind_at kernel.signals y) c))))
  met_by number equation at (Default y u v) within have =
      let l = three kernel y u v within in
      (λ j. same_status (reaction_at y.0 l.0 j) (or_else (reaction_at u.0 l.1 j) (reaction_at v.0 l.2 j)))
  met_by number equation at (Sync x y) within have =
      let l = two kernel x y within in
      together x.0 y.0 l.0 l.1 (have x.0 y.0 l.0 l.1 (contains_head x.0 (y.0 ∷ [])) (contains_later x.0 y.0 (y.0 ∷ []) (contains_head y.0 [])))
  met_by number equation at (Event y x) within have =
      let l = two kernel y x within in
      (λ j. same_status (reaction_at y.0 l.0 j) (where_present (reaction_at x.0 l.1 j) true))

  pub met_is : (number : ℕ) (equation : Equation) → slice_get kernel.equations number ≡ Some equation → meets kernel.signals reaction equation.form ≡ is_met kernel.signals least values equation.form
  met_is number equation at = met_by number equation at equation.form (within_at kernel valid number equation at) (related_have number equation at)

  -- values that meet all equations are a reaction
  pub values_react : list_all (λ (equation : Equation). is_met kernel.signals least values equation.form) kernel.equations ≡ true → IsReaction kernel reaction
  values_react met = record {
    kinds = kinds;
    equations = λ k d lt.
        let at = get_at kernel.equations k d lt in
        met_is k (get_or kernel.equations k d) at ∙ all_at (λ (equation : Equation). is_met kernel.signals least values equation.form) kernel.equations k (get_or kernel.equations k d) met at;
  }

  -- and those of a reaction meet them
  pub reaction_met : IsReaction kernel reaction → list_all (λ (equation : Equation). is_met kernel.signals least values equation.form) kernel.equations ≡ true
  reaction_met is = all_from (λ (equation : Equation). is_met kernel.signals least values equation.form) kernel.equations (λ k equation at.
      sym (met_is k equation at) ∙ subst (λ (e : Equation). meets kernel.signals reaction e.form ≡ true) (got_or kernel.equations k equation equation at) (is.equations k equation (got_within kernel.equations k equation at)))
