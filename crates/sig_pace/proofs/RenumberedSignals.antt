-- Signals that stand elsewhere: equations keep to the same rows, and abstract reactions meet them alike.
use Rattle.sig_pace.proofs.Common.{◌≡◌, ◌<◌, ◌&&◌, ◌||◌, ◌∙◌, ℕ, zero, suc, pos, Bool, true, false, cond, int_eq, List, [], ◌∷◌, map, refl, sym, ap, subst, Option, None, Some, is_some, slice_get, list_all, list_any, and_parts, false≢true, ltb-true, Kind, SigId, Signal, Reaction, are_statuses, compares, constant_truth, function_truth, has_truth, is_integer, is_integer_kind, is_present, is_status_of, is_with, meets, operand_truth, or_else, same_status, same_truth, status_at, truth_function, truth_of_status, where_present, Row, form_fits, is_kind, keeps_to_one, kind_at, kind_fits, kind_of, operand_is, operands_are, operands_of, rows_of, target_fits, form_within, is_below, operand_within, Form, Default, Delay, Fun, Sync, When, WhenConst, FunOp, Eq, Ne, Operand, Const, Sig, Sort, renumbered, renumbered_form, renumbered_operand}
use Rattle.sig_clock.specs.Reactions.{where_true}
use Rattle.sig_kernel.specs.declared.equation.Form.TheVariants.{Event}
use Rattle.sig_pace.proofs.Agreement.{Agrees}

-- each of so many signals stands at its place
abbrev pub StandAt : (ℕ → ℕ) → ℕ → List Signal → List Signal → Type 0
StandAt place count signals wide = (x : ℕ) → x < count → slice_get signals x ≡ slice_get wide (place x)

-- ---- forms

pub operands_moved : (place : ℕ → ℕ) (form : Form) → operands_of (renumbered_form place form) ≡ map (renumbered_operand place) (operands_of form)
operands_moved place (Fun y op operands) = refl
operands_moved place _ = refl

rows_moved : (place : ℕ → ℕ) (form : Form) → rows_of (renumbered_form place form) ≡ rows_of form
rows_moved place (Fun y op operands) = refl
rows_moved place _ = refl

module _ (place : ℕ → ℕ) (count : ℕ) (signals wide : List Signal) (stand : StandAt place count signals wide) where
  kind_alike : (x : SigId) → is_below count x ≡ true → kind_at signals x ≡ kind_at wide (renumbered place x)
  kind_alike x within = ap kind_of (stand x.0 (ltb-true x.0 count within))

  operand_alike : (operand : Operand) → operand_within count operand ≡ true → (sort : Sort) → operand_is signals operand sort ≡ operand_is wide (renumbered_operand place operand) sort
  operand_alike (Sig x) within sort = ap (kind_fits sort) (kind_alike x within)
  operand_alike (Const c) within sort = refl

  operands_alike : (operands : List Operand) → list_all (operand_within count) operands ≡ true → (sorts : List Sort) → operands_are signals operands sorts ≡ operands_are wide (map (renumbered_operand place) operands) sorts
  operands_alike [] within [] = refl
  operands_alike [] within (sort ∷ sorts) = refl
  operands_alike (operand ∷ operands) within [] = refl
  operands_alike (operand ∷ operands) within (sort ∷ sorts) =
      let parts = and_parts (operand_within count operand) (list_all (operand_within count) operands) within in
      λ j. operand_alike operand parts.0 sort j && operands_alike operands parts.1 sorts j

  rows_alike : (kind : Kind) (operands : List Operand) → list_all (operand_within count) operands ≡ true → (rows : List Row)
      → keeps_to_one signals kind operands rows ≡ keeps_to_one wide kind (map (renumbered_operand place) operands) rows
  rows_alike kind operands within [] = refl
  rows_alike kind operands within (row ∷ rows) = λ j. (is_kind kind row.result && operands_alike operands within row.operands j) || rows_alike kind operands within rows j

  target_alike : (found : Option Kind) (form : Form) → list_all (operand_within count) (operands_of form) ≡ true → target_fits signals found form ≡ target_fits wide found (renumbered_form place form)
  target_alike None form within = refl
  target_alike (Some kind) form within = rows_alike kind (operands_of form) within (rows_of form) ∙ (λ j. keeps_to_one wide kind (sym (operands_moved place form) j) (sym (rows_moved place form) j))

  defined_alike : (y : SigId) (form : Form) → is_below count y ≡ true → list_all (operand_within count) (operands_of form) ≡ true
      → target_fits signals (kind_at signals y) form ≡ target_fits wide (kind_at wide (renumbered place y)) (renumbered_form place form)
  defined_alike y form of_y within = target_alike (kind_at signals y) form within ∙ ap (λ found. target_fits wide found (renumbered_form place form)) (kind_alike y of_y)

  pub fits_alike : (form : Form) → form_within count form ≡ true → form_fits signals form ≡ form_fits wide (renumbered_form place form)
  fits_alike (Fun y op operands) within = let parts = and_parts (is_below count y) (list_all (operand_within count) operands) within in defined_alike y (Fun y op operands) parts.0 parts.1
  fits_alike (Delay y x c) within = let parts = and_parts (is_below count y) (list_all (operand_within count) (Sig x ∷ Const c ∷ [])) within in defined_alike y (Delay y x c) parts.0 parts.1
  fits_alike (When y x b) within = let parts = and_parts (is_below count y) (list_all (operand_within count) (Sig x ∷ Sig b ∷ [])) within in defined_alike y (When y x b) parts.0 parts.1
  fits_alike (WhenConst y c b) within = let parts = and_parts (is_below count y) (list_all (operand_within count) (Const c ∷ Sig b ∷ [])) within in defined_alike y (WhenConst y c b) parts.0 parts.1
  fits_alike (Default y u v) within = let parts = and_parts (is_below count y) (list_all (operand_within count) (Sig u ∷ Sig v ∷ [])) within in defined_alike y (Default y u v) parts.0 parts.1
  fits_alike (Sync x y) within = refl
  fits_alike (Event y x) within = let parts = and_parts (is_below count y) (list_all (operand_within count) (Sig x ∷ [])) within in defined_alike y (Event y x) parts.0 parts.1

  integers_alike : (operands : List Operand) → list_all (operand_within count) operands ≡ true → list_any (is_integer signals) operands ≡ list_any (is_integer wide) (map (renumbered_operand place) operands)
  integers_alike [] within = refl
  integers_alike (Sig x ∷ operands) within =
      let parts = and_parts (is_below count x) (list_all (operand_within count) operands) within in
      λ j. is_integer_kind (kind_alike x parts.0 j) || integers_alike operands parts.1 j
  integers_alike (Const c ∷ operands) within = let parts = and_parts true (list_all (operand_within count) operands) within in λ j. false || integers_alike operands parts.1 j

  compares_alike : (op : FunOp) (operands : List Operand) → list_all (operand_within count) operands ≡ true → compares signals op operands ≡ compares wide op (map (renumbered_operand place) operands)
  compares_alike Eq operands within = integers_alike operands within
  compares_alike Ne operands within = integers_alike operands within
  compares_alike op operands within = refl

  module _ (old new : Reaction) (agree : Agrees place count old new) where
    status_alike : (x : SigId) → is_below count x ≡ true → status_at old x.0 ≡ status_at new (place x.0)
    status_alike x within = agree x.0 (ltb-true x.0 count within)

    with_alike : (present : Bool) (operands : List Operand) → list_all (operand_within count) operands ≡ true
        → list_all (is_with old present) operands ≡ list_all (is_with new present) (map (renumbered_operand place) operands)
    with_alike present [] within = refl
    with_alike present (Sig x ∷ operands) within =
        let parts = and_parts (is_below count x) (list_all (operand_within count) operands) within in
        λ j. same_truth present (is_some (status_alike x parts.0 j)) && with_alike present operands parts.1 j
    with_alike present (Const c ∷ operands) within = let parts = and_parts true (list_all (operand_within count) operands) within in λ j. true && with_alike present operands parts.1 j

    truths_alike : (operands : List Operand) → list_all (operand_within count) operands ≡ true → map (operand_truth old) operands ≡ map (operand_truth new) (map (renumbered_operand place) operands)
    truths_alike [] within = refl
    truths_alike (Sig x ∷ operands) within =
        let parts = and_parts (is_below count x) (list_all (operand_within count) operands) within in
        λ j. truth_of_status (status_alike x parts.0 j) ∷ truths_alike operands parts.1 j
    truths_alike (Const c ∷ operands) within = let parts = and_parts true (list_all (operand_within count) operands) within in λ j. int_eq c (pos 1) ∷ truths_alike operands parts.1 j

    function_alike : (op : FunOp) (operands : List Operand) → list_all (operand_within count) operands ≡ true
        → function_truth signals old op operands ≡ function_truth wide new op (map (renumbered_operand place) operands)
    function_alike op operands within = λ j. cond (compares_alike op operands within j) None (truth_function op (truths_alike operands within j))

    pub meets_alike : (form : Form) → form_within count form ≡ true → meets signals old form ≡ meets wide new (renumbered_form place form)
    meets_alike (Fun y op operands) within =
        let parts = and_parts (is_below count y) (list_all (operand_within count) operands) within in
        let first : list_all (is_with old (is_present old y.0)) operands ≡ list_all (is_with new (is_present new (place y.0))) (map (renumbered_operand place) operands) =
        with_alike (is_present old y.0) operands parts.1 ∙ ap (λ status. list_all (is_with new (is_some status)) (map (renumbered_operand place) operands)) (status_alike y parts.0) in
        λ j. first j && has_truth (status_alike y parts.0 j) (function_alike op operands parts.1 j)
    meets_alike (Delay y x c) within =
        let parts = and_parts (is_below count y) (list_all (operand_within count) (Sig x ∷ Const c ∷ [])) within in
        let of_x = (and_parts (is_below count x) true parts.1).0 in
        λ j. same_truth (is_some (status_alike y parts.0 j)) (is_some (status_alike x of_x j))
    meets_alike (When y x b) within =
        let parts = and_parts (is_below count y) (list_all (operand_within count) (Sig x ∷ Sig b ∷ [])) within in
        let rest = and_parts (is_below count x) (list_all (operand_within count) (Sig b ∷ [])) parts.1 in
        let of_b = (and_parts (is_below count b) true rest.1).0 in
        λ j. same_status (status_alike y parts.0 j) (where_true (status_alike b of_b j) (status_alike x rest.0 j))
    meets_alike (WhenConst y c b) within =
        let parts = and_parts (is_below count y) (list_all (operand_within count) (Const c ∷ Sig b ∷ [])) within in
        let of_b = (and_parts (is_below count b) true parts.1).0 in
        λ j. same_status (status_alike y parts.0 j) (where_true (status_alike b of_b j) (Some (constant_truth (kind_alike y parts.0 j) c)))
    meets_alike (Default y u v) within =
        let parts = and_parts (is_below count y) (list_all (operand_within count) (Sig u ∷ Sig v ∷ [])) within in
        let rest = and_parts (is_below count u) (list_all (operand_within count) (Sig v ∷ [])) parts.1 in
        let of_v = (and_parts (is_below count v) true rest.1).0 in
        λ j. same_status (status_alike y parts.0 j) (or_else (status_alike u rest.0 j) (status_alike v of_v j))
    meets_alike (Sync x y) within =
        let rest = and_parts (is_below count x) (list_all (operand_within count) (Sig y ∷ [])) within in
        let of_y = (and_parts (is_below count y) true rest.1).0 in
        λ j. same_truth (is_some (status_alike x rest.0 j)) (is_some (status_alike y of_y j))
    meets_alike (Event y x) within =
        let parts = and_parts (is_below count y) (list_all (operand_within count) (Sig x ∷ [])) within in
        let of_x = (and_parts (is_below count x) true parts.1).0 in
        λ j. same_status (status_alike y parts.0 j) (where_present (status_alike x of_x j) true)

-- ---- statuses by places

pub status_fits : (signals : List Signal) (reaction : Reaction) → are_statuses signals reaction ≡ true → (k : ℕ) (signal : Signal) → slice_get signals k ≡ Some signal → is_status_of signal.kind (status_at reaction k) ≡ true
status_fits [] reaction are k signal is = absurd (let e : None ≡ Some signal = is in cc)
status_fits (s ∷ signals) [] are k signal is = absurd (false≢true are)
status_fits (s ∷ signals) (status ∷ reaction) are zero signal is =
    let same : s ≡ signal = cc in
    subst (λ (x : Signal). is_status_of x.kind status ≡ true) same (and_parts (is_status_of s.kind status) (are_statuses signals reaction) are).0
status_fits (s ∷ signals) (status ∷ reaction) are (suc k) signal is = status_fits signals reaction (and_parts (is_status_of s.kind status) (are_statuses signals reaction) are).1 k signal is
