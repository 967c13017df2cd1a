-- Instants, and abstract reactions, that agree along a renumbering of signals meet the same equations.
use Rattle.sig_pace.proofs.Common.{◌≡◌, ◌<◌, ◌∙◌, ℕ, ℤ, pos, true, List, [], ◌∷◌, length, map, refl, sym, ap, subst, arith, Option, None, Some, is_some, list_all, slice_index_or, and_parts, ltb-true, get_or-map-range_with_len, length-map-range_with_len, Function, Gives, Instant, Range, Seen, seen_at, SigId, AreAbsent, HaveValues, IsFunction, Meets, Memory, function_of, where_true, form_within, is_below, operand_within, Form, Default, Delay, Fun, Sync, When, WhenConst, Operand, Const, Sig, renumbered_form, renumbered_operand, restricted}
use Rattle.sig_kernel.specs.KernelTraces.{or_else, where_present}
use Rattle.sig_kernel.specs.declared.equation.Form.TheVariants.{Event}

-- what each of so many signals is, the signal at its place is too
abbrev pub Agrees : {A : Type 0} → (ℕ → ℕ) → ℕ → List (Option A) → List (Option A) → Type 0
Agrees place count old new = (x : ℕ) → x < count → slice_index_or old x None ≡ slice_index_or new (place x) None

-- what is left of statuses agrees with them
pub what_is_left : {A : Type 0} (count : ℕ) (place : ℕ → ℕ) (wide : List (Option A)) → Agrees place count (restricted count place wide) wide
what_is_left count place wide x lt = get_or-map-range_with_len (λ signal. slice_index_or wide (place signal) None) 0 count x x None lt (omega arith)

pub how_many_left : {A : Type 0} (count : ℕ) (place : ℕ → ℕ) (wide : List (Option A)) → length (restricted count place wide) ≡ count
how_many_left count place wide = length-map-range_with_len (λ signal. slice_index_or wide (place signal) None) 0 count

-- two memories hold the same for signals and for those at their places
abbrev pub RememberAlike : (ℕ → ℕ) → ℕ → Memory → Memory → Type 0
RememberAlike place count memory wide = (signal delayed : ℕ) (initial : ℤ) → delayed < count → memory signal delayed initial ≡ wide (place signal) (place delayed) initial

module _ (place : ℕ → ℕ) (count : ℕ) (old new : Instant) (agree : Agrees place count old new) where
  at : (x : SigId) → is_below count x ≡ true → seen_at old x.0 ≡ seen_at new (place x.0)
  at x within = agree x.0 (ltb-true x.0 count within)

  absent_alike : (operands : List Operand) → list_all (operand_within count) operands ≡ true → AreAbsent old operands ≡ AreAbsent new (map (renumbered_operand place) operands)
  absent_alike [] within = refl
  absent_alike (Sig x ∷ operands) within =
      let parts = and_parts (is_below count x) (list_all (operand_within count) operands) within in
      λ j. (at x parts.0 j ≡ None) × absent_alike operands parts.1 j
  absent_alike (Const c ∷ operands) within = absent_alike operands (and_parts true (list_all (operand_within count) operands) within).1

  values_alike : (operands : List Operand) (values : List ℤ) → list_all (operand_within count) operands ≡ true → HaveValues old operands values ≡ HaveValues new (map (renumbered_operand place) operands) values
  values_alike [] [] within = refl
  values_alike [] (v ∷ values) within = refl
  values_alike (Sig x ∷ operands) [] within = refl
  values_alike (Const c ∷ operands) [] within = refl
  values_alike (Sig x ∷ operands) (v ∷ values) within =
      let parts = and_parts (is_below count x) (list_all (operand_within count) operands) within in
      λ j. (at x parts.0 j ≡ Some v) × values_alike operands values parts.1 j
  values_alike (Const c ∷ operands) (v ∷ values) within =
      let parts = and_parts true (list_all (operand_within count) operands) within in
      λ j. (c ≡ v) × values_alike operands values parts.1 j

  function_alike : (range : Range) (f : Function) (operands : List Operand) (seen : Seen) → list_all (operand_within count) operands ≡ true
      → IsFunction range f old operands seen ≡ IsFunction range f new (map (renumbered_operand place) operands) seen
  function_alike range f operands None within = absent_alike operands within
  function_alike range f operands (Some v) within = λ j. (values : List ℤ) × values_alike operands values within j × Gives range f values v

  form_alike : (range : Range) (memory wide : Memory) → RememberAlike place count memory wide → (form : Form) → form_within count form ≡ true
      → Meets range memory old form ≡ Meets range wide new (renumbered_form place form)
  form_alike range memory wide same (Fun y op operands) within =
      let parts = and_parts (is_below count y) (list_all (operand_within count) operands) within in
      function_alike range (function_of op) operands (seen_at old y.0) parts.1 ∙ ap (λ seen. IsFunction range (function_of op) new (map (renumbered_operand place) operands) seen) (at y parts.0)
  form_alike range memory wide same (Delay y x initial) within =
      let parts = and_parts (is_below count y) (list_all (operand_within count) (Sig x ∷ Const initial ∷ [])) within in
      let of_x = (and_parts (is_below count x) true parts.1).0 in
      λ j. at y parts.0 j ≡ where_present (at x of_x j) (same y.0 x.0 initial (ltb-true x.0 count of_x) j)
  form_alike range memory wide same (When y x b) within =
      let parts = and_parts (is_below count y) (list_all (operand_within count) (Sig x ∷ Sig b ∷ [])) within in
      let rest = and_parts (is_below count x) (list_all (operand_within count) (Sig b ∷ [])) parts.1 in
      let of_b = (and_parts (is_below count b) true rest.1).0 in
      λ j. at y parts.0 j ≡ where_true (at b of_b j) (at x rest.0 j)
  form_alike range memory wide same (WhenConst y c b) within =
      let parts = and_parts (is_below count y) (list_all (operand_within count) (Const c ∷ Sig b ∷ [])) within in
      let of_b = (and_parts (is_below count b) true parts.1).0 in
      λ j. at y parts.0 j ≡ where_true (at b of_b j) (Some c)
  form_alike range memory wide same (Default y u v) within =
      let parts = and_parts (is_below count y) (list_all (operand_within count) (Sig u ∷ Sig v ∷ [])) within in
      let rest = and_parts (is_below count u) (list_all (operand_within count) (Sig v ∷ [])) parts.1 in
      let of_v = (and_parts (is_below count v) true rest.1).0 in
      λ j. at y parts.0 j ≡ or_else (at u rest.0 j) (at v of_v j)
  form_alike range memory wide same (Sync x y) within =
      let rest = and_parts (is_below count x) (list_all (operand_within count) (Sig y ∷ [])) within in
      let of_y = (and_parts (is_below count y) true rest.1).0 in
      λ j. is_some (at x rest.0 j) ≡ is_some (at y of_y j)
  form_alike range memory wide same (Event y x) within =
      let parts = and_parts (is_below count y) (list_all (operand_within count) (Sig x ∷ [])) within in
      let of_x = (and_parts (is_below count x) true parts.1).0 in
      λ j. at y parts.0 j ≡ where_present (at x of_x j) (pos 1)

  pub meets_to : (range : Range) (memory wide : Memory) → RememberAlike place count memory wide → (form : Form) → form_within count form ≡ true
      → Meets range memory old form → Meets range wide new (renumbered_form place form)
  meets_to range memory wide same form within met = subst (λ (T : Type 0). T) (form_alike range memory wide same form within) met

  pub meets_back : (range : Range) (memory wide : Memory) → RememberAlike place count memory wide → (form : Form) → form_within count form ≡ true
      → Meets range wide new (renumbered_form place form) → Meets range memory old form
  meets_back range memory wide same form within met = subst (λ (T : Type 0). T) (sym (form_alike range memory wide same form within)) met
