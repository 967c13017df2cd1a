-- What the operation of an equation does in a plan's image fits the kinds of its signals.
use Rattle.sig_file.proofs.Common.{◌≡◌, ℕ, suc, true, List, [], ◌∷◌, length, map, slice_get, Option, Some, None, refl, sym, ap, subst, ◌∙◌, list_any, inl, inr, AllByRecursion, ℤ, pos, Kind, Integer, Boolean, Event, SigId, Sort, AnInteger, Truth, AnEvent, Row, constant_is, function_rows, is_kind, is_signal, kind_fits, value_is, Operand, Sig, Const, FunOp, Id, Eq, Ne, IfSome, unwrap_or, and_parts, Signal, defines_well, form_fits, handed_on_where, keeps_to, keeps_to_one, kind_of, merged, operands_are, operands_of, presence, target_fits, Form, Fun, Delay, When, WhenConst, Default, EventOf, OpKind, Compute, Left, Right, DelayRead, Store, IsFunction, MayDo, Scope, accepts, accepts_value, are_operands, begins_row, is_same, kind_at, memory_at, memory_in, operand_count, operand_is, operands_begin, sort_of, does_of, image_signal, memory_of, ImageMemory, ImageSignal, and_from, or_cases, or_left, or_right, two_parts}
use Rattle.sig_kernel.specs.Table as table
use Rattle.sig_file.proofs.PlanMemories.{delay_kept}
use Rattle.sig_file.proofs.PlanSignals.{kind_image}

-- ---- functions

as_many : (signals : List Signal) (operands : List Operand) (sorts : List Sort) → operands_are signals operands sorts ≡ true → length operands ≡ length sorts
as_many signals [] [] e = refl
as_many signals [] (sort ∷ sorts) e = absurd cc
as_many signals (operand ∷ operands) [] e = absurd cc
as_many signals (operand ∷ operands) (sort ∷ sorts) e =
    ap suc (as_many signals operands sorts (and_parts (table.operand_is signals operand sort) (operands_are signals operands sorts) e).1)

HaveCount : ℕ → List Row → Type 0
HaveCount n rows = AllByRecursion (λ (r : Row). length r.operands ≡ n) rows

rows_have : (op : FunOp) → HaveCount (operand_count op) (function_rows op)
unfolding HaveCount
rows_have Id = (refl, (refl, (refl, tt)))
rows_have Eq = (refl, (refl, tt))
rows_have Ne = (refl, (refl, tt))
rows_have other = (refl, tt)

module _ (signals : List Signal) where
  count_is : (kind : Kind) (operands : List Operand) (n : ℕ) (rows : List Row) → HaveCount n rows → keeps_to_one signals kind operands rows ≡ true → length operands ≡ n
  unfolding HaveCount
  count_is kind operands n [] have e = absurd cc
  count_is kind operands n (r ∷ rows) have e = elim (or_cases (keeps_to signals kind operands r) (keeps_to_one signals kind operands rows) e) [
    | inl here ↦ as_many signals operands r.operands (and_parts (is_kind kind r.result) (operands_are signals operands r.operands) here).1 ∙ have.0
    | inr later ↦ count_is kind operands n rows have.1 later
  ]

  same_operand : (operand : Operand) (sort : Sort) → table.operand_is signals operand sort ≡ true → operand_is (map image_signal signals) operand sort ≡ true
  same_operand (Sig x) sort e = ap (kind_fits sort) (kind_image signals x.0) ∙ e
  same_operand (Const constant) sort e = e

  begin : (operands : List Operand) (sorts : List Sort) → operands_are signals operands sorts ≡ true → operands_begin (map image_signal signals) operands sorts ≡ true
  begin [] sorts e = refl
  begin (operand ∷ operands) [] e = absurd cc
  begin (operand ∷ operands) (sort ∷ sorts) e =
      let two = and_parts (table.operand_is signals operand sort) (operands_are signals operands sorts) e in
      and_from (operand_is (map image_signal signals) operand sort) (operands_begin (map image_signal signals) operands sorts) (same_operand operand sort two.0) (begin operands sorts two.1)

  begin_one : (kind : Kind) (operands : List Operand) (rows : List Row) → keeps_to_one signals kind operands rows ≡ true → list_any (begins_row (map image_signal signals) kind operands) rows ≡ true
  begin_one kind operands [] e = absurd cc
  begin_one kind operands (r ∷ rows) e = elim (or_cases (keeps_to signals kind operands r) (keeps_to_one signals kind operands rows) e) [
    | inl here ↦ (
        let two = and_parts (is_kind kind r.result) (operands_are signals operands r.operands) here in
        or_left (begins_row (map image_signal signals) kind operands r) (list_any (begins_row (map image_signal signals) kind operands) rows)
        (and_from (is_kind kind r.result) (operands_begin (map image_signal signals) operands r.operands) two.0 (begin operands r.operands two.1))
        )
    | inr later ↦ or_right (begins_row (map image_signal signals) kind operands r) (list_any (begins_row (map image_signal signals) kind operands) rows) (begin_one kind operands rows later)
  ]

  function_by : (y : SigId) (op : FunOp) (operands : List Operand) (o : Option Kind) → kind_of (slice_get signals y.0) ≡ o → target_fits signals o (Fun y op operands) ≡ true → list_any is_signal operands ≡ true
      → IsFunction (map image_signal signals) y.0 op operands
  function_by y op operands None at fits speaks = absurd cc
  function_by y op operands (Some kind) at fits speaks = record {
    count = count_is kind operands (operand_count op) (function_rows op) (rows_have op) fits;
    speaks = speaks;
    fit = ap (λ (o : Option Kind). are_operands (map image_signal signals) op o operands) (kind_image signals y.0 ∙ at) ∙ begin_one kind operands (function_rows op) fits;
  }

  -- ---- values that are handed on

  where_rows : (kind : Kind) (a b : SigId) → keeps_to_one signals kind (Sig a ∷ Sig b ∷ []) handed_on_where ≡ true → kind_fits (sort_of kind) (kind_of (slice_get signals a.0)) ≡ true
  where_rows Integer a b e = (two_parts (table.operand_is signals (Sig a) AnInteger) (table.operand_is signals (Sig b) Truth) e).0
  where_rows Boolean a b e = (two_parts (table.operand_is signals (Sig a) Truth) (table.operand_is signals (Sig b) Truth) e).0
  where_rows Event a b e = (two_parts (table.operand_is signals (Sig a) AnEvent) (table.operand_is signals (Sig b) Truth) e).0

  merged_rows : (kind : Kind) (a b : SigId) → keeps_to_one signals kind (Sig a ∷ Sig b ∷ []) merged ≡ true
      → (kind_fits (sort_of kind) (kind_of (slice_get signals a.0)) ≡ true) × (kind_fits (sort_of kind) (kind_of (slice_get signals b.0)) ≡ true)
  merged_rows Integer a b e = two_parts (table.operand_is signals (Sig a) AnInteger) (table.operand_is signals (Sig b) AnInteger) e
  merged_rows Boolean a b e = two_parts (table.operand_is signals (Sig a) Truth) (table.operand_is signals (Sig b) Truth) e
  merged_rows Event a b e = two_parts (table.operand_is signals (Sig a) AnEvent) (table.operand_is signals (Sig b) AnEvent) e

  constant_rows : (kind : Kind) (constant : ℤ) (b : SigId) → keeps_to_one signals kind (Const constant ∷ Sig b ∷ []) handed_on_where ≡ true → value_is kind constant ≡ true
  constant_rows Integer constant b e = (two_parts (constant_is AnInteger constant) (table.operand_is signals (Sig b) Truth) e).0
  constant_rows Boolean constant b e = (two_parts (constant_is Truth constant) (table.operand_is signals (Sig b) Truth) e).0
  constant_rows Event constant b e = (two_parts (constant_is AnEvent constant) (table.operand_is signals (Sig b) Truth) e).0

  presence_rows : (kind : Kind) (a : SigId) → keeps_to_one signals kind (Sig a ∷ []) presence ≡ true → value_is kind (pos 1) ≡ true
  presence_rows Integer a e = absurd cc
  presence_rows Boolean a e = refl
  presence_rows Event a e = refl

  accepted_by : (form : Form) (o source : Option Kind) → target_fits signals o form ≡ true → ((kind : Kind) → defines_well signals kind form ≡ true → kind_fits (sort_of kind) source ≡ true) → accepts o source ≡ true
  accepted_by form None source fits each = absurd cc
  accepted_by form (Some kind) source fits each = each kind fits

  copied : (form : Form) (y x : SigId) → target_fits signals (kind_of (slice_get signals y.0)) form ≡ true → ((kind : Kind) → defines_well signals kind form ≡ true → kind_fits (sort_of kind) (kind_of (slice_get signals x.0)) ≡ true)
      → accepts (kind_at (map image_signal signals) y.0) (kind_at (map image_signal signals) x.0) ≡ true
  copied form y x fits each =
      ap (λ (o : Option Kind). accepts o (kind_at (map image_signal signals) x.0)) (kind_image signals y.0)
      ∙ ap (accepts (kind_of (slice_get signals y.0))) (kind_image signals x.0)
      ∙ accepted_by form (kind_of (slice_get signals y.0)) (kind_of (slice_get signals x.0)) fits each

  valued_by : (form : Form) (o : Option Kind) (value : ℤ) → target_fits signals o form ≡ true → ((kind : Kind) → defines_well signals kind form ≡ true → value_is kind value ≡ true) → accepts_value o value ≡ true
  valued_by form None value fits each = absurd cc
  valued_by form (Some kind) value fits each = each kind fits

  valued : (form : Form) (y : SigId) (value : ℤ) → target_fits signals (kind_of (slice_get signals y.0)) form ≡ true → ((kind : Kind) → defines_well signals kind form ≡ true → value_is kind value ≡ true)
      → accepts_value (kind_at (map image_signal signals) y.0) value ≡ true
  valued form y value fits each = ap (λ (o : Option Kind). accepts_value o value) (kind_image signals y.0) ∙ valued_by form (kind_of (slice_get signals y.0)) value fits each

  itself : (kind : Kind) → is_kind kind kind ≡ true
  itself Integer = refl
  itself other = refl

  same_by : (form : Form) (o : Option Kind) → target_fits signals o form ≡ true → is_same o (Some (unwrap_or o Integer)) ≡ true
  same_by form None fits = absurd cc
  same_by form (Some kind) fits = itself kind

  -- ---- operations of equations

  -- what an operation does may be done, if the delay of the equation has the memory m
  pub does_right : (scope : Scope) → scope.signals ≡ map image_signal signals → (m : ℕ) (kind : OpKind) (form : Form) → form_fits signals form ≡ true → list_any is_signal (operands_of form) ≡ true
      → ((y x : SigId) (initial : ℤ) → form ≡ Delay y x initial → slice_get scope.memories m ≡ memory_of signals form)
      → IfSome (does_of m kind form) (MayDo scope)
  does_right scope same m Compute (Fun y op operands) fits speaks there =
      subst (λ (s : List ImageSignal). IsFunction s y.0 op operands) (sym same) (function_by y op operands (kind_of (slice_get signals y.0)) refl fits speaks)
  does_right scope same m Compute (When y x b) fits speaks there =
      subst (λ (s : List ImageSignal). accepts (kind_at s y.0) (kind_at s x.0) ≡ true) (sym same) (copied (When y x b) y x fits (λ kind e. where_rows kind x b e))
  does_right scope same m Compute (WhenConst y constant b) fits speaks there =
      subst (λ (s : List ImageSignal). accepts_value (kind_at s y.0) constant ≡ true) (sym same) (valued (WhenConst y constant b) y constant fits (λ kind e. constant_rows kind constant b e))
  does_right scope same m Compute (EventOf y x) fits speaks there =
      subst (λ (s : List ImageSignal). accepts_value (kind_at s y.0) (pos 1) ≡ true) (sym same) (valued (EventOf y x) y (pos 1) fits (λ kind e. presence_rows kind x e))
  does_right scope same m Left (Default y u v) fits speaks there =
      subst (λ (s : List ImageSignal). accepts (kind_at s y.0) (kind_at s u.0) ≡ true) (sym same) (copied (Default y u v) y u fits (λ kind e. (merged_rows kind u v e).0))
  does_right scope same m Right (Default y u v) fits speaks there =
      subst (λ (s : List ImageSignal). accepts (kind_at s y.0) (kind_at s v.0) ≡ true) (sym same) (copied (Default y u v) y v fits (λ kind e. (merged_rows kind u v e).1))
  does_right scope same m DelayRead (Delay y x initial) fits speaks there =
      ap (λ (s : List ImageSignal). is_same (kind_at s y.0) (memory_at scope.memories m)) same
      ∙ ap (λ (o : Option Kind). is_same o (memory_at scope.memories m)) (kind_image signals y.0)
      ∙ ap (λ (o : Option ImageMemory). is_same (kind_of (slice_get signals y.0)) (memory_in o)) (there y x initial refl)
      ∙ same_by (Delay y x initial) (kind_of (slice_get signals y.0)) fits
  does_right scope same m (Store number) (Delay y x initial) fits speaks there =
      ap (λ (s : List ImageSignal). accepts (memory_at scope.memories m) (kind_at s x.0)) same
      ∙ ap (accepts (memory_at scope.memories m)) (kind_image signals x.0)
      ∙ ap (λ (o : Option ImageMemory). accepts (memory_in o) (kind_of (slice_get signals x.0))) (there y x initial refl)
      ∙ (delay_kept signals y x initial fits).source
  does_right scope same m kind form fits speaks there = tt
