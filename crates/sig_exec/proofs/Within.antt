-- What the instructions and the guards of an image ask for is there.
use Rattle.sig_exec.proofs.Common.{◌≡◌, ◌<◌, ◌≤◌, ◌+◌, ◌-◌, ◌∙◌, ◌&&◌, ◌||◌, inl, inr, ℕ, zero, suc, ℤ, Bool, true, false, List, [], ◌∷◌, length, if◌then◌else◌, Option, None, Some, refl, sym, subst, arith, slice_get, slice_get_within, some_at, list_any, cases_lt, truth_of, test, Depends, with_truth, choice_depends, variable_depends, ref_depends, Ref, nodes_in, ImageView, IsImage, Kind, MayDo, accepts, are_operands, begins_row, is_kind, kind_at, kind_fits, memory_at, operand_is, operands_begin, scope_of, sort_of, Row, Sort, FunOp, Operand, Const, Sig, ImageOp, ImageOpKind, ImageSignal, reference, AreFunctions, Functions, IsRefOf, AreFor, AreGuardsOf, IsCellOf, IsFor, IsFunctionWork, IsWorkOf, bound_of, AreGuards, AreWithin, ReadsWithin, Instruction, Work, Copy, and_first, function_rows}
use Rattle.sig_file.specs.declared.images.ImageOpKind.TheVariants as does
use Rattle.sig_cells.specs.Guards.{scope_of as cells_scope}
use Rattle.sig_exec.proofs.NodeFunctions.{constant_truth, high_before, low_before, node_function, there, variable_within}
use Rattle.sig_exec.proofs.Places.{operation_at, recalled_within, signal_of, target_within}

no : {B : Type 0} → false ≡ true → B
no {B} e = absurd (let f : false ≡ true = e in cc)

none_fits : {B : Type 0} (sort : Sort) (kind : Option Kind) → kind_fits sort kind ≡ true → kind ≡ None → B
none_fits sort None fits e = no fits
none_fits sort (Some kind) fits e = absurd (let f : Some kind ≡ None = e in cc)

and_second : (a b : Bool) → (a && b) ≡ true → b ≡ true
and_second true b e = e
and_second false b e = no e

or_one : {B : Type 0} (a b : Bool) → (a || b) ≡ true → (a ≡ true → B) → (b ≡ true → B) → B
or_one true b e f g = f refl
or_one false b e f g = g e

-- ---- what an operation reads

module _ (signals : List ImageSignal) where
  abbrev pub IsThere : Operand → Type 0
  IsThere (Sig x) = x.0 < length signals
  IsThere (Const value) = Unit {0}

  abbrev pub AllThere : List Operand → Type 0
  AllThere [] = Unit {0}
  AllThere (operand ∷ operands) = IsThere operand × AllThere operands

  operand_there : (operand : Operand) (sort : Sort) → operand_is signals operand sort ≡ true → IsThere operand
  operand_there (Sig x) sort fits = signal_of signals x.0 (none_fits sort (kind_at signals x.0) fits)
  operand_there (Const value) sort fits = tt

  begun_there : (operands : List Operand) (sorts : List Sort) → operands_begin signals operands sorts ≡ true → AllThere operands
  begun_there [] sorts begins = tt
  begun_there (operand ∷ operands) [] begins = no begins
  begun_there (operand ∷ operands) (sort ∷ sorts) begins =
      (operand_there operand sort (and_first (operand_is signals operand sort) (operands_begin signals operands sorts) begins), begun_there operands sorts (and_second (operand_is signals operand sort) (operands_begin signals operands sorts) begins))

  rows_there : (kind : Kind) (operands : List Operand) (rows : List Row) → list_any (begins_row signals kind operands) rows ≡ true → AllThere operands
  rows_there kind operands [] any = no any
  rows_there kind operands (row ∷ rows) any =
      or_one (begins_row signals kind operands row) (list_any (begins_row signals kind operands) rows) any
      (λ e. begun_there operands row.operands (and_second (is_kind kind row.result) (operands_begin signals operands row.operands) e))
      (λ e. rows_there kind operands rows e)

  operands_there : (op : FunOp) (kind : Option Kind) (operands : List Operand) → are_operands signals op kind operands ≡ true → AllThere operands
  operands_there op None operands fits = no fits
  operands_there op (Some kind) operands fits = rows_there kind operands (function_rows op) fits

  source_there : (target : Option Kind) (x : ℕ) → accepts target (kind_at signals x) ≡ true → x < length signals
  source_there None x fits = no fits
  source_there (Some kind) x fits = signal_of signals x (none_fits (sort_of kind) (kind_at signals x) fits)

module _ (image : ImageView) (right : IsImage image) where
  module _ (cells : List ℤ) (room : bound_of image ≤ length cells) where
    cell_there : (operand : Operand) (n : ℕ) → IsThere image.signals operand → IsCellOf (bound_of image) cells operand n → n < length cells
    cell_there (Sig x) n has is = omega (arith, has, is, room)
    cell_there (Const value) n has (behind, within, holds) = within

    function_within : (op : FunOp) (operands : List Operand) (work : Work) → AllThere image.signals operands → IsFunctionWork (bound_of image) cells op operands work → ReadsWithin image.inputs (length cells) work
    function_within op [] work are is = absurd is
    function_within op (a ∷ []) work are (m, first, e) = subst (ReadsWithin image.inputs (length cells)) (sym e) (cell_there a m are.0 first)
    function_within op (a ∷ b ∷ []) work are (m, n, first, second, e) =
        subst (ReadsWithin image.inputs (length cells)) (sym e) (cell_there a m are.0 first, cell_there b n are.1.0 second)
    function_within op (a ∷ b ∷ c ∷ operands) work are is = absurd is

    copy_within : (source : ℕ) (work : Work) → work ≡ Copy source → source < length cells → ReadsWithin image.inputs (length cells) work
    copy_within source work e within = subst (ReadsWithin image.inputs (length cells)) (sym e) within

    work_within : (kind : ImageOpKind) (work : Work) → MayDo (scope_of image) kind → IsWorkOf image cells kind work → ReadsWithin image.inputs (length cells) work
    work_within (does.Read x) work may e = subst (ReadsWithin image.inputs (length cells)) (sym e) may
    work_within (does.Fun y op operands) work may is = function_within op operands work (operands_there image.signals op (kind_at image.signals y.0) operands may.fit) is
    work_within (does.Copy y x) work may e =
        let w = source_there image.signals (kind_at image.signals y.0) x.0 may in copy_within x.0 work e (omega (arith, w, room))
    work_within (does.Const y value) work may (n, (behind, within, holds), e) = copy_within n work e within
    work_within (does.DelayRead y memory) work may e =
        let w = recalled_within image right (does.DelayRead y memory) may y memory refl in copy_within (length image.signals + memory) work e (omega (arith, w, room))
    work_within (does.Store memory x) work may e =
        let w = source_there image.signals (memory_at image.memories memory) x.0 may in copy_within x.0 work e (omega (arith, w, room))

    pub are_within : (instructions : List Instruction) → AreFor image cells instructions → AreWithin image.inputs (length cells) instructions
    are_within instructions are place instruction at =
        let below = slice_get_within instructions place instruction at in
        let count = are.count in
        let (op, there) = some_at image.ops place (omega (arith, below, count)) in
        let for : IsFor image cells op instruction = are.each place instruction op at there in
        let may = (operation_at image right place op there).kind in
        let inside = target_within image right op.kind may in
        let goes = for.target in
        record { reads = work_within op.kind instruction.work may for.work; target = omega (arith, inside, goes, room) }

  -- ---- what a guard asks

  constant_asks_nothing : (r : ℕ) → r < 2 → (v : ℕ) → Depends (test (nodes_in image.nodes) (reference r)) v → ⊥
  constant_asks_nothing r near v (truths, apart) =
      apart (sym (constant_truth image right r near (omega (arith, near)) (with_truth truths v false)) ∙ constant_truth image right r near (omega (arith, near)) (with_truth truths v true))

  pub depends_within : (k r : ℕ) → r < k → r < length image.nodes + 2 → (v : ℕ) → Depends (test (nodes_in image.nodes) (reference r)) v → v < length image.conditions
  depends_within zero r less held v depends = absurd (omega (arith, less))
  depends_within (suc k) r less held v depends = elim (cases_lt r 2) [
    | inl near ↦ absurd (constant_asks_nothing r near v depends)
    | inr far ↦
        let n = r - 2 in
        let within : n < length image.nodes = omega (arith, far, held) in
        let (node, is) = some_at image.nodes n within in
        let here : r ≡ n + 2 = omega (arith, far) in
        let low = low_before image right n node is within in
        let high = high_before image right n node is within in
        let split : Depends (λ truths. if truth_of truths node.variable then test (nodes_in image.nodes) (reference node.high) truths else test (nodes_in image.nodes) (reference node.low) truths) v =
        subst (λ (f : List Bool → Bool). Depends f v) (λ j truths. sym (node_function image right n node is within truths (truth_of truths node.variable) refl) j)
        (subst (λ (q : ℕ). Depends (test (nodes_in image.nodes) (reference q)) v) here depends) in
        elim (choice_depends (λ truths. truth_of truths node.variable) (test (nodes_in image.nodes) (reference node.high)) (test (nodes_in image.nodes) (reference node.low)) v split) [
          | inl own ↦ let e = variable_depends node.variable v own in let w = variable_within image right (n + 2) (omega arith) (omega (arith, within)) node (there image right n node is within) in omega (arith, e, w)
          | inr (inl below) ↦ depends_within k node.high (omega (arith, high, here, less)) (omega (arith, high, within)) v below
          | inr (inr below) ↦ depends_within k node.low (omega (arith, low, here, less)) (omega (arith, low, within)) v below
        ]
  ]

  pub are_guards : (functions : Functions) → AreFunctions image functions → (guards : List Ref) → AreGuardsOf image functions guards
      → AreGuards (cells_scope functions.store.nodes image.conditions (length image.signals)) guards
  are_guards functions are guards of = record {
    held = λ place guard at. (is_ref place guard at).1.holds;
    told = λ place guard at v depends.
        let found = is_ref place guard at in
        depends_within (length image.nodes + 2) found.0.guard found.2 found.2 v (ref_depends functions.store.nodes (test (nodes_in image.nodes) (reference found.0.guard)) guard found.1 v depends);
  } where
    is_ref : (place : ℕ) (guard : Ref) → slice_get guards place ≡ Some guard
        → (op : ImageOp) × IsRefOf functions.store.nodes (test (nodes_in image.nodes) (reference op.guard)) guard × (op.guard < length image.nodes + 2)
    is_ref place guard at =
        let below = slice_get_within guards place guard at in
        let count = of.count in
        let (op, there) = some_at image.ops place (omega (arith, below, count)) in
        (op, are.each op.guard guard (of.each place guard op at there), (operation_at image right place op there).guard)
