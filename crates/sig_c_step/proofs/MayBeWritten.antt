-- The file of an image may be written: what it names is there, and its numbers are in range.
use Rattle.std.proofs.Common.{◌≡◌, inl, inr, ◌<◌, ◌≤◌, ◌+◌, ◌-◌, ◌*◌, ◌++◌, ◌||◌, ◌^◌, ℕ, zero, suc, pos, Bool, true, false, List, [], ◌∷◌, Option, Some, None, refl, sym, ap, subst, ◌∙◌, arith, IsTrue, length, length-append, length-drop, length-take, map, drop, nat_eq, slice_get, if◌then◌else◌, flat_map}
use Rattle.std.specs.Prelude.{filter}
use Rattle.std.specs.List.{AllByRecursion, list_any}
use Rattle.std.proofs.lemmas.List.{length-map}
use Rattle.std.proofs.lemmas.List.Concat.{flat_map-cons}
use Rattle.std.proofs.lemmas.Option.{slice_get_within}
use Rattle.sig_base.specs.Traces.{has_64_bits}
use Rattle.sig_base.specs.declared.ids.Kind.{Kind}
use Rattle.sig_base.specs.declared.ids.Kind.TheVariants.{Integer, Boolean, Event}
use Rattle.sig_base.specs.declared.ids.SigId.{SigId}
use Rattle.sig_dd.specs.Diagram.{Diagram, Constant, Choice}
use Rattle.sig_dd.specs.Nodes.{diagram}
use Rattle.sig_kernel.specs.Table.{function_rows, kind_fits}
use Rattle.sig_kernel.specs.declared.equation.FunOp.{FunOp}
use Rattle.sig_kernel.specs.declared.equation.FunOp.TheVariants as fun
use Rattle.sig_kernel.specs.declared.equation.Operand.{Operand}
use Rattle.sig_kernel.specs.declared.equation.Operand.TheVariants.{Sig, Const}
use Rattle.sig_kernel.specs.declared.table.Sort.{Sort}
use Rattle.sig_file.specs.Guarded.{nodes_in}
use Rattle.sig_file.specs.Images.{ImageView, IsImage, IsMemory, MayDo, are_operands, kind_at, memory_at, memory_in, operand_is, scope_of}
use Rattle.sig_file.specs.declared.images.ImageMemory.{ImageMemory}
use Rattle.sig_file.specs.declared.images.ImageOp.{ImageOp}
use Rattle.sig_file.specs.declared.images.ImageOpKind.{ImageOpKind}
use Rattle.sig_file.specs.declared.images.ImageOpKind.TheVariants as does
use Rattle.sig_file.specs.declared.images.ImageSignal.{ImageSignal}
use Rattle.sig_exec.proofs.Common.{each_at}
use Rattle.sig_exec.proofs.KeptKinds.{accepted, alike, given, no, none_is}
use Rattle.sig_exec.proofs.Places.{condition_within, operation_at, signal_of}
use Rattle.sig_kernel.proofs.ValueLemmas.{value_of}
use Rattle.sig_c.specs.SmallC.{Name, Helper, Variable, Expression, Number, Binary, Ignored, TheVariable, TheState, TheContext, Operator, Less, LessEqual, Greater, GreaterEqual, Equal, NotEqual, Set, Statements, none, more, DivisionByZero, Exhausted, Overflow, FieldOfState, Declared, EndCause, EndRow}
use Rattle.sig_c.specs.Meaning.{truth}
use Rattle.sig_c.specs.Names as c
use Rattle.sig_c.specs.Calls.{is_helper}
use Rattle.sig_c.specs.Helpers.{definition_of}
use Rattle.sig_c.proofs.HelperBodies.{AreApart, helpers_right}
use Rattle.sig_c.specs.Names.{AreHeld, HasNames, has_helper, AreRows, AreStatements, AreVariables, HaveBits, IsCode, IsExpression, IsFirst, IsStatement, IsUnit}
use Rattle.sig_c.specs.Written as written
use Rattle.sig_c.specs.Written.{Scope}
use Rattle.sig_c_step.specs.Names.{AreNames, IsOfImage, Names}
use Rattle.sig_c_step.proofs.FunctionValues.{AllOperands, row_each, sort_bits}
use Rattle.sig_c_step.proofs.Likeness.{output_told}
use Rattle.sig_c_step.proofs.StateKinds.{bits_of, held}
use Rattle.sig_c_step.proofs.Typed.{step_typed}
use Rattle.sig_c_step.proofs.Variables.{input_names, output_names, variables_length}
use Rattle.sig_c_step.specs.Translation.{all_helpers, calls_helper, asking, block, blocks, causes_of, choice, comes, comes_variable, compared, computing, condition, condition_in, doing, fields_of, function_causes, giving, header_of, ignoring, is_left_out, is_one_signal, joined, marking, next, next_variables, one, operand, outputs_in, row_of, rows_of, signal_variables, storing, unit_of, value_given, variables_of}

-- a scope has room for what the image names
pub record HasRoom (image : ImageView) (scope : Scope) : Type 0 where
  pub variables : length image.signals + (image.outputs + length image.memories) ≤ length scope.variables
  pub fields : length image.memories ≤ length scope.fields
  pub inputs : image.inputs ≤ length scope.inputs
  pub outputs : image.outputs ≤ length scope.outputs
  pub step : scope.in_helper ≡ false

truth_bits : (b : Bool) → has_64_bits (truth b) ≡ true
truth_bits true = refl
truth_bits false = refl

module _ (scope : Scope) where
  joined_right : (a b : Statements) → AreStatements scope a → AreStatements scope b → AreStatements scope (joined a b)
  joined_right none b first second = second
  joined_right (more statement rest) b first second = (first.0, joined_right rest b first.1 second)

  choice_right : (w : Expression) (low high : Diagram) (l h : Expression) → IsExpression scope w → IsExpression scope l → IsExpression scope h → IsExpression scope (choice w low high l h)
  choice_right w (Constant false) (Constant true) l h one two three = one
  choice_right w (Constant true) (Constant false) l h one two three = one
  choice_right w (Constant true) (Constant true) l h one two three = (one, two)
  choice_right w (Constant false) (Constant false) l h one two three = (one, two)
  choice_right w (Choice v low high) (Constant true) l h one two three = (one, two)
  choice_right w (Choice v low high) (Constant false) l h one two three = (one, two)
  choice_right w (Constant true) (Choice v low high) l h one two three = (one, three)
  choice_right w (Constant false) (Choice v low high) l h one two three = (one, three)
  choice_right w (Choice u one_low one_high) (Choice v low high) l h one two three = (one, three, two)

module _ (image : ImageView) (right : IsImage image) (scope : Scope) (room : HasRoom image scope) where
  signal_in : (x : ℕ) → x < length image.signals → x < length scope.variables
  signal_in x inside = let r = room.variables in omega (arith, inside, r)

  comes_in : (y : ℕ) → y < image.outputs → comes image y < length scope.variables
  comes_in y inside = let r = room.variables in omega (arith, inside, r)

  next_in : (n : ℕ) → n < length image.memories → next image n < length scope.variables
  next_in n inside = let r = room.variables in omega (arith, inside, r)

  -- ---- guards

  condition_right : (d : Diagram) → IsExpression scope (condition image.conditions d)
  condition_right (Constant b) = truth_bits b
  condition_right (Choice v low high) =
      choice_right scope (condition_in (slice_get image.conditions v)) low high (condition image.conditions low) (condition image.conditions high) (by (slice_get image.conditions v) refl)
      (condition_right low) (condition_right high)
    where
      by : (o : Option SigId) → slice_get image.conditions v ≡ o → IsExpression scope (condition_in o)
      by None e = refl
      by (Some x) e = signal_in x.0 (condition_within image right v x e)

  block_right : (guard : ℕ) (body after : Statements) → AreStatements scope body → AreStatements scope after → AreStatements scope (block image guard body after)
  block_right zero body after one two = ((condition_right (diagram (nodes_in image.nodes) (record { number = 0 })), one), two)
  block_right (suc zero) body after one two = joined_right scope body after one two
  block_right (suc (suc guard)) body after one two = ((condition_right (diagram (nodes_in image.nodes) (record { number = suc (suc guard) })), one), two)

  -- ---- operations

  -- a signal is there, and a constant has 64 bits
  abbrev IsIn : Operand → Type 0
  IsIn (Sig x) = x.0 < length image.signals
  IsIn (Const v) = has_64_bits v ≡ true

  fits_in : (s : Sort) (a : Operand) → operand_is image.signals a s ≡ true → IsIn a
  fits_in s (Sig x) is = signal_of image.signals x.0 (λ e. no (sym (ap (kind_fits s) e) ∙ is))
  fits_in s (Const v) is = sort_bits image.signals s (Const v) is

  operand_right : (a : Operand) → IsIn a → IsExpression scope (operand a)
  operand_right (Sig x) inside = signal_in x.0 inside
  operand_right (Const v) inside = inside

  compared_right : (operator : Operator) (same : Bool) (a b : Operand) → IsIn a → IsIn b → IsExpression scope (compared operator same a b)
  compared_right operator same a b one two = by (is_one_signal a b) where
    by : (c : Bool) → IsExpression scope (if c then Number (truth same) else Binary operator (operand a) (operand b))
    by true = truth_bits same
    by false = (operand_right a one, operand_right b two)

  marking_right : (x : ℕ) → AreStatements scope (marking image x)
  marking_right x = elim (output_told image x) [
    | inl e ↦ let from = e.1 in let below = e.2 in
        subst (λ (b : Bool). AreStatements scope (if b then one (Set (Variable (comes image (x - image.inputs))) (Number (pos 1))) else none)) (sym e.0)
        ((comes_in (x - image.inputs) (omega (arith, from, below)), refl), tt)
    | inr e ↦ subst (λ (b : Bool). AreStatements scope (if b then one (Set (Variable (comes image (x - image.inputs))) (Number (pos 1))) else none)) (sym e.0) tt
  ]

  -- the numbers of the ends of an operation
  abbrev HaveNumbers : (code : ℕ) → List EndCause → Type 0
  HaveNumbers code causes = (k : ℕ) → k < length causes → IsCode (code + k)

  first_number : (code : ℕ) (cause : EndCause) (causes : List EndCause) → HaveNumbers code (cause ∷ causes) → IsCode code
  first_number code cause causes numbers = let n = numbers 0 (omega arith) in omega (arith, n)

  module _ (y : ℕ) (code : ℕ) (inside : y < length image.signals) where
    computing_right : (op : FunOp) (operands : List Operand) → AllOperands IsIn operands → HaveNumbers code (function_causes op) → AreStatements scope (computing y code op operands)
    computing_right fun.Id (a ∷ []) are numbers = ((signal_in y inside, operand_right a are.0), tt)
    computing_right fun.Not (a ∷ []) are numbers = ((signal_in y inside, operand_right a are.0), tt)
    computing_right fun.And (a ∷ b ∷ []) are numbers = ((signal_in y inside, (operand_right a are.0, operand_right b are.1.0)), tt)
    computing_right fun.Or (a ∷ b ∷ []) are numbers = ((signal_in y inside, (operand_right a are.0, operand_right b are.1.0)), tt)
    computing_right fun.Xor (a ∷ b ∷ []) are numbers = ((signal_in y inside, compared_right NotEqual false a b are.0 are.1.0), tt)
    computing_right fun.Eq (a ∷ b ∷ []) are numbers = ((signal_in y inside, compared_right Equal true a b are.0 are.1.0), tt)
    computing_right fun.Ne (a ∷ b ∷ []) are numbers = ((signal_in y inside, compared_right NotEqual false a b are.0 are.1.0), tt)
    computing_right fun.Lt (a ∷ b ∷ []) are numbers = ((signal_in y inside, compared_right Less false a b are.0 are.1.0), tt)
    computing_right fun.Le (a ∷ b ∷ []) are numbers = ((signal_in y inside, compared_right LessEqual true a b are.0 are.1.0), tt)
    computing_right fun.Gt (a ∷ b ∷ []) are numbers = ((signal_in y inside, compared_right Greater false a b are.0 are.1.0), tt)
    computing_right fun.Ge (a ∷ b ∷ []) are numbers = ((signal_in y inside, compared_right GreaterEqual true a b are.0 are.1.0), tt)
    computing_right fun.Neg (a ∷ []) are numbers = ((refl, operand_right a are.0, signal_in y inside, first_number code Overflow [] numbers), tt)
    computing_right fun.Add (a ∷ b ∷ []) are numbers = ((operand_right a are.0, operand_right b are.1.0, signal_in y inside, first_number code Overflow [] numbers), tt)
    computing_right fun.Sub (a ∷ b ∷ []) are numbers = ((operand_right a are.0, operand_right b are.1.0, signal_in y inside, first_number code Overflow [] numbers), tt)
    computing_right fun.Mul (a ∷ b ∷ []) are numbers = ((operand_right a are.0, operand_right b are.1.0, signal_in y inside, first_number code Overflow [] numbers), tt)
    computing_right fun.Div (a ∷ b ∷ []) are numbers = let second = numbers 1 (omega arith) in (
      ((operand_right b are.1.0, refl), (first_number code DivisionByZero (Overflow ∷ []) numbers, tt)),
      ((operand_right a are.0, operand_right b are.1.0, signal_in y inside, omega (arith, second)), tt),
    )
    computing_right fun.Mod (a ∷ b ∷ []) are numbers = let first = first_number code DivisionByZero [] numbers in (
      ((operand_right b are.1.0, refl), (first, tt)),
      ((operand_right a are.0, operand_right b are.1.0, signal_in y inside, first), tt),
    )
    computing_right op operands are numbers = tt

  operands_in : (op : FunOp) (o : Option Kind) (operands : List Operand) → IsTrue (are_operands image.signals op o operands) → AllOperands IsIn operands
  operands_in op None operands fits = no fits
  operands_in op (Some kind) operands fits = row_each image.signals kind operands IsIn fits_in (function_rows op) fits

  within_signals : (x : ℕ) (kind : Kind) → kind_at image.signals x ≡ Some kind → x < length image.signals
  within_signals x kind is = signal_of image.signals x (λ e. none_is kind (sym e ∙ is))

  within_memories : (n : ℕ) (kind : Kind) → memory_at image.memories n ≡ Some kind → n < length image.memories
  within_memories n kind is = by (slice_get image.memories n) refl where
    by : (o : Option ImageMemory) → slice_get image.memories n ≡ o → n < length image.memories
    by None e = none_is kind (sym (ap memory_in e) ∙ is)
    by (Some memory) e = slice_get_within image.memories n memory e

  defined_in : (op : FunOp) (o : Option Kind) (operands : List Operand) → IsTrue (are_operands image.signals op o operands) → o ≡ None → ⊥
  defined_in op None operands fits e = no fits
  defined_in op (Some kind) operands fits e = none_is kind (sym e)

  asking_right : (x code : ℕ) (o : Option Kind) → x < image.inputs → IsCode code → AreStatements scope (asking x code o)
  asking_right x code (Some Event) inside number = let r = room.inputs in let i = right.interface in
      ((omega (arith, inside, r), tt, number), ((signal_in x (omega (arith, inside, i)), refl), tt))
  asking_right x code (Some Integer) inside number = let r = room.inputs in let i = right.interface in ((omega (arith, inside, r), signal_in x (omega (arith, inside, i)), number), tt)
  asking_right x code (Some Boolean) inside number = let r = room.inputs in let i = right.interface in ((omega (arith, inside, r), signal_in x (omega (arith, inside, i)), number), tt)
  asking_right x code None inside number = let r = room.inputs in let i = right.interface in ((omega (arith, inside, r), signal_in x (omega (arith, inside, i)), number), tt)

  doing_right : (code : ℕ) (kind : ImageOpKind) → MayDo (scope_of image) kind → HaveNumbers code (causes_of kind) → AreStatements scope (doing image code kind)
  doing_right code (does.Read x) may numbers =
      joined_right scope (asking x.0 code (kind_at image.signals x.0)) (marking image x.0) (asking_right x.0 code (kind_at image.signals x.0) may (first_number code Exhausted [] numbers)) (marking_right x.0)
  doing_right code (does.Fun y op operands) may numbers =
      let inside = signal_of image.signals y.0 (defined_in op (kind_at image.signals y.0) operands may.fit) in
      joined_right scope (computing y.0 code op operands) (marking image y.0) (computing_right y.0 code inside op operands (operands_in op (kind_at image.signals y.0) operands may.fit) numbers) (marking_right y.0)
  doing_right code (does.Copy y x) may numbers =
      let (to, from, target, source, goes) = accepted (kind_at image.signals y.0) (kind_at image.signals x.0) may in
      ((signal_in y.0 (within_signals y.0 to target), signal_in x.0 (within_signals x.0 from source)), marking_right y.0)
  doing_right code (does.Const y v) may numbers =
      let (kind, target, of) = given (kind_at image.signals y.0) v may in
      ((signal_in y.0 (within_signals y.0 kind target), bits_of kind v of), marking_right y.0)
  doing_right code (does.DelayRead y n) may numbers =
      let (kind, target, source) = alike (kind_at image.signals y.0) (memory_at image.memories n) may in
      ((signal_in y.0 (within_signals y.0 kind target), next_in n (within_memories n kind source)), marking_right y.0)
  doing_right code (does.Store n x) may numbers =
      let (to, from, target, source, goes) = accepted (memory_at image.memories n) (kind_at image.signals x.0) may in
      ((next_in n (within_memories n to target), signal_in x.0 (within_signals x.0 from source)), tt)

  -- ---- blocks

  abbrev rows_count : List ImageOp → ℕ
  rows_count ops = length (flat_map (rows_of image) ops)

  count_first : (op : ImageOp) (ops : List ImageOp) → rows_count (op ∷ ops) ≡ length (rows_of image op) + rows_count ops
  count_first op ops = ap length (flat_map-cons (rows_of image) op ops) ∙ length-append (rows_of image op) (flat_map (rows_of image) ops)

  rows_kept : (op : ImageOp) → is_left_out op ≡ false → length (rows_of image op) ≡ length (causes_of op.kind)
  rows_kept op kept = ap (λ (b : Bool). length (if b then [] else map (row_of image op) (causes_of op.kind))) kept ∙ length-map (causes_of op.kind) (row_of image op)

  blocks_right : (ops : List ImageOp) (n code guard : ℕ) (body : Statements) → ((k : ℕ) → slice_get image.ops (n + k) ≡ slice_get ops k) → AreStatements scope body → code + rows_count ops ≤ 2 ^ 15
      → AreStatements scope (blocks image guard body code ops)
  blocks_right [] n code guard body stand are few = block_right guard body none are tt
  blocks_right (op ∷ ops) n code guard body stand are few = by (is_left_out op) refl
      (λ few_later. blocks_right ops (suc n) code guard body later are few_later)
      (λ more_body guard_too are_more few_later. blocks_right ops (suc n) (code + length (causes_of op.kind)) guard_too more_body later are_more few_later)
    where
      later : (k : ℕ) → slice_get image.ops (suc n + k) ≡ slice_get ops k
      later k = let e : suc n + k ≡ n + suc k = omega arith in ap (slice_get image.ops) e ∙ stand (suc k)

      here : slice_get image.ops n ≡ Some op
      here = let e : n ≡ n + 0 = omega arith in ap (slice_get image.ops) e ∙ stand 0

      numbers : is_left_out op ≡ false → HaveNumbers code (causes_of op.kind)
      numbers kept k lt = let c = count_first op ops in let r = rows_kept op kept in omega (arith, lt, c, r, few)

      by : (b : Bool) → is_left_out op ≡ b → (code + rows_count ops ≤ 2 ^ 15 → AreStatements scope (blocks image guard body code ops))
          → ((more_body : Statements) (guard_too : ℕ) → AreStatements scope more_body → (code + length (causes_of op.kind)) + rows_count ops ≤ 2 ^ 15
          → AreStatements scope (blocks image guard_too more_body (code + length (causes_of op.kind)) ops))
          → AreStatements scope (blocks image guard body code (op ∷ ops))
      by true e out with_more = let c = count_first op ops in rw e (out (omega (arith, c, few)))
      by false e out with_more =
          let did = doing_right code op.kind (operation_at image right n op here).kind (numbers e) in
          let c = count_first op ops in
          let r = rows_kept op e in
          let few_later : (code + length (causes_of op.kind)) + rows_count ops ≤ 2 ^ 15 = omega (arith, c, r, few) in
          rw e (split (nat_eq op.guard guard) (with_more (joined body (doing image code op.kind)) guard (joined_right scope body (doing image code op.kind) are did) few_later)
          (block_right guard body _ are (with_more (doing image code op.kind) op.guard did few_later)))
        where
          split : (b : Bool) → AreStatements scope (blocks image guard (joined body (doing image code op.kind)) (code + length (causes_of op.kind)) ops)
              → AreStatements scope (block image guard body (blocks image op.guard (doing image code op.kind) (code + length (causes_of op.kind)) ops))
              → AreStatements scope (if b then blocks image guard (joined body (doing image code op.kind)) (code + length (causes_of op.kind)) ops
              else block image guard body (blocks image op.guard (doing image code op.kind) (code + length (causes_of op.kind)) ops))
          split true one_is two_is = one_is
          split false one_is two_is = two_is

  -- ---- the end of a step

  ignoring_right : (unread : List Ignored) → AllByRecursion (IsOfImage image) unread → AreStatements scope (ignoring unread)
  ignoring_right [] are = tt
  ignoring_right (TheVariable x ∷ unread) are = (signal_in x are.0, ignoring_right unread are.1)
  ignoring_right (TheState ∷ unread) are = (room.step, ignoring_right unread are.1)
  ignoring_right (TheContext ∷ unread) are = (room.step, ignoring_right unread are.1)

  storing_right : (memories : List ImageMemory) (n : ℕ) → n + length memories ≤ length image.memories → AreStatements scope (storing image n memories)
  storing_right [] n few = tt
  storing_right (memory ∷ memories) n few =
      let f = room.fields in
      ((omega (arith, few, f), next_in n (omega (arith, few))), storing_right memories (suc n) (omega (arith, few)))

  giving_right : (signals : List ImageSignal) (y : ℕ) → y + length signals ≤ image.outputs → AreStatements scope (giving image y signals)
  giving_right [] y few = (omega arith, tt)
  giving_right (signal ∷ signals) y few =
      let o = room.outputs in
      ((comes_in y (omega (arith, few)), ((omega (arith, few, o), by signal.kind), tt)), giving_right signals (suc y) (omega (arith, few)))
    where
      by : (kind : Kind) → c.MayGive scope (value_given (image.inputs + y) kind)
      by Integer = let i = right.interface in signal_in (image.inputs + y) (omega (arith, few, i))
      by Boolean = let i = right.interface in signal_in (image.inputs + y) (omega (arith, few, i))
      by Event = tt

-- ---- the rows of ends

rows_joined : (a b : List EndRow) → AreRows a → AreRows b → AreRows (a ++ b)
rows_joined [] b first second = second
rows_joined (row ∷ a) b first second = (first.0, rows_joined a b first.1 second)

rows_made : (image : ImageView) (op : ImageOp) (causes : List EndCause) → op.at.line < 2 ^ 32 → op.at.col < 2 ^ 32 → AreRows (map (row_of image op) causes)
rows_made image op [] line column = tt
rows_made image op (because ∷ causes) line column = (record { line = line; column = column }, rows_made image op causes line column)

few_causes : (kind : ImageOpKind) → length (causes_of kind) ≤ 2
few_causes (does.Read x) = omega arith
few_causes (does.Fun y fun.Neg operands) = omega arith
few_causes (does.Fun y fun.Add operands) = omega arith
few_causes (does.Fun y fun.Sub operands) = omega arith
few_causes (does.Fun y fun.Mul operands) = omega arith
few_causes (does.Fun y fun.Div operands) = omega arith
few_causes (does.Fun y fun.Mod operands) = omega arith
few_causes (does.Fun y op operands) = omega arith
few_causes kind = omega arith

module _ (image : ImageView) where
  few_rows_of : (op : ImageOp) → length (rows_of image op) ≤ 2
  few_rows_of op = by (is_left_out op) where
    by : (b : Bool) → length (if b then [] else map (row_of image op) (causes_of op.kind)) ≤ 2
    by true = omega arith
    by false = let c = length-map (causes_of op.kind) (row_of image op) in let f = few_causes op.kind in omega (arith, c, f)

  pub few_rows : (ops : List ImageOp) → length (flat_map (rows_of image) ops) ≤ 2 * length ops
  few_rows [] = omega arith
  few_rows (op ∷ ops) =
      let all : length (flat_map (rows_of image) (op ∷ ops)) ≡ length (rows_of image op) + length (flat_map (rows_of image) ops) =
      ap length (flat_map-cons (rows_of image) op ops) ∙ length-append (rows_of image op) (flat_map (rows_of image) ops) in
      let one_is = few_rows_of op in
      let rest = few_rows ops in
      omega (arith, all, one_is, rest)

  are_rows : (ops : List ImageOp) → ((k : ℕ) (op : ImageOp) → slice_get ops k ≡ Some op → (op.at.line < 2 ^ 32) × (op.at.col < 2 ^ 32)) → AreRows (flat_map (rows_of image) ops)
  are_rows [] places = tt
  are_rows (op ∷ ops) places =
      subst AreRows (sym (flat_map-cons (rows_of image) op ops))
      (rows_joined (rows_of image op) (flat_map (rows_of image) ops) (by (is_left_out op)) (are_rows ops (λ k other is. places (suc k) other is)))
    where
      by : (b : Bool) → AreRows (if b then [] else map (row_of image op) (causes_of op.kind))
      by true = tt
      by false = let p = places 0 op refl in rows_made image op (causes_of op.kind) p.0 p.1

-- ---- variables and fields

fields_length : (memories : List ImageMemory) (names : List Name) → length names ≡ length memories → length (fields_of memories names) ≡ length memories
fields_length [] names count = refl
fields_length (memory ∷ memories) [] count = absurd (omega (arith, count))
fields_length (memory ∷ memories) (name ∷ names) count = ap suc (fields_length memories names (omega (arith, count)))

variables_joined : (fields : ℕ) (a b : List Declared) → AreVariables fields a → AreVariables fields b → AreVariables fields (a ++ b)
variables_joined fields [] b first second = second
variables_joined fields (variable ∷ a) b first second = (first.0, variables_joined fields a b first.1 second)

signals_right : (fields : ℕ) (signals : List ImageSignal) (names : List Name) → AreVariables fields (signal_variables signals names)
signals_right fields [] names = tt
signals_right fields (signal ∷ signals) [] = tt
signals_right fields (signal ∷ signals) (name ∷ names) = (tt, signals_right fields signals names)

comes_right : (fields : ℕ) (names : List Name) → AreVariables fields (map comes_variable names)
comes_right fields [] = tt
comes_right fields (name ∷ names) = (tt, comes_right fields names)

nexts_right : (fields from : ℕ) (memories : List ImageMemory) (names : List Name) → from + length memories ≤ fields → AreVariables fields (next_variables from memories names)
nexts_right fields from [] names few = tt
nexts_right fields from (memory ∷ memories) [] few = tt
nexts_right fields from (memory ∷ memories) (name ∷ names) few = (omega (arith, few), nexts_right fields (suc from) memories names (omega (arith, few)))

first_bits : (memories : List ImageMemory) → ((k : ℕ) (memory : ImageMemory) → slice_get memories k ≡ Some memory → IsMemory memory) → HaveBits (map (λ (memory : ImageMemory). memory.init) memories)
first_bits [] are = tt
first_bits (memory ∷ memories) are = (bits_of memory.kind memory.init (value_of memory.kind memory.init (are 0 memory refl).init), first_bits memories (λ k other is. are (suc k) other is))

first_held : (memories : List ImageMemory) (names : List Name) → ((k : ℕ) (memory : ImageMemory) → slice_get memories k ≡ Some memory → IsMemory memory)
    → AreHeld (fields_of memories names) (map (λ (memory : ImageMemory). memory.init) memories)
first_held [] names are = tt
first_held (memory ∷ memories) [] are = tt
first_held (memory ∷ memories) (name ∷ names) are =
    (held memory.kind memory.init (value_of memory.kind memory.init (are 0 memory refl).init), first_held memories names (λ k other is. are (suc k) other is))

-- ---- helpers

or_parts : (x y : Bool) → x || y ≡ false → (x ≡ false) × (y ≡ false)
or_parts false y e = (refl, e)
or_parts true y e = absurd (let f : true ≡ false = e in cc f)

not_kept : (keep : Helper → Bool) (helper : Helper) (helpers : List Helper) → has_helper (map definition_of helpers) helper ≡ false → has_helper (map definition_of (filter keep helpers)) helper ≡ false
not_kept keep helper [] none_is = refl
not_kept keep helper (other ∷ others) none_is =
    let parts = or_parts (is_helper helper other) (has_helper (map definition_of others) helper) none_is in
    by (keep other) parts.0 (not_kept keep helper others parts.1)
  where
    by : (b : Bool) → is_helper helper other ≡ false → has_helper (map definition_of (filter keep others)) helper ≡ false
        → has_helper (map definition_of (if b then other ∷ filter keep others else filter keep others)) helper ≡ false
    by true first later = ap (λ (c : Bool). c || has_helper (map definition_of (filter keep others)) helper) first ∙ later
    by false first later = later

apart_kept : (keep : Helper → Bool) (helpers : List Helper) → AreApart helpers → AreApart (filter keep helpers)
apart_kept keep [] apart = tt
apart_kept keep (helper ∷ helpers) apart = by (keep helper) (apart_kept keep helpers apart.1)
  where
    by : (b : Bool) → AreApart (filter keep helpers) → AreApart (if b then helper ∷ filter keep helpers else filter keep helpers)
    by true later = (not_kept keep helper helpers apart.0, later)
    by false later = later

-- ---- the whole

pub may_be_written : (image : ImageView) (names : Names) → IsImage image → AreNames image names → HasNames (header_of image names) (variables_of image names)
    → IsUnit (header_of image names) (unit_of image names)
may_be_written image names right named apart =
    let fields = fields_length image.memories names.fields named.fields in
    let scope = written.scope_of (header_of image names) (variables_of image names) in
    let all = variables_length image names named in
    let variables_count : length scope.variables ≡ length (variables_of image names) = length-map (variables_of image names) (λ (variable : Declared). variable.name) in
    let fields_count : length scope.fields ≡ length (fields_of image.memories names.fields) = length-map (fields_of image.memories names.fields) (λ (field : FieldOfState). field.name) in
    let inputs_count : length scope.inputs ≡ image.inputs = ap (λ (l : List Name). length l) (input_names image right names named) ∙ named.inputs in
    let outputs_count : length scope.outputs ≡ image.outputs = ap (λ (l : List Name). length l) (output_names image right names named) ∙ named.outputs in
    let room : HasRoom image scope = record {
      variables = omega (arith, all, variables_count);
      fields = omega (arith, fields, fields_count);
      inputs = omega (arith, inputs_count);
      outputs = omega (arith, outputs_count);
      step = refl;
    } in
    let few_ops : length image.ops ≤ 4096 = right.ops_few in
    let few = few_rows image image.ops in
    let interface = right.interface in
    let d = length-drop image.inputs image.signals in
    let t = length-take image.outputs (drop image.inputs image.signals) in
    record {
      names = apart;
      helpers = helpers_right (filter (λ helper. list_any (calls_helper helper) image.ops) all_helpers) (apart_kept (λ helper. list_any (calls_helper helper) image.ops) all_helpers (refl, (refl, (refl, (refl, (refl, tt))))));
      rows = (record { line = omega arith; column = omega arith }, are_rows image image.ops (λ k op is. let o = operation_at image right k op is in (o.line, o.col)));
      some_rows = omega arith;
      few_rows = omega (arith, few, few_ops);
      firsts = length-map image.memories (λ (memory : ImageMemory). memory.init) ∙ sym fields;
      bits = first_bits image.memories (λ k memory is. each_at (λ before. IsMemory) [] image.memories k memory right.memories is);
      held = first_held image.memories names.fields (λ k memory is. each_at (λ before. IsMemory) [] image.memories k memory right.memories is);
      types = step_typed image right names named;
      variables = variables_joined (length (fields_of image.memories names.fields)) (signal_variables image.signals names.signals) (map comes_variable names.comes ++ next_variables 0 image.memories names.nexts)
          (signals_right (length (fields_of image.memories names.fields)) image.signals names.signals)
          (variables_joined (length (fields_of image.memories names.fields)) (map comes_variable names.comes) (next_variables 0 image.memories names.nexts)
          (comes_right (length (fields_of image.memories names.fields)) names.comes) (nexts_right (length (fields_of image.memories names.fields)) 0 image.memories names.nexts (omega (arith, fields))));
      step = joined_right scope (ignoring names.unread) (joined (blocks image 1 none 1 image.ops) (joined (storing image 0 image.memories) (giving image 0 (outputs_in image))))
          (ignoring_right image right scope room names.unread named.unread)
          (joined_right scope (blocks image 1 none 1 image.ops) (joined (storing image 0 image.memories) (giving image 0 (outputs_in image)))
          (blocks_right image right scope room image.ops 0 1 1 none (λ k. let e : 0 + k ≡ k = omega arith in ap (slice_get image.ops) e) tt (omega (arith, few, few_ops)))
          (joined_right scope (storing image 0 image.memories) (giving image 0 (outputs_in image)) (storing_right image right scope room image.memories 0 (omega arith))
          (giving_right image right scope room (outputs_in image) 0 (omega (arith, interface, d, t)))));
    }
