-- The table of the fields of an image's file, in their order, each with its width and with what may stand there behind the
-- fields before it. A rule that speaks of several fields stands at the last of them.
use Rattle.std.specs.Prelude.{◌≡◌, ◌+◌, ◌&&◌, ◌||◌, ◌∷◌, ◌++◌}
use Rattle.sig_file.specs.Prelude.{ℕ, Bool, true, not, nat_lt, nat_le, List, [], length, bytes_eq, list_any, Option, Result, Ok, Err, Kind, Integer, Boolean, Event, SigId, SIGNALS, NODES, w32, is_signal, value_is, FunOp, Id, Neg, Not, And, Or, Xor, Eq, Ne, Lt, Le, Gt, Ge, Add, Sub, Mul, Div, Mod, Operand, Sig, Const}
use Rattle.sig_file.specs.Bytes.{magic}
use Rattle.sig_file.specs.Images.{ImageView, Scope, accepts, accepts_value, are_operands, is_child, is_condition_behind, is_high_child, is_name, is_name_length, is_same, is_taken, kind_at, memory_at, operand_count}
use Rattle.sig_file.specs.inner.Reading.{Reading, ◌>>=◌, choice_at, choice_if, long_at, long_if, number_if, right_or, several, text_if, word_at}
use Rattle.sig_file.specs.declared.choice.OpTag.{OpTag}
use Rattle.sig_file.specs.declared.choice.OpTag.TheVariants as tag
use Rattle.sig_file.specs.declared.choice.OperandTag.{OperandTag}
use Rattle.sig_file.specs.declared.choice.OperandTag.TheVariants as operand
use Rattle.sig_file.specs.declared.counts.Counts.{Counts}
use Rattle.sig_file.specs.declared.images.ImageMemory.{ImageMemory}
use Rattle.sig_file.specs.declared.images.ImageNode.{ImageNode}
use Rattle.sig_file.specs.declared.images.ImageOp.{ImageOp}
use Rattle.sig_file.specs.declared.images.ImageOpKind.{ImageOpKind}
use Rattle.sig_file.specs.declared.images.ImageOpKind.TheVariants as does
use Rattle.sig_file.specs.declared.images.ImageSignal.{ImageSignal}
use Rattle.sig_file.specs.declared.limits.TheConstants.{CONDITIONS, MEMORIES, OPERATIONS}

abbrev pub signal_id : ℕ → SigId
signal_id x = record { 0 = x }

-- ---- what the bytes of kinds stand for, from 0

abbrev pub kinds : List Kind
kinds = Integer ∷ Boolean ∷ Event ∷ []

abbrev pub memory_kinds : List Kind
memory_kinds = Integer ∷ Boolean ∷ []

abbrev pub functions : List FunOp
functions = Id ∷ Neg ∷ Not ∷ And ∷ Or ∷ Xor ∷ Eq ∷ Ne ∷ Lt ∷ Le ∷ Gt ∷ Ge ∷ Add ∷ Sub ∷ Mul ∷ Div ∷ Mod ∷ []

abbrev pub op_tags : List OpTag
op_tags = tag.Read ∷ tag.Fun ∷ tag.Copy ∷ tag.Const ∷ tag.DelayRead ∷ tag.Store ∷ []

abbrev pub operand_tags : List OperandTag
operand_tags = operand.Signal ∷ operand.Constant ∷ []

-- ---- the head of the file

unfoldable pub counts_at : Reading Counts
counts_at bytes = do
  begin ← text_if 8 (bytes_eq magic) bytes
  signals ← number_if (λ n. nat_le n SIGNALS) begin.1
  inputs ← word_at w32 signals.1
  outputs ← number_if (λ n. nat_le (inputs.0 + n) signals.0) inputs.1
  conditions ← number_if (λ n. nat_le n CONDITIONS) outputs.1
  memories ← number_if (λ n. nat_le n MEMORIES) conditions.1
  nodes ← number_if (λ n. nat_le n NODES) memories.1
  ops ← number_if (λ n. nat_le n OPERATIONS) nodes.1
  Ok (record { signals = signals.0; inputs = inputs.0; outputs = outputs.0; conditions = conditions.0; memories = memories.0; nodes = nodes.0; ops = ops.0 }, ops.1)

-- ---- signals, conditions, memories and nodes

unfoldable pub signal_at : ℕ → List ImageSignal → Reading ImageSignal
signal_at inputs before bytes = do
  kind ← choice_at kinds bytes
  len ← number_if is_name_length kind.1
  name ← text_if len.0 (λ name. is_name name && not (is_taken inputs before name)) len.1
  Ok (record { kind = kind.0; name = name.0 }, name.1)

unfoldable pub condition_at : List ImageSignal → List SigId → Reading SigId
condition_at signals before bytes = do
  x ← number_if (is_condition_behind signals before) bytes
  Ok (signal_id x.0, x.1)

unfoldable pub memory_from : Reading ImageMemory
memory_from bytes = do
  kind ← choice_at memory_kinds bytes
  init ← long_if (value_is kind.0) kind.1
  Ok (record { kind = kind.0; init = init.0 }, init.1)

unfoldable pub node_at : ℕ → List ImageNode → Reading ImageNode
node_at conditions before bytes = do
  variable ← number_if (λ v. nat_lt v conditions) bytes
  low ← number_if (is_child before variable.0) variable.1
  high ← number_if (is_high_child before variable.0 low.0) low.1
  Ok (record { variable = variable.0; low = low.0; high = high.0 }, high.1)

-- ---- operations

-- a constant is not the last operand of a function behind operands that are none but constants
abbrev pub may_follow : FunOp → List Operand → OperandTag → Bool
may_follow op before operand.Signal = true
may_follow op before operand.Constant = nat_lt (length before + 1) (operand_count op) || list_any is_signal before

unfoldable pub operand_from : OperandTag → Reading Operand
operand_from operand.Signal bytes = do
  x ← word_at w32 bytes
  Ok (Sig (signal_id x.0), x.1)
operand_from operand.Constant bytes = do
  c ← long_at bytes
  Ok (Const c.0, c.1)

unfoldable pub operand_at : List ImageSignal → FunOp → Option Kind → List Operand → Reading Operand
operand_at signals op kind before bytes = do
  of ← choice_if operand_tags (may_follow op before) bytes
  x ← operand_from of.0 of.1
  right_or of.1 (are_operands signals op kind (before ++ x.0 ∷ [])) x

-- the fields of a function behind its target
unfoldable pub function_at : List ImageSignal → ℕ → Reading ImageOpKind
function_at signals y bytes = do
  op ← choice_if functions (λ op. are_operands signals op (kind_at signals y) []) bytes
  count ← text_if 1 (bytes_eq (operand_count op.0 ∷ [])) op.1
  operands ← several (operand_at signals op.0 (kind_at signals y)) (operand_count op.0) [] count.1
  Ok (does.Fun (signal_id y) op.0 operands.0, operands.1)

-- the fields of an operation behind its place
unfoldable pub fields_at : Scope → OpTag → Reading ImageOpKind
fields_at scope tag.Read bytes = do
  x ← number_if (λ x. nat_lt x scope.inputs) bytes
  Ok (does.Read (signal_id x.0), x.1)
fields_at scope tag.Fun bytes = do
  y ← number_if (λ y. nat_lt y (length scope.signals)) bytes
  function_at scope.signals y.0 y.1
fields_at scope tag.Copy bytes = do
  y ← number_if (λ y. nat_lt y (length scope.signals)) bytes
  x ← number_if (λ x. accepts (kind_at scope.signals y.0) (kind_at scope.signals x)) y.1
  Ok (does.Copy (signal_id y.0) (signal_id x.0), x.1)
fields_at scope tag.Const bytes = do
  y ← number_if (λ y. nat_lt y (length scope.signals)) bytes
  c ← long_if (accepts_value (kind_at scope.signals y.0)) y.1
  Ok (does.Const (signal_id y.0) c.0, c.1)
fields_at scope tag.DelayRead bytes = do
  y ← number_if (λ y. nat_lt y (length scope.signals)) bytes
  m ← number_if (λ m. is_same (kind_at scope.signals y.0) (memory_at scope.memories m)) y.1
  Ok (does.DelayRead (signal_id y.0) m.0, m.1)
fields_at scope tag.Store bytes = do
  m ← number_if (λ m. nat_lt m (length scope.memories)) bytes
  x ← number_if (λ x. accepts (memory_at scope.memories m.0) (kind_at scope.signals x)) m.1
  Ok (does.Store m.0 (signal_id x.0), x.1)

unfoldable pub op_at : Scope → Reading ImageOp
op_at scope bytes = do
  of ← choice_at op_tags bytes
  guard ← number_if (λ g. nat_lt g (scope.nodes + 2)) of.1
  line ← word_at w32 guard.1
  col ← word_at w32 line.1
  kind ← fields_at scope of.0 col.1
  Ok (record { kind = kind.0; guard = guard.0; at = record { line = line.0; col = col.0 } }, kind.1)

unfoldable pub ops_at : Scope → ℕ → Reading (List ImageOp)
ops_at scope count bytes = several (λ before. op_at scope) count [] bytes

-- ---- the whole file

abbrev pub all_read : {A : Type 0} → A → List ℕ → Result A ℕ
all_read x [] = Ok x
all_read x (byte ∷ rest) = Err (length (byte ∷ rest))

-- the fields of an image
unfoldable pub fields_of_file : Reading ImageView
fields_of_file bytes = do
  counts ← counts_at bytes
  signals ← several (signal_at counts.0.inputs) counts.0.signals [] counts.1
  conditions ← several (condition_at signals.0) counts.0.conditions [] signals.1
  memories ← several (λ before. memory_from) counts.0.memories [] conditions.1
  nodes ← several (node_at counts.0.conditions) counts.0.nodes [] memories.1
  ops ← ops_at (record { signals = signals.0; inputs = counts.0.inputs; memories = memories.0; nodes = counts.0.nodes }) counts.0.ops nodes.1
  Ok (record { signals = signals.0; inputs = counts.0.inputs; outputs = counts.0.outputs; conditions = conditions.0; memories = memories.0; nodes = nodes.0; ops = ops.0 }, ops.1)

-- the image that the bytes are, or how many bytes are left from the first broken field on
unfoldable pub file_at : List ℕ → Result ImageView ℕ
file_at bytes = do
  image ← fields_of_file bytes
  all_read image.0 image.1

-- The first field of the bytes that is broken or cut off begins at this place, or a byte stands there behind the last operation.
pub record IsBrokenAt (bytes : List ℕ) (offset : ℕ) : Type 0 where
  pub left : ℕ
  pub broken : file_at bytes ≡ Err left
  pub place : offset + left ≡ length bytes
