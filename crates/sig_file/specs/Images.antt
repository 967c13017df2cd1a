-- Images: what contracts see of one, and which are right. The rules on single fields are tests, which the table of fields
-- (`Fields`) has too.
use Rattle.std.specs.Prelude.{◌≡◌, ◌<◌, ◌≤◌, ◌+◌, ◌^◌, ◌&&◌, ◌==◌, ◌∷◌, ◌++◌}
use Rattle.sig_file.specs.Prelude.{ℕ, zero, suc, ℤ, Bool, true, false, not, nat_lt, nat_le, IsTrue, List, [], length, map, slice_get, list_all, list_any, bytes_eq, Option, None, Some, Kind, Integer, Boolean, Event, SigId, SIGNALS, NODES, Sort, AnInteger, Truth, AnEvent, Row, kind_fits, constant_is, value_is, is_kind, function_rows, is_signal, FunOp, Id, Neg, Not, Operand, Sig, Const}
use Rattle.sig_file.specs.declared.images.ImageMemory.{ImageMemory}
use Rattle.sig_file.specs.declared.images.ImageNode.{ImageNode}
use Rattle.sig_file.specs.declared.images.ImageOp.{ImageOp}
use Rattle.sig_file.specs.declared.images.ImageOpKind.{ImageOpKind}
use Rattle.sig_file.specs.declared.images.ImageOpKind.TheVariants as does
use Rattle.sig_file.specs.declared.images.ImageSignal.{ImageSignal}
use Rattle.sig_file.specs.declared.limits.TheConstants.{CONDITIONS, MEMORIES, NAME_BYTES, OPERATIONS}

-- what contracts see of an image
pub record ImageView : Type 0 where
  pub signals : List ImageSignal
  pub inputs : ℕ
  pub outputs : ℕ
  pub conditions : List SigId
  pub memories : List ImageMemory
  pub nodes : List ImageNode
  pub ops : List ImageOp

-- ---- signals

-- printable ASCII without blanks
abbrev pub is_name : List ℕ → Bool
is_name name = list_all (λ byte. nat_lt 32 byte && nat_lt byte 127) name

abbrev pub is_name_length : ℕ → Bool
is_name_length n = nat_lt 0 n && nat_le n NAME_BYTES

abbrev pub names_of : List ImageSignal → List (List ℕ)
names_of signals = map (λ signal. signal.name) signals

-- the first signals are the inputs: such a one's name is not that of a signal before it
abbrev pub is_taken : ℕ → List ImageSignal → List ℕ → Bool
is_taken inputs before name = nat_lt (length before) inputs && list_any (bytes_eq name) (names_of before)

pub record IsSignalBehind (inputs : ℕ) (before : List ImageSignal) (signal : ImageSignal) : Type 0 where
  pub long : IsTrue (is_name_length (length signal.name))
  pub printable : IsTrue (is_name signal.name)
  pub free : is_taken inputs before signal.name ≡ false

-- the kind of the signal of a number
abbrev pub kind_in : Option ImageSignal → Option Kind
kind_in None = None
kind_in (Some signal) = Some signal.kind

abbrev pub kind_at : List ImageSignal → ℕ → Option Kind
kind_at signals x = kind_in (slice_get signals x)

-- ---- conditions and memories

abbrev pub is_boolean : Option Kind → Bool
is_boolean None = false
is_boolean (Some kind) = is_kind Boolean kind

-- a condition is a boolean, and none of the conditions before it
abbrev pub is_condition_behind : List ImageSignal → List SigId → ℕ → Bool
is_condition_behind signals before x = is_boolean (kind_at signals x) && not (list_any (λ condition. condition.0 == x) before)

-- the kinds that a memory may have
abbrev pub is_memory_kind : Kind → Bool
is_memory_kind Integer = true
is_memory_kind Boolean = true
is_memory_kind Event = false

pub record IsMemory (memory : ImageMemory) : Type 0 where
  pub kept : IsTrue (is_memory_kind memory.kind)
  pub init : IsTrue (value_is memory.kind memory.init)

-- the kind of the memory of a number
abbrev pub memory_in : Option ImageMemory → Option Kind
memory_in None = None
memory_in (Some memory) = Some memory.kind

abbrev pub memory_at : List ImageMemory → ℕ → Option Kind
memory_at memories m = memory_in (slice_get memories m)

-- ---- nodes

-- a node has a greater variable
abbrev pub is_later : ℕ → Option ImageNode → Bool
is_later variable None = false
is_later variable (Some node) = nat_lt variable node.variable

-- a child of a node behind these: a constant, or one of them that has a greater variable
abbrev pub is_child : List ImageNode → ℕ → ℕ → Bool
is_child before variable zero = true
is_child before variable (suc zero) = true
is_child before variable (suc (suc n)) = is_later variable (slice_get before n)

abbrev pub is_node : ℕ → ℕ → ℕ → ImageNode → Bool
is_node variable low high node = (variable == node.variable) && ((low == node.low) && (high == node.high))

-- the child for true is another one than that for false, and no node before has this variable and these children
abbrev pub is_high_child : List ImageNode → ℕ → ℕ → ℕ → Bool
is_high_child before variable low high =
    is_child before variable high && (not (high == low) && not (list_any (is_node variable low high) before))

pub record IsNodeBehind (conditions : ℕ) (before : List ImageNode) (node : ImageNode) : Type 0 where
  pub variable : node.variable < conditions
  pub low : IsTrue (is_child before node.variable node.low)
  pub high : IsTrue (is_high_child before node.variable node.low node.high)

-- ---- operations

-- what operations name
pub record Scope : Type 0 where
  pub signals : List ImageSignal
  pub inputs : ℕ
  pub memories : List ImageMemory
  -- how many nodes there are
  pub nodes : ℕ

-- what a signal or a memory of a kind may be given: a value of its kind, or an event where it is boolean
abbrev pub sort_of : Kind → Sort
sort_of Integer = AnInteger
sort_of Boolean = Truth
sort_of Event = AnEvent

abbrev pub accepts : Option Kind → Option Kind → Bool
accepts None source = false
accepts (Some kind) source = kind_fits (sort_of kind) source

abbrev pub accepts_value : Option Kind → ℤ → Bool
accepts_value None value = false
accepts_value (Some kind) value = value_is kind value

-- both are there, and of one kind
abbrev pub is_same : Option Kind → Option Kind → Bool
is_same None other = false
is_same (Some kind) None = false
is_same (Some kind) (Some other) = is_kind kind other

-- how many operands a function has
abbrev pub operand_count : FunOp → ℕ
operand_count Id = 1
operand_count Neg = 1
operand_count Not = 1
operand_count op = 2

abbrev pub operand_is : List ImageSignal → Operand → Sort → Bool
operand_is signals (Sig x) sort = kind_fits sort (kind_at signals x.0)
operand_is signals (Const constant) sort = constant_is sort constant

-- operands are of the first of these sorts, in order
abbrev pub operands_begin : List ImageSignal → List Operand → List Sort → Bool
operands_begin signals [] sorts = true
operands_begin signals (operand ∷ operands) [] = false
operands_begin signals (operand ∷ operands) (sort ∷ sorts) = operand_is signals operand sort && operands_begin signals operands sorts

abbrev pub begins_row : List ImageSignal → Kind → List Operand → Row → Bool
begins_row signals kind operands row = is_kind kind row.result && operands_begin signals operands row.operands

-- the first operands of a function that defines a signal of this kind: some row of the table of kinds has the kind and begins with
-- the sorts of these operands
abbrev pub are_operands : List ImageSignal → FunOp → Option Kind → List Operand → Bool
are_operands signals op None operands = false
are_operands signals op (Some kind) operands = list_any (begins_row signals kind operands) (function_rows op)

-- a function of the kinds' table, with as many operands as it has, one of which is a signal
pub record IsFunction (signals : List ImageSignal) (y : ℕ) (op : FunOp) (operands : List Operand) : Type 0 where
  pub count : length operands ≡ operand_count op
  pub speaks : IsTrue (list_any is_signal operands)
  pub fit : IsTrue (are_operands signals op (kind_at signals y) operands)

-- what an operation may do
abbrev pub MayDo : Scope → ImageOpKind → Type 0
MayDo scope (does.Read x) = x.0 < scope.inputs
MayDo scope (does.Fun y op operands) = IsFunction scope.signals y.0 op operands
MayDo scope (does.Copy y x) = IsTrue (accepts (kind_at scope.signals y.0) (kind_at scope.signals x.0))
MayDo scope (does.Const y value) = IsTrue (accepts_value (kind_at scope.signals y.0) value)
MayDo scope (does.DelayRead y m) = IsTrue (is_same (kind_at scope.signals y.0) (memory_at scope.memories m))
MayDo scope (does.Store m x) = IsTrue (accepts (memory_at scope.memories m) (kind_at scope.signals x.0))

pub record IsOperation (scope : Scope) (op : ImageOp) : Type 0 where
  -- the guard is a constant or a node, numbered as a child is
  pub guard : op.guard < scope.nodes + 2
  pub line : op.at.line < 2 ^ 32
  pub col : op.at.col < 2 ^ 32
  pub kind : MayDo scope op.kind

-- ---- images

-- each of these is right behind those before it
abbrev pub Each : {A : Type 0} → (List A → A → Type 0) → List A → List A → Type 0
Each right before [] = Unit {0}
Each right before (x ∷ xs) = right before x × Each right (before ++ x ∷ []) xs

abbrev pub scope_of : ImageView → Scope
scope_of image = record {
  signals = image.signals;
  inputs = image.inputs;
  memories = image.memories;
  nodes = length image.nodes;
}

-- An image is right.
pub record IsImage (image : ImageView) : Type 0 where
  pub signals_few : length image.signals ≤ SIGNALS
  pub interface : image.inputs + image.outputs ≤ length image.signals
  pub conditions_few : length image.conditions ≤ CONDITIONS
  pub memories_few : length image.memories ≤ MEMORIES
  pub nodes_few : length image.nodes ≤ NODES
  pub ops_few : length image.ops ≤ OPERATIONS
  pub signals : Each (IsSignalBehind image.inputs) [] image.signals
  pub conditions : Each (λ before x. IsTrue (is_condition_behind image.signals before x.0)) [] image.conditions
  pub memories : Each (λ before. IsMemory) [] image.memories
  pub nodes : Each (IsNodeBehind (length image.conditions)) [] image.nodes
  pub ops : Each (λ before. IsOperation (scope_of image)) [] image.ops
