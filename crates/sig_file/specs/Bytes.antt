-- The bytes of an image. Numbers are big-endian, of four bytes; constants and inits have eight.
use Rattle.std.specs.Prelude.{◌<◌, ◌^◌, ◌∷◌, ◌++◌}
use Rattle.sig_file.specs.Prelude.{ℕ, ℤ, List, length, flat_map, codes, w32, w64, to_be_bytes, cast_unsigned, Kind, Integer, Boolean, Event, SigId, FunOp, Id, Neg, Not, And, Or, Xor, Eq, Ne, Lt, Le, Gt, Ge, Add, Sub, Mul, Div, Mod, Operand, Sig, Const}
use Rattle.sig_file.specs.Images.{ImageView}
use Rattle.sig_file.specs.declared.images.ImageMemory.{ImageMemory}
use Rattle.sig_file.specs.declared.images.ImageNode.{ImageNode}
use Rattle.sig_file.specs.declared.images.ImageOp.{ImageOp}
use Rattle.sig_file.specs.declared.images.ImageOpKind.{ImageOpKind}
use Rattle.sig_file.specs.declared.images.ImageOpKind.TheVariants as does
use Rattle.sig_file.specs.declared.images.ImageSignal.{ImageSignal}

unfoldable pub number_bytes : ℕ → List ℕ
number_bytes n = to_be_bytes w32 n

unfoldable pub long_bytes : ℤ → List ℕ
long_bytes value = to_be_bytes w64 (cast_unsigned w64 value)

abbrev pub kind_number : Kind → ℕ
kind_number Integer = 0
kind_number Boolean = 1
kind_number Event = 2

abbrev pub function_number : FunOp → ℕ
function_number Id = 0
function_number Neg = 1
function_number Not = 2
function_number And = 3
function_number Or = 4
function_number Xor = 5
function_number Eq = 6
function_number Ne = 7
function_number Lt = 8
function_number Le = 9
function_number Gt = 10
function_number Ge = 11
function_number Add = 12
function_number Sub = 13
function_number Mul = 14
function_number Div = 15
function_number Mod = 16

-- what every image begins with
abbrev pub magic : List ℕ
magic = codes "SIGIMG01"

abbrev pub signal_bytes : ImageSignal → List ℕ
signal_bytes signal = kind_number signal.kind ∷ number_bytes (length signal.name) ++ signal.name

abbrev pub condition_bytes : SigId → List ℕ
condition_bytes x = number_bytes x.0

abbrev pub memory_bytes : ImageMemory → List ℕ
memory_bytes memory = kind_number memory.kind ∷ long_bytes memory.init

abbrev pub node_bytes : ImageNode → List ℕ
node_bytes node = number_bytes node.variable ++ number_bytes node.low ++ number_bytes node.high

-- a signal behind the byte 0, or a constant behind the byte 1
abbrev pub operand_bytes : Operand → List ℕ
operand_bytes (Sig x) = 0 ∷ number_bytes x.0
operand_bytes (Const constant) = 1 ∷ long_bytes constant

-- the kind byte of an operation
abbrev pub op_number : ImageOpKind → ℕ
op_number (does.Read x) = 0
op_number (does.Fun y op operands) = 1
op_number (does.Copy y x) = 2
op_number (does.Const y value) = 3
op_number (does.DelayRead y m) = 4
op_number (does.Store m x) = 5

-- the fields of an operation behind its place
abbrev pub field_bytes : ImageOpKind → List ℕ
field_bytes (does.Read x) = number_bytes x.0
field_bytes (does.Fun y op operands) = number_bytes y.0 ++ function_number op ∷ length operands ∷ flat_map operand_bytes operands
field_bytes (does.Copy y x) = number_bytes y.0 ++ number_bytes x.0
field_bytes (does.Const y value) = number_bytes y.0 ++ long_bytes value
field_bytes (does.DelayRead y m) = number_bytes y.0 ++ number_bytes m
field_bytes (does.Store m x) = number_bytes m ++ number_bytes x.0

abbrev pub op_bytes : ImageOp → List ℕ
op_bytes op = op_number op.kind ∷ number_bytes op.guard ++ number_bytes op.at.line ++ number_bytes op.at.col ++ field_bytes op.kind

-- the counts of signals, inputs, outputs, conditions, memories, nodes and operations
abbrev pub count_bytes : ImageView → List ℕ
count_bytes image = number_bytes (length image.signals) ++ number_bytes image.inputs ++ number_bytes image.outputs
    ++ number_bytes (length image.conditions) ++ number_bytes (length image.memories) ++ number_bytes (length image.nodes)
    ++ number_bytes (length image.ops)

-- The bytes of an image, the whole of its file.
unfoldable pub image_bytes : ImageView → List ℕ
image_bytes image = magic ++ count_bytes image
    ++ flat_map signal_bytes image.signals ++ flat_map condition_bytes image.conditions ++ flat_map memory_bytes image.memories
    ++ flat_map node_bytes image.nodes ++ flat_map op_bytes image.ops

-- ---- what the writer of a part asks

-- the length of a name has four bytes, and the number of operands one
abbrev pub IsNamed : ImageSignal → Type 0
IsNamed signal = length signal.name < 2 ^ 32

abbrev pub HasFew : ImageOpKind → Type 0
HasFew (does.Fun y op operands) = length operands < 256
HasFew other = Unit {0}
