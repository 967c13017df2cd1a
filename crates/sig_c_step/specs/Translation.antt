-- The step of an image, in small C: a statement or two for each operation, in the image's order.
use Rattle.std.specs.Prelude.{◌∷◌, ◌++◌, ◌+◌, ◌-◌, ◌&&◌, filter, ℕ, zero, suc, pos, Bool, true, false, not, List, [], length, map, take, drop, nat_eq, nat_lt, nat_le, slice_get, Option, None, Some, if◌then◌else◌}
use Rattle.std.specs.List.{flat_map, list_any}
use Rattle.sig_base.specs.declared.ids.Kind.{Kind}
use Rattle.sig_base.specs.declared.ids.Kind.TheVariants.{Integer, Boolean, Event}
use Rattle.sig_base.specs.declared.ids.SigId.{SigId}
use Rattle.sig_dd.specs.Diagram.{Diagram, Constant, Choice}
use Rattle.sig_dd.specs.Nodes.{diagram}
use Rattle.sig_kernel.specs.declared.equation.FunOp.{FunOp}
use Rattle.sig_kernel.specs.declared.equation.FunOp.TheVariants as fun
use Rattle.sig_kernel.specs.declared.equation.Operand.{Operand}
use Rattle.sig_kernel.specs.declared.equation.Operand.TheVariants.{Sig, Const}
use Rattle.sig_file.specs.Guarded.{nodes_in}
use Rattle.sig_file.specs.Images.{ImageView, kind_at}
use Rattle.sig_file.specs.declared.images.ImageMemory.{ImageMemory}
use Rattle.sig_file.specs.declared.images.ImageOp.{ImageOp}
use Rattle.sig_file.specs.declared.images.ImageOpKind.{ImageOpKind}
use Rattle.sig_file.specs.declared.images.ImageOpKind.TheVariants as does
use Rattle.sig_file.specs.declared.images.ImageSignal.{ImageSignal}
use Rattle.sig_c.specs.SmallC.{Name, Variable, Field, Operator, Less, LessEqual, Greater, GreaterEqual, Equal, NotEqual, And, Or, Expression, Number, Get, Not, Binary, Choose, Helper, Add, Subtract, Multiply, Quotient, Remainder, Ignored, Statement, Set, When, Check, Ask, Give, Ignore, Return, Statements, none, more, Width, Truth, Wide, FieldOfState, Prototype, Header, HelperDefinition, Declared, EndCause, Done, Exhausted, Overflow, DivisionByZero, EndRow, TranslationUnit}
use Rattle.sig_c.specs.Meaning.{truth}
use Rattle.sig_c.specs.Calls.{is_helper}
use Rattle.sig_c.specs.Helpers.{definition_of}
use Rattle.sig_c_step.specs.Names.{Names}

-- ---- statements

abbrev pub joined : Statements → Statements → Statements
joined none after = after
joined (more statement rest) after = more statement (joined rest after)

abbrev pub one : Statement → Statements
one statement = more statement none

-- ---- variables: those of the signals, then whether each output comes, then what each memory has next

abbrev pub comes : ImageView → (output : ℕ) → ℕ
comes image output = length image.signals + output

abbrev pub next : ImageView → (memory : ℕ) → ℕ
next image memory = length image.signals + (image.outputs + memory)

abbrev pub width_of_kind : Kind → Width
width_of_kind Integer = Wide
width_of_kind Boolean = Truth
width_of_kind Event = Truth

abbrev pub declared : Name → Width → Option ℕ → Declared
declared name width first = record { name = name; width = width; first = first }

abbrev pub signal_variables : List ImageSignal → List Name → List Declared
signal_variables [] names = []
signal_variables (signal ∷ signals) [] = []
signal_variables (signal ∷ signals) (name ∷ names) = declared name (width_of_kind signal.kind) None ∷ signal_variables signals names

abbrev pub comes_variable : Name → Declared
comes_variable name = declared name Truth None

-- from the memory of this number on
abbrev pub next_variables : ℕ → List ImageMemory → List Name → List Declared
next_variables n [] names = []
next_variables n (memory ∷ memories) [] = []
next_variables n (memory ∷ memories) (name ∷ names) = declared name (width_of_kind memory.kind) (Some n) ∷ next_variables (suc n) memories names

abbrev pub variables_of : ImageView → Names → List Declared
variables_of image names = signal_variables image.signals names.signals ++ (map comes_variable names.comes ++ next_variables 0 image.memories names.nexts)

abbrev pub fields_of : List ImageMemory → List Name → List FieldOfState
fields_of [] names = []
fields_of (memory ∷ memories) [] = []
fields_of (memory ∷ memories) (name ∷ names) = record { name = name; width = width_of_kind memory.kind } ∷ fields_of memories names

-- ---- guards

-- the truth of a condition; where there is none it is false
abbrev pub condition_in : Option SigId → Expression
condition_in None = Number (pos 0)
condition_in (Some x) = Get (Variable x.0)

-- a choice by w between two diagrams, whose expressions these are
abbrev pub choice : Expression → (low high : Diagram) → (l h : Expression) → Expression
choice w (Constant false) (Constant true) l h = w
choice w (Constant true) (Constant false) l h = Not w
choice w low (Constant true) l h = Binary Or w l
choice w low (Constant false) l h = Binary And (Not w) l
choice w (Constant true) high l h = Binary Or (Not w) h
choice w (Constant false) high l h = Binary And w h
choice w low high l h = Choose w h l

abbrev pub condition : List SigId → Diagram → Expression
condition conditions (Constant b) = Number (truth b)
condition conditions (Choice v low high) = choice (condition_in (slice_get conditions v)) low high (condition conditions low) (condition conditions high)

-- that of the guard of a number
abbrev pub guard_of : ImageView → ℕ → Expression
guard_of image guard = condition image.conditions (diagram (nodes_in image.nodes) (record { number = guard }))

-- ---- operations

abbrev pub is_output : ImageView → ℕ → Bool
is_output image x = nat_le image.inputs x && nat_lt x (image.inputs + image.outputs)

-- where the signal is an output: it comes
abbrev pub marking : ImageView → ℕ → Statements
marking image x = if is_output image x then one (Set (Variable (comes image (x - image.inputs))) (Number (pos 1))) else none

-- an input takes its next value; an event's is 1
abbrev pub asking : (x code : ℕ) → Option Kind → Statements
asking x code (Some Event) = more (Ask x None code) (one (Set (Variable x) (Number (pos 1))))
asking x code other = one (Ask x (Some x) code)

abbrev pub operand : Operand → Expression
operand (Sig x) = Get (Variable x.0)
operand (Const v) = Number v

abbrev pub is_one_signal : Operand → Operand → Bool
is_one_signal (Sig x) (Sig y) = nat_eq x.0 y.0
is_one_signal a b = false

-- a comparison; of a signal with itself the result is known
abbrev pub compared : Operator → (same : Bool) → (a b : Operand) → Expression
compared operator same a b = if is_one_signal a b then Number (truth same) else Binary operator (operand a) (operand b)

-- where the divisor is 0, the number of the end is returned
abbrev pub divisor_tested : Operand → (code : ℕ) → Statements → Statements
divisor_tested b code after = more (When (Binary Equal (operand b) (Number (pos 0))) (one (Return code))) after

abbrev pub computing : (y code : ℕ) → FunOp → List Operand → Statements
computing y code fun.Id (a ∷ []) = one (Set (Variable y) (operand a))
computing y code fun.Not (a ∷ []) = one (Set (Variable y) (Not (operand a)))
computing y code fun.And (a ∷ b ∷ []) = one (Set (Variable y) (Binary And (operand a) (operand b)))
computing y code fun.Or (a ∷ b ∷ []) = one (Set (Variable y) (Binary Or (operand a) (operand b)))
computing y code fun.Xor (a ∷ b ∷ []) = one (Set (Variable y) (compared NotEqual false a b))
computing y code fun.Eq (a ∷ b ∷ []) = one (Set (Variable y) (compared Equal true a b))
computing y code fun.Ne (a ∷ b ∷ []) = one (Set (Variable y) (compared NotEqual false a b))
computing y code fun.Lt (a ∷ b ∷ []) = one (Set (Variable y) (compared Less false a b))
computing y code fun.Le (a ∷ b ∷ []) = one (Set (Variable y) (compared LessEqual true a b))
computing y code fun.Gt (a ∷ b ∷ []) = one (Set (Variable y) (compared Greater false a b))
computing y code fun.Ge (a ∷ b ∷ []) = one (Set (Variable y) (compared GreaterEqual true a b))
computing y code fun.Neg (a ∷ []) = one (Check Subtract (Number (pos 0)) (operand a) y code)
computing y code fun.Add (a ∷ b ∷ []) = one (Check Add (operand a) (operand b) y code)
computing y code fun.Sub (a ∷ b ∷ []) = one (Check Subtract (operand a) (operand b) y code)
computing y code fun.Mul (a ∷ b ∷ []) = one (Check Multiply (operand a) (operand b) y code)
computing y code fun.Div (a ∷ b ∷ []) = divisor_tested b code (one (Check Quotient (operand a) (operand b) y (suc code)))
computing y code fun.Mod (a ∷ b ∷ []) = divisor_tested b code (one (Check Remainder (operand a) (operand b) y code))
computing y code op operands = none

-- an operation whose first end has this number
abbrev pub doing : ImageView → (code : ℕ) → ImageOpKind → Statements
doing image code (does.Read x) = joined (asking x.0 code (kind_at image.signals x.0)) (marking image x.0)
doing image code (does.Fun y op operands) = joined (computing y.0 code op operands) (marking image y.0)
doing image code (does.Copy y x) = more (Set (Variable y.0) (Get (Variable x.0))) (marking image y.0)
doing image code (does.Const y v) = more (Set (Variable y.0) (Number v)) (marking image y.0)
doing image code (does.DelayRead y memory) = more (Set (Variable y.0) (Get (Variable (next image memory)))) (marking image y.0)
doing image code (does.Store memory x) = one (Set (Variable (next image memory)) (Get (Variable x.0)))

-- ---- ends

abbrev pub function_causes : FunOp → List EndCause
function_causes fun.Neg = Overflow ∷ []
function_causes fun.Add = Overflow ∷ []
function_causes fun.Sub = Overflow ∷ []
function_causes fun.Mul = Overflow ∷ []
function_causes fun.Div = DivisionByZero ∷ Overflow ∷ []
function_causes fun.Mod = DivisionByZero ∷ []
function_causes other = []

-- why an operation may end a run, in the order of the numbers that its statements return
abbrev pub causes_of : ImageOpKind → List EndCause
causes_of (does.Read x) = Exhausted ∷ []
causes_of (does.Fun y op operands) = function_causes op
causes_of other = []

-- the signal that an operation is about
abbrev pub subject_of : ImageOpKind → ℕ
subject_of (does.Read x) = x.0
subject_of (does.Fun y op operands) = y.0
subject_of (does.Copy y x) = y.0
subject_of (does.Const y v) = y.0
subject_of (does.DelayRead y memory) = y.0
subject_of (does.Store memory x) = x.0

abbrev pub name_in : Option ImageSignal → Name
name_in None = []
name_in (Some signal) = signal.name

abbrev pub row_of : ImageView → ImageOp → EndCause → EndRow
row_of image op cause = record { cause = cause; line = op.at.line; column = op.at.col; name = name_in (slice_get image.signals (subject_of op.kind)) }

abbrev pub done_row : EndRow
done_row = record { cause = Done; line = 0; column = 0; name = [] }

-- an operation whose guard is the constant false is left out
abbrev pub is_left_out : ImageOp → Bool
is_left_out op = nat_eq op.guard 0

abbrev pub rows_of : ImageView → ImageOp → List EndRow
rows_of image op = if is_left_out op then [] else map (row_of image op) (causes_of op.kind)

abbrev pub ends_of : ImageView → List EndRow
ends_of image = done_row ∷ flat_map (rows_of image) image.ops

-- ---- helpers

abbrev pub helper_for : FunOp → Option Helper
helper_for fun.Neg = Some Subtract
helper_for fun.Add = Some Add
helper_for fun.Sub = Some Subtract
helper_for fun.Mul = Some Multiply
helper_for fun.Div = Some Quotient
helper_for fun.Mod = Some Remainder
helper_for other = None

abbrev pub is_for : Helper → Option Helper → Bool
is_for helper None = false
is_for helper (Some other) = is_helper helper other

abbrev pub is_called_by : Helper → ImageOpKind → Bool
is_called_by helper (does.Fun y op operands) = is_for helper (helper_for op)
is_called_by helper other = false

abbrev pub calls_helper : Helper → ImageOp → Bool
calls_helper helper op = not (is_left_out op) && is_called_by helper op.kind

abbrev pub all_helpers : List Helper
all_helpers = Add ∷ Subtract ∷ Multiply ∷ Quotient ∷ Remainder ∷ []

-- those that some operation calls
abbrev pub helpers_of : ImageView → List HelperDefinition
helpers_of image = map definition_of (filter (λ helper. list_any (calls_helper helper) image.ops) all_helpers)

-- ---- blocks

-- statements under a guard; the constant true is not asked
abbrev pub block : ImageView → (guard : ℕ) → Statements → Statements → Statements
block image (suc zero) body after = joined body after
block image guard body after = more (When (guard_of image guard) body) after

-- The operations from one on, where a block of this guard has begun with these statements, and the next end has this number: a block
-- for each longest run of neighbours with one guard.
abbrev pub blocks : ImageView → (guard : ℕ) → (body : Statements) → (code : ℕ) → List ImageOp → Statements
blocks image guard body code [] = block image guard body none
blocks image guard body code (op ∷ ops) =
    if is_left_out op then blocks image guard body code ops
    else (if nat_eq op.guard guard then blocks image guard (joined body (doing image code op.kind)) (code + length (causes_of op.kind)) ops
    else block image guard body (blocks image op.guard (doing image code op.kind) (code + length (causes_of op.kind)) ops))

-- ---- the step

abbrev pub ignoring : List Ignored → Statements
ignoring [] = none
ignoring (x ∷ others) = more (Ignore x) (ignoring others)

-- the fields have what the memories have next, from the memory of this number on
abbrev pub storing : ImageView → (memory : ℕ) → List ImageMemory → Statements
storing image n [] = none
storing image n (memory ∷ memories) = more (Set (Field n) (Get (Variable (next image n)))) (storing image (suc n) memories)

-- what the function of an output is given
abbrev pub value_given : (x : ℕ) → Kind → Option Expression
value_given x Integer = Some (Get (Variable x))
value_given x Boolean = Some (Get (Variable x))
value_given x Event = None

-- the outputs that come are given, from the output of this number on, and the step is done
abbrev pub giving : ImageView → (output : ℕ) → List ImageSignal → Statements
giving image y [] = one (Return 0)
giving image y (signal ∷ signals) =
    more (When (Get (Variable (comes image y))) (one (Give y (value_given (image.inputs + y) signal.kind)))) (giving image (suc y) signals)

abbrev pub outputs_in : ImageView → List ImageSignal
outputs_in image = take image.outputs (drop image.inputs image.signals)

abbrev pub step_in : ImageView → Names → Statements
step_in image names =
    joined (ignoring names.unread)
    (joined (blocks image 1 none 1 image.ops) (joined (storing image 0 image.memories) (giving image 0 (outputs_in image))))

-- ---- the header

-- what the function of an input or an output of this kind takes beside the context
abbrev pub taken : Kind → Option Width
taken Integer = Some Wide
taken Boolean = Some Truth
taken Event = None

abbrev pub prototypes_of : List ImageSignal → List Name → List Prototype
prototypes_of [] names = []
prototypes_of (signal ∷ signals) [] = []
prototypes_of (signal ∷ signals) (name ∷ names) = record { name = name; takes = taken signal.kind } ∷ prototypes_of signals names

abbrev pub inputs_in : ImageView → List ImageSignal
inputs_in image = take image.inputs image.signals

abbrev pub header_of : ImageView → Names → Header
header_of image names = record {
  prefix = names.prefix;
  inputs = prototypes_of (inputs_in image) names.inputs;
  outputs = prototypes_of (outputs_in image) names.outputs;
  fields = fields_of image.memories names.fields;
}

-- ---- the whole

abbrev pub unit_of : ImageView → Names → TranslationUnit
unit_of image names = record {
  helpers = helpers_of image;
  ends = ends_of image;
  firsts = map (λ memory. memory.init) image.memories;
  variables = variables_of image names;
  step = step_in image names;
}
