-- The table of kinds: for each form of an equation, and for each function, what its operands are and of
-- which kind the signal is that it defines. An equation keeps to one of the rows of its form.
use Rattle.std.specs.Prelude.{◌&&◌, ◌||◌, ◌∷◌}
use Rattle.sig_kernel.specs.Prelude.{ℤ, pos, Bool, true, false, List, [], Option, None, Some, slice_get, list_any, int_eq, Kind, Integer, Boolean, Event, SigId, Signal, has_64_bits}
use Rattle.sig_kernel.specs.declared.equation.FunOp.{FunOp}
use Rattle.sig_kernel.specs.declared.equation.FunOp.TheVariants.{Id, Neg, Not, And, Or, Xor, Eq, Ne, Lt, Le, Gt, Ge, Add, Sub, Mul, Div, Mod}
use Rattle.sig_kernel.specs.declared.equation.Operand.{Operand}
use Rattle.sig_kernel.specs.declared.equation.Operand.TheVariants.{Sig, Const}
use Rattle.sig_kernel.specs.declared.equation.Form.{Form}
use Rattle.sig_kernel.specs.declared.equation.Form.TheVariants.{Fun, Delay, When, WhenConst, Default, Sync, Event as EventOf}
use Rattle.sig_kernel.specs.declared.table.Sort.{Sort}
use Rattle.sig_kernel.specs.declared.table.Sort.TheVariants.{Integer as AnInteger, Truth, Event as AnEvent, Any}

-- a row of the table
pub record Row : Type 0 where
  pub operands : List Sort
  pub result : Kind

abbrev pub row : List Sort → Kind → Row
row operands result = record { operands = operands; result = result }

-- one operand whose value is handed on
abbrev pub handed_on : List Row
handed_on = row (AnInteger ∷ []) Integer ∷ row (Truth ∷ []) Boolean ∷ row (AnEvent ∷ []) Event ∷ []

-- two operands, of which the first is handed on where the second is true
abbrev pub handed_on_where : List Row
handed_on_where = row (AnInteger ∷ Truth ∷ []) Integer ∷ row (Truth ∷ Truth ∷ []) Boolean ∷ row (AnEvent ∷ Truth ∷ []) Event ∷ []

-- two operands, of which one is handed on
abbrev pub merged : List Row
merged = row (AnInteger ∷ AnInteger ∷ []) Integer ∷ row (Truth ∷ Truth ∷ []) Boolean ∷ row (AnEvent ∷ AnEvent ∷ []) Event ∷ []

-- a signal that is kept, and the constant that is there before
abbrev pub kept : List Row
kept = row (AnInteger ∷ AnInteger ∷ []) Integer ∷ row (Truth ∷ Truth ∷ []) Boolean ∷ []

-- one operand that is present
abbrev pub presence : List Row
presence = row (Any ∷ []) Event ∷ row (Any ∷ []) Boolean ∷ []

abbrev pub arithmetic : List Row
arithmetic = row (AnInteger ∷ AnInteger ∷ []) Integer ∷ []

abbrev pub connective : List Row
connective = row (Truth ∷ Truth ∷ []) Boolean ∷ []

abbrev pub comparison : List Row
comparison = row (AnInteger ∷ AnInteger ∷ []) Boolean ∷ []

abbrev pub equality : List Row
equality = row (AnInteger ∷ AnInteger ∷ []) Boolean ∷ row (Truth ∷ Truth ∷ []) Boolean ∷ []

-- the rows of each function
abbrev pub function_rows : FunOp → List Row
function_rows Id = handed_on
function_rows Neg = row (AnInteger ∷ []) Integer ∷ []
function_rows Not = row (Truth ∷ []) Boolean ∷ []
function_rows And = connective
function_rows Or = connective
function_rows Xor = connective
function_rows Eq = equality
function_rows Ne = equality
function_rows Lt = comparison
function_rows Le = comparison
function_rows Gt = comparison
function_rows Ge = comparison
function_rows Add = arithmetic
function_rows Sub = arithmetic
function_rows Mul = arithmetic
function_rows Div = arithmetic
function_rows Mod = arithmetic

-- the rows of each form that defines a signal
abbrev pub rows_of : Form → List Row
rows_of (Fun y op operands) = function_rows op
rows_of (Delay y x init) = kept
rows_of (When y x b) = handed_on_where
rows_of (WhenConst y constant b) = handed_on_where
rows_of (Default y u v) = merged
rows_of (Sync x y) = []
rows_of (EventOf y x) = presence

-- the operands of a form, in the order of the rows
abbrev pub operands_of : Form → List Operand
operands_of (Fun y op operands) = operands
operands_of (Delay y x init) = Sig x ∷ Const init ∷ []
operands_of (When y x b) = Sig x ∷ Sig b ∷ []
operands_of (WhenConst y constant b) = Const constant ∷ Sig b ∷ []
operands_of (Default y u v) = Sig u ∷ Sig v ∷ []
operands_of (Sync x y) = Sig x ∷ Sig y ∷ []
operands_of (EventOf y x) = Sig x ∷ []

-- the signal that a form defines
abbrev pub target_of : Form → Option SigId
target_of (Fun y op operands) = Some y
target_of (Delay y x init) = Some y
target_of (When y x b) = Some y
target_of (WhenConst y constant b) = Some y
target_of (Default y u v) = Some y
target_of (Sync x y) = None
target_of (EventOf y x) = Some y

abbrev pub is_kind : Kind → Kind → Bool
is_kind Integer Integer = true
is_kind Boolean Boolean = true
is_kind Event Event = true
is_kind a b = false

-- a signal of this kind is of the sort
abbrev pub kind_is : Sort → Kind → Bool
kind_is AnInteger kind = is_kind Integer kind
kind_is Truth kind = is_kind Boolean kind || is_kind Event kind
kind_is AnEvent kind = is_kind Event kind
kind_is Any kind = true

-- a constant is of the sort: a number of 64 bits is an integer, 0 and 1 are truths, and 1 is an event's value
abbrev pub constant_is : Sort → ℤ → Bool
constant_is AnInteger constant = has_64_bits constant
constant_is Truth constant = int_eq constant (pos 0) || int_eq constant (pos 1)
constant_is AnEvent constant = int_eq constant (pos 1)
constant_is Any constant = has_64_bits constant

-- the kind of the signal of a number
abbrev pub kind_of : Option Signal → Option Kind
kind_of None = None
kind_of (Some signal) = Some signal.kind

abbrev pub kind_at : List Signal → SigId → Option Kind
kind_at signals x = kind_of (slice_get signals x.0)

abbrev pub kind_fits : Sort → Option Kind → Bool
kind_fits sort None = false
kind_fits sort (Some kind) = kind_is sort kind

abbrev pub operand_is : List Signal → Operand → Sort → Bool
operand_is signals (Sig x) sort = kind_fits sort (kind_at signals x)
operand_is signals (Const constant) sort = constant_is sort constant

-- as many operands as the row has, each of its sort
abbrev pub operands_are : List Signal → List Operand → List Sort → Bool
operands_are signals [] [] = true
operands_are signals [] (sort ∷ sorts) = false
operands_are signals (operand ∷ operands) [] = false
operands_are signals (operand ∷ operands) (sort ∷ sorts) = operand_is signals operand sort && operands_are signals operands sorts

-- a signal of this kind may be defined so by these operands
abbrev pub keeps_to : List Signal → Kind → List Operand → Row → Bool
keeps_to signals kind operands r = is_kind kind r.result && operands_are signals operands r.operands

abbrev pub keeps_to_one : List Signal → Kind → List Operand → List Row → Bool
keeps_to_one signals kind operands rows = list_any (keeps_to signals kind operands) rows

-- a signal of this kind may be defined by an equation of this form
abbrev pub defines_well : List Signal → Kind → Form → Bool
defines_well signals kind form = keeps_to_one signals kind (operands_of form) (rows_of form)

abbrev pub target_fits : List Signal → Option Kind → Form → Bool
target_fits signals None form = false
target_fits signals (Some kind) form = defines_well signals kind form

-- the form keeps to one of its rows; one that defines no signal asks for nothing
abbrev pub form_fits : List Signal → Form → Bool
form_fits signals (Sync x y) = true
form_fits signals (Fun y op operands) = target_fits signals (kind_at signals y) (Fun y op operands)
form_fits signals (Delay y x initial) = target_fits signals (kind_at signals y) (Delay y x initial)
form_fits signals (When y x b) = target_fits signals (kind_at signals y) (When y x b)
form_fits signals (WhenConst y constant b) = target_fits signals (kind_at signals y) (WhenConst y constant b)
form_fits signals (Default y u v) = target_fits signals (kind_at signals y) (Default y u v)
form_fits signals (EventOf y x) = target_fits signals (kind_at signals y) (EventOf y x)
