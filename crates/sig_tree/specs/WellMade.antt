-- What the flat body of a well-formed program is: its expressions have kinds by the table of kinds, constants
-- stand only where they may, and each signal that is no input is defined once.
use Rattle.std.specs.Prelude.{◌≡◌, ◌+◌, ◌<◌, ◌≤◌, ◌&&◌, ◌==◌}
use Rattle.sig_tree.specs.Prelude.{ℕ, ℤ, Bool, true, false, List, length, count_by, Option, Some, option_map, slice_get, AllByRecursion, Kind, Signal, Bounded, IsValue}
use Rattle.sig_tree.specs.FlatSyntax.{FlatExpression, Sig, Const, Unary, Binary, Delay, Cell, FlatEquation, Defines, Equal, FlatBody}
use Rattle.sig_tree.specs.Kinds.{ConstantRule, NoConstant, OneConstant, FirstConstant, unary_row, binary_row, delay_row, cell_row, unary_kind, binary_kind, stored, Takes}

-- the kind of the signal of a number
abbrev pub kind_numbered : List Signal → ℕ → Option Kind
kind_numbered signals number = option_map (λ signal. signal.kind) (slice_get signals number)

-- the kind of an expression, where it has one: each form's row accepts the kinds of its operands
abbrev pub flat_kind : List Signal → FlatExpression → Option Kind
flat_kind signals (Sig number at) = kind_numbered signals number
flat_kind signals (Const value kind at) = Some kind
flat_kind signals (Unary op operand at) = unary_kind (unary_row op) (flat_kind signals operand)
flat_kind signals (Binary op first second at) = binary_kind (binary_row op) (flat_kind signals first) (flat_kind signals second)
flat_kind signals (Delay operand init at) = unary_kind delay_row (flat_kind signals operand)
flat_kind signals (Cell operand held init at) = binary_kind cell_row (flat_kind signals operand) (flat_kind signals held)

abbrev pub is_constant : FlatExpression → Bool
is_constant (Sig number at) = false
is_constant (Const value kind at) = true
is_constant (Unary op operand at) = false
is_constant (Binary op first second at) = false
is_constant (Delay operand init at) = false
is_constant (Cell operand held init at) = false

-- a form's rule allows constants where they are, as its first operand and as its second
abbrev pub Allows : ConstantRule → Bool → Bool → Type 0
Allows NoConstant first second = (first ≡ false) × (second ≡ false)
Allows OneConstant first second = (first && second) ≡ false
Allows FirstConstant first second = second ≡ false

-- what is kept of an operand may begin with this value
abbrev pub MayBegin : List Signal → FlatExpression → ℤ → Type 0
MayBegin signals operand init = (kind : Kind) × (flat_kind signals operand ≡ Some kind) × IsValue Bounded (stored kind) init

-- an expression over some signals: its constants are values of their kinds, and stand only where they may
abbrev pub IsMade : List Signal → FlatExpression → Type 0
IsMade signals (Sig number at) = number < length signals
IsMade signals (Const value kind at) = IsValue Bounded kind value
IsMade signals (Unary op operand at) = (is_constant operand ≡ false) × IsMade signals operand
IsMade signals (Binary op first second at) =
    Allows (binary_row op).constants (is_constant first) (is_constant second) × IsMade signals first × IsMade signals second
IsMade signals (Delay operand init at) = (is_constant operand ≡ false) × IsMade signals operand × MayBegin signals operand init
IsMade signals (Cell operand held init at) =
    (is_constant operand ≡ false) × (is_constant held ≡ false) × IsMade signals operand × IsMade signals held × MayBegin signals operand init

-- a whole expression: it is no constant, and has this kind
pub record IsWhole (signals : List Signal) (e : FlatExpression) (kind : Kind) : Type 0 where
  pub made : IsMade signals e
  pub signal : is_constant e ≡ false
  pub kinded : flat_kind signals e ≡ Some kind

-- a definition takes what is of its signal's kind, or an event for a boolean
abbrev pub IsMadeEquation : List Signal → FlatEquation → Type 0
IsMadeEquation signals (Defines left e prefix) =
    (wanted given : Kind) × (kind_numbered signals left ≡ Some wanted) × IsWhole signals e given × Takes wanted given
IsMadeEquation signals (Equal operands prefix) = AllByRecursion (λ e. (kind : Kind) × IsWhole signals e kind) operands

-- the equation defines the signal of this number
abbrev pub defines : ℕ → FlatEquation → Bool
defines signal (Defines left e prefix) = left == signal
defines signal (Equal operands prefix) = false

-- A flat body is well made.
pub record IsWellMade (flat : FlatBody) : Type 0 where
  pub interface : flat.inputs + flat.outputs ≤ length flat.signals
  pub equations : AllByRecursion (IsMadeEquation flat.signals) flat.equations
  pub inputs : (signal : ℕ) → signal < flat.inputs → count_by (defines signal) flat.equations ≡ 0
  pub others : (signal : ℕ) → flat.inputs ≤ signal → signal < length flat.signals → count_by (defines signal) flat.equations ≡ 1
