-- What the flat body of a well-formed program is.
use Rattle.std.specs.Prelude.{◌<◌, ◌⊎◌}
use Rattle.sig_flat.specs.Prelude.{ℕ, length, ⊤, AllByRecursion, FlatExpression, Unary, Binary, Cell, FlatEquation, Defines, Equal, FlatBody}
use Rattle.sig_tree.specs.FlatSyntax.{Sig, Const, Delay}

-- an expression names signals whose numbers are below the count
abbrev pub NamesBelow : ℕ → FlatExpression → Type 0
NamesBelow count (Sig number at) = number < count
NamesBelow count (Const value kind at) = ⊤
NamesBelow count (Unary op operand at) = NamesBelow count operand
NamesBelow count (Binary op first second at) = NamesBelow count first × NamesBelow count second
NamesBelow count (Delay operand init at) = NamesBelow count operand
NamesBelow count (Cell operand held init at) = NamesBelow count operand × NamesBelow count held

abbrev pub IsBelow : ℕ → FlatEquation → Type 0
IsBelow count (Defines left e prefix) = (left < count) × NamesBelow count e
IsBelow count (Equal operands prefix) = AllByRecursion (NamesBelow count) operands

-- there is a signal, and equations name signals that are there
pub record NamesItsSignals (flat : FlatBody) : Type 0 where
  pub some : 0 < length flat.signals
  pub equations : AllByRecursion (IsBelow (length flat.signals)) flat.equations

-- no constant
abbrev pub IsSignal : FlatExpression → Type 0
IsSignal (Const value kind at) = ⊥
IsSignal _ = ⊤

-- each operator has an operand that is no constant
abbrev pub Speaks : FlatExpression → Type 0
Speaks (Sig number at) = ⊤
Speaks (Const value kind at) = ⊤
Speaks (Unary op operand at) = IsSignal operand × Speaks operand
Speaks (Binary op first second at) = (IsSignal first ⊎ IsSignal second) × Speaks first × Speaks second
Speaks (Delay operand init at) = Speaks operand
Speaks (Cell operand held init at) = Speaks operand × Speaks held

abbrev pub EquationSpeaks : FlatEquation → Type 0
EquationSpeaks (Defines left e prefix) = Speaks e
EquationSpeaks (Equal operands prefix) = AllByRecursion Speaks operands
