-- The places of a flat body: those of its signals, and those of the names, constants and operators of its equations.
use Rattle.std.specs.Prelude.{◌+◌, ◌≤◌}
use Rattle.sig_call.specs.Prelude.{ℕ, AllByRecursion, Span, FlatBody, FlatEquation}
use Rattle.sig_tree.specs.FlatSyntax.{FlatExpression, Sig, Const, Unary, Binary, Delay, Cell, Defines, Equal}

-- a place in a text of so many bytes: its line and its column are at most one more
pub record IsWithin (size : ℕ) (at : Span) : Type 0 where
  pub line : at.line ≤ size + 1
  pub col : at.col ≤ size + 1

-- what holds at the place of each name, constant and operator of an expression
abbrev pub AtPlaces : (Span → Type 0) → FlatExpression → Type 0
AtPlaces Holds (Sig number at) = Holds at
AtPlaces Holds (Const value kind at) = Holds at
AtPlaces Holds (Unary op operand at) = Holds at × AtPlaces Holds operand
AtPlaces Holds (Binary op left right at) = Holds at × AtPlaces Holds left × AtPlaces Holds right
AtPlaces Holds (Delay operand init at) = Holds at × AtPlaces Holds operand
AtPlaces Holds (Cell operand held init at) = Holds at × AtPlaces Holds operand × AtPlaces Holds held

abbrev pub AtPlacesOfEquation : (Span → Type 0) → FlatEquation → Type 0
AtPlacesOfEquation Holds (Defines signal e prefix) = AtPlaces Holds e
AtPlacesOfEquation Holds (Equal operands prefix) = AllByRecursion (AtPlaces Holds) operands

-- it holds at the places of a flat body
pub record AtPlacesOfBody (Holds : Span → Type 0) (flat : FlatBody) : Type 0 where
  pub signals : AllByRecursion (λ signal. Holds signal.at) flat.signals
  pub equations : AllByRecursion (AtPlacesOfEquation Holds) flat.equations
