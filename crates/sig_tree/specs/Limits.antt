-- The limits of nesting and of operators.
use Rattle.std.specs.Prelude.{◌≡◌, ◌+◌, ◌<◌, ◌≤◌}
use Rattle.sig_tree.specs.Prelude.{ℕ, Bool, true, false, sum_by, NESTING, OPERATORS}
use Rattle.sig_tree.specs.Syntax.{Expression, Named, Number, Truth, Unary, Binary, Delay, Cell, RightSide, Computed, Called}

-- which of the two limits are kept
pub record Limits : Type 0 where
  pub nesting : Bool
  pub operators : Bool

-- both are kept
abbrev pub both_limits : Limits
both_limits = record { nesting = true; operators = true }

-- the nesting alone is kept
abbrev pub nesting_limit : Limits
nesting_limit = record { nesting = true; operators = false }

-- none is kept
abbrev pub no_limits : Limits
no_limits = record { nesting = false; operators = false }

-- A construct may stand inside so many others: fewer than `NESTING`, where the limit is kept. The constructs
-- that count are `(` in expressions and on left sides, `(|`, nested processes and prefix operators.
abbrev pub MayStandInside : Limits → ℕ → Type 0
MayStandInside limits depth = limits.nesting ≡ true → depth < NESTING

-- an equation may have so many operators: at most `OPERATORS`, where the limit is kept
abbrev pub MayHave : Limits → ℕ → Type 0
MayHave limits count = limits.operators ≡ true → count ≤ OPERATORS

-- the operators of an expression
abbrev pub operators : Expression → ℕ
operators (Named name) = 0
operators (Number value at) = 0
operators (Truth truth at) = 0
operators (Unary op operand at) = 1 + operators operand
operators (Binary op left right at) = 1 + (operators left + operators right)
operators (Delay operand init at) = 1 + operators operand
operators (Cell operand held init at) = 1 + (operators operand + operators held)

-- those of a right side
abbrev pub right_operators : RightSide → ℕ
right_operators (Computed e) = operators e
right_operators (Called name constants arguments) = sum_by operators arguments
