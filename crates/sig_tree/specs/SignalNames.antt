-- Names of signals: those of a flat body, and those of the intermediates that its kernel adds for operators.
use Rattle.std.specs.Prelude.{◌++◌, ◌≤◌}
use Rattle.sig_tree.specs.Prelude.{ℕ, List, length, codes, decimal, ⊤, AllByRecursion, PROGRAM_BYTES, Span}
use Rattle.sig_tree.specs.FlatSyntax.{FlatExpression, Sig, Const, Unary, Binary, Delay, Cell, FlatEquation, Defines, Equal}

-- the bytes of printable ASCII but the blank
abbrev pub IsGraphic : ℕ → Type 0
IsGraphic byte = (33 ≤ byte) × (byte ≤ 126)

-- A name is 1 to 1,048,576 bytes of printable ASCII without blanks.
pub record IsSignalName (name : List ℕ) : Type 0 where
  pub some : 1 ≤ length name
  pub few : length name ≤ PROGRAM_BYTES
  pub graphic : AllByRecursion IsGraphic name

-- the name of an intermediate: the prefix of its copy, and the place of its operator as `#L:C`
abbrev pub placed_name : List ℕ → Span → List ℕ
placed_name prefix at = prefix ++ (codes "#" ++ (decimal at.line ++ (codes ":" ++ decimal at.col)))

-- what holds at the place of each operator of an expression
abbrev pub AtOperators : (Span → Type 0) → FlatExpression → Type 0
AtOperators Holds (Sig number at) = ⊤
AtOperators Holds (Const value kind at) = ⊤
AtOperators Holds (Unary op operand at) = Holds at × AtOperators Holds operand
AtOperators Holds (Binary op left right at) = Holds at × AtOperators Holds left × AtOperators Holds right
AtOperators Holds (Delay operand init at) = Holds at × AtOperators Holds operand
AtOperators Holds (Cell operand held init at) = Holds at × AtOperators Holds operand × AtOperators Holds held

-- the intermediate of each operator of an equation has a name
abbrev pub NamesOperators : FlatEquation → Type 0
NamesOperators (Defines signal e prefix) = AtOperators (λ at. IsSignalName (placed_name prefix at)) e
NamesOperators (Equal operands prefix) = AllByRecursion (AtOperators (λ at. IsSignalName (placed_name prefix at))) operands
