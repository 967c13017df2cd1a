-- Where constants may stand in an expression of a flat body: as one of the two operands of a function, or
-- before `when`.
use Rattle.std.specs.Prelude.{◌≡◌, ◌⊎◌}
use Rattle.sig_tree.specs.Prelude.{Bool, true, false, ⊤, AllByRecursion}
use Rattle.sig_tree.specs.declared.expr.BinOp.{BinOp}
use Rattle.sig_tree.specs.declared.expr.BinOp.TheVariants.{Default, When, Plus, Meet, Less, Or, Xor, And, Eq, Ne, Lt, Le, Gt, Ge, Add, Sub, Mul, Div, Mod}
use Rattle.sig_tree.specs.FlatSyntax.{FlatExpression, Sig, Const, Unary, Binary, Delay, Cell, FlatEquation, Defines, Equal}

-- whether an operator is a function of two operands
abbrev pub is_function : BinOp → Bool
is_function Default = false
is_function When = false
is_function Plus = false
is_function Meet = false
is_function Less = false
is_function Or = true
is_function Xor = true
is_function And = true
is_function Eq = true
is_function Ne = true
is_function Lt = true
is_function Le = true
is_function Gt = true
is_function Ge = true
is_function Add = true
is_function Sub = true
is_function Mul = true
is_function Div = true
is_function Mod = true

abbrev pub is_constant : FlatExpression → Bool
is_constant (Sig signal at) = false
is_constant (Const value kind at) = true
is_constant (Unary op operand at) = false
is_constant (Binary op left right at) = false
is_constant (Delay operand init at) = false
is_constant (Cell operand truth init at) = false

-- an expression that is a signal's, and so are those that stand in it where no constant may
abbrev pub IsSignals : FlatExpression → Type 0
IsSignals (Sig signal at) = ⊤
IsSignals (Const value kind at) = ⊥
IsSignals (Unary op operand at) = IsSignals operand
IsSignals (Binary op left right at) =
    (IsSignals left × IsSignals right)
    ⊎ ((is_constant left ≡ true) × ((is_function op ≡ true) ⊎ (op ≡ When)) × IsSignals right)
    ⊎ ((is_constant right ≡ true) × (is_function op ≡ true) × IsSignals left)
IsSignals (Delay operand init at) = IsSignals operand
IsSignals (Cell operand truth init at) = IsSignals operand × IsSignals truth

-- the expressions of an equation are signals'
abbrev pub AreSignals : FlatEquation → Type 0
AreSignals (Defines signal e prefix) = IsSignals e
AreSignals (Equal operands prefix) = AllByRecursion IsSignals operands
