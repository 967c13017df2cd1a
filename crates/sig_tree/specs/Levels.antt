-- The levels of expressions, from the loosest to the tightest. They are the nonterminals of
--
--   default_level  = mixed_level | default_level "default" mixed_level
--   mixed_level    = clock_level | "when" clock_level | mixed_level "when" clock_level
--                  | mixed_level "cell" primary_level "init" constant
--   clock_level    = or_level | clock_level ( "^+" | "^*" | "^-" ) or_level
--   or_level       = and_level | or_level ( "or" | "xor" ) and_level
--   and_level      = not_level | and_level "and" not_level
--   not_level      = relation_level | "not" not_level
--   relation_level = sum_level | sum_level ( "=" | "/=" | "<" | "<=" | ">" | ">=" ) sum_level
--   sum_level      = product_level | sum_level ( "+" | "-" ) product_level
--   product_level  = minus_level | product_level ( "*" | "/" | "modulo" ) minus_level
--   minus_level    = delay_level | "-" minus_level
--   delay_level    = primary_level | delay_level "$" [ "1" ] [ "init" constant ]
--   primary_level  = NAME | NUMBER | "true" | "false" | "(" default_level ")" | "^" primary_level
--
-- which say the same as, in this order, the nonterminals expr, mixed with first, clocks, disj, conj,
-- neg, rel, sum, prod, minus, post and prim of the grammar in docs/language.md.
-- An expression stands at the level of its outermost operator, and at every looser one.
use Rattle.std.specs.Prelude.{ℕ}
use Rattle.sig_tree.specs.declared.expr.UnOp.{UnOp}
use Rattle.sig_tree.specs.declared.expr.UnOp.TheVariants.{Not, Neg, When as UnaryWhen, Clock}
use Rattle.sig_tree.specs.declared.expr.BinOp.{BinOp}
use Rattle.sig_tree.specs.declared.expr.BinOp.TheVariants.{Default, When, Plus, Meet, Less, Or, Xor, And, Eq, Ne, Lt, Le, Gt, Ge, Add, Sub, Mul, Div, Mod}
use Rattle.sig_tree.specs.Syntax.{Expression, Named, Number, Truth, Unary, Binary, Delay, Cell}

abbrev pub default_level : ℕ
default_level = 0

abbrev pub mixed_level : ℕ
mixed_level = 1

abbrev pub clock_level : ℕ
clock_level = 2

abbrev pub or_level : ℕ
or_level = 3

abbrev pub and_level : ℕ
and_level = 4

abbrev pub not_level : ℕ
not_level = 5

abbrev pub relation_level : ℕ
relation_level = 6

abbrev pub sum_level : ℕ
sum_level = 7

abbrev pub product_level : ℕ
product_level = 8

abbrev pub minus_level : ℕ
minus_level = 9

abbrev pub delay_level : ℕ
delay_level = 10

abbrev pub primary_level : ℕ
primary_level = 11

-- the level of an operator with one operand, and that of its operand
abbrev pub unary_level : UnOp → ℕ
unary_level UnaryWhen = mixed_level
unary_level Not = not_level
unary_level Neg = minus_level
unary_level Clock = primary_level

abbrev pub operand_level : UnOp → ℕ
operand_level UnaryWhen = clock_level
operand_level Not = not_level
operand_level Neg = minus_level
operand_level Clock = primary_level

-- the level of an operator with two operands
abbrev pub binary_level : BinOp → ℕ
binary_level Default = default_level
binary_level When = mixed_level
binary_level Plus = clock_level
binary_level Meet = clock_level
binary_level Less = clock_level
binary_level Or = or_level
binary_level Xor = or_level
binary_level And = and_level
binary_level Eq = relation_level
binary_level Ne = relation_level
binary_level Lt = relation_level
binary_level Le = relation_level
binary_level Gt = relation_level
binary_level Ge = relation_level
binary_level Add = sum_level
binary_level Sub = sum_level
binary_level Mul = product_level
binary_level Div = product_level
binary_level Mod = product_level

-- the level of its left operand: its own, since operators associate to the left, but a tighter one for
-- relations, which do not associate
abbrev pub left_level : BinOp → ℕ
left_level Eq = sum_level
left_level Ne = sum_level
left_level Lt = sum_level
left_level Le = sum_level
left_level Gt = sum_level
left_level Ge = sum_level
left_level op = binary_level op

-- the level of its right operand
abbrev pub right_level : BinOp → ℕ
right_level Default = mixed_level
right_level When = clock_level
right_level Plus = or_level
right_level Meet = or_level
right_level Less = or_level
right_level Or = and_level
right_level Xor = and_level
right_level And = not_level
right_level Eq = sum_level
right_level Ne = sum_level
right_level Lt = sum_level
right_level Le = sum_level
right_level Gt = sum_level
right_level Ge = sum_level
right_level Add = product_level
right_level Sub = product_level
right_level Mul = minus_level
right_level Div = minus_level
right_level Mod = minus_level

-- the level at which an expression stands
abbrev pub level_of : Expression → ℕ
level_of (Named name) = primary_level
level_of (Number value at) = primary_level
level_of (Truth truth at) = primary_level
level_of (Unary op operand at) = unary_level op
level_of (Binary op left right at) = binary_level op
level_of (Delay operand init at) = delay_level
level_of (Cell operand held init at) = mixed_level
