-- What the operators of expressions say of one instant. Each row tells where the result is present and
-- with what value, by what the operands are there (SIGNAL V4 reference manual for functions, `when` and
-- `default`; the operators on clocks are this project's own).
use Rattle.std.specs.Prelude.{◌≡◌, ◌∷◌, if◌then◌else◌}
use Rattle.sig_tree.specs.Prelude.{ℤ, pos, Bool, false, List, [], None, Some, FitsSigned, w64, int_eq, Seen, Bounded, Function, Negative, Not as FunctionNot, And as FunctionAnd, Or as FunctionOr, Xor as FunctionXor, Equal, NotEqual, Less as FunctionLess, LessEqual, Greater, GreaterEqual, Sum, Difference, Product, Quotient, Remainder, Gives}
use Rattle.sig_tree.specs.declared.expr.UnOp.{UnOp}
use Rattle.sig_tree.specs.declared.expr.UnOp.TheVariants.{Not, Neg, When as UnaryWhen, Clock}
use Rattle.sig_tree.specs.declared.expr.BinOp.{BinOp}
use Rattle.sig_tree.specs.declared.expr.BinOp.TheVariants.{Default, When, Plus, Meet, Less, Or, Xor, And, Eq, Ne, Lt, Le, Gt, Ge, Add, Sub, Mul, Div, Mod}

-- what an operand is at an instant: what a signal is, or a constant, which is at hand wherever it is wanted
pub data Operand : Type 0 where
  Signal : Seen → Operand
  Constant : ℤ → Operand

-- present, and true
abbrev pub is_true : Seen → Bool
is_true None = false
is_true (Some v) = int_eq v (pos 1)

-- X when B, and c when B
abbrev pub sampled : Seen → Seen → Seen
sampled x b = if is_true b then x else None

-- U default V
abbrev pub merged : Seen → Seen → Seen
merged None v = v
merged (Some u) v = Some u

-- ^X
abbrev pub clock_of : Seen → Seen
clock_of None = None
clock_of (Some x) = Some (pos 1)

-- U ^+ V
abbrev pub either_of : Seen → Seen → Seen
either_of u v = merged (clock_of u) (clock_of v)

-- U ^* V
abbrev pub both_of : Seen → Seen → Seen
both_of None v = None
both_of (Some u) v = clock_of v

-- U ^- V
abbrev pub without : Seen → Seen → Seen
without u None = clock_of u
without u (Some v) = None

-- X $ 1, where this value is the one that X had before
abbrev pub delayed : ℤ → Seen → Seen
delayed previous None = None
delayed previous (Some x) = Some previous

-- X cell B, where this value is the one that the whole had before
abbrev pub held : ℤ → Seen → Seen → Seen
held previous (Some x) b = Some x
held previous None b = sampled (Some previous) b

-- a function's value at these operands, within 64 bits
abbrev pub Yields : Function → List ℤ → Seen → Type 0
Yields function operands v = (value : ℤ) × (v ≡ Some value) × Gives Bounded function operands value × FitsSigned w64 value

-- A function of one operand, and one of two: present where its signal operands are, all together.
abbrev pub AppliesToOne : Function → Operand → Seen → Type 0
AppliesToOne function (Signal None) v = v ≡ None
AppliesToOne function (Signal (Some x)) v = Yields function (x ∷ []) v
AppliesToOne function (Constant c) v = ⊥

abbrev pub AppliesToBoth : Function → Operand → Operand → Seen → Type 0
AppliesToBoth function (Signal None) (Signal None) v = v ≡ None
AppliesToBoth function (Signal None) (Signal (Some y)) v = ⊥
AppliesToBoth function (Signal None) (Constant d) v = v ≡ None
AppliesToBoth function (Signal (Some x)) (Signal None) v = ⊥
AppliesToBoth function (Signal (Some x)) (Signal (Some y)) v = Yields function (x ∷ y ∷ []) v
AppliesToBoth function (Signal (Some x)) (Constant d) v = Yields function (x ∷ d ∷ []) v
AppliesToBoth function (Constant c) (Signal None) v = v ≡ None
AppliesToBoth function (Constant c) (Signal (Some y)) v = Yields function (c ∷ y ∷ []) v
AppliesToBoth function (Constant c) (Constant d) v = ⊥

-- an operator whose operands are signals' expressions, and which is a function of what they are
abbrev pub OfOne : (Seen → Seen) → Operand → Seen → Type 0
OfOne f (Signal x) v = v ≡ f x
OfOne f (Constant c) v = ⊥

abbrev pub OfBoth : (Seen → Seen → Seen) → Operand → Operand → Seen → Type 0
OfBoth f (Signal x) (Signal y) v = v ≡ f x y
OfBoth f (Signal x) (Constant d) v = ⊥
OfBoth f (Constant c) y v = ⊥

-- `when`, whose first operand may be a constant
abbrev pub Samples : Operand → Operand → Seen → Type 0
Samples (Signal x) (Signal b) v = v ≡ sampled x b
Samples (Constant c) (Signal b) v = v ≡ sampled (Some c) b
Samples x (Constant d) v = ⊥

-- what an operator makes of its operand
abbrev pub Changes : UnOp → Operand → Seen → Type 0
Changes Not = AppliesToOne FunctionNot
Changes Neg = AppliesToOne Negative
Changes UnaryWhen = OfOne (sampled (Some (pos 1)))
Changes Clock = OfOne clock_of

-- what an operator makes of its operands
abbrev pub Combines : BinOp → Operand → Operand → Seen → Type 0
Combines Default = OfBoth merged
Combines When = Samples
Combines Plus = OfBoth either_of
Combines Meet = OfBoth both_of
Combines Less = OfBoth without
Combines Or = AppliesToBoth FunctionOr
Combines Xor = AppliesToBoth FunctionXor
Combines And = AppliesToBoth FunctionAnd
Combines Eq = AppliesToBoth Equal
Combines Ne = AppliesToBoth NotEqual
Combines Lt = AppliesToBoth FunctionLess
Combines Le = AppliesToBoth LessEqual
Combines Gt = AppliesToBoth Greater
Combines Ge = AppliesToBoth GreaterEqual
Combines Add = AppliesToBoth Sum
Combines Sub = AppliesToBoth Difference
Combines Mul = AppliesToBoth Product
Combines Div = AppliesToBoth Quotient
Combines Mod = AppliesToBoth Remainder
