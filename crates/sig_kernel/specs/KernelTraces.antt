-- The traces of a kernel: at each instant every signal is absent or has a value of its kind, and every
-- equation is met. There is one case for each form of an equation. What a function, a delay, `when` and
-- `default` are is the SIGNAL V4 reference manual's.
use Rattle.std.specs.Prelude.{◌≡◌, ◌∷◌, ◌++◌, if◌then◌else◌}
use Rattle.sig_kernel.specs.Prelude.{ℕ, ℤ, pos, List, [], map, None, Some, is_some, ⊤, AllByRecursion, int_eq, Function, Identity, Negative, Not as Negation, And as Conjunction, Or as Disjunction, Xor as Exclusive, Equal, NotEqual, Less, LessEqual, Greater, GreaterEqual, Sum, Difference, Product, Quotient, Remainder, Gives, Seen, Instant, Trace, Range, Bounded, AreOfKinds, seen_at, flow_of}
use Rattle.sig_kernel.specs.declared.equation.FunOp.{FunOp}
use Rattle.sig_kernel.specs.declared.equation.FunOp.TheVariants.{Id, Neg, Not, And, Or, Xor, Eq, Ne, Lt, Le, Gt, Ge, Add, Sub, Mul, Div, Mod}
use Rattle.sig_kernel.specs.declared.equation.Operand.{Operand}
use Rattle.sig_kernel.specs.declared.equation.Operand.TheVariants.{Sig, Const}
use Rattle.sig_kernel.specs.declared.equation.Form.{Form}
use Rattle.sig_kernel.specs.declared.equation.Form.TheVariants.{Fun, Delay, When, WhenConst, Default, Sync, Event}
use Rattle.sig_kernel.specs.declared.kernel.Kernel.{Kernel}

-- the function of values that an operator stands for
abbrev pub function_of : FunOp → Function
function_of Id = Identity
function_of Neg = Negative
function_of Not = Negation
function_of And = Conjunction
function_of Or = Disjunction
function_of Xor = Exclusive
function_of Eq = Equal
function_of Ne = NotEqual
function_of Lt = Less
function_of Le = LessEqual
function_of Gt = Greater
function_of Ge = GreaterEqual
function_of Add = Sum
function_of Sub = Difference
function_of Mul = Product
function_of Div = Quotient
function_of Mod = Remainder

-- each signal among the operands is absent
abbrev pub AreAbsent : Instant → List Operand → Type 0
AreAbsent instant [] = ⊤
AreAbsent instant (Sig x ∷ operands) = (seen_at instant x.0 ≡ None) × AreAbsent instant operands
AreAbsent instant (Const constant ∷ operands) = AreAbsent instant operands

-- each signal among the operands is present, and these are the operands' values
abbrev pub HaveValues : Instant → List Operand → List ℤ → Type 0
HaveValues instant [] [] = ⊤
HaveValues instant (Sig x ∷ operands) (v ∷ values) = (seen_at instant x.0 ≡ Some v) × HaveValues instant operands values
HaveValues instant (Const constant ∷ operands) (v ∷ values) = (constant ≡ v) × HaveValues instant operands values
HaveValues instant operands values = ⊥

-- what a function of these operands is: absent where they are all absent, and its value where they are all present
abbrev pub IsFunction : Range → Function → Instant → List Operand → Seen → Type 0
IsFunction range function instant operands None = AreAbsent instant operands
IsFunction range function instant operands (Some v) = (values : List ℤ) × HaveValues instant operands values × Gives range function values v

-- a value where a signal is present
abbrev pub where_present : Seen → ℤ → Seen
where_present None v = None
where_present (Some w) v = Some v

-- what a signal is, where another one is present and true
abbrev pub where_true : Seen → Seen → Seen
where_true None x = None
where_true (Some b) x = if int_eq b (pos 1) then x else None

-- what a signal is, and where it is absent, what another one is
abbrev pub or_else : Seen → Seen → Seen
or_else None v = v
or_else (Some u) v = Some u

-- What each delay remembers: by the signal that it defines, the signal that it delays and its initial value. It is
-- the delayed signal's value at its latest earlier presence, or the initial value where there is none.
abbrev pub Memory : Type 0
Memory = ℕ → ℕ → ℤ → ℤ

-- the last of some values, and before the first of them an initial one
abbrev pub last_of : ℤ → List ℤ → ℤ
last_of initial [] = initial
last_of initial (v ∷ values) = last_of v values

-- what earlier instants leave to be remembered
abbrev pub remembered : Trace → Memory
remembered past signal delayed initial = last_of initial (flow_of delayed past)

-- an instant meets an equation of this form
abbrev pub Meets : Range → Memory → Instant → Form → Type 0
Meets range memory instant (Fun y op operands) = IsFunction range (function_of op) instant operands (seen_at instant y.0)
Meets range memory instant (Delay y x initial) = seen_at instant y.0 ≡ where_present (seen_at instant x.0) (memory y.0 x.0 initial)
Meets range memory instant (When y x b) = seen_at instant y.0 ≡ where_true (seen_at instant b.0) (seen_at instant x.0)
Meets range memory instant (WhenConst y constant b) = seen_at instant y.0 ≡ where_true (seen_at instant b.0) (Some constant)
Meets range memory instant (Default y u v) = seen_at instant y.0 ≡ or_else (seen_at instant u.0) (seen_at instant v.0)
Meets range memory instant (Sync x y) = is_some (seen_at instant x.0) ≡ is_some (seen_at instant y.0)
Meets range memory instant (Event y x) = seen_at instant y.0 ≡ where_present (seen_at instant x.0) (pos 1)

-- an instant of a kernel, with what its delays remember
pub record IsReaction (range : Range) (kernel : Kernel) (memory : Memory) (instant : Instant) : Type 0 where
  pub kinds : AreOfKinds range (map (λ signal. signal.kind) kernel.signals) instant
  pub equations : AllByRecursion (λ equation. Meets range memory instant equation.form) kernel.equations

-- A trace of a kernel, whose integers are those of a range: each instant is one of the kernel, with what the
-- instants before it leave to be remembered.
abbrev pub IsTraceIn : Range → Kernel → Trace → Type 0
IsTraceIn range kernel trace = (past : Trace) (instant : Instant) (future : Trace) → trace ≡ past ++ instant ∷ future
    → IsReaction range kernel (remembered past) instant

-- the traces of a kernel: its integers are those of 64 bits, and nothing is divided by 0
abbrev pub IsKernelTrace : Kernel → Trace → Type 0
IsKernelTrace kernel trace = IsTraceIn Bounded kernel trace
