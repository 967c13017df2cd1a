-- Expressions and equations read one instant at a time: what they are at an instant, and the expression or
-- equation that means behind it what they would mean there. Only the inits of delays and cells change.
use Rattle.std.specs.Prelude.{◌≡◌, ◌⊎◌, ◌+◌, ◌++◌, ◌∷◌}
use Rattle.sig_tree.specs.Prelude.{ℕ, ℤ, List, [], length, None, Some, AllZip, Seen, Instant, Trace, seen_at}
use Rattle.sig_tree.specs.FlatSyntax.{FlatExpression, Sig, Const, Unary, Binary, Delay, Cell, FlatEquation, Defines, Equal}
use Rattle.sig_tree.specs.Operators.{Operand, Signal, Constant, Changes, Combines, delayed, held}
use Rattle.sig_tree.specs.ProcessTraces.{HoldsAt}

-- the value that is kept behind an instant: the one of this instant, or where there is none the one kept before
abbrev pub kept : ℤ → Seen → ℤ
kept previous None = previous
kept previous (Some v) = v

-- an expression is this at an instant, and is this expression behind it
abbrev pub Steps : FlatExpression → Instant → Operand → FlatExpression → Type 0
Steps (Sig signal at) = λ now o next. (o ≡ Signal (seen_at now signal)) × (next ≡ Sig signal at)
Steps (Const value kind at) = λ now o next. (o ≡ Constant value) × (next ≡ Const value kind at)
Steps (Unary op operand at) = λ now o next. (x : Operand) × (rest : FlatExpression) × Steps operand now x rest
    × (v : Seen) × Changes op x v × (o ≡ Signal v) × (next ≡ Unary op rest at)
Steps (Binary op left right at) = λ now o next. (x y : Operand) × (rest others : FlatExpression)
    × Steps left now x rest × Steps right now y others
    × (v : Seen) × Combines op x y v × (o ≡ Signal v) × (next ≡ Binary op rest others at)
Steps (Delay operand init at) = λ now o next. (x : Seen) × (rest : FlatExpression) × Steps operand now (Signal x) rest
    × (o ≡ Signal (delayed init x)) × (next ≡ Delay rest (kept init x) at)
Steps (Cell operand truth init at) = λ now o next. (x b : Seen) × (rest others : FlatExpression)
    × Steps operand now (Signal x) rest × Steps truth now (Signal b) others
    × (o ≡ Signal (held init x b)) × (next ≡ Cell rest others (kept init (held init x b)) at)

-- an equation holds at an instant, and is this equation behind it
abbrev pub EquationSteps : Instant → FlatEquation → FlatEquation → Type 0
EquationSteps now (Defines signal e prefix) next = (rest : FlatExpression)
    × Steps e now (Signal (seen_at now signal)) rest × (next ≡ Defines signal rest prefix)
EquationSteps now (Equal operands prefix) next = (rests : List FlatExpression)
    × (AllZip (λ e rest. Steps e now (Signal None) rest) operands rests
    ⊎ AllZip (λ e rest. (v : ℤ) × Steps e now (Signal (Some v)) rest) operands rests)
    × (next ≡ Equal rests prefix)

-- so do all equations of a list
abbrev pub BodySteps : Instant → List FlatEquation → List FlatEquation → Type 0
BodySteps now equations nexts = AllZip (EquationSteps now) equations nexts

-- a list of equations holds at each instant of a trace, and is this list behind them
abbrev pub Leads : List FlatEquation → Trace → List FlatEquation → Type 0
Leads equations [] nexts = nexts ≡ equations
Leads equations (now ∷ trace) nexts = (behind : List FlatEquation) × BodySteps now equations behind × Leads behind trace nexts

-- an equation holds over a trace and what follows it, from the end of the trace on, where another one holds
-- over what follows
abbrev pub HoldsBehind : Trace → Trace → FlatEquation → FlatEquation → Type 0
HoldsBehind front rest equation next = (i : ℕ)
    → (HoldsAt (front ++ rest) (length front + i) equation → HoldsAt rest i next)
    × (HoldsAt rest i next → HoldsAt (front ++ rest) (length front + i) equation)
