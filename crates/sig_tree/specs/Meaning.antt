-- What an expression means: at an instant of a trace it is absent or has a value, or it has no meaning
-- there. Where an operand has none, the expression has none.
use Rattle.std.specs.Prelude.{◌≡◌, ◌⊎◌, ◌<◌, ◌≤◌}
use Rattle.sig_tree.specs.Prelude.{ℕ, ℤ, slice_index_or, [], None, Some, Seen, Instant, Trace, seen_at}
use Rattle.sig_tree.specs.FlatSyntax.{FlatExpression, Sig, Const, Unary, Binary, Delay, Cell}
use Rattle.sig_tree.specs.Operators.{Operand, Signal, Constant, Changes, Combines, delayed, held}

-- an instant of a trace, by its number from 0
abbrev pub instant_at : Trace → ℕ → Instant
instant_at trace i = slice_index_or trace i []

-- the value at the latest instant before one at which there is a value, or the init where there is none
abbrev pub IsPrevious : (ℕ → Operand → Type 0) → ℤ → ℕ → ℤ → Type 0
IsPrevious IsAt init i v =
    (((k : ℕ) → k < i → IsAt k (Signal None)) × (v ≡ init))
    ⊎ ((j : ℕ) × (j < i) × IsAt j (Signal (Some v)) × ((k : ℕ) → j < k → k < i → IsAt k (Signal None)))

-- X $ 1 init c: X's value at its previous presence
abbrev pub IsDelayed : (ℕ → Operand → Type 0) → ℤ → ℕ → Seen → Type 0
IsDelayed IsAt init i v = (x : Seen) × IsAt i (Signal x) × (previous : ℤ) × IsPrevious IsAt init i previous × (v ≡ delayed previous x)

-- X cell B init c at an instant, where the whole expression is this at each instant
abbrev pub IsHeld : (ℕ → Operand → Type 0) → (ℕ → Operand → Type 0) → ℤ → (ℕ → Seen) → ℕ → Type 0
IsHeld IsAt IsHeldAt init whole i = (x b : Seen) × IsAt i (Signal x) × IsHeldAt i (Signal b)
    × (previous : ℤ) × IsPrevious (λ k o. o ≡ Signal (whole k)) init i previous × (whole i ≡ held previous x b)

-- X cell B init c: what the whole expression is, from the first instant to this one
abbrev pub IsCell : (ℕ → Operand → Type 0) → (ℕ → Operand → Type 0) → ℤ → ℕ → Seen → Type 0
IsCell IsAt IsHeldAt init i v = (whole : ℕ → Seen) × ((k : ℕ) → k ≤ i → IsHeld IsAt IsHeldAt init whole k) × (v ≡ whole i)

-- what an expression is as an operand, at an instant of a trace
abbrev pub IsOperand : Trace → FlatExpression → ℕ → Operand → Type 0
IsOperand trace (Sig signal at) = λ i o. o ≡ Signal (seen_at (instant_at trace i) signal)
IsOperand trace (Const value kind at) = λ i o. o ≡ Constant value
IsOperand trace (Unary op operand at) = λ i o.
    (x : Operand) × IsOperand trace operand i x × (v : Seen) × Changes op x v × (o ≡ Signal v)
IsOperand trace (Binary op left right at) = λ i o.
    (x y : Operand) × IsOperand trace left i x × IsOperand trace right i y × (v : Seen) × Combines op x y v × (o ≡ Signal v)
IsOperand trace (Delay operand init at) = λ i o. (v : Seen) × IsDelayed (IsOperand trace operand) init i v × (o ≡ Signal v)
IsOperand trace (Cell operand held init at) = λ i o.
    (v : Seen) × IsCell (IsOperand trace operand) (IsOperand trace held) init i v × (o ≡ Signal v)

-- an expression means this at an instant of a trace
abbrev pub Means : FlatExpression → Trace → ℕ → Seen → Type 0
Means e trace i v = IsOperand trace e i (Signal v)
