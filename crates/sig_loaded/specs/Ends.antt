-- What ends a run, as its line on standard error and its status say it.
use Rattle.std.specs.Prelude.{◌<◌, ◌∷◌}
use Rattle.sig_loaded.specs.Prelude.{⊤, ℕ, List, [], length, map, flat_map, codes, slice_index_or, decimal, EqId, SigId, Kernel, Cause, Exhausted, Overflow, ZeroDivisor, Limit, Ended}

-- a cause names a signal or an equation of the kernel
abbrev pub IsOfKernel : Kernel → Cause → Type 0
IsOfKernel kernel (Exhausted x) = x.0 < length kernel.signals
IsOfKernel kernel (Overflow e) = e.0 < length kernel.equations
IsOfKernel kernel (ZeroDivisor e) = e.0 < length kernel.equations
IsOfKernel kernel Limit = ⊤

-- the status of a run with this cause: 3 where an equation ends it
abbrev pub end_status : Cause → ℕ
end_status (Exhausted x) = 0
end_status (Overflow e) = 3
end_status (ZeroDivisor e) = 3
end_status Limit = 0

-- the name of a signal
abbrev pub name_at : Kernel → SigId → List ℕ
name_at kernel x = slice_index_or (map (λ signal. signal.name) kernel.signals) x.0 []

-- the line and the column of an equation
abbrev pub line_at : Kernel → EqId → ℕ
line_at kernel e = slice_index_or (map (λ equation. equation.at.line) kernel.equations) e.0 0

abbrev pub col_at : Kernel → EqId → ℕ
col_at kernel e = slice_index_or (map (λ equation. equation.at.col) kernel.equations) e.0 0

-- the pieces of the line that says how an equation at a line and a column ended a run, whose instants are counted in a text
abbrev pub pieces_at : (what count : List ℕ) (line col : ℕ) → List (List ℕ)
pieces_at what count line col =
    codes "end: " ∷ what ∷ codes " at " ∷ decimal line ∷ codes ":" ∷ decimal col ∷ codes " after " ∷ count ∷ codes " instants\n" ∷ []

abbrev pub equation_pieces : List ℕ → Kernel → EqId → ℕ → List (List ℕ)
equation_pieces what kernel e n = pieces_at what (decimal n) (line_at kernel e) (col_at kernel e)

-- the pieces of the line that says what ended a run of n instants
abbrev pub end_pieces : Kernel → ℕ → Cause → List (List ℕ)
end_pieces kernel n (Exhausted x) =
    codes "end: input " ∷ name_at kernel x ∷ codes " exhausted after " ∷ decimal n ∷ codes " instants\n" ∷ []
end_pieces kernel n (Overflow e) = equation_pieces (codes "overflow") kernel e n
end_pieces kernel n (ZeroDivisor e) = equation_pieces (codes "division by zero") kernel e n
end_pieces kernel n Limit = codes "end: limit after " ∷ decimal n ∷ codes " instants\n" ∷ []

-- that line
abbrev pub end_line : Kernel → Ended → List ℕ
end_line kernel end = flat_map (λ piece. piece) (end_pieces kernel end.instants end.cause)
