-- What the code has of a kernel as it is made.
use Rattle.sig_flat.specs.Prelude.{ℕ, List, Option, None, Some, SigId, Span}
use Rattle.sig_flat.specs.KernelOf.{Made, Translated, Together}
use Rattle.sig_flat.specs.declared.term.Term.{Term}

-- an operand and its kind, with what was made
abbrev pub translated : Term → Made → Translated
translated term made = record { operand = term.operand; kind = term.kind; made = made }

-- the number of a left side, where there is one
abbrev pub left_of : Option SigId → Option ℕ
left_of None = None
left_of (Some y) = Some y.0

-- signals with their places, and what was made
abbrev pub together : List (SigId × Span) → Made → Together
together signals made = record { signals = signals; made = made }
