-- What calls answer of the outcomes of operations.
use Rattle.std.specs.Prelude.{◌≡◌}
use Rattle.sig_values.specs.Prelude.{ℤ, Option, Result, Ok, Err, FitsSigned, SomeIff, w64, EqId, Faults, Gives, Outcome, bounded, Cause}

-- an outcome as an answer
abbrev pub answered : Outcome → Result ℤ Cause
answered (Gives v) = Ok v
answered (Faults cause) = Err cause

-- an answer is that of a whole number, if an option holds it where it has 64 bits
abbrev pub IsWithin : EqId → Option ℤ → Result ℤ Cause → Type 0
IsWithin e value answer = (v : ℤ) → SomeIff value (FitsSigned w64 v) v → answer ≡ answered (bounded e v)
