-- What a call of a helper answers.
use Rattle.std.specs.Prelude.{◌≡◌, ◌≢◌, ◌⊎◌, ◌+ℤ◌, ◌-ℤ◌, ◌*ℤ◌, ℤ, pos, true, false, None, Some, ⊤}
use Rattle.sig_base.specs.Traces.{has_64_bits}
use Rattle.sig_base.specs.Functions.{quotient, remainder}
use Rattle.sig_c.specs.SmallC.{Result, Helper, Add, Subtract, Multiply, Quotient, Remainder}
use Rattle.sig_c.specs.Meaning.{Memory, Outcome, Returned}

abbrev pub result_of : Helper → ℤ → ℤ → ℤ
result_of Add v w = v +ℤ w
result_of Subtract v w = v -ℤ w
result_of Multiply v w = v *ℤ w
result_of Quotient v w = quotient v w
result_of Remainder v w = remainder v w

-- a divisor is not 0
abbrev pub MayBeGiven : Helper → ℤ → Type 0
MayBeGiven Quotient w = w ≢ pos 0
MayBeGiven Remainder w = w ≢ pos 0
MayBeGiven other w = ⊤

-- it answers 0 and has written the result
pub record Succeeds (outcome : Outcome) (v : ℤ) : Type 0 where
  pub after : Memory
  pub returns : outcome ≡ Returned 0 after
  pub writes : after.values Result ≡ Some v

-- it answers 1 and has written nothing
pub record Fails (outcome : Outcome) : Type 0 where
  pub after : Memory
  pub returns : outcome ≡ Returned 1 after
  pub leaves : after.values Result ≡ None

-- the result where it has 64 bits, and else 1
abbrev pub Answers : Outcome → ℤ → Type 0
Answers outcome v = ((has_64_bits v ≡ true) × Succeeds outcome v) ⊎ ((has_64_bits v ≡ false) × Fails outcome)
