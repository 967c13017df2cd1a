-- What instructions come to at once.
use Rattle.std.specs.Prelude.{◌≡◌}
use Rattle.sig_cells.specs.Prelude.{ℕ, ℤ, List, Option, None, Ok, IfSome, SomeIff, FitsSigned, w64, answered, bounded}
use Rattle.sig_cells.specs.Instructions.{answer_of, input_taken, no_equation}
use Rattle.sig_cells.specs.declared.instruction.Work.{Work}

-- work that takes no input comes to this value on these values, whatever the flows
pub record ComesTo (values : List ℤ) (v : ℤ) (work : Work) : Type 0 where
  pub value : (flows : List (List ℤ)) (taken : List ℕ) → Ok v ≡ answer_of flows values taken work
  pub stays : input_taken work ≡ None

-- an option holds what a whole number comes to as a result, if that has 64 bits
abbrev pub IsFitting : Option ℤ → Option ℤ → Type 0
IsFitting value answer = (v : ℤ) → SomeIff value (FitsSigned w64 v) v → IfSome answer (λ w. Ok w ≡ answered (bounded no_equation v))
