-- Texts made of pieces, one for each number.
use Rattle.std.specs.Prelude.{◌≡◌, ◌==◌, ℕ, zero, suc, List, [], ◌∷◌, ◌++◌, decimal, if◌then◌else◌}

-- the pieces for 1 to n, one after another
unfoldable pub each : (ℕ → List ℕ) → ℕ → List ℕ
each piece zero = []
each piece (suc n) = each piece n ++ piece (suc n)

-- the first where the number is 1, and else the other
abbrev pub at_first : ℕ → List ℕ → List ℕ → List ℕ
at_first n first other = if n == 1 then first else other

-- a letter and a number, as the name of a signal
abbrev pub numbered : ℕ → ℕ → List ℕ
numbered letter n = letter ∷ decimal n

-- a text is another with a piece behind it
pub record Appends (before piece after : List ℕ) : Type 0 where
  pub is : after ≡ before ++ piece
