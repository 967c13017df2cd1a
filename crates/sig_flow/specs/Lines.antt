-- The lines of a file, with their numbers.
use Rattle.std.specs.Prelude.{◌+◌, ◌∷◌}
use Rattle.sig_flow.specs.Prelude.{ℕ, List, [], lines}

-- a line, and its number, counted from 1
pub record Line : Type 0 where
  pub number : ℕ
  pub text : List ℕ

-- these lines, numbered from this number on
abbrev pub numbered : ℕ → List (List ℕ) → List Line
numbered number [] = []
numbered number (text ∷ texts) = record { number = number; text = text } ∷ numbered (number + 1) texts

-- the lines of a file: a newline ends a line, and one carriage return before it is no part of it
abbrev pub lines_of : List ℕ → List Line
lines_of bytes = numbered 1 (lines bytes)
