-- The words of a line, with their columns.
use Rattle.std.specs.Prelude.{◌+◌, ◌==◌, ◌||◌, ◌∷◌, if◌then◌else◌}
use Rattle.sig_flow.specs.Prelude.{ℕ, Bool, List, [], length, slice_split}

-- a blank between words: a space or a tab
abbrev pub is_blank : ℕ → Bool
is_blank b = (b == 32) || (b == 9)

-- a word, and the column of its first byte, counted from 1
pub record Word : Type 0 where
  pub col : ℕ
  pub text : List ℕ

-- the words among the pieces between blanks, of which the first begins at this column
abbrev pub words_among : ℕ → List (List ℕ) → List Word
words_among col [] = []
words_among col (piece ∷ pieces) =
    if length piece == 0 then words_among (col + 1) pieces
    else record { col = col; text = piece } ∷ words_among (col + length piece + 1) pieces

-- the words of a line whose first byte stands at this column
abbrev pub words_from : ℕ → List ℕ → List Word
words_from col line = words_among col (slice_split is_blank line)

-- the words of a line
abbrev pub words_of : List ℕ → List Word
words_of line = words_from 1 line
