-- The lines on standard error that name a refusal, each without its newline.
use Rattle.std.specs.Prelude.{ℕ, ◌++◌, List, codes}
use Rattle.std.specs.Fmt.{decimal}
use Rattle.sig_base.specs.declared.span.Span.{Span}

-- a place in a program's text: its line, a colon and its column
abbrev pub place_text : Span → List ℕ
place_text at = decimal at.line ++ codes ":" ++ decimal at.col

-- the line of a refusal at a place of the program
abbrev pub refusal_at : Span → List ℕ → List ℕ
refusal_at at text = codes "error " ++ place_text at ++ codes ": " ++ text

-- the line of a refusal that has no place
abbrev pub refusal : List ℕ → List ℕ
refusal text = codes "error: " ++ text
