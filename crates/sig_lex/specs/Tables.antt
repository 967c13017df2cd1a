-- The reserved words and the marks.
use Rattle.std.specs.Prelude.{ℕ, List, [], ◌∷◌, codes, Contains}

abbrev pub words : List (List ℕ)
words = codes "process" ∷ codes "where" ∷ codes "end" ∷ codes "integer" ∷ codes "boolean"
    ∷ codes "event" ∷ codes "init" ∷ codes "when" ∷ codes "default" ∷ codes "cell" ∷ codes "not"
    ∷ codes "and" ∷ codes "or" ∷ codes "xor" ∷ codes "modulo" ∷ codes "true" ∷ codes "false"
    ∷ codes "pragmas" ∷ []

abbrev pub marks : List (List ℕ)
marks = codes "(|" ∷ codes "|)" ∷ codes "|" ∷ codes "(" ∷ codes ")" ∷ codes "{" ∷ codes "}"
    ∷ codes "," ∷ codes ";" ∷ codes "?" ∷ codes "!" ∷ codes ":=" ∷ codes "^=" ∷ codes "^+"
    ∷ codes "^*" ∷ codes "^-" ∷ codes "^" ∷ codes "$" ∷ codes "=" ∷ codes "/=" ∷ codes "<"
    ∷ codes "<=" ∷ codes ">" ∷ codes ">=" ∷ codes "+" ∷ codes "-" ∷ codes "*" ∷ codes "/" ∷ []

-- the bytes are a reserved word
abbrev pub IsWord : List ℕ → Type 0
IsWord bytes = Contains words bytes

-- the bytes are a mark
abbrev pub IsMark : List ℕ → Type 0
IsMark bytes = Contains marks bytes
