-- The table of ends, in the order in which it is written.
use Rattle.std.specs.Prelude.{◌∷◌, ◌++◌, ℕ, List, [], length, if◌then◌else◌, codes, decimal}
use Rattle.std.specs.List.{flat_map}
use Rattle.sig_file.specs.Images.{ImageView}
use Rattle.sig_file.specs.declared.images.ImageOp.{ImageOp}
use Rattle.sig_c.specs.SmallC.{EndRow}
use Rattle.sig_c.specs.Written.{cause_text}
use Rattle.sig_c.specs.File.{is_escaped}
use Rattle.sig_c_step.specs.Translation.{causes_of, is_left_out, rows_of}

abbrev pub escaped_byte : ℕ → List ℕ
escaped_byte byte = if is_escaped byte then 92 ∷ byte ∷ [] else byte ∷ []

-- a row, without the end of its line
abbrev pub row_bytes : (prefix cause : List ℕ) → (line column : ℕ) → (name : List ℕ) → List ℕ
row_bytes prefix cause line column name =
    (codes "    {" ++ ((prefix ++ codes "_") ++ cause))
    ++ ((codes ", " ++ decimal line) ++ ((codes ", " ++ decimal column) ++ (codes ", \"" ++ (flat_map escaped_byte name ++ codes "\"}"))))

-- a row behind another one
abbrev pub next_row : (prefix : List ℕ) → EndRow → List ℕ
next_row prefix row = codes ",\n" ++ row_bytes prefix (cause_text row.cause) row.line row.column row.name

-- how many rows an operation has
abbrev pub row_count : ImageOp → ℕ
row_count op = if is_left_out op then 0 else length (causes_of op.kind)

abbrev pub op_rows : (prefix : List ℕ) → ImageView → ImageOp → List ℕ
op_rows prefix image op = flat_map (next_row prefix) (rows_of image op)
