-- How a whole file is laid out. Each text is followed by the rest of the file.
use Rattle.std.specs.Prelude.{◌∷◌, ◌++◌, ◌≡◌, ◌&&◌, ℕ, ℤ, List, [], Bool, true, not, length, nat_eq, Option, None, Some, if◌then◌else◌, codes, decimal, replicate, ⊤}
use Rattle.std.specs.List.{list_any, list_all}
use Rattle.sig_c.specs.SmallC.{Name, HelperDefinition, FieldOfState, Header, Declared, EndRow, TranslationUnit}
use Rattle.sig_c.specs.Tokens.{is_printable, is_refused}
use Rattle.sig_c.specs.Written.{Scope, name_at, helper_name, helper_scope, cause_text, width_text, scope_of}
use Rattle.sig_c.specs.Names.{is_file_name}
use Rattle.sig_c.specs.Layout.{AreLaid, number_text, lines_text}

-- ---- comments

-- a line of a comment: printable, without a backslash, `*/`, `/*` or `??`; the byte before it is given
abbrev pub is_comment_behind : ℕ → List ℕ → Bool
is_comment_behind last [] = true
is_comment_behind last (byte ∷ bytes) = is_printable byte && (not (is_refused last byte) && (not (nat_eq last 42 && nat_eq byte 47) && is_comment_behind byte bytes))

-- one that stands behind a blank
abbrev pub is_comment : List ℕ → Bool
is_comment bytes = is_comment_behind 32 bytes

abbrev pub AreComments : List (List ℕ) → Type 0
AreComments [] = ⊤
AreComments (bytes ∷ others) = (is_comment bytes ≡ true) × AreComments others

-- lines of a comment, one behind another
abbrev pub comment_lines : List (List ℕ) → List ℕ → List ℕ
comment_lines [] rest = rest
comment_lines (line ∷ []) rest = line ++ rest
comment_lines (line ∷ next ∷ lines) rest = line ++ (codes "\n   " ++ comment_lines (next ∷ lines) rest)

abbrev pub comment_text : List (List ℕ) → List ℕ → List ℕ
comment_text lines rest = codes "/* " ++ comment_lines lines (codes " */\n" ++ rest)

-- ---- the beginning

abbrev pub include_text : Name → List ℕ → List ℕ
include_text name rest = codes "#include \"" ++ (name ++ (codes "\"\n" ++ rest))

-- four blanks begin a line of a function
abbrev pub blanks : List ℕ
blanks = replicate 4 32

abbrev pub helper_text : HelperDefinition → List ℕ → List ℕ
helper_text definition rest =
    codes "\nstatic int " ++ (helper_name definition.helper ++ (codes "(int64_t a, int64_t b, int64_t *result)\n{\n" ++ (lines_text blanks helper_scope definition.body ++ (codes "}\n" ++ rest))))

abbrev pub helpers_text : List HelperDefinition → List ℕ → List ℕ
helpers_text [] rest = rest
helpers_text (definition ∷ others) rest = helper_text definition (helpers_text others rest)

-- ---- the table of ends

-- P_NAME
abbrev pub prefixed_text : Header → List ℕ → List ℕ
prefixed_text header text = header.prefix ++ (codes "_" ++ text)

abbrev pub is_escaped : ℕ → Bool
is_escaped byte = list_any (nat_eq byte) (34 ∷ 92 ∷ 63 ∷ [])

-- a backslash stands before `"`, `\` and `?`
abbrev pub escaped_text : List ℕ → List ℕ → List ℕ
escaped_text [] rest = rest
escaped_text (byte ∷ bytes) rest = if is_escaped byte then 92 ∷ byte ∷ escaped_text bytes rest else byte ∷ escaped_text bytes rest

abbrev pub row_text : Header → EndRow → List ℕ → List ℕ
row_text header row rest =
    codes "    {" ++ (prefixed_text header (cause_text row.cause) ++ (codes ", " ++ (decimal row.line ++ (codes ", " ++ (decimal row.column ++ (codes ", \"" ++ escaped_text row.name (codes "\"}" ++ rest)))))))

abbrev pub rows_text : Header → List EndRow → List ℕ → List ℕ
rows_text header [] rest = rest
rows_text header (row ∷ []) rest = row_text header row (codes "\n" ++ rest)
rows_text header (row ∷ next ∷ rows) rest = row_text header row (codes ",\n" ++ rows_text header (next ∷ rows) rest)

abbrev pub ends_text : Header → List EndRow → List ℕ → List ℕ
ends_text header rows rest =
    codes "\nconst " ++ (prefixed_text header (codes "end") ++ (codes " " ++ (prefixed_text header (codes "ends") ++ (codes "[" ++ (decimal (length rows) ++ (codes "] = {\n" ++ rows_text header rows (codes "};\n" ++ rest)))))))

-- ---- the two functions

abbrev pub first_text : Name → ℤ → List ℕ → List ℕ
first_text field v rest = codes "    state->" ++ (field ++ (codes " = " ++ (number_text v ++ (codes ";\n" ++ rest))))

abbrev pub firsts_text : List FieldOfState → List ℤ → List ℕ → List ℕ
firsts_text [] firsts rest = rest
firsts_text (field ∷ fields) [] rest = rest
firsts_text (field ∷ fields) (v ∷ firsts) rest = first_text field.name v (firsts_text fields firsts rest)

-- where there is no field, the state is named once
abbrev pub first_lines : List FieldOfState → List ℤ → List ℕ → List ℕ
first_lines [] firsts rest = codes "    (void)state;\n" ++ rest
first_lines (field ∷ fields) firsts rest = firsts_text (field ∷ fields) firsts rest

abbrev pub init_text : Header → List ℤ → List ℕ → List ℕ
init_text header firsts rest =
    codes "\nvoid " ++ (prefixed_text header (codes "init") ++ (codes "(" ++ (prefixed_text header (codes "state") ++ (codes " *state)\n{\n" ++ first_lines header.fields firsts (codes "}\n" ++ rest)))))

abbrev pub first_value_text : Scope → Option ℕ → List ℕ
first_value_text scope None = codes "0"
first_value_text scope (Some n) = codes "state->" ++ name_at scope.fields n

abbrev pub declared_text : Scope → Declared → List ℕ → List ℕ
declared_text scope declared rest = codes "    " ++ (width_text declared.width ++ (codes " " ++ (declared.name ++ (codes " = " ++ (first_value_text scope declared.first ++ (codes ";\n" ++ rest))))))

abbrev pub variables_text : Scope → List Declared → List ℕ → List ℕ
variables_text scope [] rest = rest
variables_text scope (declared ∷ variables) rest = declared_text scope declared (variables_text scope variables rest)

-- the body is the text of the statements
abbrev pub step_text : Header → List Declared → (body : List ℕ) → List ℕ
step_text header variables body =
    codes "\nint " ++ (prefixed_text header (codes "step") ++ (codes "(" ++ (prefixed_text header (codes "state") ++ (codes " *state, " ++ (prefixed_text header (codes "context")
    ++ (codes " *context)\n{\n" ++ variables_text (scope_of header variables) variables (body ++ codes "}\n")))))))

-- A whole file: a comment, the header that it includes, helpers, the table of ends and the two functions. The body is the text of the
-- statements of the step.
abbrev pub file_text : (head : List (List ℕ)) → (include : Name) → Header → TranslationUnit → (body : List ℕ) → List ℕ
file_text head include header unit body =
    comment_text head (include_text include (helpers_text unit.helpers (ends_text header unit.ends (init_text header unit.firsts (step_text header unit.variables body)))))

-- ---- what may be laid out

-- the names in the table of ends are printable
abbrev pub ArePrintable : List EndRow → Type 0
ArePrintable [] = ⊤
ArePrintable (row ∷ rows) = (list_all is_printable row.name ≡ true) × ArePrintable rows

-- the statements of the helpers are laid out so that their bytes make their tokens
abbrev pub AreHelpersLaid : List HelperDefinition → Type 0
AreHelpersLaid [] = ⊤
AreHelpersLaid (definition ∷ others) = AreLaid definition.body × AreHelpersLaid others

pub record IsFile (head : List (List ℕ)) (include : Name) (unit : TranslationUnit) : Type 0 where
  pub comments : AreComments head
  pub include_name : is_file_name include ≡ true
  pub helpers : AreHelpersLaid unit.helpers
  pub printable : ArePrintable unit.ends
