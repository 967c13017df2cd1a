-- A file that is laid out has the tokens that its unit is written with.
use Rattle.std.proofs.Common.{◌≡◌, replicate, ℕ, zero, suc, ◌<◌, ◌≤◌, ◌^◌, List, [], ◌∷◌, ◌++◌, length, Bool, true, false, ◌&&◌, ◌||◌, not, Option, None, Some, refl, sym, ap, ◌∙◌, append_assoc, append-nil, arith, decimal, nat_eq, nat_le, ℤ, map, subst}
use Rattle.std.specs.Prelude.{codes, if◌then◌else◌}
use Rattle.std.specs.List.{list_all}
use Rattle.std.proofs.lemmas.List.{length-map}
use Rattle.std.proofs.lemmas.Bool.{and_parts}
use Rattle.sig_base.specs.Traces.{has_64_bits}
use Rattle.sig_c.specs.SmallC.{Name, HelperDefinition, Width, Truth, Wide, FieldOfState, Header, Declared, EndCause, Done, Exhausted, Overflow, DivisionByZero, EndRow, Statements, TranslationUnit}
use Rattle.sig_c.specs.Tokens.{Token, Word, Sign, Quoted, Directive, Mode, Fresh, Between, InComment, InDirective, InQuotes, Escaped, Scanned, scan, scan_byte, scan_next, scanned, HasTokens, is_printable, is_refused, is_letter, is_word_byte}
use Rattle.sig_c.specs.Written.{Scope, name_at, number_tokens, first_tokens, firsts_tokens, first_statements, init_tokens, width_text, first_value_tokens, declared_tokens, variables_tokens, step_tokens, unit_tokens, scope_of, prefixed, cause_text, row_tokens, rows_tokens, ends_tokens, helper_scope, helper_tokens, helpers_tokens, statements_tokens, helper_name}
use Rattle.sig_c.specs.Names.{is_free, AreFree, HaveBits, IsFirst, AreVariables, IsUnit, AreNames, AreStatements, IsRow, AreRows, begins_with_letter, is_file_byte, is_file_name, AreHelpers, is_of_library, is_prefix}
use Rattle.sig_c.specs.Layout.{number_text, AreLaid, lines_text}
use Rattle.sig_c.specs.File.{first_text, firsts_text, first_lines, init_text, first_value_text, declared_text, variables_text, step_text, file_text, IsFile, prefixed_text, is_escaped, escaped_text, row_text, rows_text, ends_text, ArePrintable, is_comment_behind, AreComments, comment_lines, comment_text, AreHelpersLaid, include_text, blanks, helper_text, helpers_text}
use Rattle.sig_c.proofs.Words.{or_parts}
use Rattle.sig_c.proofs.FreeNames.{free_at, free_first}
use Rattle.sig_c.proofs.Scanning.{Makes}
use Rattle.sig_c.proofs.Layouts.{then_makes, Closes, blank, comma, semicolon, opening, name_word, number_piece, behind_run, IsWordText, Piece, word_piece, decimal_word}
use Rattle.sig_c.proofs.Lines.{helper_piece, lines_whole}
use Rattle.sig_c.proofs.HelperBodies.{helper_names}

-- A text that the rest of a file follows makes these tokens.
abbrev pub Then : (List ℕ → List ℕ) → List Token → Type 0
Then text tokens = (rest : List ℕ) (mode : Mode) (others : List Token) → Makes Fresh rest mode others → Makes Fresh (text rest) mode (tokens ++ others)

-- ---- comments

and_false : (b : Bool) → (b && false) ≡ false
and_false true = refl
and_false false = refl

-- a blank within a comment, whatever stands before it
blank_within : (last : ℕ) → scan_byte (InComment last) [] 32 ≡ scanned (InComment 32) []
blank_within last = rw (and_false (nat_eq last 42)) (rw (and_false (nat_eq last 63)) (rw (and_false (nat_eq last 47)) refl))

line_within : (last : ℕ) → scan_byte (InComment last) [] 10 ≡ scanned (InComment 10) []
line_within last = rw (and_false (nat_eq last 42)) (rw (and_false (nat_eq last 63)) (rw (and_false (nat_eq last 47)) refl))

abbrev last_of : ℕ → List ℕ → ℕ
last_of last [] = last
last_of last (byte ∷ bytes) = last_of byte bytes

or_first : (a b : Bool) → a ≡ true → (a || b) ≡ true
or_first true b e = refl
or_first false b e = absurd (let f : false ≡ true = e in cc f)

not_true : (b : Bool) → not b ≡ true → b ≡ false
not_true false e = refl
not_true true e = absurd (let f : false ≡ true = e in cc f)

-- a byte of a comment
byte_within : (last byte : ℕ) → is_printable byte ≡ true → is_refused last byte ≡ false → (nat_eq last 42 && nat_eq byte 47) ≡ false → scan_byte (InComment last) [] byte ≡ scanned (InComment byte) []
byte_within last byte printable kept within = rw within (rw printable (rw kept refl))

comment_passes : (bytes : List ℕ) (last : ℕ) (rest : List ℕ) (mode : Mode) (others : List Token) → is_comment_behind last bytes ≡ true → Makes (InComment (last_of last bytes)) rest mode others
    → Makes (InComment last) (bytes ++ rest) mode others
comment_passes [] last rest mode others is makes = makes
comment_passes (byte ∷ bytes) last rest mode others is makes =
    let one = and_parts (is_printable byte) (not (is_refused last byte) && (not (nat_eq last 42 && nat_eq byte 47) && is_comment_behind byte bytes)) is in
    let two = and_parts (not (is_refused last byte)) (not (nat_eq last 42 && nat_eq byte 47) && is_comment_behind byte bytes) one.1 in
    let three = and_parts (not (nat_eq last 42 && nat_eq byte 47)) (is_comment_behind byte bytes) two.1 in
    ap (scan_next (scan (bytes ++ rest))) (byte_within last byte one.0 (not_true (is_refused last byte) two.0) (not_true (nat_eq last 42 && nat_eq byte 47) three.0))
    ∙ comment_passes bytes byte rest mode others three.1 makes

-- */ behind a blank
comment_ends : (last : ℕ) (rest : List ℕ) (mode : Mode) (others : List Token) → Makes Fresh rest mode others → Makes (InComment last) (codes " */\n" ++ rest) mode others
comment_ends last rest mode others makes = ap (scan_next (scan (codes "*/\n" ++ rest))) (blank_within last) ∙ makes

lines_pass : (lines : List (List ℕ)) (rest : List ℕ) (mode : Mode) (others : List Token) → AreComments lines → Makes Fresh rest mode others
    → Makes (InComment 32) (comment_lines lines (codes " */\n" ++ rest)) mode others
lines_pass [] rest mode others are makes = comment_ends 32 rest mode others makes
lines_pass (line ∷ []) rest mode others are makes = comment_passes line 32 (codes " */\n" ++ rest) mode others are.0 (comment_ends (last_of 32 line) rest mode others makes)
lines_pass (line ∷ next ∷ lines) rest mode others are makes =
    comment_passes line 32 (codes "\n   " ++ comment_lines (next ∷ lines) (codes " */\n" ++ rest)) mode others are.0
    (ap (scan_next (scan (codes "   " ++ comment_lines (next ∷ lines) (codes " */\n" ++ rest)))) (line_within (last_of 32 line)) ∙ lines_pass (next ∷ lines) rest mode others are.1 makes)

pub comment_then : (lines : List (List ℕ)) → AreComments lines → Then (comment_text lines) []
comment_then lines are rest mode others makes = lines_pass lines rest mode others are makes

-- ---- the header that is included

-- what no such byte is
record IsOfFile (byte : ℕ) : Type 0 where
  printable : is_printable byte ≡ true
  line : nat_eq byte 10 ≡ false
  backslash : nat_eq byte 92 ≡ false
  mark : nat_eq byte 63 ≡ false
  star : nat_eq byte 42 ≡ false

file_byte : (byte : ℕ) → is_file_byte byte ≡ true → IsOfFile byte
file_byte byte is = record { printable = grind (arith, is); line = grind (arith, is); backslash = grind (arith, is); mark = grind (arith, is); star = grind (arith, is) }

directive_byte : (last : ℕ) (before : List ℕ) (byte : ℕ) → is_file_byte byte ≡ true → scan_byte (InDirective last before) [] byte ≡ scanned (InDirective byte (before ++ byte ∷ [])) []
directive_byte last before byte is =
    let it = file_byte byte is in
    rw it.line (rw it.printable (rw it.backslash (rw it.mark (rw it.star (rw (and_false (nat_eq last 63)) (rw (and_false (nat_eq last 47)) refl))))))

-- the last quotation mark
quote_within : (last : ℕ) (before : List ℕ) → scan_byte (InDirective last before) [] 34 ≡ scanned (InDirective 34 (before ++ 34 ∷ [])) []
quote_within last before = rw (and_false (nat_eq last 63)) (rw (and_false (nat_eq last 47)) refl)

directive_passes : (name : List ℕ) (last : ℕ) (before : List ℕ) (rest : List ℕ) (mode : Mode) (others : List Token) → list_all is_file_byte name ≡ true
    → Makes (InDirective (last_of last name) (before ++ name)) rest mode others → Makes (InDirective last before) (name ++ rest) mode others
directive_passes [] last before rest mode others is makes = ap (λ (l : List ℕ). scan rest (record { mode = InDirective last l; tokens = [] })) (sym (append-nil before)) ∙ makes
directive_passes (byte ∷ name) last before rest mode others is makes =
    let parts = and_parts (is_file_byte byte) (list_all is_file_byte name) is in
    ap (scan_next (scan (name ++ rest))) (directive_byte last before byte parts.0)
    ∙ directive_passes name byte (before ++ byte ∷ []) rest mode others parts.1
    (ap (λ (l : List ℕ). scan rest (record { mode = InDirective (last_of byte name) l; tokens = [] })) (append_assoc before (byte ∷ []) name) ∙ makes)

bytes_of_name : (name : Name) → is_file_name name ≡ true → list_all is_file_byte name ≡ true
bytes_of_name [] is = refl
bytes_of_name (byte ∷ bytes) is = is

pub include_then : (name : Name) → is_file_name name ≡ true → Then (include_text name) (Directive (codes "include \"" ++ (name ++ codes "\"")) ∷ [])
include_then name is rest mode others makes =
    directive_passes name 34 (codes "include \"") (codes "\"\n" ++ rest) mode (Directive (codes "include \"" ++ (name ++ codes "\"")) ∷ others) (bytes_of_name name is)
    (ap (scan_next (scan (codes "\n" ++ rest))) (quote_within (last_of 34 name) (codes "include \"" ++ name))
    ∙ then_makes (Directive ((codes "include \"" ++ name) ++ codes "\"") ∷ []) Fresh rest mode others makes
    ∙ ap (λ (l : List ℕ). scanned mode (Directive l ∷ others)) (append_assoc (codes "include \"") name (codes "\"")))

-- ---- helpers

from_fresh : List ℕ → Option Scanned
from_fresh l = scan l (record { mode = Fresh; tokens = [] })

helper_then : (definition : HelperDefinition) → AreLaid definition.body → AreStatements helper_scope definition.body → Then (helper_text definition) (helper_tokens definition)
helper_then definition laid right rest mode others makes =
    let helper = definition.helper in
    let body = statements_tokens helper_scope definition.body in
    let close = then_makes (Sign (codes "}") ∷ []) Fresh rest mode others makes in
    let lines = lines_whole helper_scope helper_names 3 definition.body laid right (codes "}\n" ++ rest) mode (Sign (codes "}") ∷ others) close in
    let tail : List ℕ = lines_text blanks helper_scope definition.body ++ (codes "}\n" ++ rest) in
    let signature : List Token = Word (codes "int64_t") ∷ Word (codes "a") ∷ Sign (codes ",") ∷ Word (codes "int64_t") ∷ Word (codes "b") ∷ Sign (codes ",") ∷ Word (codes "int64_t") ∷ Sign (codes "*")
    ∷ Word (codes "result") ∷ Sign (codes ")") ∷ Sign (codes "{") ∷ [] in
    let parameters = then_makes signature Fresh tail mode (body ++ Sign (codes "}") ∷ others) lines in
    let named = helper_piece helper 40 (Sign (codes "(") ∷ []) opening (codes "int64_t a, int64_t b, int64_t *result)\n{\n" ++ tail) mode (signature ++ (body ++ Sign (codes "}") ∷ others)) parameters in
    then_makes (Word (codes "static") ∷ Word (codes "int") ∷ []) Between (helper_name helper ++ 40 ∷ (codes "int64_t a, int64_t b, int64_t *result)\n{\n" ++ tail)) mode
    (Word (helper_name helper) ∷ Sign (codes "(") ∷ (signature ++ (body ++ Sign (codes "}") ∷ others))) named
    ∙ ap (λ (l : List Token). scanned mode (Word (codes "static") ∷ Word (codes "int") ∷ Word (helper_name helper) ∷ Sign (codes "(") ∷ (signature ++ l))) (sym (append_assoc body (Sign (codes "}") ∷ []) others))

pub helpers_then : (definitions : List HelperDefinition) → AreHelpersLaid definitions → AreHelpers definitions → Then (helpers_text definitions) (helpers_tokens definitions)
helpers_then [] laid are rest mode others makes = makes
helpers_then (definition ∷ later) laid are rest mode others makes =
    helper_then definition laid.0 are.1 (helpers_text later rest) mode (helpers_tokens later ++ others) (helpers_then later laid.1 are.3 rest mode others makes)
    ∙ ap (scanned mode) (sym (append_assoc (helper_tokens definition) (helpers_tokens later) others))

-- ---- names that begin with the prefix

all_appended : (a b : List ℕ) → list_all is_word_byte a ≡ true → list_all is_word_byte b ≡ true → list_all is_word_byte (a ++ b) ≡ true
all_appended [] b all other = other
all_appended (byte ∷ a) b all other = let parts = and_parts (is_word_byte byte) (list_all is_word_byte a) all in rw parts.0 (all_appended a b parts.1 other)

prefix_word : (prefix : Name) → is_prefix prefix ≡ true → begins_with_letter prefix ≡ true
prefix_word prefix is = (and_parts (begins_with_letter prefix) (nat_le (length prefix) 46 && not (is_of_library prefix)) is).0

prefixed_word : (prefix text : List ℕ) → begins_with_letter prefix ≡ true → list_all is_word_byte text ≡ true → IsWordText (prefix ++ (codes "_" ++ text))
prefixed_word [] text is all = absurd (let f : false ≡ true = is in cc f)
prefixed_word (byte ∷ prefix) text is all =
    let parts = and_parts (is_letter byte) (list_all is_word_byte prefix) is in
    rw parts.0 (all_appended prefix (codes "_" ++ text) parts.1 all)

bracket : Closes 91 (Sign (codes "[") ∷ [])
bracket = record { word = λ text. refl; alone = refl }

square : Closes 93 (Sign (codes "]") ∷ [])
square = record { word = λ text. refl; alone = refl }

module _ (header : Header) (prefix : begins_with_letter header.prefix ≡ true) where
  prefixed_piece : (text : List ℕ) → list_all is_word_byte text ≡ true → Piece (prefixed_text header text) (prefixed header text ∷ [])
  prefixed_piece text all = word_piece (prefixed_text header text) (prefixed_word header.prefix text prefix all)

  cause_piece : (cause : EndCause) → Piece (prefixed_text header (cause_text cause)) (prefixed header (cause_text cause) ∷ [])
  cause_piece Done = prefixed_piece (codes "DONE") refl
  cause_piece Exhausted = prefixed_piece (codes "EXHAUSTED") refl
  cause_piece Overflow = prefixed_piece (codes "OVERFLOW") refl
  cause_piece DivisionByZero = prefixed_piece (codes "DIVISION_BY_ZERO") refl

  -- ---- the table of ends

  quoted_byte : (before : List ℕ) (byte : ℕ) → is_printable byte ≡ true → is_escaped byte ≡ false → scan_byte (InQuotes before) [] byte ≡ scanned (InQuotes (before ++ byte ∷ [])) []
  quoted_byte before byte printable plain =
      let one = or_parts (nat_eq byte 34) (nat_eq byte 92 || (nat_eq byte 63 || false)) plain in
      let two = or_parts (nat_eq byte 92) (nat_eq byte 63 || false) one.1 in
      let three = or_parts (nat_eq byte 63) false two.1 in
      rw one.0 (rw two.0 (rw printable (rw three.0 refl)))

  escaped_byte : (before : List ℕ) (byte : ℕ) → is_escaped byte ≡ true → scan_byte (Escaped before) [] byte ≡ scanned (InQuotes (before ++ byte ∷ [])) []
  escaped_byte before byte is = rw is refl

  either_byte : (before : List ℕ) (byte : ℕ) (rest : List ℕ) (mode : Mode) (others : List Token) → is_printable byte ≡ true → Makes (InQuotes (before ++ byte ∷ [])) rest mode others
      → (b : Bool) → is_escaped byte ≡ b → Makes (InQuotes before) (if b then 92 ∷ byte ∷ rest else byte ∷ rest) mode others
  either_byte before byte rest mode others printable makes true is = ap (scan_next (scan rest)) (escaped_byte before byte is) ∙ makes
  either_byte before byte rest mode others printable makes false is = ap (scan_next (scan rest)) (quoted_byte before byte printable is) ∙ makes

  name_passes : (name before : List ℕ) (rest : List ℕ) (mode : Mode) (others : List Token) → list_all is_printable name ≡ true → Makes (InQuotes (before ++ name)) rest mode others
      → Makes (InQuotes before) (escaped_text name rest) mode others
  name_passes [] before rest mode others all makes = ap (λ (l : List ℕ). scan rest (record { mode = InQuotes l; tokens = [] })) (sym (append-nil before)) ∙ makes
  name_passes (byte ∷ name) before rest mode others all makes =
      let parts = and_parts (is_printable byte) (list_all is_printable name) all in
      either_byte before byte (escaped_text name rest) mode others parts.0
      (name_passes name (before ++ byte ∷ []) rest mode others parts.1 (ap (λ (l : List ℕ). scan rest (record { mode = InQuotes l; tokens = [] })) (append_assoc before (byte ∷ []) name) ∙ makes))
      (is_escaped byte) refl

  decimal_piece : (n : ℕ) → n < 2 ^ 32 → Piece (decimal n) (Word (decimal n) ∷ [])
  decimal_piece n small = word_piece (decimal n) (decimal_word n (omega (arith, small)))

  -- a row, from the blank behind its beginning on
  row_then : (row : EndRow) → IsRow row → list_all is_printable row.name ≡ true → (rest : List ℕ) (mode : Mode) (others : List Token) → Makes Between rest mode others
      → Makes Fresh (row_text header row rest) mode (row_tokens header row ++ others)
  row_then row is printable rest mode others makes =
      let brace = then_makes (Quoted row.name ∷ Sign (codes "}") ∷ []) Between rest mode others makes in
      let name = name_passes row.name [] (codes "\"}" ++ rest) mode (Quoted row.name ∷ Sign (codes "}") ∷ others) printable brace in
      let column = decimal_piece row.column is.column 44 (Sign (codes ",") ∷ []) comma (codes " \"" ++ escaped_text row.name (codes "\"}" ++ rest)) mode (Quoted row.name ∷ Sign (codes "}") ∷ others) name in
      let line = decimal_piece row.line is.line 44 (Sign (codes ",") ∷ []) comma (codes " " ++ (decimal row.column ++ (codes ", \"" ++ escaped_text row.name (codes "\"}" ++ rest)))) mode
      (Word (decimal row.column) ∷ Sign (codes ",") ∷ Quoted row.name ∷ Sign (codes "}") ∷ others) column in
      let cause = cause_piece row.cause 44 (Sign (codes ",") ∷ []) comma (codes " " ++ (decimal row.line ++ (codes ", " ++ (decimal row.column ++ (codes ", \"" ++ escaped_text row.name (codes "\"}" ++ rest)))))) mode
      (Word (decimal row.line) ∷ Sign (codes ",") ∷ Word (decimal row.column) ∷ Sign (codes ",") ∷ Quoted row.name ∷ Sign (codes "}") ∷ others) line in
      then_makes (Sign (codes "{") ∷ []) Between
      (prefixed_text header (cause_text row.cause) ++ (codes ", " ++ (decimal row.line ++ (codes ", " ++ (decimal row.column ++ (codes ", \"" ++ escaped_text row.name (codes "\"}" ++ rest))))))) mode
      (prefixed header (cause_text row.cause) ∷ Sign (codes ",") ∷ Word (decimal row.line) ∷ Sign (codes ",") ∷ Word (decimal row.column) ∷ Sign (codes ",") ∷ Quoted row.name ∷ Sign (codes "}") ∷ others) cause

  rows_then : (rows : List EndRow) → AreRows rows → ArePrintable rows → (rest : List ℕ) (mode : Mode) (others : List Token) → Makes Fresh rest mode others
      → Makes Fresh (rows_text header rows rest) mode (rows_tokens header rows ++ others)
  rows_then [] are printable rest mode others makes = makes
  rows_then (row ∷ []) are printable rest mode others makes = row_then row are.0 printable.0 (codes "\n" ++ rest) mode others makes
  rows_then (row ∷ next ∷ rows) are printable rest mode others makes =
      let later = rows_then (next ∷ rows) are.1 printable.1 rest mode others makes in
      row_then row are.0 printable.0 (codes ",\n" ++ rows_text header (next ∷ rows) rest) mode (Sign (codes ",") ∷ (rows_tokens header (next ∷ rows) ++ others))
      (then_makes (Sign (codes ",") ∷ []) Fresh (rows_text header (next ∷ rows) rest) mode (rows_tokens header (next ∷ rows) ++ others) later)
      ∙ ap (scanned mode) (sym (append_assoc (row_tokens header row) (Sign (codes ",") ∷ rows_tokens header (next ∷ rows)) others))

  pub ends_then : (rows : List EndRow) → AreRows rows → ArePrintable rows → length rows ≤ 2 ^ 15 → Then (ends_text header rows) (ends_tokens header rows)
  ends_then rows are printable few rest mode others makes =
      let close = then_makes (Sign (codes "}") ∷ Sign (codes ";") ∷ []) Fresh rest mode others makes in
      let table = rows_then rows are printable (codes "};\n" ++ rest) mode (Sign (codes "}") ∷ Sign (codes ";") ∷ others) close in
      let tail : List ℕ = rows_text header rows (codes "};\n" ++ rest) in
      let tail_tokens : List Token = rows_tokens header rows ++ Sign (codes "}") ∷ Sign (codes ";") ∷ others in
      let begun = then_makes (Sign (codes "=") ∷ Sign (codes "{") ∷ []) Fresh tail mode tail_tokens table in
      let count = word_piece (decimal (length rows)) (decimal_word (length rows) (omega (arith, few))) 93 (Sign (codes "]") ∷ []) square (codes " = {\n" ++ tail) mode (Sign (codes "=") ∷ Sign (codes "{") ∷ tail_tokens) begun in
      let named = prefixed_piece (codes "ends") refl 91 (Sign (codes "[") ∷ []) bracket (decimal (length rows) ++ (codes "] = {\n" ++ tail)) mode
      (Word (decimal (length rows)) ∷ Sign (codes "]") ∷ Sign (codes "=") ∷ Sign (codes "{") ∷ tail_tokens) count in
      let typed = prefixed_piece (codes "end") refl 32 [] blank (prefixed_text header (codes "ends") ++ (codes "[" ++ (decimal (length rows) ++ (codes "] = {\n" ++ tail)))) mode
      (prefixed header (codes "ends") ∷ Sign (codes "[") ∷ Word (decimal (length rows)) ∷ Sign (codes "]") ∷ Sign (codes "=") ∷ Sign (codes "{") ∷ tail_tokens) named in
      then_makes (Word (codes "const") ∷ []) Between
      (prefixed_text header (codes "end") ++ (codes " " ++ (prefixed_text header (codes "ends") ++ (codes "[" ++ (decimal (length rows) ++ (codes "] = {\n" ++ tail)))))) mode
      (prefixed header (codes "end") ∷ prefixed header (codes "ends") ∷ Sign (codes "[") ∷ Word (decimal (length rows)) ∷ Sign (codes "]") ∷ Sign (codes "=") ∷ Sign (codes "{") ∷ tail_tokens) typed
      ∙ ap (λ (l : List Token). scanned mode (Word (codes "const") ∷ prefixed header (codes "end") ∷ prefixed header (codes "ends") ∷ Sign (codes "[") ∷ Word (decimal (length rows)) ∷ Sign (codes "]")
      ∷ Sign (codes "=") ∷ Sign (codes "{") ∷ l)) (sym (append_assoc (rows_tokens header rows) (Sign (codes "}") ∷ Sign (codes ";") ∷ []) others))

  -- ---- the first values

  first_then : (field : Name) (v : ℤ) → is_free field ≡ true → has_64_bits v ≡ true → Then (first_text field v) (first_tokens field v)
  first_then field v free small rest mode others makes =
      let close = then_makes (Sign (codes ";") ∷ []) Fresh rest mode others makes in
      let value = number_piece v small 59 (Sign (codes ";") ∷ []) semicolon (codes "\n" ++ rest) mode others makes in
      let sign = then_makes (Sign (codes "=") ∷ []) Between (number_text v ++ (codes ";\n" ++ rest)) mode (number_tokens v ++ Sign (codes ";") ∷ others) value in
      behind_run (codes "state->") (codes "->") (Word (codes "state") ∷ []) field refl refl (name_word field free) 32 [] blank (codes "= " ++ (number_text v ++ (codes ";\n" ++ rest))) mode
      (Sign (codes "=") ∷ (number_tokens v ++ Sign (codes ";") ∷ others)) sign
      ∙ ap (λ (l : List Token). scanned mode (Word (codes "state") ∷ Sign (codes "->") ∷ Word field ∷ Sign (codes "=") ∷ l)) (sym (append_assoc (number_tokens v) (Sign (codes ";") ∷ []) others))

  firsts_then : (fields : List FieldOfState) (firsts : List ℤ) → AreFree (map (λ field. field.name) fields) → HaveBits firsts → Then (firsts_text fields firsts) (firsts_tokens fields firsts)
  firsts_then [] firsts free bits rest mode others makes = makes
  firsts_then (field ∷ fields) [] free bits rest mode others makes = makes
  firsts_then (field ∷ fields) (v ∷ firsts) free bits rest mode others makes =
      first_then field.name v free.0 bits.0 (firsts_text fields firsts rest) mode (firsts_tokens fields firsts ++ others) (firsts_then fields firsts free.1 bits.1 rest mode others makes)
      ∙ ap (scanned mode) (sym (append_assoc (first_tokens field.name v) (firsts_tokens fields firsts) others))

  first_lines_then : (fields : List FieldOfState) (firsts : List ℤ) → AreFree (map (λ field. field.name) fields) → HaveBits firsts → Then (first_lines fields firsts) (first_statements fields firsts)
  first_lines_then [] firsts free bits rest mode others makes = then_makes (Sign (codes "(") ∷ Word (codes "void") ∷ Sign (codes ")") ∷ Word (codes "state") ∷ Sign (codes ";") ∷ []) Fresh rest mode others makes
  first_lines_then (field ∷ fields) firsts free bits rest mode others makes = firsts_then (field ∷ fields) firsts free bits rest mode others makes

  pub init_then : (firsts : List ℤ) → AreFree (map (λ field. field.name) header.fields) → HaveBits firsts → Then (init_text header firsts) (init_tokens header firsts)
  init_then firsts free bits rest mode others makes =
      let close = then_makes (Sign (codes "}") ∷ []) Fresh rest mode others makes in
      let lines = first_lines_then header.fields firsts free bits (codes "}\n" ++ rest) mode (Sign (codes "}") ∷ others) close in
      let tail : List ℕ = first_lines header.fields firsts (codes "}\n" ++ rest) in
      let tail_tokens : List Token = first_statements header.fields firsts ++ Sign (codes "}") ∷ others in
      let begun = then_makes (Sign (codes "*") ∷ Word (codes "state") ∷ Sign (codes ")") ∷ Sign (codes "{") ∷ []) Fresh tail mode tail_tokens lines in
      let typed = prefixed_piece (codes "state") refl 32 [] blank (codes "*state)\n{\n" ++ tail) mode (Sign (codes "*") ∷ Word (codes "state") ∷ Sign (codes ")") ∷ Sign (codes "{") ∷ tail_tokens) begun in
      let named = prefixed_piece (codes "init") refl 40 (Sign (codes "(") ∷ []) opening (prefixed_text header (codes "state") ++ (codes " *state)\n{\n" ++ tail)) mode
      (prefixed header (codes "state") ∷ Sign (codes "*") ∷ Word (codes "state") ∷ Sign (codes ")") ∷ Sign (codes "{") ∷ tail_tokens) typed in
      then_makes (Word (codes "void") ∷ []) Between (prefixed_text header (codes "init") ++ (codes "(" ++ (prefixed_text header (codes "state") ++ (codes " *state)\n{\n" ++ tail)))) mode
      (prefixed header (codes "init") ∷ Sign (codes "(") ∷ prefixed header (codes "state") ∷ Sign (codes "*") ∷ Word (codes "state") ∷ Sign (codes ")") ∷ Sign (codes "{") ∷ tail_tokens) named
      ∙ ap (λ (l : List Token). scanned mode (Word (codes "void") ∷ prefixed header (codes "init") ∷ Sign (codes "(") ∷ prefixed header (codes "state") ∷ Sign (codes "*") ∷ Word (codes "state") ∷ Sign (codes ")")
      ∷ Sign (codes "{") ∷ l)) (sym (append_assoc (first_statements header.fields firsts) (Sign (codes "}") ∷ []) others))

-- ---- variables

width_piece : (width : Width) → Piece (width_text width) (Word (width_text width) ∷ [])
width_piece Truth = word_piece (codes "int") refl
width_piece Wide = word_piece (codes "int64_t") refl

first_value_piece : (scope : Scope) → AreFree scope.fields → (first : Option ℕ) → IsFirst (length scope.fields) first → Piece (first_value_text scope first) (first_value_tokens scope first)
first_value_piece scope free None is byte last closes rest mode others makes = word_piece (codes "0") refl byte last closes rest mode others makes
first_value_piece scope free (Some n) is byte last closes rest mode others makes =
    behind_run (codes "state->") (codes "->") (Word (codes "state") ∷ []) (name_at scope.fields n) refl refl (name_word (name_at scope.fields n) (free_at scope.fields free n is)) byte last closes rest mode others makes

declared_then : (scope : Scope) → AreFree scope.fields → (declared : Declared) → is_free declared.name ≡ true → IsFirst (length scope.fields) declared.first
    → Then (declared_text scope declared) (declared_tokens scope declared)
declared_then scope fields declared free is rest mode others makes =
    let value = first_value_piece scope fields declared.first is 59 (Sign (codes ";") ∷ []) semicolon (codes "\n" ++ rest) mode others makes in
    let sign = then_makes (Sign (codes "=") ∷ []) Between (first_value_text scope declared.first ++ (codes ";\n" ++ rest)) mode (first_value_tokens scope declared.first ++ Sign (codes ";") ∷ others) value in
    let name = word_piece declared.name (name_word declared.name free) 32 [] blank (codes "= " ++ (first_value_text scope declared.first ++ (codes ";\n" ++ rest))) mode
    (Sign (codes "=") ∷ (first_value_tokens scope declared.first ++ Sign (codes ";") ∷ others)) sign in
    width_piece declared.width 32 [] blank (declared.name ++ (codes " = " ++ (first_value_text scope declared.first ++ (codes ";\n" ++ rest)))) mode
    (Word declared.name ∷ Sign (codes "=") ∷ (first_value_tokens scope declared.first ++ Sign (codes ";") ∷ others)) name
    ∙ ap (λ (l : List Token). scanned mode (Word (width_text declared.width) ∷ Word declared.name ∷ Sign (codes "=") ∷ l)) (sym (append_assoc (first_value_tokens scope declared.first) (Sign (codes ";") ∷ []) others))

variables_then : (scope : Scope) → AreFree scope.fields → (variables : List Declared) → AreFree (map (λ declared. declared.name) variables) → AreVariables (length scope.fields) variables
    → Then (variables_text scope variables) (variables_tokens scope variables)
variables_then scope fields [] free are rest mode others makes = makes
variables_then scope fields (declared ∷ variables) free are rest mode others makes =
    declared_then scope fields declared free.0 are.0 (variables_text scope variables rest) mode (variables_tokens scope variables ++ others) (variables_then scope fields variables free.1 are.1 rest mode others makes)
    ∙ ap (scanned mode) (sym (append_assoc (declared_tokens scope declared) (variables_tokens scope variables) others))

-- ---- the whole

-- the text of the statements of a step, in whatever layout
abbrev pub IsBody : Scope → List ℕ → List Token → Type 0
IsBody scope body tokens = (rest : List ℕ) (mode : Mode) (others : List Token) → Makes Fresh rest mode others → Makes Fresh (body ++ rest) mode (tokens ++ others)

module _ (header : Header) (prefix : begins_with_letter header.prefix ≡ true) where
  step_has : (variables : List Declared) (step : Statements) (body : List ℕ) → AreNames (scope_of header variables) → AreVariables (length (scope_of header variables).fields) variables
      → IsBody (scope_of header variables) body (statements_tokens (scope_of header variables) step) → Makes Fresh (step_text header variables body) Fresh (step_tokens header variables step)
  step_has variables step body names are lines =
      let scope = scope_of header variables in
      let tail_tokens : List Token = variables_tokens scope variables ++ (statements_tokens scope step ++ Sign (codes "}") ∷ []) in
      let tail : List ℕ = variables_text scope variables (body ++ codes "}\n") in
      let statements = lines (codes "}\n") Fresh (Sign (codes "}") ∷ []) refl in
      let declarations = variables_then scope names.fields variables (free_first (map (λ declared. declared.name) variables) (scope.inputs ++ scope.outputs) names.identifiers) are
      (body ++ codes "}\n") Fresh (statements_tokens scope step ++ Sign (codes "}") ∷ []) statements in
      let begun = then_makes (Sign (codes "*") ∷ Word (codes "context") ∷ Sign (codes ")") ∷ Sign (codes "{") ∷ []) Fresh tail Fresh tail_tokens declarations in
      let context = prefixed_piece header prefix (codes "context") refl 32 [] blank (codes "*context)\n{\n" ++ tail) Fresh (Sign (codes "*") ∷ Word (codes "context") ∷ Sign (codes ")") ∷ Sign (codes "{") ∷ tail_tokens) begun in
      let between = then_makes (Sign (codes "*") ∷ Word (codes "state") ∷ Sign (codes ",") ∷ []) Between (prefixed_text header (codes "context") ++ (codes " *context)\n{\n" ++ tail)) Fresh
      (prefixed header (codes "context") ∷ Sign (codes "*") ∷ Word (codes "context") ∷ Sign (codes ")") ∷ Sign (codes "{") ∷ tail_tokens) context in
      let typed = prefixed_piece header prefix (codes "state") refl 32 [] blank (codes "*state, " ++ (prefixed_text header (codes "context") ++ (codes " *context)\n{\n" ++ tail))) Fresh
      (Sign (codes "*") ∷ Word (codes "state") ∷ Sign (codes ",") ∷ prefixed header (codes "context") ∷ Sign (codes "*") ∷ Word (codes "context") ∷ Sign (codes ")") ∷ Sign (codes "{") ∷ tail_tokens) between in
      let named = prefixed_piece header prefix (codes "step") refl 40 (Sign (codes "(") ∷ []) opening (prefixed_text header (codes "state") ++ (codes " *state, " ++ (prefixed_text header (codes "context") ++ (codes " *context)\n{\n" ++ tail)))) Fresh
      (prefixed header (codes "state") ∷ Sign (codes "*") ∷ Word (codes "state") ∷ Sign (codes ",") ∷ prefixed header (codes "context") ∷ Sign (codes "*") ∷ Word (codes "context") ∷ Sign (codes ")") ∷ Sign (codes "{") ∷ tail_tokens) typed in
      then_makes (Word (codes "int") ∷ []) Between
      (prefixed_text header (codes "step") ++ (codes "(" ++ (prefixed_text header (codes "state") ++ (codes " *state, " ++ (prefixed_text header (codes "context") ++ (codes " *context)\n{\n" ++ tail)))))) Fresh
      (prefixed header (codes "step") ∷ Sign (codes "(") ∷ prefixed header (codes "state") ∷ Sign (codes "*") ∷ Word (codes "state") ∷ Sign (codes ",") ∷ prefixed header (codes "context") ∷ Sign (codes "*")
      ∷ Word (codes "context") ∷ Sign (codes ")") ∷ Sign (codes "{") ∷ tail_tokens) named

pub file_has : (head : List (List ℕ)) (include : Name) (header : Header) (unit : TranslationUnit) (body : List ℕ) → IsFile head include unit → IsUnit header unit
    → IsBody (scope_of header unit.variables) body (statements_tokens (scope_of header unit.variables) unit.step) → HasTokens (file_text head include header unit body) (unit_tokens include header unit)
file_has head include header unit body file is lines =
    let scope = scope_of header unit.variables in
    let variables : AreVariables (length scope.fields) unit.variables = subst (λ (n : ℕ). AreVariables n unit.variables) (sym (length-map header.fields (λ (field : FieldOfState). field.name))) is.variables in
    let prefix = prefix_word header.prefix is.names.prefix in
    let step = step_has header prefix unit.variables unit.step body is.names.names variables lines in
    let init = init_then header prefix unit.firsts is.names.names.fields is.bits (step_text header unit.variables body) Fresh (step_tokens header unit.variables unit.step) step in
    let ends = ends_then header prefix unit.ends is.rows file.printable is.few_rows (init_text header unit.firsts (step_text header unit.variables body)) Fresh
    (init_tokens header unit.firsts ++ step_tokens header unit.variables unit.step) init in
    let helpers = helpers_then unit.helpers file.helpers is.helpers (ends_text header unit.ends (init_text header unit.firsts (step_text header unit.variables body))) Fresh
    (ends_tokens header unit.ends ++ (init_tokens header unit.firsts ++ step_tokens header unit.variables unit.step)) ends in
    let included = include_then include file.include_name (helpers_text unit.helpers (ends_text header unit.ends (init_text header unit.firsts (step_text header unit.variables body)))) Fresh
    (helpers_tokens unit.helpers ++ (ends_tokens header unit.ends ++ (init_tokens header unit.firsts ++ step_tokens header unit.variables unit.step))) helpers in
    comment_then head file.comments (include_text include (helpers_text unit.helpers (ends_text header unit.ends (init_text header unit.firsts (step_text header unit.variables body))))) Fresh
    (unit_tokens include header unit) included

-- ---- a comment on a line of its own

pub comment_line : (n : ℕ) (bytes : List ℕ) → is_comment_behind 32 bytes ≡ true → (rest : List ℕ) (mode : Mode) (others : List Token) → Makes Fresh rest mode others
    → Makes Fresh (replicate (suc n) 32 ++ comment_text (bytes ∷ []) rest) mode others
comment_line n bytes is rest mode others makes = between n
  where
    begun : Makes Between (comment_text (bytes ∷ []) rest) mode others
    begun = lines_pass (bytes ∷ []) rest mode others (is, tt) makes

    between : (m : ℕ) → Makes Between (replicate m 32 ++ comment_text (bytes ∷ []) rest) mode others
    between zero = begun
    between (suc m) = between m
