-- What is laid out has the tokens that it is written with.
use Rattle.std.proofs.Common.{◌≡◌, ◌≢◌, inl, inr, ℕ, ◌<◌, ◌≤◌, ◌^◌, ◌-◌, ◌+◌, List, [], ◌∷◌, ◌++◌, Bool, true, false, ◌&&◌, ◌||◌, not, length, Option, refl, sym, ap, ◌∙◌, append_assoc, append-nil, nat_eq, nat_le, arith, decimal, ℤ, pos}
use Rattle.std.specs.Prelude.{codes, negsuc}
use Rattle.std.proofs.lemmas.Bool.{and_parts, cases_lt}
use Rattle.std.proofs.lemmas.Bool.Decides.{eqb_tells}
use Rattle.std.specs.Prelude.{if◌then◌else◌}
use Rattle.std.specs.List.{list_any, list_all}
use Rattle.std.specs.Str.Parse.{AllDigits, IsNumeral}
use Rattle.std.proofs.lemmas.Fmt.{decimal_is_IsNumeral}
use Rattle.std.proofs.lemmas.Str.Parse.{digit_from_value}
use Rattle.std.specs.Str.{bytes_eq}
use Rattle.sig_base.specs.Traces.{has_64_bits}
use Rattle.sig_c.specs.Names.{reserved, begins_with_letter, is_free, AreNames, IsPlace, IsExpression}
use Rattle.sig_c.proofs.Numbers.{is_digit_of, small_of, large_of, wider}
use Rattle.sig_c.proofs.FreeNames.{free_at}
use Rattle.sig_c.proofs.Expressions.{free_variable}
use Rattle.sig_c.specs.SmallC.{Name, Place, Variable, Field, Result, Expression, Number, Get, Not, Binary, Choose, Operator, Plus, Minus, Times, Divide, Modulo, Less, LessEqual, Greater, GreaterEqual, Equal, NotEqual, And, Or}
use Rattle.sig_c.specs.Tokens.{Token, Word, Sign, Mode, Between, InWord, InRun, Scanned, scanned, begin, scan, scan_next, scan_byte, is_slash, in_run, InComment, is_letter, is_digit, is_word_byte, is_run_byte}
use Rattle.sig_c.specs.Written.{Scope, name_at, operator_text, place_tokens, operand_tokens, expression_tokens, in_parentheses, number_tokens, size_tokens}
use Rattle.sig_c.specs.Layout.{size_text, number_text, place_text, operand_bytes, expression_text, IsDenied, IsLaid}
use Rattle.sig_c.proofs.Scanning.{Makes, prepended, join, scans, more_word}

-- a piece behind tokens that were made before
pub then_makes : (before : List Token) (mode : Mode) (bytes : List ℕ) (after : Mode) (tokens : List Token) → Makes mode bytes after tokens
    → scan bytes (record { mode = mode; tokens = before }) ≡ scanned after (before ++ tokens)
then_makes before mode bytes after tokens makes =
    ap (λ (l : List Token). scan bytes (record { mode = mode; tokens = l })) (sym (append-nil before)) ∙ scans before bytes (record { mode = mode; tokens = [] }) ∙ ap (prepended before) makes

-- ---- bytes that end a word

-- this byte ends what stands before it, and makes these tokens
pub record Closes (byte : ℕ) (after : List Token) : Type 0 where
  pub word : (text : List ℕ) → scan_byte (InWord text) [] byte ≡ scanned Between (Word text ∷ after)
  pub alone : scan_byte Between [] byte ≡ scanned Between after

pub blank : Closes 32 []
blank = record { word = λ text. refl; alone = refl }

pub comma : Closes 44 (Sign (codes ",") ∷ [])
comma = record { word = λ text. refl; alone = refl }

pub semicolon : Closes 59 (Sign (codes ";") ∷ [])
semicolon = record { word = λ text. refl; alone = refl }

pub opening : Closes 40 (Sign (codes "(") ∷ [])
opening = record { word = λ text. refl; alone = refl }

pub closing : Closes 41 (Sign (codes ")") ∷ [])
closing = record { word = λ text. refl; alone = refl }

-- one or more letters, digits and `_`
abbrev pub IsWordText : List ℕ → Type 0
IsWordText [] = ⊥
IsWordText (byte ∷ bytes) = list_all is_word_byte (byte ∷ bytes) ≡ true

-- These bytes, with a byte behind them that ends a word, make these tokens.
abbrev pub Piece : List ℕ → List Token → Type 0
Piece bytes tokens = (byte : ℕ) (last : List Token) → Closes byte last → (rest : List ℕ) (mode : Mode) (others : List Token) → Makes Between rest mode others
    → Makes Between (bytes ++ byte ∷ rest) mode (tokens ++ (last ++ others))

word_begins : (byte : ℕ) → is_word_byte byte ≡ true → (tokens : List Token) → begin tokens byte ≡ scanned (InWord (byte ∷ [])) tokens
word_begins byte is tokens =
    let one : nat_eq byte 10 ≡ false = grind (arith, is) in
    let two : nat_eq byte 32 ≡ false = grind (arith, is) in
    rw one (rw two (rw is refl))

-- the end of a word
word_ends : (text : List ℕ) (byte : ℕ) (last : List Token) → Closes byte last → (rest : List ℕ) (mode : Mode) (others : List Token) → Makes Between rest mode others
    → Makes (InWord text) (byte ∷ rest) mode (Word text ∷ (last ++ others))
word_ends text byte last closes rest mode others makes = ap (scan_next (scan rest)) (closes.word text) ∙ then_makes (Word text ∷ last) Between rest mode others makes

-- a word behind its first byte
word_goes : (first : ℕ) (bytes : List ℕ) → list_all is_word_byte bytes ≡ true → (byte : ℕ) (last : List Token) → Closes byte last → (rest : List ℕ) (mode : Mode) (others : List Token)
    → Makes Between rest mode others → Makes (InWord (first ∷ [])) (bytes ++ byte ∷ rest) mode (Word (first ∷ bytes) ∷ (last ++ others))
word_goes first bytes all byte last closes rest mode others makes =
    join bytes (byte ∷ rest) (InWord (first ∷ [])) (InWord (first ∷ bytes)) mode [] (Word (first ∷ bytes) ∷ (last ++ others)) (more_word bytes (first ∷ []) all)
    (word_ends (first ∷ bytes) byte last closes rest mode others makes)

pub word_piece : (text : List ℕ) → IsWordText text → Piece text (Word text ∷ [])
word_piece [] is byte last closes rest mode others makes = absurd is
word_piece (first ∷ bytes) is byte last closes rest mode others makes =
    let parts = and_parts (is_word_byte first) (list_all is_word_byte bytes) is in
    ap (scan_next (scan (bytes ++ byte ∷ rest))) (word_begins first parts.0 []) ∙ word_goes first bytes parts.1 byte last closes rest mode others makes

-- ---- a word behind a run of punctuators

-- a run that the first byte of a word ends
pub record IsRun (run : List ℕ) : Type 0 where
  pub makes : Makes Between run (InRun run) []
  pub no_slash : is_slash run ≡ false

-- a byte of a word is none of the others
is_none : (first : ℕ) → is_word_byte first ≡ true → (byte : ℕ) → is_word_byte byte ≡ false → nat_eq first byte ≡ false
is_none first is byte other = elim (eqb_tells first byte) [
  | inl e ↦ absurd (let f : true ≡ false = sym is ∙ ap is_word_byte e.1 ∙ other in cc f)
  | inr e ↦ e.0
]

no_run_byte : (first : ℕ) → is_word_byte first ≡ true → is_run_byte first ≡ false
no_run_byte first is =
    rw (is_none first is 33 refl) (rw (is_none first is 37 refl) (rw (is_none first is 38 refl) (rw (is_none first is 42 refl) (rw (is_none first is 43 refl) (rw (is_none first is 45 refl)
    (rw (is_none first is 47 refl) (rw (is_none first is 60 refl) (rw (is_none first is 61 refl) (rw (is_none first is 62 refl) (rw (is_none first is 124 refl) refl))))))))))

run_then : (run : List ℕ) → is_slash run ≡ false → (first : ℕ) → is_word_byte first ≡ true → scan_byte (InRun run) [] first ≡ scanned (InWord (first ∷ [])) (Sign run ∷ [])
run_then run no_slash first is =
    ap (λ (b : Bool). if b && nat_eq first 42 then scanned (InComment 32) [] else in_run [] run first) no_slash
    ∙ ap (λ (b : Bool). if b then scanned (InRun (run ++ first ∷ [])) [] else begin (Sign run ∷ []) first) (no_run_byte first is)
    ∙ word_begins first is (Sign run ∷ [])

pub run_piece : (run text : List ℕ) → IsRun run → IsWordText text → Piece (run ++ text) (Sign run ∷ Word text ∷ [])
run_piece run [] is_run is byte last closes rest mode others makes = absurd is
run_piece run (first ∷ bytes) is_run is byte last closes rest mode others makes =
    let parts = and_parts (is_word_byte first) (list_all is_word_byte bytes) is in
    let tail = bytes ++ byte ∷ rest in
    ap (λ (l : List ℕ). scan l (record { mode = Between; tokens = [] })) (append_assoc run (first ∷ bytes) (byte ∷ rest))
    ∙ join run (first ∷ tail) Between (InRun run) mode [] (Sign run ∷ Word (first ∷ bytes) ∷ (last ++ others)) is_run.makes
    (ap (scan_next (scan tail)) (run_then run is_run.no_slash first parts.0)
    ∙ then_makes (Sign run ∷ []) (InWord (first ∷ [])) tail mode (Word (first ∷ bytes) ∷ (last ++ others)) (word_goes first bytes parts.1 byte last closes rest mode others makes))

or_true : (a b c : Bool) → b ≡ true → (a || (b || c)) ≡ true
or_true true b c e = refl
or_true false true c e = refl
or_true false false c e = absurd (let f : false ≡ true = e in cc f)

-- ---- numbers

-- digits are bytes of a word
digits_word : (digits : List ℕ) → AllDigits 10 digits → list_all is_word_byte digits ≡ true
digits_word [] all = refl
digits_word (digit ∷ digits) all = let range = digit_from_value digit all.0 in rw (of_digit digit range.0 range.1) (digits_word digits all.1)
  where
    of_digit : (byte : ℕ) → 48 ≤ byte → byte ≤ 57 → is_word_byte byte ≡ true
    of_digit byte low high = let e = is_digit_of byte low high in or_true (is_letter byte) (is_digit byte) (nat_eq byte 95) e

pub decimal_word : (n : ℕ) → n < 2 ^ 64 → IsWordText (decimal n)
decimal_word n small = by (decimal n) (decimal_is_IsNumeral n small).0
  where
    by : (text : List ℕ) → IsNumeral 10 text → IsWordText text
    by [] numeral = absurd (omega (arith, numeral.0))
    by (digit ∷ digits) numeral = digits_word (digit ∷ digits) numeral.1

-- a byte that ends what stands before it, by itself
pub alone_piece : (byte : ℕ) (last : List Token) → Closes byte last → (rest : List ℕ) (mode : Mode) (others : List Token) → Makes Between rest mode others
    → Makes Between (byte ∷ rest) mode (last ++ others)
alone_piece byte last closes rest mode others makes = ap (scan_next (scan rest)) closes.alone ∙ then_makes last Between rest mode others makes

-- n) behind INT64_C(
macro_end : (n : ℕ) → n < 2 ^ 64 → (byte : ℕ) (last : List Token) → Closes byte last → (rest : List ℕ) (mode : Mode) (others : List Token) → Makes Between rest mode others
    → Makes Between ((decimal n ++ codes ")") ++ byte ∷ rest) mode (Word (decimal n) ∷ Sign (codes ")") ∷ (last ++ others))
macro_end n small byte last closes rest mode others makes =
    ap (λ (l : List ℕ). scan l (record { mode = Between; tokens = [] })) (append_assoc (decimal n) (codes ")") (byte ∷ rest))
    ∙ word_piece (decimal n) (decimal_word n small) 41 (Sign (codes ")") ∷ []) closing (byte ∷ rest) mode (last ++ others) (alone_piece byte last closes rest mode others makes)

minus : IsRun (codes "-")
minus = record { makes = refl; no_slash = refl }

-- what is behind a piece that has two parts
abbrev at_start : List ℕ → Option Scanned
at_start l = scan l (record { mode = Between; tokens = [] })

size_piece : (n : ℕ) → n < 2 ^ 63 → Piece (size_text n) (size_tokens false n)
size_piece n small byte last closes rest mode others makes = elim (cases_lt n (2 ^ 31)) [
  | inl lt ↦ rw (small_of n lt) (word_piece (decimal n) (decimal_word n (wider n small)) byte last closes rest mode others makes)
  | inr past ↦ rw (large_of n past)
      (word_piece (codes "INT64_C") refl 40 (Sign (codes "(") ∷ []) opening ((decimal n ++ codes ")") ++ byte ∷ rest) mode (Word (decimal n) ∷ Sign (codes ")") ∷ (last ++ others))
      (macro_end n (wider n small) byte last closes rest mode others makes))
]

minus_piece : (n : ℕ) → n < 2 ^ 63 → Piece (codes "-" ++ size_text n) (size_tokens true n)
minus_piece n small byte last closes rest mode others makes = elim (cases_lt n (2 ^ 31)) [
  | inl lt ↦ rw (small_of n lt) (run_piece (codes "-") (decimal n) minus (decimal_word n (wider n small)) byte last closes rest mode others makes)
  | inr past ↦ rw (large_of n past)
      (run_piece (codes "-") (codes "INT64_C") minus refl 40 (Sign (codes "(") ∷ []) opening ((decimal n ++ codes ")") ++ byte ∷ rest) mode (Word (decimal n) ∷ Sign (codes ")") ∷ (last ++ others))
      (macro_end n (wider n small) byte last closes rest mode others makes))
]

below : (n : ℕ) → has_64_bits (pos n) ≡ true → n < 2 ^ 63
below n small = grind (arith, small)

below_next : (n : ℕ) → has_64_bits (negsuc n) ≡ true → n ≢ 2 ^ 63 - 1 → n + 1 < 2 ^ 63
below_next n small differ = grind (arith, small, differ)

pub number_piece : (v : ℤ) → has_64_bits v ≡ true → Piece (number_text v) (number_tokens v)
number_piece (pos n) small byte last closes rest mode others makes = elim (eqb_tells n (2 ^ 63 - 1)) [
  | inl e ↦ rw e.0 (word_piece (codes "INT64_MAX") refl byte last closes rest mode others makes)
  | inr e ↦ rw e.0 (size_piece n (below n small) byte last closes rest mode others makes)
]
number_piece (negsuc n) small byte last closes rest mode others makes = elim (eqb_tells n (2 ^ 63 - 1)) [
  | inl e ↦ rw e.0 (word_piece (codes "INT64_MIN") refl byte last closes rest mode others makes)
  | inr e ↦ rw e.0 (minus_piece (n + 1) (below_next n small e.1) byte last closes rest mode others makes)
]

-- ---- places

-- a free name is a word
pub name_word : (name : Name) → is_free name ≡ true → IsWordText name
name_word [] free = absurd (let f : false ≡ true = free in cc f)
name_word (byte ∷ bytes) free =
    let letters = (and_parts (begins_with_letter (byte ∷ bytes)) (nat_le (length (byte ∷ bytes)) 63 && not (list_any (bytes_eq (byte ∷ bytes)) reserved)) free).0 in
    let parts = and_parts (is_letter byte) (list_all is_word_byte bytes) letters in
    rw parts.0 parts.1

pub variable_piece : (scope : Scope) → AreNames scope → (x : ℕ) → x < length scope.variables → Piece (name_at scope.variables x) (Word (name_at scope.variables x) ∷ [])
variable_piece scope names x within = word_piece (name_at scope.variables x) (name_word (name_at scope.variables x) (free_variable scope names x within))

-- a word behind bytes that end with a run of punctuators
pub behind_run : (bytes run : List ℕ) (before : List Token) (text : List ℕ) → Makes Between bytes (InRun run) before → is_slash run ≡ false → IsWordText text
    → (byte : ℕ) (last : List Token) → Closes byte last → (rest : List ℕ) (mode : Mode) (others : List Token) → Makes Between rest mode others
    → Makes Between (bytes ++ (text ++ byte ∷ rest)) mode (before ++ Sign run ∷ Word text ∷ (last ++ others))
behind_run bytes run before [] begun no_slash is byte last closes rest mode others makes = absurd is
behind_run bytes run before (first ∷ text) begun no_slash is byte last closes rest mode others makes =
    let parts = and_parts (is_word_byte first) (list_all is_word_byte text) is in
    let tail = text ++ byte ∷ rest in
    join bytes (first ∷ tail) Between (InRun run) mode before (Sign run ∷ Word (first ∷ text) ∷ (last ++ others)) begun
    (ap (scan_next (scan tail)) (run_then run no_slash first parts.0)
    ∙ then_makes (Sign run ∷ []) (InWord (first ∷ [])) tail mode (Word (first ∷ text) ∷ (last ++ others)) (word_goes first text parts.1 byte last closes rest mode others makes))

-- ---- expressions

not_most : (n : ℕ) → n < 2 ^ 31 → nat_eq n (2 ^ 63 - 1) ≡ false
not_most n small = grind (arith, small)

sign_piece : (op : Operator) (rest : List ℕ) (mode : Mode) (others : List Token) → Makes Between rest mode others → Makes Between (operator_text op ++ 32 ∷ rest) mode (Sign (operator_text op) ∷ others)
sign_piece Plus rest mode others makes = then_makes (Sign (codes "+") ∷ []) Between rest mode others makes
sign_piece Minus rest mode others makes = then_makes (Sign (codes "-") ∷ []) Between rest mode others makes
sign_piece Times rest mode others makes = then_makes (Sign (codes "*") ∷ []) Between rest mode others makes
sign_piece Divide rest mode others makes = then_makes (Sign (codes "/") ∷ []) Between rest mode others makes
sign_piece Modulo rest mode others makes = then_makes (Sign (codes "%") ∷ []) Between rest mode others makes
sign_piece Less rest mode others makes = then_makes (Sign (codes "<") ∷ []) Between rest mode others makes
sign_piece LessEqual rest mode others makes = then_makes (Sign (codes "<=") ∷ []) Between rest mode others makes
sign_piece Greater rest mode others makes = then_makes (Sign (codes ">") ∷ []) Between rest mode others makes
sign_piece GreaterEqual rest mode others makes = then_makes (Sign (codes ">=") ∷ []) Between rest mode others makes
sign_piece Equal rest mode others makes = then_makes (Sign (codes "==") ∷ []) Between rest mode others makes
sign_piece NotEqual rest mode others makes = then_makes (Sign (codes "!=") ∷ []) Between rest mode others makes
sign_piece And rest mode others makes = then_makes (Sign (codes "&&") ∷ []) Between rest mode others makes
sign_piece Or rest mode others makes = then_makes (Sign (codes "||") ∷ []) Between rest mode others makes

module _ (scope : Scope) (names : AreNames scope) where
  pub place_piece : (x : Place) → IsPlace scope x → Piece (place_text scope x) (place_tokens scope x)
  place_piece (Variable x) within byte last closes rest mode others makes = variable_piece scope names x within byte last closes rest mode others makes
  place_piece (Field n) within byte last closes rest mode others makes =
      behind_run (codes "state->") (codes "->") (Word (codes "state") ∷ []) (name_at scope.fields n) refl refl (name_word (name_at scope.fields n) (free_at scope.fields names.fields n within))
      byte last closes rest mode others makes
  place_piece Result within byte last closes rest mode others makes = behind_run (codes "*") (codes "*") [] (codes "result") refl refl refl byte last closes rest mode others makes

  denied_piece : (e : Expression) → IsDenied e → IsExpression scope e → Piece (codes "!" ++ operand_bytes scope e) (Sign (codes "!") ∷ operand_tokens scope e)
  denied_piece (Get (Variable x)) may is byte last closes rest mode others makes =
      behind_run (codes "!") (codes "!") [] (name_at scope.variables x) refl refl (name_word (name_at scope.variables x) (free_variable scope names x is)) byte last closes rest mode others makes
  denied_piece (Number (pos n)) may is byte last closes rest mode others makes =
      rw (not_most n may) (rw (small_of n may) (behind_run (codes "!") (codes "!") [] (decimal n) refl refl (decimal_word n (omega (arith, may))) byte last closes rest mode others makes))
  denied_piece (Number (negsuc n)) may is byte last closes rest mode others makes = absurd may
  denied_piece (Get (Field n)) may is byte last closes rest mode others makes = absurd may
  denied_piece (Get Result) may is byte last closes rest mode others makes = absurd may
  denied_piece (Not e) may is byte last closes rest mode others makes = absurd may
  denied_piece (Binary op a b) may is byte last closes rest mode others makes = absurd may
  denied_piece (Choose t a b) may is byte last closes rest mode others makes = absurd may

  -- two operands with an operator, and three with ? and :
  binary_piece : (op : Operator) (a b : Expression) → Piece (operand_bytes scope a) (operand_tokens scope a) → Piece (operand_bytes scope b) (operand_tokens scope b)
      → Piece (operand_bytes scope a ++ (codes " " ++ (operator_text op ++ (codes " " ++ operand_bytes scope b)))) (operand_tokens scope a ++ Sign (operator_text op) ∷ operand_tokens scope b)
  binary_piece op a b first second byte last closes rest mode others makes =
      let right = second byte last closes rest mode others makes in
      let both = sign_piece op (operand_bytes scope b ++ byte ∷ rest) mode (operand_tokens scope b ++ (last ++ others)) right in
      let all = first 32 [] blank (operator_text op ++ 32 ∷ (operand_bytes scope b ++ byte ∷ rest)) mode (Sign (operator_text op) ∷ (operand_tokens scope b ++ (last ++ others))) both in
      ap (λ (l : List ℕ). scan l (record { mode = Between; tokens = [] }))
      (append_assoc (operand_bytes scope a) (32 ∷ (operator_text op ++ 32 ∷ operand_bytes scope b)) (byte ∷ rest)
      ∙ ap (λ (l : List ℕ). operand_bytes scope a ++ 32 ∷ l) (append_assoc (operator_text op) (32 ∷ operand_bytes scope b) (byte ∷ rest)))
      ∙ all ∙ ap (scanned mode) (sym (append_assoc (operand_tokens scope a) (Sign (operator_text op) ∷ operand_tokens scope b) (last ++ others)))

  choice_piece : (t a b : Expression) → Piece (operand_bytes scope t) (operand_tokens scope t) → Piece (operand_bytes scope a) (operand_tokens scope a) → Piece (operand_bytes scope b) (operand_tokens scope b)
      → Piece (operand_bytes scope t ++ (codes " ? " ++ (operand_bytes scope a ++ (codes " : " ++ operand_bytes scope b))))
      (operand_tokens scope t ++ Sign (codes "?") ∷ (operand_tokens scope a ++ Sign (codes ":") ∷ operand_tokens scope b))
  choice_piece t a b test first second byte last closes rest mode others makes =
      let right = second byte last closes rest mode others makes in
      let colon = then_makes (Sign (codes ":") ∷ []) Between (operand_bytes scope b ++ byte ∷ rest) mode (operand_tokens scope b ++ (last ++ others)) right in
      let middle = first 32 [] blank (codes ": " ++ (operand_bytes scope b ++ byte ∷ rest)) mode (Sign (codes ":") ∷ (operand_tokens scope b ++ (last ++ others))) colon in
      let question = then_makes (Sign (codes "?") ∷ []) Between (operand_bytes scope a ++ (codes " : " ++ (operand_bytes scope b ++ byte ∷ rest))) mode
      (operand_tokens scope a ++ Sign (codes ":") ∷ (operand_tokens scope b ++ (last ++ others))) middle in
      let all = test 32 [] blank (codes "? " ++ (operand_bytes scope a ++ (codes " : " ++ (operand_bytes scope b ++ byte ∷ rest)))) mode
      (Sign (codes "?") ∷ (operand_tokens scope a ++ Sign (codes ":") ∷ (operand_tokens scope b ++ (last ++ others)))) question in
      ap (λ (l : List ℕ). scan l (record { mode = Between; tokens = [] }))
      (append_assoc (operand_bytes scope t) (codes " ? " ++ (operand_bytes scope a ++ (codes " : " ++ operand_bytes scope b))) (byte ∷ rest)
      ∙ ap (λ (l : List ℕ). operand_bytes scope t ++ (codes " ? " ++ l)) (append_assoc (operand_bytes scope a) (codes " : " ++ operand_bytes scope b) (byte ∷ rest)))
      ∙ all ∙ ap (scanned mode) (sym (append_assoc (operand_tokens scope t) (Sign (codes "?") ∷ (operand_tokens scope a ++ Sign (codes ":") ∷ operand_tokens scope b)) (last ++ others)
      ∙ ap (λ (l : List Token). operand_tokens scope t ++ Sign (codes "?") ∷ l) (append_assoc (operand_tokens scope a) (Sign (codes ":") ∷ operand_tokens scope b) (last ++ others))))

  -- a piece in parentheses
  parentheses_piece : (bytes : List ℕ) (tokens : List Token) → Piece bytes tokens → Piece (codes "(" ++ (bytes ++ codes ")")) (in_parentheses tokens)
  parentheses_piece bytes tokens piece byte last closes rest mode others makes =
      let close = alone_piece byte last closes rest mode others makes in
      let all = piece 41 (Sign (codes ")") ∷ []) closing (byte ∷ rest) mode (last ++ others) close in
      then_makes (Sign (codes "(") ∷ []) Between ((bytes ++ codes ")") ++ byte ∷ rest) mode (tokens ++ Sign (codes ")") ∷ (last ++ others))
      (ap (λ (l : List ℕ). scan l (record { mode = Between; tokens = [] })) (append_assoc bytes (codes ")") (byte ∷ rest)) ∙ all)
      ∙ ap (λ (l : List Token). scanned mode (Sign (codes "(") ∷ l)) (sym (append_assoc tokens (Sign (codes ")") ∷ []) (last ++ others)))

  -- the same bytes
  of_bytes : (bytes same : List ℕ) (tokens : List Token) → same ≡ bytes → Piece bytes tokens → Piece same tokens
  of_bytes bytes same tokens e piece byte last closes rest mode others makes = ap (λ (l : List ℕ). scan (l ++ byte ∷ rest) (record { mode = Between; tokens = [] })) e ∙ piece byte last closes rest mode others makes

  close_binary : (op : Operator) (a b : Expression)
      → operand_bytes scope a ++ (codes " " ++ (operator_text op ++ (codes " " ++ (operand_bytes scope b ++ codes ")"))))
      ≡ (operand_bytes scope a ++ (codes " " ++ (operator_text op ++ (codes " " ++ operand_bytes scope b)))) ++ codes ")"
  close_binary op a b =
      sym (append_assoc (operand_bytes scope a) (codes " " ++ (operator_text op ++ (codes " " ++ operand_bytes scope b))) (codes ")")
      ∙ ap (λ (l : List ℕ). operand_bytes scope a ++ (codes " " ++ l)) (append_assoc (operator_text op) (codes " " ++ operand_bytes scope b) (codes ")")))

  close_choice : (t a b : Expression)
      → operand_bytes scope t ++ (codes " ? " ++ (operand_bytes scope a ++ (codes " : " ++ (operand_bytes scope b ++ codes ")"))))
      ≡ (operand_bytes scope t ++ (codes " ? " ++ (operand_bytes scope a ++ (codes " : " ++ operand_bytes scope b)))) ++ codes ")"
  close_choice t a b =
      sym (append_assoc (operand_bytes scope t) (codes " ? " ++ (operand_bytes scope a ++ (codes " : " ++ operand_bytes scope b))) (codes ")")
      ∙ ap (λ (l : List ℕ). operand_bytes scope t ++ (codes " ? " ++ l)) (append_assoc (operand_bytes scope a) (codes " : " ++ operand_bytes scope b) (codes ")")))

  pub operand_piece : (e : Expression) → IsLaid e → IsExpression scope e → Piece (operand_bytes scope e) (operand_tokens scope e)
  operand_piece (Number v) laid is = number_piece v is
  operand_piece (Get x) laid is = place_piece x is
  operand_piece (Not e) laid is = denied_piece e laid is
  operand_piece (Binary op a b) laid is =
      of_bytes (codes "(" ++ ((operand_bytes scope a ++ (codes " " ++ (operator_text op ++ (codes " " ++ operand_bytes scope b)))) ++ codes ")")) (operand_bytes scope (Binary op a b)) (in_parentheses (operand_tokens scope a ++ Sign (operator_text op) ∷ operand_tokens scope b)) (ap (λ (l : List ℕ). codes "(" ++ l) (close_binary op a b))
      (parentheses_piece (operand_bytes scope a ++ (codes " " ++ (operator_text op ++ (codes " " ++ operand_bytes scope b)))) (operand_tokens scope a ++ Sign (operator_text op) ∷ operand_tokens scope b) (binary_piece op a b (operand_piece a laid.0 is.0) (operand_piece b laid.1 is.1)))
  operand_piece (Choose t a b) laid is =
      of_bytes (codes "(" ++ ((operand_bytes scope t ++ (codes " ? " ++ (operand_bytes scope a ++ (codes " : " ++ operand_bytes scope b)))) ++ codes ")")) (operand_bytes scope (Choose t a b)) (in_parentheses (operand_tokens scope t ++ Sign (codes "?") ∷ (operand_tokens scope a ++ Sign (codes ":") ∷ operand_tokens scope b))) (ap (λ (l : List ℕ). codes "(" ++ l) (close_choice t a b))
      (parentheses_piece (operand_bytes scope t ++ (codes " ? " ++ (operand_bytes scope a ++ (codes " : " ++ operand_bytes scope b)))) (operand_tokens scope t ++ Sign (codes "?") ∷ (operand_tokens scope a ++ Sign (codes ":") ∷ operand_tokens scope b)) (choice_piece t a b (operand_piece t laid.0 is.0) (operand_piece a laid.1 is.1) (operand_piece b laid.2 is.2)))

  pub expression_piece : (e : Expression) → IsLaid e → IsExpression scope e → Piece (expression_text scope e) (expression_tokens scope e)
  expression_piece (Number v) laid is = number_piece v is
  expression_piece (Get x) laid is = place_piece x is
  expression_piece (Not e) laid is = denied_piece e laid is
  expression_piece (Binary op a b) laid is = binary_piece op a b (operand_piece a laid.0 is.0) (operand_piece b laid.1 is.1)
  expression_piece (Choose t a b) laid is = choice_piece t a b (operand_piece t laid.0 is.0) (operand_piece a laid.1 is.1) (operand_piece b laid.2 is.2)
