-- The tokens of a text, by the longest pieces that it falls into.
use Rattle.std.specs.Prelude.{◌≡◌, ◌+◌, ◌-◌, ◌<◌, ◌≤◌, ◌⊎◌, ◌∷◌, ◌++◌}
use Rattle.sig_lex.specs.Prelude.{ℕ, true, false, List, [], length, take, drop, not, slice_index, Option, None, Some, option_to_list, option_map, prefix_len, is_ascii_alphabetic, is_ascii_digit, digits_value, Span}
use Rattle.sig_lex.specs.declared.answer.LexAnswer.{LexAnswer}
use Rattle.sig_lex.specs.declared.answer.LexAnswer.TheVariants.{BadByte, OpenComment, LongNumber, OutOfMemory}
use Rattle.sig_lex.specs.declared.token.Token.{Token}
use Rattle.sig_lex.specs.declared.token.TokenKind.{TokenKind}
use Rattle.sig_lex.specs.declared.token.TokenKind.TheVariants.{Name, Word, Number, Label, Mark, Last}
use Rattle.sig_lex.specs.Bytes.{first, is_blank, is_name_byte, is_percent, is_quote, is_label_byte}
use Rattle.sig_lex.specs.inner.Places.{place_after}
use Rattle.sig_lex.specs.Tables.{IsWord, IsMark}

-- the greatest value of a number, 2 ^ 63 - 1
abbrev pub greatest_number : ℕ
greatest_number = 9223372036854775807

-- The first n of the bytes are a name or a reserved word: a letter, and as many letters, digits and
-- '_' as follow it.
pub record IsNameOrWord (bytes : List ℕ) (n : ℕ) : Type 0 where
  pub letter : is_ascii_alphabetic (first bytes) ≡ true
  pub whole : n ≡ prefix_len is_name_byte bytes

-- they are as many digits as there are
pub record IsDigits (bytes : List ℕ) (n : ℕ) : Type 0 where
  pub digit : is_ascii_digit (first bytes) ≡ true
  pub whole : n ≡ prefix_len is_ascii_digit bytes

-- they are a quote, as many label bytes as follow it, and a quote
pub record IsLabel (bytes : List ℕ) (n : ℕ) : Type 0 where
  pub opened : is_quote (first bytes) ≡ true
  pub whole : n ≡ prefix_len is_label_byte (drop 1 bytes) + 2
  pub closed : is_quote (slice_index bytes (n - 1)) ≡ true

-- they are a mark, and no more of the bytes are one
pub record IsLongestMark (bytes : List ℕ) (n : ℕ) : Type 0 where
  pub within : n ≤ length bytes
  pub is_mark : IsMark (take n bytes)
  pub longest : (k : ℕ) → n < k → k ≤ length bytes → ¬ IsMark (take k bytes)

-- they are a '%', all that follows it up to the next, and that one
pub record IsComment (bytes : List ℕ) (n : ℕ) : Type 0 where
  pub opened : is_percent (first bytes) ≡ true
  pub whole : n ≡ prefix_len (λ b. not (is_percent b)) (drop 1 bytes) + 2
  pub closed : n ≤ length bytes

-- The first n of the bytes are a token of this kind.
abbrev pub IsLexeme : TokenKind → List ℕ → ℕ → Type 0
IsLexeme Name bytes n = IsNameOrWord bytes n × ¬ IsWord (take n bytes)
IsLexeme Word bytes n = IsNameOrWord bytes n × IsWord (take n bytes)
IsLexeme (Number value) bytes n = IsDigits bytes n × (value ≡ digits_value 10 (take n bytes)) × (value ≤ greatest_number)
IsLexeme Label bytes n = IsLabel bytes n
IsLexeme Mark bytes n = IsLongestMark bytes n
IsLexeme Last bytes n = ⊥

-- They only separate: one blank or one comment.
abbrev pub Separates : List ℕ → ℕ → Type 0
Separates bytes n = ((is_blank (first bytes) ≡ true) × (n ≡ 1)) ⊎ IsComment bytes n

-- The first n of the bytes are a token of a kind, or, with none, they separate.
abbrev pub IsPiece : Option TokenKind → List ℕ → ℕ → Type 0
IsPiece (Some kind) bytes n = IsLexeme kind bytes n
IsPiece None bytes n = Separates bytes n

-- a piece of a text: what it is, and of how many bytes
pub record Piece : Type 0 where
  pub kind : Option TokenKind
  pub size : ℕ

-- The pieces stand in the text one after another, from the byte i up to the byte j.
abbrev pub Stand : List ℕ → ℕ → List Piece → ℕ → Type 0
Stand text i [] j = i ≡ j
Stand text i (p ∷ pieces) j = IsPiece p.kind (drop i text) p.size × Stand text (i + p.size) pieces j

-- the token of this kind and of n bytes whose first, the byte i of the text, has this place
abbrev pub token_of : Span → ℕ → TokenKind → ℕ → Token
token_of place i kind n = record { kind = kind; start = i; stop = i + n; at = place }

abbrev pub token_at : List ℕ → ℕ → TokenKind → ℕ → Token
token_at text i kind n = token_of (place_after (take i text)) i kind n

-- the tokens among the pieces, from the byte i on
abbrev pub tokens_among : List ℕ → ℕ → List Piece → List Token
tokens_among text i [] = []
tokens_among text i (p ∷ pieces) = option_to_list (option_map (λ kind. token_at text i kind p.size) p.kind) ++ tokens_among text (i + p.size) pieces

-- The tokens of a text: those among the pieces that the whole of it falls into, and the last.
abbrev pub AreTokens : List ℕ → List Token → Type 0
AreTokens text tokens = (pieces : List Piece) × Stand text 0 pieces (length text)
    × (tokens ≡ tokens_among text 0 pieces ++ token_at text (length text) Last 0 ∷ [])

-- a '%' with none after it
pub record IsOpenComment (bytes : List ℕ) : Type 0 where
  pub opened : is_percent (first bytes) ≡ true
  pub open_to_the_end : prefix_len (λ b. not (is_percent b)) (drop 1 bytes) ≡ length (drop 1 bytes)

-- a quote, and label bytes up to the end or to a byte that is no quote
pub record IsOpenLabel (bytes : List ℕ) : Type 0 where
  pub opened : is_quote (first bytes) ≡ true
  pub not_closed : is_quote (slice_index bytes (prefix_len is_label_byte (drop 1 bytes) + 1)) ≡ false

-- digits of a value that is too great
pub record IsLongNumber (bytes : List ℕ) : Type 0 where
  pub digit : is_ascii_digit (first bytes) ≡ true
  pub too_great : greatest_number < digits_value 10 (take (prefix_len is_ascii_digit bytes) bytes)

-- a byte that begins no blank, comment, name, number or label
pub record IsOther (bytes : List ℕ) : Type 0 where
  pub there : 0 < length bytes
  pub no_blank : is_blank (first bytes) ≡ false
  pub no_percent : is_percent (first bytes) ≡ false
  pub no_letter : is_ascii_alphabetic (first bytes) ≡ false
  pub no_digit : is_ascii_digit (first bytes) ≡ false
  pub no_quote : is_quote (first bytes) ≡ false

-- a byte that begins none of these and no mark
pub record IsStray (bytes : List ℕ) : Type 0 where
  pub other : IsOther bytes
  pub no_mark : (k : ℕ) → k ≤ length bytes → ¬ IsMark (take k bytes)

-- The bytes, of which the first has this place, begin with this fault.
abbrev pub BeginsWithFault : LexAnswer → Span → List ℕ → Type 0
BeginsWithFault (BadByte at) place bytes = (at ≡ place) × (IsStray bytes ⊎ IsOpenLabel bytes)
BeginsWithFault (OpenComment at) place bytes = (at ≡ place) × IsOpenComment bytes
BeginsWithFault (LongNumber at) place bytes = (at ≡ place) × IsLongNumber bytes
BeginsWithFault OutOfMemory place bytes = ⊥

-- The first fault of a text: pieces stand before it, and the rest of the text begins with it.
abbrev pub IsFirstFault : List ℕ → LexAnswer → Type 0
IsFirstFault text fault = (pieces : List Piece) × (i : ℕ) × Stand text 0 pieces i
    × BeginsWithFault fault (place_after (take i text)) (drop i text)
