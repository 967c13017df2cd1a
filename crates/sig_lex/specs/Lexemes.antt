-- Tokens by their kinds and their texts, their places aside.
use Rattle.std.specs.Prelude.{◌≡◌, ◌<◌, ◌≤◌, ◌⊎◌, ◌∷◌, ◌++◌}
use Rattle.sig_lex.specs.Prelude.{ℕ, true, List, [], length, map, slice_range, AllPass, is_ascii_alphabetic, is_ascii_digit, digits_value}
use Rattle.sig_lex.specs.declared.token.Token.{Token}
use Rattle.sig_lex.specs.declared.token.TokenKind.{TokenKind}
use Rattle.sig_lex.specs.declared.token.TokenKind.TheVariants.{Name, Word, Number, Label, Mark, Last}
use Rattle.sig_lex.specs.Bytes.{first, is_blank, is_name_byte, is_label_byte}
use Rattle.sig_lex.specs.Tables.{IsWord, IsMark}
use Rattle.sig_lex.specs.Tokens.{greatest_number}

-- a kind of token, and the bytes of one
pub record Lexeme : Type 0 where
  pub kind : TokenKind
  pub text : List ℕ

-- the bytes of a token
abbrev pub text_of : List ℕ → Token → List ℕ
text_of text t = slice_range text t.start t.stop

abbrev pub lexeme_of : List ℕ → Token → Lexeme
lexeme_of text t = record { kind = t.kind; text = text_of text t }

abbrev pub lexemes : List ℕ → List Token → List Lexeme
lexemes text tokens = map (lexeme_of text) tokens

-- the lexeme of the end of a text
abbrev pub the_end : Lexeme
the_end = record { kind = Last; text = [] }

-- The bytes are a letter, then letters, digits and '_'.
pub record IsNameText (bytes : List ℕ) : Type 0 where
  pub letter : is_ascii_alphabetic (first bytes) ≡ true
  pub name_bytes : AllPass is_name_byte bytes

-- they are digits of this value
pub record IsNumberText (value : ℕ) (bytes : List ℕ) : Type 0 where
  pub some : 0 < length bytes
  pub digits : AllPass is_ascii_digit bytes
  pub value_is : value ≡ digits_value 10 bytes
  pub not_above : value ≤ greatest_number

-- they are label bytes between two quotes
pub record IsLabelText (bytes : List ℕ) : Type 0 where
  pub inside : List ℕ
  pub quoted : bytes ≡ 34 ∷ inside ++ 34 ∷ []
  pub label_bytes : AllPass is_label_byte inside

-- The bytes, by themselves, are a token of this kind. None are the end of a text.
abbrev pub Spells : TokenKind → List ℕ → Type 0
Spells Name bytes = IsNameText bytes × ¬ IsWord bytes
Spells Word bytes = IsWord bytes
Spells (Number value) bytes = IsNumberText value bytes
Spells Label bytes = IsLabelText bytes
Spells Mark bytes = IsMark bytes
Spells Last bytes = ⊥

abbrev pub IsSpelled : Lexeme → Type 0
IsSpelled w = Spells w.kind w.text

-- there is no byte, or the first is a blank
abbrev pub EndsWord : List ℕ → Type 0
EndsWord bytes = (bytes ≡ []) ⊎ (is_blank (first bytes) ≡ true)

-- The text is these words in order, with blanks before the first of them, and after each of them at
-- least one blank or the end of the text.
abbrev pub IsSpaced : List ℕ → List Lexeme → Type 0
IsSpaced text [] = AllPass is_blank text
IsSpaced text (w ∷ words) = (blanks : List ℕ) × (rest : List ℕ) × AllPass is_blank blanks
    × (text ≡ blanks ++ w.text ++ rest) × EndsWord rest × IsSpaced rest words

-- a word, and the blank byte that stands before it
pub record Spaced : Type 0 where
  pub blank : ℕ
  pub word : Lexeme

abbrev pub word_of : Spaced → Lexeme
word_of s = s.word

-- the blank is one, and the word is one by itself
pub record IsPrintable (s : Spaced) : Type 0 where
  pub blank : is_blank s.blank ≡ true
  pub spelled : IsSpelled s.word

-- the words, each after its blank
abbrev pub spaced_text : List Spaced → List ℕ
spaced_text [] = []
spaced_text (s ∷ rest) = s.blank ∷ s.word.text ++ spaced_text rest

-- The text of words: the first without its blank, the others each after its own, and a newline.
abbrev pub printed_text : List Spaced → List ℕ
printed_text [] = 10 ∷ []
printed_text (s ∷ rest) = s.word.text ++ spaced_text rest ++ 10 ∷ []
