-- Each text has tokens or a first fault.
use Rattle.sig_lex.proofs.Common.{◌≡◌, ℕ, zero, suc, ◌+◌, ◌-◌, ◌<◌, ◌≤◌, List, [], ◌∷◌, ◌++◌, true, false, length, take, drop, get_or, Option, None, Some, refl, subst, ⊎_elim, inl, inr, arith, length-drop, ◌⊎◌, Contains, not, prefix_len, is_ascii_alphabetic, is_ascii_digit, digits_value, cases_lt, prefix_len-le-length, Span, LexAnswer, BadByte, OpenComment, LongNumber, Token, TokenKind, Name, Word, Number, Label, Mark, Last, first, is_blank, is_name_byte, is_percent, is_quote, is_label_byte, place_after, words, marks, greatest_number, IsPiece, Piece, Stand, AreTokens, IsOther, BeginsWithFault, IsFirstFault, tokens_among, token_at, cases_Bool, contained_or_not}
use Rattle.sig_lex.proofs.Marks.{two_bytes, one_byte, no_mark}
use Rattle.sig_lex.proofs.SliceLemmas.{lexeme_some}
use Rattle.sig_lex.proofs.SpellingLemmas.{lexeme_within}

-- some bytes begin with a mark of k bytes or not
mark_or_not : (bytes : List ℕ) (k : ℕ) → ((k ≤ length bytes) × Contains marks (take k bytes)) ⊎ (k ≤ length bytes → Contains marks (take k bytes) → ⊥)
mark_or_not bytes k = ⊎_elim
    (λ (short : length bytes < k). inr (λ (within : k ≤ length bytes). absurd (omega arith)))
    (λ (within : k ≤ length bytes). ⊎_elim (λ there. inl (within, there)) (λ not_there. inr (λ _. not_there)) (contained_or_not marks (take k bytes)))
    (cases_lt (length bytes) k)

module _ (bytes : List ℕ) (at : Span) where
  -- what the bytes begin with
  abbrev Begins : Type 0
  Begins = ((kind : Option TokenKind) × (n : ℕ) × IsPiece kind bytes n) ⊎ ((fault : LexAnswer) × BeginsWithFault fault at bytes)

  token : (kind : TokenKind) (n : ℕ) → IsPiece (Some kind) bytes n → Begins
  token kind n lexeme = inl (Some kind, n, lexeme)

  comment : is_percent (first bytes) ≡ true → Begins
  comment opened =
      let m = prefix_len (λ b. not (is_percent b)) (drop 1 bytes) in
      let most = prefix_len-le-length (λ b. not (is_percent b)) (drop 1 bytes) in ⊎_elim
      (λ (opens : length bytes < m + 2). inr (OpenComment at, (refl, record { opened = opened; open_to_the_end = omega (arith, length-drop 1 bytes) })))
      (λ (closed : m + 2 ≤ length bytes). inl (None, m + 2, inr (record { opened = opened; whole = refl; closed = closed })))
      (cases_lt (length bytes) (m + 2))

  name : is_ascii_alphabetic (first bytes) ≡ true → Begins
  name letter =
      let n = prefix_len is_name_byte bytes in ⊎_elim
      (λ (word : Contains words (take n bytes)). token Word n (record { letter = letter; whole = refl }, word))
      (λ (no_word : Contains words (take n bytes) → ⊥). token Name n (record { letter = letter; whole = refl }, no_word))
      (contained_or_not words (take n bytes))

  number : is_ascii_digit (first bytes) ≡ true → Begins
  number digit =
      let n = prefix_len is_ascii_digit bytes in
      let value = digits_value 10 (take n bytes) in ⊎_elim
      (λ (great : greatest_number < value). inr (LongNumber at, (refl, record { digit = digit; too_great = great })))
      (λ (small : value ≤ greatest_number). token (Number value) n (record { digit = digit; whole = refl }, refl, small))
      (cases_lt greatest_number value)

  label : is_quote (first bytes) ≡ true → Begins
  label opened =
      let m = prefix_len is_label_byte (drop 1 bytes) in
      let last : m + 1 ≡ m + 2 - 1 = omega arith in ⊎_elim
      (λ (closed : is_quote (get_or bytes (m + 1) 0) ≡ true). token Label (m + 2) (record { opened = opened; whole = refl; closed = subst (λ (k : ℕ). is_quote (get_or bytes k 0) ≡ true) last closed }))
      (λ (opens : is_quote (get_or bytes (m + 1) 0) ≡ false). inr (BadByte at, (refl, inr (record { opened = opened; not_closed = opens }))))
      (cases_Bool (is_quote (get_or bytes (m + 1) 0)))

  mark : IsOther bytes → Begins
  mark other = ⊎_elim
      (λ (pair : (2 ≤ length bytes) × Contains marks (take 2 bytes)). token Mark 2 (two_bytes bytes pair.0 pair.1))
      (λ (no_pair : 2 ≤ length bytes → Contains marks (take 2 bytes) → ⊥). ⊎_elim
      (λ (single : (1 ≤ length bytes) × Contains marks (take 1 bytes)). token Mark 1 (one_byte bytes single.0 no_pair single.1))
      (λ (no_single : 1 ≤ length bytes → Contains marks (take 1 bytes) → ⊥). inr (BadByte at, (refl, inl (record { other = other; no_mark = no_mark bytes no_pair (no_single other.there) }))))
      (mark_or_not bytes 1))
      (mark_or_not bytes 2)

  -- a piece or a fault stands at the front
  begins : 0 < length bytes → Begins
  begins there = ⊎_elim
      (λ (blank : is_blank (first bytes) ≡ true). inl (None, 1, inl (blank, refl)))
      (λ no_blank. ⊎_elim comment
      (λ no_percent. ⊎_elim name
      (λ no_letter. ⊎_elim number
      (λ no_digit. ⊎_elim label
      (λ no_quote. mark (record { there = there; no_blank = no_blank; no_percent = no_percent; no_letter = no_letter; no_digit = no_digit; no_quote = no_quote }))
      (cases_Bool (is_quote (first bytes))))
      (cases_Bool (is_ascii_digit (first bytes))))
      (cases_Bool (is_ascii_alphabetic (first bytes))))
      (cases_Bool (is_percent (first bytes))))
      (cases_Bool (is_blank (first bytes)))

piece_some : (kind : Option TokenKind) (n : ℕ) (bytes : List ℕ) → 0 < length bytes → IsPiece kind bytes n → 0 < n
piece_some None n bytes there piece = ⊎_elim (λ blank. omega (arith, blank.1)) (λ comment. omega (arith, comment.whole)) piece
piece_some (Some kind) n bytes there lexeme = lexeme_some kind n bytes there lexeme

piece_within : (kind : Option TokenKind) (n : ℕ) (bytes : List ℕ) → 0 < length bytes → IsPiece kind bytes n → n ≤ length bytes
piece_within None n bytes there piece = ⊎_elim (λ blank. omega (arith, blank.1)) (λ comment. comment.closed) piece
piece_within (Some kind) n bytes there lexeme = lexeme_within kind bytes n lexeme

module _ (text : List ℕ) where
  -- from the byte i on the text falls into pieces, up to its end or to a fault
  abbrev FallsFrom : ℕ → Type 0
  FallsFrom i = ((pieces : List Piece) × Stand text i pieces (length text))
      ⊎ ((pieces : List Piece) × (j : ℕ) × (fault : LexAnswer) × Stand text i pieces j × BeginsWithFault fault (place_after (take j text)) (drop j text))

  one_more : (i : ℕ) (p : Piece) → IsPiece p.kind (drop i text) p.size → FallsFrom (i + p.size) → FallsFrom i
  one_more i p piece rest = ⊎_elim
      (λ (whole : (pieces : List Piece) × Stand text (i + p.size) pieces (length text)). inl (p ∷ whole.0, (piece, whole.1)))
      (λ (part : (pieces : List Piece) × (j : ℕ) × (fault : LexAnswer) × Stand text (i + p.size) pieces j × BeginsWithFault fault (place_after (take j text)) (drop j text)). inr (p ∷ part.0, part.1, part.2, (piece, part.3), part.4))
      rest

  falls : (fuel i : ℕ) → i ≤ length text → length text - i ≤ fuel → FallsFrom i
  falls zero i within few = inl ([], omega arith)
  falls (suc fuel) i within few = ⊎_elim
      (λ (more : i < length text).
      let there : 0 < length (drop i text) = omega (arith, length-drop i text) in ⊎_elim
      (λ (found : (kind : Option TokenKind) × (n : ℕ) × IsPiece kind (drop i text) n).
      let p : Piece = record { kind = found.0; size = found.1 } in
      let some = piece_some found.0 found.1 (drop i text) there found.2 in
      let inside = piece_within found.0 found.1 (drop i text) there found.2 in
      one_more i p found.2 (falls fuel (i + found.1) (omega (arith, length-drop i text)) (omega arith)))
      (λ (fault : (answer : LexAnswer) × BeginsWithFault answer (place_after (take i text)) (drop i text)). inr ([], i, fault.0, refl, fault.1))
      (begins (drop i text) (place_after (take i text)) there))
      (λ (end : length text ≤ i). inl ([], omega arith))
      (cases_lt i (length text))

  pub tokens_or_fault : ((tokens : List Token) × AreTokens text tokens) ⊎ ((fault : LexAnswer) × IsFirstFault text fault)
  tokens_or_fault = ⊎_elim
      (λ (whole : (pieces : List Piece) × Stand text 0 pieces (length text)). inl (tokens_among text 0 whole.0 ++ token_at text (length text) Last 0 ∷ [], (whole.0, whole.1, refl)))
      (λ (part : (pieces : List Piece) × (j : ℕ) × (fault : LexAnswer) × Stand text 0 pieces j × BeginsWithFault fault (place_after (take j text)) (drop j text)). inr (part.2, (part.0, part.1, part.3, part.4)))
      (falls (length text) 0 (omega arith) (omega arith))
