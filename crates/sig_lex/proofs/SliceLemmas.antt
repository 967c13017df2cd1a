-- The tokens of a text are slices of it in order.
use Rattle.sig_lex.proofs.Common.{◌≡◌, ℕ, ◌+◌, ◌<◌, ◌≤◌, List, [], ◌∷◌, ◌++◌, Bool, true, length, take, drop, Option, None, Some, refl, sym, subst, append_assoc, arith, length-take-le, ◌≢◌, option_to_list, option_map, prefix_len, AllByRecursion, is_ascii_alphabetic, is_ascii_digit, nat_tests, Token, TokenKind, Name, Word, Number, Label, Mark, Last, first, is_name_byte, InOrder, EndsOnce, Piece, IsPiece, IsLexeme, Stand, AreTokens, tokens_among, token_at}
use Rattle.sig_lex.proofs.Marks.{mark_length}
use Rattle.sig_lex.proofs.Fronts.{piece_there}

letter_goes_on : (b : ℕ) → is_ascii_alphabetic b ≡ true → is_name_byte b ≡ true
letter_goes_on b letter = grind (arith, nat_tests)

run_some : (p : ℕ → Bool) (bytes : List ℕ) → 0 < length bytes → p (first bytes) ≡ true → 0 < prefix_len p bytes
run_some p [] there passes = there
run_some p (b ∷ bytes) there passes = rw passes (omega arith)

-- a token is not empty, and none of these is the last
pub lexeme_some : (kind : TokenKind) (n : ℕ) (bytes : List ℕ) → 0 < length bytes → IsLexeme kind bytes n → 0 < n
lexeme_some Name n bytes there (name, _) = omega (arith, name.whole, run_some is_name_byte bytes there (letter_goes_on (first bytes) name.letter))
lexeme_some Word n bytes there (name, _) = omega (arith, name.whole, run_some is_name_byte bytes there (letter_goes_on (first bytes) name.letter))
lexeme_some (Number value) n bytes there (digits, _, _) = omega (arith, digits.whole, run_some is_ascii_digit bytes there digits.digit)
lexeme_some Label n bytes there label = omega (arith, label.whole)
lexeme_some Mark n bytes there mark = omega (arith, (mark_length (take n bytes) mark.is_mark).0, length-take-le n bytes mark.within)
lexeme_some Last n bytes there never = absurd never

pub lexeme_no_last : (kind : TokenKind) (n : ℕ) (bytes : List ℕ) → IsLexeme kind bytes n → kind ≢ Last
lexeme_no_last Name n bytes lexeme same = cc
lexeme_no_last Word n bytes lexeme same = cc
lexeme_no_last (Number value) n bytes lexeme same = cc
lexeme_no_last Label n bytes lexeme same = cc
lexeme_no_last Mark n bytes lexeme same = cc
lexeme_no_last Last n bytes never same = never

-- tokens that begin later begin also from here on
earlier : (text : List ℕ) (i j : ℕ) (tokens : List Token) → i ≤ j → InOrder text j tokens → InOrder text i tokens
earlier text i j [] le order = omega arith
earlier text i j (t ∷ tokens) le (after, stop, place, rest) = (omega arith, stop, place, rest)

module _ (text : List ℕ) where
  abbrev token_list : ℕ → Option TokenKind → ℕ → List Token
  token_list i kind n = option_to_list (option_map (λ k. token_at text i k n) kind)

  order_more : (i n : ℕ) (kind : Option TokenKind) (rest : List Token) → InOrder text (i + n) rest → InOrder text i (token_list i kind n ++ rest)
  order_more i n None rest order = earlier text i (i + n) rest (omega arith) order
  order_more i n (Some kind) rest order = (omega arith, omega arith, refl, order)

  order_among : (i j : ℕ) (pieces : List Piece) (tail : List Token) → Stand text i pieces j → InOrder text j tail → InOrder text i (tokens_among text i pieces ++ tail)
  order_among i j [] tail here order = subst (λ (k : ℕ). InOrder text k tail) (sym here) order
  order_among i j (p ∷ pieces) tail (piece, others) order =
      subst (InOrder text i) (sym (append_assoc (token_list i p.kind p.size) (tokens_among text (i + p.size) pieces) tail))
      (order_more i p.size p.kind (tokens_among text (i + p.size) pieces ++ tail) (order_among (i + p.size) j pieces tail others order))

  abbrev IsProper : Token → Type 0
  IsProper t = (t.kind ≢ Last) × (t.start < t.stop)

  proper_more : (i n : ℕ) (kind : Option TokenKind) (rest : List Token) → IsPiece kind (drop i text) n → AllByRecursion IsProper rest → AllByRecursion IsProper (token_list i kind n ++ rest)
  proper_more i n None rest piece proper = proper
  proper_more i n (Some kind) rest lexeme proper =
      let some = lexeme_some kind n (drop i text) (piece_there (Some kind) n (drop i text) lexeme) lexeme in
      ((lexeme_no_last kind n (drop i text) lexeme, omega arith), proper)

  proper_among : (i j : ℕ) (pieces : List Piece) → Stand text i pieces j → AllByRecursion IsProper (tokens_among text i pieces)
  proper_among i j [] here = tt
  proper_among i j (p ∷ pieces) (piece, others) = proper_more i p.size p.kind (tokens_among text (i + p.size) pieces) piece (proper_among (i + p.size) j pieces others)

pub in_order : (text : List ℕ) (tokens : List Token) → AreTokens text tokens → InOrder text 0 tokens
in_order text tokens (pieces, stand, are) =
    subst (InOrder text 0) (sym are)
    (order_among text 0 (length text) pieces (token_at text (length text) Last 0 ∷ []) stand (omega arith, omega arith, refl, omega arith))

pub ends_once : (text : List ℕ) (tokens : List Token) → AreTokens text tokens → EndsOnce text tokens
ends_once text tokens (pieces, stand, are) = (tokens_among text 0 pieces, are, proper_among text 0 (length text) pieces stand)
