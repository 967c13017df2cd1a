-- Pieces by what their parts are.
use Rattle.sig_lex.proofs.Common.{◌≡◌, ℕ, List, Option, Some, TokenKind, IsLexeme, IsPiece}

pub piece_is : (kind : Option TokenKind) (size : ℕ) (bytes : List ℕ) (k : TokenKind) (n : ℕ) → kind ≡ Some k → size ≡ n → IsLexeme k bytes n → IsPiece kind bytes size
piece_is kind size bytes k n kind_is size_is lexeme = rw (kind_is, size_is) lexeme
