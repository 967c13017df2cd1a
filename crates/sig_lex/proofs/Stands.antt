-- Pieces that stand in a text, one piece more.
use Rattle.sig_lex.proofs.Common.{◌≡◌, ℕ, ◌+◌, List, [], ◌∷◌, ◌++◌, take, drop, Option, option_map, sym, ap, ◌∙◌, subst, append_assoc, option_to_list, append-nil, Span, Token, TokenKind, place_after, Piece, IsPiece, Stand, token_of, token_at, tokens_among}

-- the tokens are those among pieces that stand in the text up to the byte i
abbrev pub AreTokensTo : List ℕ → ℕ → List Token → Type 0
AreTokensTo text i tokens = (pieces : List Piece) × Stand text 0 pieces i × (tokens ≡ tokens_among text 0 pieces)

abbrev token_list : List ℕ → ℕ → Piece → List Token
token_list text i p = option_to_list (option_map (λ kind. token_at text i kind p.size) p.kind)

stand_push : (text : List ℕ) (i j : ℕ) (pieces : List Piece) (p : Piece) → Stand text i pieces j → IsPiece p.kind (drop j text) p.size → Stand text i (pieces ++ p ∷ []) (j + p.size)
stand_push text i j [] p here piece = (subst (λ (k : ℕ). IsPiece p.kind (drop k text) p.size) (sym here) piece, ap (λ (k : ℕ). k + p.size) here)
stand_push text i j (q ∷ pieces) p (first, others) piece = (first, stand_push text (i + q.size) j pieces p others piece)

tokens_push : (text : List ℕ) (i j : ℕ) (pieces : List Piece) (p : Piece) → Stand text i pieces j → tokens_among text i (pieces ++ p ∷ []) ≡ tokens_among text i pieces ++ token_list text j p
tokens_push text i j [] p here = append-nil (token_list text i p) ∙ ap (λ (k : ℕ). token_list text k p) here
tokens_push text i j (q ∷ pieces) p (first, others) =
    ap (λ (l : List Token). token_list text i q ++ l) (tokens_push text (i + q.size) j pieces p others)
    ∙ sym (append_assoc (token_list text i q) (tokens_among text (i + q.size) pieces) (token_list text j p))

-- one piece more, and the token that it is
pub tokens_more : (text : List ℕ) (i : ℕ) (tokens new : List Token) (place : Span) (kind : Option TokenKind) (size : ℕ) → AreTokensTo text i tokens → IsPiece kind (drop i text) size → place ≡ place_after (take i text) → new ≡ tokens ++ option_to_list (option_map (λ k. token_of place i k size) kind) → AreTokensTo text (i + size) new
tokens_more text i tokens new place kind size (pieces, stand, are) piece here is =
    let p : Piece = record { kind = kind; size = size } in (
      pieces ++ p ∷ [],
      stand_push text 0 i pieces p stand piece,
      is
          ∙ ap (λ (l : List Token). l ++ option_to_list (option_map (λ k. token_of place i k size) kind)) are
          ∙ ap (λ (at : Span). tokens_among text 0 pieces ++ option_to_list (option_map (λ k. token_of at i k size) kind)) here
          ∙ sym (tokens_push text 0 i pieces p stand),
    )
