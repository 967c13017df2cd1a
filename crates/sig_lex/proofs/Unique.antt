-- A text falls into its pieces in one way, up to its end or to its first fault.
use Rattle.sig_lex.proofs.Common.{◌≡◌, ℕ, ◌+◌, List, [], ◌∷◌, ◌++◌, length, take, drop, Option, None, Some, refl, sym, ap, ◌∙◌, subst, Result, Ok, Err, ⊎_elim, inl, inr, arith, length-drop, ◌⊎◌, IfOk, IfErr, IsErrAnd, MatchResult, LexAnswer, OutOfMemory, Token, Last, place_after, Piece, IsPiece, Stand, BeginsWithFault, AreTokens, IsFirstFault, tokens_among, token_at}
use Rattle.sig_lex.proofs.Fronts.{one_piece, no_fault, one_fault, piece_there, fault_there}

-- The pieces end at the byte i: with none, at the end of the text, or with a fault.
abbrev EndsAt : List ℕ → ℕ → Option LexAnswer → Type 0
EndsAt text i None = i ≡ length text
EndsAt text i (Some fault) = BeginsWithFault fault (place_after (take i text)) (drop i text)

no_piece_at_end : (text : List ℕ) (i : ℕ) (p : Piece) → i ≡ length text → IsPiece p.kind (drop i text) p.size → ⊥
no_piece_at_end text i p end piece = omega (arith, piece_there p.kind p.size (drop i text) piece, length-drop i text)

no_fault_at_end : (text : List ℕ) (i : ℕ) (fault : LexAnswer) → i ≡ length text → BeginsWithFault fault (place_after (take i text)) (drop i text) → ⊥
no_fault_at_end text i fault end begins = omega (arith, fault_there fault (place_after (take i text)) (drop i text) begins, length-drop i text)

no_piece_at : (text : List ℕ) (i : ℕ) (p : Piece) (end : Option LexAnswer) → EndsAt text i end → IsPiece p.kind (drop i text) p.size → ⊥
no_piece_at text i p None ends piece = no_piece_at_end text i p ends piece
no_piece_at text i p (Some fault) ends piece = no_fault (drop i text) (place_after (take i text)) p fault piece ends

one_end : (text : List ℕ) (i : ℕ) (a b : Option LexAnswer) → EndsAt text i a → EndsAt text i b → a ≡ b
one_end text i None None first second = refl
one_end text i None (Some fault) first second = absurd (no_fault_at_end text i fault first second)
one_end text i (Some fault) None first second = absurd (no_fault_at_end text i fault second first)
one_end text i (Some fault) (Some other) first second = ap Some (one_fault (drop i text) (place_after (take i text)) fault other first second)

-- two ways of falling into pieces are one
pub one_way : (text : List ℕ) (i j k : ℕ) (ps qs : List Piece) (a b : Option LexAnswer) → Stand text i ps j → EndsAt text j a → Stand text i qs k → EndsAt text k b → (ps ≡ qs) × (a ≡ b)
one_way text i j k [] [] a b here a_ends there b_ends = (refl, one_end text i a b (subst (λ (n : ℕ). EndsAt text n a) (sym here) a_ends) (subst (λ (n : ℕ). EndsAt text n b) (sym there) b_ends))
one_way text i j k [] (q ∷ qs) a b here a_ends there b_ends = absurd (no_piece_at text i q a (subst (λ (n : ℕ). EndsAt text n a) (sym here) a_ends) there.0)
one_way text i j k (p ∷ ps) [] a b here a_ends there b_ends = absurd (no_piece_at text i p b (subst (λ (n : ℕ). EndsAt text n b) (sym there) b_ends) here.0)
one_way text i j k (p ∷ ps) (q ∷ qs) a b here a_ends there b_ends =
    let same : p ≡ q = one_piece (drop i text) (place_after (take i text)) p q here.0 there.0 in
    let rest = one_way text (i + p.size) j k ps qs a b here.1 a_ends (subst (λ (r : Piece). Stand text (i + r.size) qs k) (sym same) there.1) b_ends in
    ((λ n. same n ∷ rest.0 n), rest.1)

pub one_list : (text : List ℕ) (a b : List Token) → AreTokens text a → AreTokens text b → a ≡ b
one_list text a b (ps, stand, are) (qs, also, also_are) =
    let same = one_way text 0 (length text) (length text) ps qs None None stand refl also refl in
    are ∙ ap (λ (l : List Piece). tokens_among text 0 l ++ token_at text (length text) Last 0 ∷ []) same.0 ∙ sym also_are

some_same : (a b : LexAnswer) → Some a ≡ Some b → a ≡ b
some_same a b same = cc

none_no_some : (a : LexAnswer) → None ≡ Some a → ⊥
none_no_some a same = cc

pub one_first_fault : (text : List ℕ) (a b : LexAnswer) → IsFirstFault text a → IsFirstFault text b → a ≡ b
one_first_fault text a b (ps, i, stand, begins) (qs, j, also, also_begins) = some_same a b (one_way text 0 i j ps qs (Some a) (Some b) stand begins also also_begins).1

pub list_or_fault : (text : List ℕ) (tokens : List Token) (fault : LexAnswer) → AreTokens text tokens → IsFirstFault text fault → ⊥
list_or_fault text tokens fault (ps, stand, are) (qs, j, also, begins) = none_no_some fault (one_way text 0 (length text) j ps qs None (Some fault) stand refl also begins).1

-- what is given is the one list, or the one fault
module _ {V : Type 0} (items : V → List Token) (text : List ℕ) where
  pub given : (result : Result V LexAnswer) → IfOk result (λ v. AreTokens text (items v)) → IfErr result (λ answer. (answer ≡ OutOfMemory) ⊎ IsFirstFault text answer) → (tokens : List Token) → AreTokens text tokens → MatchResult result (λ v. items v ≡ tokens) (λ answer. answer ≡ OutOfMemory)
  given (Ok v) is fault tokens are = one_list text (items v) tokens is are
  given (Err answer) is fault tokens are = ⊎_elim (λ memory. memory) (λ first. absurd (list_or_fault text tokens answer are first)) fault

  pub refused : (result : Result V LexAnswer) → IfOk result (λ v. AreTokens text (items v)) → IfErr result (λ answer. (answer ≡ OutOfMemory) ⊎ IsFirstFault text answer) → (fault : LexAnswer) → IsFirstFault text fault → IsErrAnd result (λ answer. (answer ≡ OutOfMemory) ⊎ (answer ≡ fault))
  refused (Ok v) is begins fault first = list_or_fault text (items v) fault is first
  refused (Err answer) is begins fault first = ⊎_elim (λ memory. inl memory) (λ also. inr (one_first_fault text answer fault also first)) begins
