-- What is true of each token of a text.
use Rattle.sig_lex.proofs.Common.{◌≡◌, ℕ, zero, suc, ◌+◌, ◌<◌, ◌≤◌, List, [], ◌∷◌, ◌++◌, length, drop, get_or, Option, None, Some, refl, sym, ap, ◌∙◌, subst, ⊎_elim, arith, length-append, ◌≢◌, ◌↔◌, All, option_to_list, option_map, AllByRecursion, cases_lt, get_or_at, get_or_append_left, map-append, Token, TokenKind, Last, Lexeme, lexeme_of, lexemes, text_of, the_end, Spells, IsSpelled, StandsIn, InOrder, Piece, IsPiece, Stand, AreTokens, tokens_among, token_at, all_both}
use Rattle.sig_lex.proofs.Fronts.{piece_there}
use Rattle.sig_lex.proofs.SliceLemmas.{in_order, ends_once}
use Rattle.sig_lex.proofs.SpacedWords.{lexeme_at, last_lexeme}
use Rattle.sig_lex.proofs.SpellingLemmas.{front_spells}

all_at : {X : Type 0} (P : X → Type 0) (xs : List X) → AllByRecursion P xs → All P xs
all_at P [] all k d lt = absurd (omega arith)
all_at P (x ∷ xs) (here, rest) zero d lt = here
all_at P (x ∷ xs) (here, rest) (suc k) d lt = all_at P xs rest k d (omega arith)

module _ (text : List ℕ) where
  order_within : (i : ℕ) (tokens : List Token) → InOrder text i tokens → i ≤ length text
  order_within i [] order = order
  order_within i (t ∷ tokens) (after, size, place, rest) = let end = order_within t.stop tokens rest in omega arith

  order_slices : (i : ℕ) (tokens : List Token) → InOrder text i tokens → AllByRecursion (StandsIn text) tokens
  order_slices i [] order = tt
  order_slices i (t ∷ tokens) (after, size, place, rest) = (
    record { ordered = size; within = order_within t.stop tokens rest; place = place },
    order_slices t.stop tokens rest,
  )

  abbrev spells : Token → Type 0
  spells t = Spells t.kind (text_of text t)

  spelled_more : (i n : ℕ) (kind : Option TokenKind) (rest : List Token) → IsPiece kind (drop i text) n → AllByRecursion spells rest → AllByRecursion spells (option_to_list (option_map (λ k. token_at text i k n) kind) ++ rest)
  spelled_more i n None rest piece spelled = spelled
  spelled_more i n (Some kind) rest lexeme spelled = (
    subst IsSpelled (sym (lexeme_at text i n kind)) (front_spells kind (drop i text) n (piece_there (Some kind) n (drop i text) lexeme) lexeme),
    spelled,
  )

  spelled_among : (i j : ℕ) (pieces : List Piece) → Stand text i pieces j → AllByRecursion spells (tokens_among text i pieces)
  spelled_among i j [] here = tt
  spelled_among i j (p ∷ pieces) (piece, others) = spelled_more i p.size p.kind (tokens_among text (i + p.size) pieces) piece (spelled_among (i + p.size) j pieces others)

  spelled_words : (tokens : List Token) → AllByRecursion spells tokens → AllByRecursion IsSpelled (lexemes text tokens)
  spelled_words [] spelled = tt
  spelled_words (t ∷ tokens) (here, rest) = (here, spelled_words tokens rest)

  but_last : (tokens : List Token) → AllByRecursion spells tokens → AllByRecursion (λ t. t.kind ≢ Last → spells t) tokens
  but_last [] spelled = tt
  but_last (t ∷ tokens) (here, rest) = (λ _. here, but_last tokens rest)

  module _ (tokens : List Token) (are : AreTokens text tokens) where
    pub some_token : 0 < length tokens
    some_token = omega (arith, ap length are.2, length-append (tokens_among text 0 are.0) (token_at text (length text) Last 0 ∷ []))

    pub token_slices : All (StandsIn text) tokens
    token_slices = all_at (StandsIn text) tokens (order_slices 0 tokens (in_order text tokens are))

    pub token_spelled : All (λ t. t.kind ≢ Last → spells t) tokens
    token_spelled =
        let end : Token = token_at text (length text) Last 0 in
        let others = but_last (tokens_among text 0 are.0) (spelled_among 0 (length text) are.0 are.1) in
        all_at _ tokens (subst (AllByRecursion (λ t. t.kind ≢ Last → spells t)) (sym are.2) (all_both _ (tokens_among text 0 are.0) (end ∷ []) others ((λ not_last. absurd (not_last refl)), tt)))

    pub token_words : (words : List Lexeme) × (lexemes text tokens ≡ words ++ the_end ∷ []) × AllByRecursion IsSpelled words
    token_words =
        let among = tokens_among text 0 are.0 in
        let end = token_at text (length text) Last 0 in (
          lexemes text among,
          ap (lexemes text) are.2 ∙ map-append (lexeme_of text) among (end ∷ []) ∙ ap (λ (w : Lexeme). lexemes text among ++ w ∷ []) (last_lexeme text),
          spelled_words among (spelled_among 0 (length text) are.0 are.1),
        )

    pub token_last : (k : ℕ) (d : Token) → k < length tokens → ((get_or tokens k d).kind ≡ Last) ↔ (k + 1 ≡ length tokens)
    token_last k d lt =
        let once = ends_once text tokens are in
        let others = once.0 in
        let end : Token = token_at text (length text) Last 0 in
        let size : length tokens ≡ length others + 1 = omega (arith, ap length once.1, length-append others (end ∷ [])) in
        let here : get_or tokens k d ≡ get_or (others ++ end ∷ []) k d = ap (λ (l : List Token). get_or l k d) once.1 in
        ⊎_elim
        (λ (inside : k < length others).
        let same : get_or tokens k d ≡ get_or others k d = here ∙ get_or_append_left others (end ∷ []) d k inside in
        let proper = all_at (λ (t : Token). (t.kind ≢ Last) × (t.start < t.stop)) others once.2 k d inside in (
          (λ is. absurd (proper.0 (sym (ap (λ (t : Token). t.kind) same) ∙ is))),
          (λ is. absurd (omega arith)),
        ))
        (λ (beyond : length others ≤ k).
        let at : length others ≡ k = omega arith in (
          (λ _. omega arith),
          (λ _. ap (λ (t : Token). t.kind) (here ∙ get_or_at others end [] d k at)),
        ))
        (cases_lt k (length others))
