-- The tokens of a text of words with blanks between them.
use Rattle.sig_lex.proofs.Common.{◌≡◌, ℕ, zero, suc, ◌+◌, ◌-◌, ◌≤◌, List, [], ◌∷◌, ◌++◌, true, length, take, drop, map, None, Some, refl, sym, ap, ◌∙◌, subst, inl, inr, arith, append_assoc, length-append, length-drop, AllPass, AllByRecursion, append-nil, map-append, take_at, drop_at, drop-drop, Token, TokenKind, Last, first, is_blank, Lexeme, lexeme_of, lexemes, the_end, IsSpelled, EndsWord, IsSpaced, Spaced, IsPrintable, word_of, spaced_text, printed_text, IsLexeme, Piece, Stand, AreTokens, tokens_among, token_at}
use Rattle.sig_lex.proofs.SpellingLemmas.{spells_front}

-- the tokens of pieces that stand in the text from the byte i up to its end are these words
abbrev WordsFrom : List ℕ → ℕ → List Lexeme → Type 0
WordsFrom text i words = (pieces : List Piece) × Stand text i pieces (length text) × (lexemes text (tokens_among text i pieces) ≡ words)

past : (text front rest : List ℕ) (i : ℕ) → drop i text ≡ front ++ rest → drop (i + length front) text ≡ rest
past text front rest i is = sym (drop-drop (length front) i text) ∙ ap (drop (length front)) is ∙ drop_at front rest (length front) refl

past_within : (text front rest : List ℕ) (i : ℕ) → i ≤ length text → drop i text ≡ front ++ rest → i + length front ≤ length text
past_within text front rest i within is = omega (arith, length-drop i text, ap length is, length-append front rest)

module _ (text : List ℕ) where
  pub lexeme_at : (i n : ℕ) (kind : TokenKind) → lexeme_of text (token_at text i kind n) ≡ record { kind = kind; text = take n (drop i text) }
  lexeme_at i n kind =
      let size : i + n - i ≡ n = omega arith in
      ap (λ (k : ℕ). record { kind = kind; text = take k (drop i text) }) size

  one_blank : (i : ℕ) (words : List Lexeme) → is_blank (first (drop i text)) ≡ true → WordsFrom text (i + 1) words → WordsFrom text i words
  one_blank i words blank (pieces, stand, are) =
      let p : Piece = record { kind = None; size = 1 } in
      (p ∷ pieces, (inl (blank, refl), stand), are)

  blanks_before : (blanks rest : List ℕ) (i : ℕ) (words : List Lexeme) → drop i text ≡ blanks ++ rest → AllPass is_blank blanks → WordsFrom text (i + length blanks) words → WordsFrom text i words
  blanks_before [] rest i words is all after =
      let here : i + 0 ≡ i = omega arith in
      subst (λ (k : ℕ). WordsFrom text k words) here after
  blanks_before (b ∷ blanks) rest i words is all after =
      let next : i + suc (length blanks) ≡ i + 1 + length blanks = omega arith in
      one_blank i words (ap (λ (l : List ℕ). is_blank (first l)) is ∙ all 0 0 (omega arith))
      (blanks_before blanks rest (i + 1) words (past text (b ∷ []) (blanks ++ rest) i is) (λ k d lt. all (suc k) d (omega arith))
      (subst (λ (k : ℕ). WordsFrom text k words) next after))

  one_word : (w : Lexeme) (rest : List ℕ) (i : ℕ) (words : List Lexeme) → drop i text ≡ w.text ++ rest → IsSpelled w → EndsWord rest → WordsFrom text (i + length w.text) words → WordsFrom text i (w ∷ words)
  one_word w rest i words is spelled ends (pieces, stand, are) =
      let p : Piece = record { kind = Some w.kind; size = length w.text } in
      let lexeme = subst (λ (l : List ℕ). IsLexeme w.kind l (length w.text)) (sym is) (spells_front w.kind w.text rest spelled ends) in
      let bytes : take (length w.text) (drop i text) ≡ w.text = ap (take (length w.text)) is ∙ take_at w.text rest (length w.text) refl in
      let same : lexeme_of text (token_at text i w.kind (length w.text)) ≡ w = lexeme_at i (length w.text) w.kind ∙ ap (λ (l : List ℕ). record { kind = w.kind; text = l }) bytes in
      (p ∷ pieces, (lexeme, stand), λ k. same k ∷ are k)

  words_from : (words : List Lexeme) (i : ℕ) (rest : List ℕ) → i ≤ length text → drop i text ≡ rest → IsSpaced rest words → AllByRecursion IsSpelled words → WordsFrom text i words
  words_from [] i rest within is all spelled =
      let end : i + length rest ≡ length text = omega (arith, length-drop i text, ap length is) in
      blanks_before rest [] i [] (is ∙ sym (append-nil rest)) all ([], end, refl)
  words_from (w ∷ words) i rest within is (blanks, tail, all, split, ends, spaced) (spelled, others) =
      let from = is ∙ split ∙ append_assoc blanks w.text tail in
      let start = past text blanks (w.text ++ tail) i from in
      let inside = past_within text blanks (w.text ++ tail) i within from in
      blanks_before blanks (w.text ++ tail) i (w ∷ words) from all
      (one_word w tail (i + length blanks) words start spelled ends
      (words_from words (i + length blanks + length w.text) tail (past_within text w.text tail (i + length blanks) inside start) (past text w.text tail (i + length blanks) start) spaced others))

  pub last_lexeme : lexeme_of text (token_at text (length text) Last 0) ≡ the_end
  last_lexeme = lexeme_at (length text) 0 Last

  pub spaced_tokens : (words : List Lexeme) → IsSpaced text words → AllByRecursion IsSpelled words → (tokens : List Token) × AreTokens text tokens × (lexemes text tokens ≡ words ++ the_end ∷ [])
  spaced_tokens words spaced spelled =
      let all = words_from words 0 text (omega arith) refl spaced spelled in
      let tokens = tokens_among text 0 all.0 in
      let end = token_at text (length text) Last 0 in (
        tokens ++ end ∷ [],
        (all.0, all.1, refl),
        map-append (lexeme_of text) tokens (end ∷ []) ∙ (λ i. all.2 i ++ last_lexeme i ∷ []),
      )

-- what follows a printed word ends it
tail_ends : (items : List Spaced) → AllByRecursion IsPrintable items → EndsWord (spaced_text items ++ 10 ∷ [])
tail_ends [] printable = inr refl
tail_ends (s ∷ items) printable = inr printable.0.blank

one_blank_list : (b : ℕ) → is_blank b ≡ true → AllPass is_blank (b ∷ [])
one_blank_list b is zero d lt = is
one_blank_list b is (suc k) d lt = absurd (omega arith)

spaced_tail : (items : List Spaced) → AllByRecursion IsPrintable items → IsSpaced (spaced_text items ++ 10 ∷ []) (map word_of items)
spaced_tail [] printable = one_blank_list 10 refl
spaced_tail (s ∷ items) printable = (
  s.blank ∷ [],
  spaced_text items ++ 10 ∷ [],
  one_blank_list s.blank printable.0.blank,
  append_assoc (s.blank ∷ s.word.text) (spaced_text items) (10 ∷ []),
  tail_ends items printable.1,
  spaced_tail items printable.1,
)

all_spelled : (items : List Spaced) → AllByRecursion IsPrintable items → AllByRecursion IsSpelled (map word_of items)
all_spelled [] printable = tt
all_spelled (s ∷ items) printable = (printable.0.spelled, all_spelled items printable.1)

printed_spaced : (items : List Spaced) → AllByRecursion IsPrintable items → IsSpaced (printed_text items) (map word_of items)
printed_spaced [] printable = one_blank_list 10 refl
printed_spaced (s ∷ items) printable = (
  [],
  spaced_text items ++ 10 ∷ [],
  λ k d lt. absurd (omega arith),
  append_assoc s.word.text (spaced_text items) (10 ∷ []),
  tail_ends items printable.1,
  spaced_tail items printable.1,
)

pub printed_tokens : (items : List Spaced) → AllByRecursion IsPrintable items → (tokens : List Token) × AreTokens (printed_text items) tokens × (lexemes (printed_text items) tokens ≡ map word_of items ++ the_end ∷ [])
printed_tokens items printable = spaced_tokens (printed_text items) (map word_of items) (printed_spaced items printable) (all_spelled items printable)
