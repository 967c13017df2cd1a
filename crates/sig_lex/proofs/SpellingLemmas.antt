-- Tokens by themselves, and in front of other bytes.
use Rattle.sig_lex.proofs.Common.{◌≡◌, ℕ, suc, ◌+◌, ◌-◌, ◌<◌, ◌≤◌, List, [], ◌∷◌, ◌++◌, Bool, true, false, not, ◌&&◌, length, take, get_or, refl, sym, ap, ◌∙◌, subst, ⊎_elim, arith, eqb-true, length-append, length-take, length-take-le, get_or-take, append_assoc, AllPass, list_all, prefix_len, is_ascii_alphabetic, is_ascii_digit, digits_value, and_parts, cases_lt, false≢true, not-true, nat_tests, get_or_past, get_or_at, get_or_append_left, get_or-append-add, take_at, take_more, and_at, prefix_len_is, prefix_len_passes, prefix_len-le-length, TokenKind, Name, Word, Number, Label, Mark, Last, first, is_blank, is_name_byte, is_quote, is_label_byte, words, marks, IsWord, IsMark, IsNameOrWord, IsLabel, IsLexeme, IsLabelText, Spells, EndsWord}
use Rattle.sig_lex.proofs.Marks.{each_entry}
use Rattle.sig_lex.proofs.SliceLemmas.{lexeme_some}

-- what passes a test that 0 does not stands in the list
some_first : (p : ℕ → Bool) (w : List ℕ) → p 0 ≡ false → p (first w) ≡ true → 0 < length w
some_first p [] fails passes = absurd (false≢true (sym fails ∙ passes))
some_first p (b ∷ w) fails passes = omega arith

all_pass : (p : ℕ → Bool) (w : List ℕ) → list_all p w ≡ true → AllPass p w
all_pass p w all k d lt = and_at (list_all p) p refl (λ _ _. refl) w k d lt all

-- The front of some bytes.
module _ (bytes : List ℕ) (n : ℕ) where
  front_passes : (p : ℕ → Bool) → n ≡ prefix_len p bytes → AllPass p (take n bytes)
  front_passes p is k d lt =
      let below : k < n = omega (arith, length-take n bytes) in
      ap p (get_or-take n bytes k d below) ∙ prefix_len_passes p bytes k d (omega arith)

  front_first : (p : ℕ → Bool) → 0 < n → p (first bytes) ≡ true → p (first (take n bytes)) ≡ true
  front_first p some passes = ap p (get_or-take n bytes 0 0 some) ∙ passes

label_within : (bytes : List ℕ) (n : ℕ) → IsLabel bytes n → n ≤ length bytes
label_within bytes n label = ⊎_elim
    (λ (inside : n - 1 < length bytes). omega (arith, label.whole))
    (λ (past : length bytes ≤ n - 1). absurd (false≢true (sym (ap is_quote (get_or_past bytes (n - 1) 0 past)) ∙ label.closed)))
    (cases_lt (n - 1) (length bytes))

-- a token stands within the bytes
pub lexeme_within : (kind : TokenKind) (bytes : List ℕ) (n : ℕ) → IsLexeme kind bytes n → n ≤ length bytes
lexeme_within Name bytes n lexeme = omega (arith, lexeme.0.whole, prefix_len-le-length is_name_byte bytes)
lexeme_within Word bytes n lexeme = omega (arith, lexeme.0.whole, prefix_len-le-length is_name_byte bytes)
lexeme_within (Number value) bytes n lexeme = omega (arith, lexeme.0.whole, prefix_len-le-length is_ascii_digit bytes)
lexeme_within Label bytes n lexeme = label_within bytes n lexeme
lexeme_within Mark bytes n lexeme = lexeme.within
lexeme_within Last bytes n never = absurd never

label_spells : (bytes : List ℕ) (n : ℕ) → IsLabel bytes n → IsLabelText (take n bytes)
label_spells [] n label = absurd (false≢true label.opened)
label_spells (b ∷ rest) n label =
    let m = prefix_len is_label_byte rest in
    let size : n ≡ suc (m + 1) = omega (arith, label.whole) in
    let at : n - 1 ≡ suc m = omega arith in
    let inside : m < length rest = omega (arith, label_within (b ∷ rest) n label) in
    let closed = eqb-true _ 34 (ap (λ (k : ℕ). is_quote (get_or (b ∷ rest) k 0)) (sym at) ∙ label.closed) in
    record {
      inside = take m rest;
      quoted = ap (λ (k : ℕ). take k (b ∷ rest)) size
          ∙ ap (λ (l : List ℕ). b ∷ l) (take_more rest m 0 inside)
          ∙ (λ i. eqb-true b 34 label.opened i ∷ take m rest ++ closed i ∷ []);
      label_bytes = front_passes rest m is_label_byte refl;
    }

-- the bytes of a token spell it
pub front_spells : (kind : TokenKind) (bytes : List ℕ) (n : ℕ) → 0 < length bytes → IsLexeme kind bytes n → Spells kind (take n bytes)
front_spells Name bytes n there lexeme = (
  record {
    letter = front_first bytes n is_ascii_alphabetic (lexeme_some Name n bytes there lexeme) lexeme.0.letter;
    name_bytes = front_passes bytes n is_name_byte lexeme.0.whole;
  },
  lexeme.1,
)
front_spells Word bytes n there lexeme = lexeme.1
front_spells (Number value) bytes n there lexeme =
    let some = lexeme_some (Number value) n bytes there lexeme in
    record {
      some = omega (arith, length-take-le n bytes (lexeme_within (Number value) bytes n lexeme));
      digits = front_passes bytes n is_ascii_digit lexeme.0.whole;
      value_is = lexeme.1;
      not_above = lexeme.2;
    }
front_spells Label bytes n there lexeme = label_spells bytes n lexeme
front_spells Mark bytes n there lexeme = lexeme.is_mark
front_spells Last bytes n there never = absurd never

blank_no_name_byte : (b : ℕ) → is_blank b ≡ true → is_name_byte b ≡ false
blank_no_name_byte b is = grind (arith, nat_tests)

blank_no_digit : (b : ℕ) → is_blank b ≡ true → is_ascii_digit b ≡ false
blank_no_digit b is = grind (arith, nat_tests)

-- Bytes, and others behind them that end a word.
module _ (w rest : List ℕ) (ends : EndsWord rest) where
  -- a run of the bytes ends with them
  run_ends : (p : ℕ → Bool) → ((b : ℕ) → is_blank b ≡ true → p b ≡ false) → AllPass p w → length w ≡ prefix_len p (w ++ rest)
  run_ends p not_blank all = sym (prefix_len_is p (w ++ rest) (length w) 0
      (omega (arith, length-append w rest))
      (λ k lt. ap p (get_or_append_left w rest 0 k lt) ∙ all k 0 lt)
      (λ lt. ⊎_elim
      (λ (none : rest ≡ []). absurd (omega (arith, length-append w rest, ap length none)))
      (λ (blank : is_blank (first rest) ≡ true).
      let at : length w ≡ length w + 0 = omega arith in
      ap p (ap (λ (k : ℕ). get_or (w ++ rest) k 0) at ∙ get_or-append-add w rest 0 0) ∙ not_blank (first rest) blank)
      ends))

  first_same : (p : ℕ → Bool) → 0 < length w → p (first w) ≡ true → p (first (w ++ rest)) ≡ true
  first_same p some passes = ap p (get_or_append_left w rest 0 0 some) ∙ passes

  whole : take (length w) (w ++ rest) ≡ w
  whole = take_at w rest (length w) refl

  name_or_word : is_ascii_alphabetic (first w) ≡ true → AllPass is_name_byte w → IsNameOrWord (w ++ rest) (length w)
  name_or_word letter all = record {
    letter = first_same is_ascii_alphabetic (some_first is_ascii_alphabetic w refl letter) letter;
    whole = run_ends is_name_byte blank_no_name_byte all;
  }

  word_front : IsWord w → IsNameOrWord (w ++ rest) (length w)
  word_front word =
      let both = and_parts _ _ (each_entry (λ m. is_ascii_alphabetic (first m) && list_all is_name_byte m) words w refl word) in
      name_or_word both.0 (all_pass is_name_byte w both.1)

  -- a longer mark would have to hold the blank
  no_longer_mark : IsMark w → (k : ℕ) → length w < k → k ≤ length (w ++ rest) → IsMark (take k (w ++ rest)) → ⊥
  no_longer_mark mark k more within listed =
      let front = take k (w ++ rest) in
      let long = length-take-le k (w ++ rest) within in
      let all = each_entry (list_all (λ b. not (is_blank b))) marks front refl listed in
      let at : length w ≡ length w + 0 = omega arith in
      let same = get_or-take k (w ++ rest) (length w) 0 more ∙ ap (λ (j : ℕ). get_or (w ++ rest) j 0) at ∙ get_or-append-add w rest 0 0 in
      let no_blank = not-true _ (all_pass (λ b. not (is_blank b)) front all (length w) 0 (omega arith)) in
      ⊎_elim
      (λ (none : rest ≡ []). omega (arith, length-append w rest, ap length none))
      (λ (blank : is_blank (first rest) ≡ true). false≢true (sym no_blank ∙ ap is_blank same ∙ blank))
      ends

label_front : (inside rest : List ℕ) → AllPass is_label_byte inside → IsLabel ((34 ∷ inside ++ 34 ∷ []) ++ rest) (length (34 ∷ inside ++ 34 ∷ []))
label_front inside rest all =
    let tail = (inside ++ 34 ∷ []) ++ rest in
    let split : tail ≡ inside ++ 34 ∷ rest = append_assoc inside (34 ∷ []) rest in
    let size : length (inside ++ 34 ∷ []) ≡ length inside + 1 = omega (arith, length-append inside (34 ∷ [])) in
    let quote : get_or tail (length inside) 0 ≡ 34 = ap (λ (l : List ℕ). get_or l (length inside) 0) split ∙ get_or_at inside 34 rest 0 (length inside) refl in
    let at : length (34 ∷ inside ++ 34 ∷ []) - 1 ≡ suc (length inside) = omega arith in
    let run : prefix_len is_label_byte tail ≡ length inside = prefix_len_is is_label_byte tail (length inside) 0
    (omega (arith, length-append (inside ++ 34 ∷ []) rest))
    (λ k lt. ap is_label_byte (ap (λ (l : List ℕ). get_or l k 0) split ∙ get_or_append_left inside (34 ∷ rest) 0 k lt) ∙ all k 0 lt)
    (λ lt. ap is_label_byte quote) in
    record {
      opened = refl;
      whole = omega arith;
      closed = ap (λ (k : ℕ). is_quote (get_or (34 ∷ tail) k 0)) at ∙ ap is_quote quote;
    }

-- what spells a token is one also where a blank follows, or nothing
pub spells_front : (kind : TokenKind) (w rest : List ℕ) → Spells kind w → EndsWord rest → IsLexeme kind (w ++ rest) (length w)
spells_front Name w rest spells ends = (
  name_or_word w rest ends spells.0.letter spells.0.name_bytes,
  λ word. spells.1 (subst IsWord (whole w rest ends) word),
)
spells_front Word w rest spells ends = (word_front w rest ends spells, subst IsWord (sym (whole w rest ends)) spells)
spells_front (Number value) w rest spells ends = (
  record {
    digit = first_same w rest ends is_ascii_digit spells.some (spells.digits 0 0 spells.some);
    whole = run_ends w rest ends is_ascii_digit blank_no_digit spells.digits;
  },
  spells.value_is ∙ ap (digits_value 10) (sym (whole w rest ends)),
  spells.not_above,
)
spells_front Label w rest spells ends = subst (λ (v : List ℕ). IsLabel (v ++ rest) (length v)) (sym spells.quoted) (label_front spells.inside rest spells.label_bytes)
spells_front Mark w rest spells ends = record {
  within = omega (arith, length-append w rest);
  is_mark = subst IsMark (sym (whole w rest ends)) spells;
  longest = no_longer_mark w rest ends spells;
}
spells_front Last w rest never ends = absurd never
