-- A token holds no newline, so the place moves on along its line.
use Rattle.sig_lex.proofs.Common.{◌≡◌, ℕ, zero, suc, ◌+◌, ◌-◌, ◌<◌, ◌≤◌, List, Bool, true, false, not, length, take, drop, get_or, refl, sym, ap, ◌∙◌, ⊎_elim, arith, add-zero, get_or-take, get_or-drop, length-take-le, length-drop, list_all, prefix_len, is_ascii_digit, cases_lt, not-true, nat_tests, and_at, prefix_len_passes, Span, TokenKind, Name, Word, Number, Label, Mark, Last, first, is_name_byte, is_quote, is_label_byte, place_after, marks, IsLexeme, IsLabel}
use Rattle.sig_lex.proofs.Marks.{each_entry}
use Rattle.sig_lex.proofs.PlaceLemmas.{newline, line_other, col_other}

name_byte : (b : ℕ) → is_name_byte b ≡ true → newline b ≡ false
name_byte b is = grind (arith, nat_tests)

digit : (b : ℕ) → is_ascii_digit b ≡ true → newline b ≡ false
digit b is = grind (arith, nat_tests)

quote : (b : ℕ) → is_quote b ≡ true → newline b ≡ false
quote b is = grind (arith, nat_tests)

label_byte : (b : ℕ) → is_label_byte b ≡ true → newline b ≡ false
label_byte b is = grind (arith, nat_tests)

abbrev other : ℕ → Bool
other b = not (newline b)

-- the first byte, one inside, or the last
label_no_newline : (bytes : List ℕ) (n k : ℕ) → IsLabel bytes n → k < n → newline (get_or bytes k 0) ≡ false
label_no_newline bytes n zero label lt = quote (first bytes) label.opened
label_no_newline bytes n (suc k) label lt = ⊎_elim
    (λ (inside : k < prefix_len is_label_byte (drop 1 bytes)).
    label_byte _ (ap is_label_byte (ap (λ (j : ℕ). get_or bytes j 0) (let e : suc k ≡ 1 + k = omega arith in e) ∙ sym (get_or-drop 1 bytes k 0)) ∙ prefix_len_passes is_label_byte (drop 1 bytes) k 0 inside))
    (λ (beyond : prefix_len is_label_byte (drop 1 bytes) ≤ k).
    let at : suc k ≡ n - 1 = omega (arith, label.whole) in
    quote _ (ap (λ (j : ℕ). is_quote (get_or bytes j 0)) at ∙ label.closed))
    (cases_lt k (prefix_len is_label_byte (drop 1 bytes)))

no_newline : (kind : TokenKind) (bytes : List ℕ) (n k : ℕ) → n ≤ length bytes → IsLexeme kind bytes n → k < n → newline (get_or bytes k 0) ≡ false
no_newline Name bytes n k within lexeme lt = name_byte _ (prefix_len_passes is_name_byte bytes k 0 (omega (arith, lexeme.0.whole)))
no_newline Word bytes n k within lexeme lt = name_byte _ (prefix_len_passes is_name_byte bytes k 0 (omega (arith, lexeme.0.whole)))
no_newline (Number value) bytes n k within lexeme lt = digit _ (prefix_len_passes is_ascii_digit bytes k 0 (omega (arith, lexeme.0.whole)))
no_newline Label bytes n k within lexeme lt = label_no_newline bytes n k lexeme lt
no_newline Mark bytes n k within lexeme lt =
    let all = each_entry (list_all other) marks (take n bytes) refl lexeme.is_mark in
    not-true _ (ap other (sym (get_or-take n bytes k 0 lt)) ∙ and_at (list_all other) other refl (λ _ _. refl) (take n bytes) k 0 (omega (arith, length-take-le n bytes within)) all)
no_newline Last bytes n k within never lt = absurd never

module _ (bytes : List ℕ) (start : ℕ) where
  on_line : (n : ℕ) → start + n ≤ length bytes → ((k : ℕ) → k < n → newline (get_or bytes (start + k) 0) ≡ false) → ((place_after (take (start + n) bytes)).line ≡ (place_after (take start bytes)).line) × ((place_after (take (start + n) bytes)).col ≡ (place_after (take start bytes)).col + n)
  on_line zero within none =
      let here : start + 0 ≡ start = omega arith in (
        ap (λ (k : ℕ). (place_after (take k bytes)).line) here,
        ap (λ (k : ℕ). (place_after (take k bytes)).col) here ∙ sym (add-zero _),
      )
  on_line (suc n) within none =
      let before = on_line n (omega arith) (λ k lt. none k (omega arith)) in
      let next : start + suc n ≡ start + n + 1 = omega arith in
      let line = ap (λ (k : ℕ). (place_after (take k bytes)).line) next ∙ line_other bytes (start + n) (omega arith) (none n (omega arith)) in
      let col = ap (λ (k : ℕ). (place_after (take k bytes)).col) next ∙ col_other bytes (start + n) (omega arith) (none n (omega arith)) in
      (line ∙ before.0, omega (arith, col, before.1))

  -- the place after a token
  pub after_token : (kind : TokenKind) (n : ℕ) (at : Span) → start + n ≤ length bytes → IsLexeme kind (drop start bytes) n → at ≡ place_after (take start bytes) → record { line = at.line; col = at.col + n } ≡ place_after (take (start + n) bytes)
  after_token kind n at within lexeme here =
      let none : (k : ℕ) → k < n → newline (get_or bytes (start + k) 0) ≡ false = λ k lt. ap newline (sym (get_or-drop start bytes k 0)) ∙ no_newline kind (drop start bytes) n k (omega (arith, length-drop start bytes)) lexeme lt in
      let along = on_line n within none in
      λ i. record { line = (ap (λ (p : Span). p.line) here ∙ sym along.0) i; col = (ap (λ (p : Span). p.col + n) here ∙ sym along.1) i }
