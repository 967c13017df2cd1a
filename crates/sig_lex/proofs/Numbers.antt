-- Digits, and their value.
use Rattle.sig_lex.proofs.Common.{◌≡◌, ℕ, ◌<◌, ◌^◌, List, true, length, get_or, arith, None, Some, Result, Ok, Err, sym, ap, ◌∙◌, subst, AllPass, MatchResult, OkIff, result_ok, is_ascii_digit, IsInRange, IsUtf8, digits_value, ParsesUnsigned, and_parts, leb-true, IsUtf8-from_ascii, IsAscii-from_all, parse_digits, numerals_by_value, tells_by_index}

digit_range : (c : ℕ) → is_ascii_digit c ≡ true → IsInRange 48 57 c
digit_range c is =
    let both = and_parts _ _ is in
    (leb-true 48 c both.0, leb-true c 57 both.1)

module _ (digits : List ℕ) (all : AllPass is_ascii_digit digits) where
  pub digits_utf8 : IsUtf8 digits
  digits_utf8 = IsUtf8-from_ascii digits (IsAscii-from_all digits (λ k d lt. let range = digit_range (get_or digits k d) (all k d lt) in omega arith))

  -- what they are read as
  pub digits_read : {E : Type 0} (r : Result ℕ E) → ParsesUnsigned 64 10 digits r → OkIff r ((0 < length digits) × (digits_value 10 digits < 2 ^ 64)) (digits_value 10 digits)
  digits_read r parses = parse_digits (numerals_by_value _ tells_by_index) 64 digits r parses (λ k lt. digit_range (get_or digits k 0) (all k 0 lt))

  -- a reading of them as text does not fail
  pub no_text_fault : {T E : Type 0} (P : T → Type 0) (Q : E → Type 0) (r : Result T E) → MatchResult r P (λ e. ¬ IsUtf8 digits × Q e) → result_ok r ≡ None → ⊥
  no_text_fault P Q (Ok text) cases none = cc
  no_text_fault P Q (Err e) cases none = cases.0 digits_utf8

  -- nor does a reading of the text as a number of 64 bits, where their value is one
  pub no_read_fault : {T E F : Type 0} (P : T → Type 0) (Q : E → Type 0) (now : T → List ℕ) → ((t : T) → P t → now t ≡ digits) → (r : Result T E) (text : T) (s : Result ℕ F) → MatchResult r P Q → result_ok r ≡ Some text → ParsesUnsigned 64 10 (now text) s → result_ok s ≡ None → 0 < length digits → digits_value 10 digits < 2 ^ 64 → ⊥
  no_read_fault P Q now same (Ok t) text (Ok value) cases is parses none some small = cc
  no_read_fault P Q now same (Ok t) text (Err fault) cases is parses none some small =
      let the_text : t ≡ text = cc in
      let failed = digits_read (Err fault) (subst (λ l. ParsesUnsigned 64 10 l (Err fault)) (ap now (sym the_text) ∙ same t cases) parses) in
      failed (some, small)
  no_read_fault P Q now same (Err e) text s cases is parses none some small = cc
