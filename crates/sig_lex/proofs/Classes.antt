-- The class of a byte, which tells what begins with it.
use Rattle.sig_lex.proofs.Common.{◌≡◌, ℕ, true, false, cond, refl, arith, is_ascii_alphabetic, is_ascii_digit, nat_tests, is_blank, is_percent, is_quote}

pub data Class : Type 0 where
  Blank : Class
  Percent : Class
  Letter : Class
  Digit : Class
  Quote : Class
  Other : Class

abbrev pub class_of : ℕ → Class
class_of b = cond (is_blank b) Blank (cond (is_percent b) Percent (cond (is_ascii_alphabetic b) Letter (cond (is_ascii_digit b) Digit (cond (is_quote b) Quote Other))))

module _ (b : ℕ) where
  percent_no_blank : is_percent b ≡ true → is_blank b ≡ false
  percent_no_blank is = grind (arith, nat_tests)

  letter_no_blank : is_ascii_alphabetic b ≡ true → is_blank b ≡ false
  letter_no_blank is = grind (arith, nat_tests)

  letter_no_percent : is_ascii_alphabetic b ≡ true → is_percent b ≡ false
  letter_no_percent is = grind (arith, nat_tests)

  digit_no_blank : is_ascii_digit b ≡ true → is_blank b ≡ false
  digit_no_blank is = grind (arith, nat_tests)

  digit_no_percent : is_ascii_digit b ≡ true → is_percent b ≡ false
  digit_no_percent is = grind (arith, nat_tests)

  digit_no_letter : is_ascii_digit b ≡ true → is_ascii_alphabetic b ≡ false
  digit_no_letter is = grind (arith, nat_tests)

  quote_no_blank : is_quote b ≡ true → is_blank b ≡ false
  quote_no_blank is = grind (arith, nat_tests)

  quote_no_percent : is_quote b ≡ true → is_percent b ≡ false
  quote_no_percent is = grind (arith, nat_tests)

  quote_no_letter : is_quote b ≡ true → is_ascii_alphabetic b ≡ false
  quote_no_letter is = grind (arith, nat_tests)

  quote_no_digit : is_quote b ≡ true → is_ascii_digit b ≡ false
  quote_no_digit is = grind (arith, nat_tests)

  pub blank_class : is_blank b ≡ true → class_of b ≡ Blank
  blank_class is = rw is refl

  pub percent_class : is_percent b ≡ true → class_of b ≡ Percent
  percent_class is = rw (percent_no_blank is, is) refl

  pub letter_class : is_ascii_alphabetic b ≡ true → class_of b ≡ Letter
  letter_class is = rw (letter_no_blank is, letter_no_percent is, is) refl

  pub digit_class : is_ascii_digit b ≡ true → class_of b ≡ Digit
  digit_class is = rw (digit_no_blank is, digit_no_percent is, digit_no_letter is, is) refl

  pub quote_class : is_quote b ≡ true → class_of b ≡ Quote
  quote_class is = rw (quote_no_blank is, quote_no_percent is, quote_no_letter is, quote_no_digit is, is) refl

  pub other_class : is_blank b ≡ false → is_percent b ≡ false → is_ascii_alphabetic b ≡ false → is_ascii_digit b ≡ false → is_quote b ≡ false → class_of b ≡ Other
  other_class no_blank no_percent no_letter no_digit no_quote = rw (no_blank, no_percent, no_letter, no_digit, no_quote) refl
