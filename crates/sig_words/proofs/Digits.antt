-- The test of decimal digits.
use Rattle.sig_words.proofs.Common.{◌≡◌, ℕ, List, true, rules, is_ascii_digit, list_all, AllDigits, digits_value, IsNumeralModel, numerals_by_value}

own : IsNumeralModel (λ ds. list_all is_ascii_digit ds ≡ true) (digits_value 10)
own = numerals_by_value _ (search rules)

-- digits pass the test
pub digits_pass : (word : List ℕ) → AllDigits 10 word → list_all is_ascii_digit word ≡ true
digits_pass word = own.from word
