-- Numbers on a command line.
use Rattle.std.specs.Prelude.{◌≡◌, ◌≤◌, ℕ, List, length}
use Rattle.std.specs.Str.Parse.{IsNumeral, digits_value}

-- the word is 1 to 20 decimal digits and nothing else, and they write this number
pub record IsNumber (word : List ℕ) (n : ℕ) : Type 0 where
  pub numeral : IsNumeral 10 word
  pub short : length word ≤ 20
  pub value : n ≡ digits_value 10 word

-- and the number is within these limits
pub record IsNumberWithin (low high : ℕ) (word : List ℕ) (n : ℕ) : Type 0 where
  pub number : IsNumber word n
  pub not_below : low ≤ n
  pub not_above : n ≤ high
