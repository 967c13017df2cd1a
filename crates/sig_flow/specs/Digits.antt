-- Runs of decimal digits.
use Rattle.std.specs.Prelude.{◌≡◌, ◌<◌, ◌&&◌, if◌then◌else◌}
use Rattle.sig_flow.specs.Prelude.{ℕ, Bool, nat_lt, nat_le, List, length, Option, None, Some, IsTrue, all_ascii_digits, digits_value}

-- digits, at least one
abbrev pub is_digits : List ℕ → Bool
is_digits digits = nat_lt 0 (length digits) && all_ascii_digits digits

-- the number that 1 to 9 digits write
abbrev pub short_number : List ℕ → Option ℕ
short_number digits = if is_digits digits && nat_le (length digits) 9 then Some (digits_value 10 digits) else None

-- the word is digits that write this number, and it is below 10^18
pub record IsShortNumber (word : List ℕ) (n : ℕ) : Type 0 where
  pub digits : IsTrue (is_digits word)
  pub value : n ≡ digits_value 10 word
  pub small : n < 1000000000000000000
