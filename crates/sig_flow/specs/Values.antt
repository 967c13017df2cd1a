-- The values that a word of a flow file stands for.
use Rattle.std.specs.Prelude.{◌==◌, ◌&&◌, ◌^◌, ◌∷◌, if◌then◌else◌}
use Rattle.sig_flow.specs.Prelude.{ℕ, ℤ, Bool, false, nat_lt, nat_le, List, [], codes, bytes_eq, length, replicate, pos, neg_ℤ, Option, None, Some, Result, Ok, Err, before_first, after_first, position_or_len, digits_value, Kind, Integer, Boolean, Event, VALUES}
use Rattle.sig_flow.specs.Digits.{is_digits, short_number}
use Rattle.sig_flow.specs.declared.version.Version.{Version}
use Rattle.sig_flow.specs.declared.version.Version.TheVariants.{One, Two}
use Rattle.sig_flow.specs.declared.value.WordFault.{WordFault}
use Rattle.sig_flow.specs.declared.value.WordFault.TheVariants.{Bad, Outside}
use Rattle.sig_flow.specs.declared.value.Run.{Run}

-- digits with an optional minus before them
abbrev pub is_numeral : List ℕ → Bool
is_numeral [] = false
is_numeral (c ∷ cs) = if c == 45 then is_digits cs else is_digits (c ∷ cs)

-- the integer that a numeral spells
abbrev pub integer_of : List ℕ → ℤ
integer_of [] = pos 0
integer_of (c ∷ cs) = if c == 45 then neg_ℤ (pos (digits_value 10 cs)) else pos (digits_value 10 (c ∷ cs))

-- that integer is one of 64 bits
abbrev pub is_within : List ℕ → Bool
is_within [] = false
is_within (c ∷ cs) = if c == 45 then nat_le (digits_value 10 cs) (2 ^ 63) else nat_lt (digits_value 10 (c ∷ cs)) (2 ^ 63)

-- the value of an integer's word, or what is wrong with it
abbrev pub integer_said : List ℕ → Result ℤ WordFault
integer_said word = if is_numeral word then (if is_within word then Ok (integer_of word) else Err Outside) else Err Bad

-- the word of a truth
abbrev pub truth_word : Bool → List ℕ
truth_word truth = if truth then codes "true" else codes "false"

abbrev pub boolean_said : List ℕ → Result ℤ WordFault
boolean_said word = if bytes_eq word (codes "true") then Ok (pos 1) else if bytes_eq word (codes "false") then Ok (pos 0) else Err Bad

abbrev pub event_said : List ℕ → Result ℤ WordFault
event_said word = if bytes_eq word (codes "true") then Ok (pos 1) else Err Bad

-- the value of a word of an input of this kind
abbrev pub value_said : Kind → List ℕ → Result ℤ WordFault
value_said Integer word = integer_said word
value_said Boolean word = boolean_said word
value_said Event word = event_said word

-- how often a value stands: 1 to 9 digits, of a value from 1 to the most values of a file
abbrev pub times_said : List ℕ → Option ℕ
times_said digits = elim (short_number digits) [ None ↦ None | Some times ↦ if nat_le 1 times && nat_le times VALUES then Some times else None ]

-- a value, so many times
abbrev pub repeated : ℕ → Result ℤ WordFault → Result Run WordFault
repeated times (Ok value) = Ok (record { value = value; times = times })
repeated times (Err fault) = Err fault

abbrev pub is_star : ℕ → Bool
is_star b = b == 42

-- a value, as often as its digits say
abbrev pub starred : Option ℕ → Result ℤ WordFault → Result Run WordFault
starred None value = Err Bad
starred (Some times) value = repeated times value

-- a word that may have a star: where it has one, the value before the first one, as often as the
-- digits behind it say
abbrev pub star_said : Kind → List ℕ → Result Run WordFault
star_said kind word =
    if nat_lt (position_or_len is_star word) (length word)
    then starred (times_said (after_first is_star word)) (value_said kind (before_first is_star word))
    else repeated 1 (value_said kind word)

-- what a word stands for in a file of this version; only version 2 has words with a star
abbrev pub run_said : Version → Kind → List ℕ → Result Run WordFault
run_said One kind word = repeated 1 (value_said kind word)
run_said Two kind word = star_said kind word

-- how many values those are, and which
abbrev pub run_length : Result Run WordFault → ℕ
run_length (Ok run) = run.times
run_length (Err fault) = 0

abbrev pub run_values : Result Run WordFault → List ℤ
run_values (Ok run) = replicate run.times run.value
run_values (Err fault) = []
