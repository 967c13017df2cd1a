-- Numerals of flow files: digits read from the left.
use Rattle.sig_flow.proofs.Common.{None, Some, ◌≡◌, ◌≤◌, ◌<◌, ◌+◌, ◌-◌, ◌*◌, ℕ, List, length, take, get_or, true, false, IsTrue, arith, subst, rules, ⊎_elim, length-take-le, take_all, common_steps, cases_lt, nat_tests, digits_value_more, digits_more, IsNumeralModel, numerals_by_value, tells_all_ascii_digits, digit_at, digits_value-take-le, digits_value_short, IsInRange, digit_value, all_ascii_digits, AllDigits, digits_value, IsShortNumber, is_digits, short_number, is_blank}

own : IsNumeralModel (λ ds. all_ascii_digits ds ≡ true) (digits_value 10)
own = numerals_by_value _ tells_all_ascii_digits

-- each byte of digits is a digit
pub digit_in : (ds : List ℕ) (i : ℕ) → IsTrue (is_digits ds) → i < length ds → IsInRange 48 57 (get_or ds i 0)
digit_in ds i h lt = digit_at ds i (own.to ds (search rules)) lt

-- the value of a digit
pub value_of_digit : (c : ℕ) → 48 ≤ c → c ≤ 57 → digit_value c ≡ c - 48
value_of_digit c low high = grind arith

-- one digit more
pub one_more_digit : (ds : List ℕ) (i : ℕ) → i < length ds → AllDigits 10 (take i ds) → 48 ≤ get_or ds i 0 → get_or ds i 0 ≤ 57 → AllDigits 10 (take (i + 1) ds)
one_more_digit ds i lt digits low high =
    let is = value_of_digit (get_or ds i 0) low high in
    digits_more 10 ds i lt digits (omega (arith, is))

-- the value with one digit more
pub value_with_digit : (ds : List ℕ) (i : ℕ) → i < length ds → 48 ≤ get_or ds i 0 → get_or ds i 0 ≤ 57 → digits_value 10 (take (i + 1) ds) ≡ digits_value 10 (take i ds) * 10 + (get_or ds i 0 - 48)
value_with_digit ds i lt low high =
    let is = value_of_digit (get_or ds i 0) low high in
    omega (arith, digits_value_more 10 ds i lt)

-- a front of digits that has a digit more is at most a tenth of the whole
pub tenfold : (ds : List ℕ) (i : ℕ) → i < length ds → digits_value 10 (take i ds) * 10 ≤ digits_value 10 ds
tenfold ds i lt = omega (arith, digits_value_more 10 ds i lt, digits_value-take-le 10 ds (i + 1) (omega arith))

-- a whole list of digits
pub whole : (ds : List ℕ) (n : ℕ) → length ds ≤ n → 0 < length ds → AllDigits 10 (take n ds) → IsTrue (is_digits ds)
whole ds n le some digits =
    let all = own.from ds (subst (λ xs. AllDigits 10 xs) (take_all n ds le) digits) in
    grind (arith, common_steps)

-- up to nine digits write a small number
pub short_value : (ds : List ℕ) → IsTrue (is_digits ds) → length ds ≤ 9 → digits_value 10 ds < 1000000000
short_value ds digits short = digits_value_short own ds 9 (search rules) short

-- what a number of up to nine digits is, and what is none
pub short_is : (ds : List ℕ) → IsTrue (is_digits ds) → length ds ≤ 9 → short_number ds ≡ Some (digits_value 10 ds)
short_is ds digits short = grind (arith, nat_tests)

pub other_is_none : (ds : List ℕ) → (IsTrue (is_digits ds) → ⊥) → short_number ds ≡ None
other_is_none ds other = grind (arith, nat_tests)

-- a front of digits that is not empty
pub some_digits : (ds : List ℕ) (i : ℕ) → 0 < i → i ≤ length ds → AllDigits 10 (take i ds) → IsTrue (is_digits (take i ds))
some_digits ds i some le digits =
    let size : length (take i ds) ≡ i = length-take-le i ds le in
    let byte : 0 < length (take i ds) = omega (arith, size) in
    let all = own.from (take i ds) digits in
    grind (arith, common_steps)

-- a short number at the front
pub short_front : (ds : List ℕ) (i n : ℕ) → 0 < i → i ≤ length ds → AllDigits 10 (take i ds) → n ≡ digits_value 10 (take i ds) → n < 1000000000000000000 → IsShortNumber (take i ds) n
short_front ds i n some le digits value small = record {
  digits = some_digits ds i some le digits;
  value = value;
  small = small;
}

-- a digit is no blank
pub digit_no_blank : (c : ℕ) → 48 ≤ c → c ≤ 57 → is_blank c ≡ false
digit_no_blank c low high = grind (arith, nat_tests)

-- nor are those before it
pub no_blank_more : (xs : List ℕ) (i : ℕ) → ((k : ℕ) → k < i → is_blank (get_or xs k 0) ≡ false) → is_blank (get_or xs i 0) ≡ false → (k : ℕ) → k < i + 1 → is_blank (get_or xs k 0) ≡ false
no_blank_more xs i before here k lt =
    ⊎_elim (λ less. before k less) (λ ge. let same : i ≡ k = omega arith in subst (λ j. is_blank (get_or xs j 0) ≡ false) same here) (cases_lt k i)
