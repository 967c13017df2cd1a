-- Bytes of names and numbers are printable and no blanks.
use Rattle.sig_call.proofs.Common.{◌≡◌, ◌<◌, ◌≤◌, ◌^◌, ◌||◌, ◌==◌, ℕ, suc, true, false, List, [], ◌∷◌, length, decimal, inl, inr, arith, eqb-true, leb-true, decimal_is_IsNumeral_wide, digit_from_value, is_ascii_alphabetic, is_ascii_alphanumeric, is_in_range, AllByRecursion, AllPass, AllDigits, first, is_name_byte, IsNameText, IsGraphic, and_parts, or_cases}

ranged : (low high c : ℕ) → 33 ≤ low → high ≤ 126 → is_in_range low high c ≡ true → IsGraphic c
ranged low high c below above h =
    let parts = and_parts _ _ h in
    let first : low ≤ c = leb-true low c parts.0 in
    let second : c ≤ high = leb-true c high parts.1 in
    (omega arith, omega arith)

name_byte_graphic : (c : ℕ) → is_name_byte c ≡ true → IsGraphic c
name_byte_graphic c h = elim (or_cases (is_ascii_alphanumeric c) (c == 95) h) [
  | inl wide ↦ elim (or_cases (is_in_range 48 57 c || is_in_range 65 90 c) (is_in_range 97 122 c) wide) [
    | inl some ↦ elim (or_cases (is_in_range 48 57 c) (is_in_range 65 90 c) some) [ inl digit ↦ ranged 48 57 c (omega arith) (omega arith) digit | inr upper ↦ ranged 65 90 c (omega arith) (omega arith) upper ]
    | inr lower ↦ ranged 97 122 c (omega arith) (omega arith) lower
  ]
  | inr under ↦ (let same : c ≡ 95 = eqb-true c 95 under in (omega arith, omega arith))
]

bytes_graphic : (bytes : List ℕ) → AllPass is_name_byte bytes → AllByRecursion IsGraphic bytes
bytes_graphic [] all = tt
bytes_graphic (c ∷ cs) all = (name_byte_graphic c (all 0 c (omega arith)), bytes_graphic cs (λ k d below. all (suc k) d (omega arith)))

pub name_graphic : (bytes : List ℕ) → IsNameText bytes → AllByRecursion IsGraphic bytes
name_graphic bytes named = bytes_graphic bytes named.name_bytes

pub name_some : (bytes : List ℕ) → IsNameText bytes → 1 ≤ length bytes
name_some [] named = (let letter : is_ascii_alphabetic (first []) ≡ true = named.letter in let none : false ≡ true = letter in absurd cc)
name_some (c ∷ cs) named = omega arith

-- the digits of a number
digits_graphic : (ds : List ℕ) → AllDigits 10 ds → AllByRecursion IsGraphic ds
digits_graphic [] all = tt
digits_graphic (c ∷ cs) all = ((let digit = digit_from_value c all.0 in (omega (arith, digit), omega (arith, digit))), digits_graphic cs all.1)

pub decimal_graphic : (n : ℕ) → n < 10 ^ 64 → AllByRecursion IsGraphic (decimal n)
decimal_graphic n few = digits_graphic (decimal n) (decimal_is_IsNumeral_wide n few).0.1
