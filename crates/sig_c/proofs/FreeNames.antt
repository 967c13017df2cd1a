-- A name that is free is no reserved word and no number, and stands for its place.
use Rattle.std.proofs.Common.{◌≡◌, ℕ, zero, suc, ◌<◌, ◌≤◌, List, [], ◌∷◌, ◌++◌, length, Bool, true, false, not, ◌&&◌, refl, arith, slice_index_or, nat_le}
use Rattle.std.proofs.lemmas.Bool.{and_parts}
use Rattle.std.specs.List.{list_any, list_all}
use Rattle.std.specs.Str.{bytes_eq}
use Rattle.sig_c.specs.SmallC.{Name}
use Rattle.sig_c.specs.Tokens.{is_letter, is_digit, is_word_byte}
use Rattle.sig_c.specs.Written.{name_at}
use Rattle.sig_c.specs.Reader.{is_digit_first}
use Rattle.sig_c.specs.Names.{reserved, begins_with_letter, is_free, AreFree, AreDistinct}
use Rattle.sig_c.proofs.Words.{none_passes, or_parts}

not_true : (b : Bool) → not b ≡ true → b ≡ false
not_true false e = refl
not_true true e = absurd (let f : false ≡ true = e in cc f)

-- it is not the reserved word at a place of the list
pub not_reserved : (name : Name) → is_free name ≡ true → (k : ℕ) → k < length reserved → bytes_eq name (slice_index_or reserved k []) ≡ false
not_reserved name free k within =
    let letters = and_parts (begins_with_letter name) (nat_le (length name) 63 && not (list_any (bytes_eq name) reserved)) free in
    let others = and_parts (nat_le (length name) 63) (not (list_any (bytes_eq name) reserved)) letters.1 in
    none_passes (bytes_eq name) reserved (not_true (list_any (bytes_eq name) reserved) others.1) k [] within

letter_no_digit : (byte : ℕ) → is_letter byte ≡ true → is_digit byte ≡ false
letter_no_digit byte letter = grind (arith, letter)

-- it begins with no digit
pub no_digit_first : (name : Name) → is_free name ≡ true → is_digit_first name ≡ false
no_digit_first [] free = refl
no_digit_first (byte ∷ bytes) free =
    let letters = and_parts (begins_with_letter (byte ∷ bytes)) (nat_le (length (byte ∷ bytes)) 63 && not (list_any (bytes_eq (byte ∷ bytes)) reserved)) free in
    letter_no_digit byte (and_parts (is_letter byte) (list_all is_word_byte bytes) letters.0).0

pub letter_high : (byte : ℕ) → is_letter byte ≡ true → 58 ≤ byte
letter_high byte letter = grind (arith, letter)

-- it begins with a letter
pub letter_first : (byte : ℕ) (bytes : Name) → is_free (byte ∷ bytes) ≡ true → is_letter byte ≡ true
letter_first byte bytes free =
    let letters = and_parts (begins_with_letter (byte ∷ bytes)) (nat_le (length (byte ∷ bytes)) 63 && not (list_any (bytes_eq (byte ∷ bytes)) reserved)) free in
    (and_parts (is_letter byte) (list_all is_word_byte bytes) letters.0).0

-- ---- lists of names

pub free_at : (names : List Name) → AreFree names → (n : ℕ) → n < length names → is_free (name_at names n) ≡ true
free_at [] free n within = absurd (omega (arith, within))
free_at (name ∷ names) free zero within = free.0
free_at (name ∷ names) free (suc n) within = free_at names free.1 n (omega (arith, within))

pub free_first : (names others : List Name) → AreFree (names ++ others) → AreFree names
free_first [] others free = tt
free_first (name ∷ names) others free = (free.0, free_first names others free.1)

pub free_last : (names others : List Name) → AreFree (names ++ others) → AreFree others
free_last [] others free = free
free_last (name ∷ names) others free = free_last names others free.1

pub any_first : (test : Name → Bool) (names others : List Name) → list_any test (names ++ others) ≡ false → list_any test names ≡ false
any_first test [] others none = refl
any_first test (name ∷ names) others none = let parts = or_parts (test name) (list_any test (names ++ others)) none in rw parts.0 (any_first test names others parts.1)

pub any_last : (test : Name → Bool) (names others : List Name) → list_any test (names ++ others) ≡ false → list_any test others ≡ false
any_last test [] others none = none
any_last test (name ∷ names) others none = any_last test names others (or_parts (test name) (list_any test (names ++ others)) none).1

pub distinct_first : (names others : List Name) → AreDistinct (names ++ others) → AreDistinct names
distinct_first [] others distinct = tt
distinct_first (name ∷ names) others distinct = (any_first (bytes_eq name) names others distinct.0, distinct_first names others distinct.1)

pub distinct_last : (names others : List Name) → AreDistinct (names ++ others) → AreDistinct others
distinct_last [] others distinct = distinct
distinct_last (name ∷ names) others distinct = distinct_last names others distinct.1

-- a name of the first is none of the others
pub apart : (names others : List Name) → AreDistinct (names ++ others) → (n : ℕ) → n < length names → list_any (bytes_eq (name_at names n)) others ≡ false
apart [] others distinct n within = absurd (omega (arith, within))
apart (name ∷ names) others distinct zero within = any_last (bytes_eq name) names others distinct.0
apart (name ∷ names) others distinct (suc n) within = apart names others distinct.1 n (omega (arith, within))
