-- Numbers are read as they are written.
use Rattle.std.proofs.Common.{◌≡◌, inl, inr, ℕ, suc, ℤ, pos, ◌+◌, ◌-◌, ◌^◌, ◌<◌, ◌≤◌, List, [], ◌∷◌, ◌++◌, true, false, Some, refl, sym, ap, ◌∙◌, arith, nat_eq, nat_lt, decimal}
use Rattle.std.specs.Prelude.{negsuc, codes}
use Rattle.std.specs.Str.{bytes_eq}
use Rattle.std.specs.Str.Parse.{IsNumeral}
use Rattle.std.proofs.lemmas.Fmt.{decimal_is_IsNumeral}
use Rattle.std.proofs.lemmas.Str.Parse.{digit_from_value}
use Rattle.std.proofs.lemmas.Bool.Decides.{eqb_tells}
use Rattle.std.proofs.lemmas.Bool.{cases_lt}
use Rattle.sig_base.specs.Traces.{has_64_bits}
use Rattle.sig_c.specs.SmallC.{Expression, Number}
use Rattle.sig_c.specs.Tokens.{Token, Word, Sign, is_digit}
use Rattle.sig_c.specs.Written.{Scope, number_tokens, size_tokens}
use Rattle.sig_c.specs.Reader.{Read, number_in, a_size, is_digit_first, word_operand, operand_by, negative, onward}
use Rattle.sig_c.proofs.Words.{same_bytes}

-- a decimal number is its first digit and the others
pub record IsDecimal (text : List ℕ) : Type 0 where
  pub digit : ℕ
  pub others : List ℕ
  pub is : text ≡ digit ∷ others
  pub low : 48 ≤ digit
  pub high : digit ≤ 57

pub decimal_is : (n : ℕ) → n < 2 ^ 64 → IsDecimal (decimal n)
decimal_is n small = by (decimal n) (decimal_is_IsNumeral n small).0
  where
    by : (text : List ℕ) → IsNumeral 10 text → IsDecimal text
    by [] numeral = absurd (omega (arith, numeral.0))
    by (digit ∷ others) numeral = let range = digit_from_value digit numeral.1.0 in record { digit = digit; others = others; is = refl; low = range.0; high = range.1 }

-- it is read
pub number_back : (n : ℕ) → n < 2 ^ 64 → number_in (decimal n) ≡ Some n
number_back n small = let value = (decimal_is_IsNumeral n small).1 in rw value (rw (same_bytes (decimal n)) refl)

-- no word that begins with a letter is a decimal number
pub not_word : (n : ℕ) → n < 2 ^ 64 → (letter : ℕ) (letters : List ℕ) → 58 ≤ letter → bytes_eq (decimal n) (letter ∷ letters) ≡ false
not_word n small letter letters high =
    let it = decimal_is n small in
    let differ : nat_eq it.digit letter ≡ false = (let most = it.high in grind (arith, most, high)) in
    rw (it.is) (rw differ refl)

pub is_digit_of : (digit : ℕ) → 48 ≤ digit → digit ≤ 57 → is_digit digit ≡ true
is_digit_of digit low high = grind (arith, low, high)

digit_first : (n : ℕ) → n < 2 ^ 64 → is_digit_first (decimal n) ≡ true
digit_first n small = let it = decimal_is n small in rw it.is (is_digit_of it.digit it.low it.high)

-- ---- sizes

pub small_of : (n : ℕ) → n < 2 ^ 31 → nat_lt n (2 ^ 31) ≡ true
small_of n small = grind (arith, small)

pub large_of : (n : ℕ) → 2 ^ 31 ≤ n → nat_lt n (2 ^ 31) ≡ false
large_of n large = grind (arith, large)

bound_of : (n : ℕ) → n < 2 ^ 63 → nat_lt n (2 ^ 63) ≡ true
bound_of n small = grind (arith, small)

pub wider : (n : ℕ) → n < 2 ^ 63 → n < 2 ^ 64
wider n small = omega (arith, small)

-- a size by itself
decimal_back : (n : ℕ) (rest : List Token) → n < 2 ^ 31 → a_size (Word (decimal n) ∷ rest) ≡ Some (n, rest)
decimal_back n rest small =
    let within : n < 2 ^ 64 = omega (arith, small) in
    let macro : bytes_eq (decimal n) (codes "INT64_C") ≡ false = not_word n within 73 _ (omega arith) in
    rw macro (rw (number_back n within) (rw (small_of n small) refl))

abbrev macro_tokens : ℕ → List Token
macro_tokens n = Word (codes "INT64_C") ∷ Sign (codes "(") ∷ Word (decimal n) ∷ Sign (codes ")") ∷ []

macro_back : (n : ℕ) (rest : List Token) → n < 2 ^ 63 → a_size (macro_tokens n ++ rest) ≡ Some (n, rest)
macro_back n rest small = rw (number_back n (wider n small)) (rw (bound_of n small) refl)

size_back : (n : ℕ) (rest : List Token) → n < 2 ^ 63 → a_size (size_tokens false n ++ rest) ≡ Some (n, rest)
size_back n rest small = elim (cases_lt n (2 ^ 31)) [
  | inl lt ↦ rw (small_of n lt) (decimal_back n rest lt)
  | inr past ↦ rw (large_of n past) (macro_back n rest small)
]

after_one : (n : ℕ) → n + 1 ≡ suc n
after_one n = omega arith

-- ---- numbers as operands

module _ (scope : Scope) (operand : List Token → Read Expression) (rest : List Token) where
  -- a decimal number
  word_back : (n : ℕ) → n < 2 ^ 31 → word_operand scope (decimal n) rest ≡ Some (Number (pos n), rest)
  word_back n small =
      let within : n < 2 ^ 64 = omega (arith, small) in
      let most : bytes_eq (decimal n) (codes "INT64_MAX") ≡ false = not_word n within 73 _ (omega arith) in
      let least : bytes_eq (decimal n) (codes "INT64_MIN") ≡ false = not_word n within 73 _ (omega arith) in
      let macro : bytes_eq (decimal n) (codes "INT64_C") ≡ false = not_word n within 73 _ (omega arith) in
      rw most (rw least (rw macro (rw (digit_first n within) (rw (number_back n within) (rw (small_of n small) refl)))))

  not_negative : (n : ℕ) → n < 2 ^ 63 → operand_by scope operand (size_tokens false n ++ rest) ≡ Some (Number (pos n), rest)
  not_negative n small = elim (cases_lt n (2 ^ 31)) [
    | inl lt ↦ rw (small_of n lt) (word_back n lt)
    | inr past ↦ rw (large_of n past) (ap (λ (r : Read ℕ). onward r (λ k end. Some (Number (pos k), end))) (macro_back n rest small))
  ]

  pub value_back : (v : ℤ) → has_64_bits v ≡ true → operand_by scope operand (number_tokens v ++ rest) ≡ Some (Number v, rest)
  value_back (pos n) small = elim (eqb_tells n (2 ^ 63 - 1)) [
    | inl e ↦ rw e.0 (ap (λ (k : ℕ). Some (Number (pos k), rest)) (sym e.1))
    | inr e ↦ rw e.0 (not_negative n (grind (arith, small)))
  ]
  value_back (negsuc n) small = elim (eqb_tells n (2 ^ 63 - 1)) [
    | inl e ↦ rw e.0 (ap (λ (k : ℕ). Some (Number (negsuc k), rest)) (sym e.1))
    | inr e ↦ rw e.0 (ap (λ (r : Read ℕ). onward r (λ k end. Some (Number (negative k), end))) (size_back (n + 1) rest (let differ = e.1 in grind (arith, small, differ)))
        ∙ ap (λ (k : ℕ). Some (Number (negative k), rest)) (after_one n))
  ]
