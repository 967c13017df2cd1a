-- What a word that is a short number stands for.
use Rattle.sig_flow.proofs.Common.{◌≡◌, ◌<◌, ◌∙◌, ℕ, List, [], ◌∷◌, eqb, false, pos, Ok, sym, ap, arith, lt-ltb, nat_tests, digits_value, Integer, IsShortNumber, integer_said, repeated, run_said, Version, One, Two}
use Rattle.sig_flow.proofs.Numerals.{digit_in}
use Rattle.sig_flow.proofs.StarLemmas.{star_nowhere}

short_integer : (word : List ℕ) (n : ℕ) → IsShortNumber word n → integer_said word ≡ Ok (pos n)
short_integer [] n short = absurd (grind (arith, nat_tests, short.digits))
short_integer (x ∷ xs) n short =
    let inside = digit_in (x ∷ xs) 0 short.digits (omega arith) in
    let minus : eqb x 45 ≡ false = grind (arith, nat_tests) in
    let less : digits_value 10 (x ∷ xs) < 9223372036854775808 = omega (arith, short.value, short.small) in
    rw (minus, short.digits, lt-ltb (digits_value 10 (x ∷ xs)) 9223372036854775808 less) (ap (λ v. Ok (pos v)) (sym short.value))

-- in a file of either version
pub short_run : (version : Version) (word : List ℕ) (n : ℕ) → IsShortNumber word n → run_said version Integer word ≡ Ok (record { value = pos n; times = 1 })
short_run One word n short = ap (repeated 1) (short_integer word n short)
short_run Two word n short =
    star_nowhere Integer word (λ k lt. let inside = digit_in word k short.digits lt in grind (arith, nat_tests))
    ∙ ap (repeated 1) (short_integer word n short)
