-- Texts that are written piece by piece, and what `?` passes on.
use Rattle.std.proofs.Common.{◌≡◌, ◌<◌, ◌+◌, ◌++◌, ℕ, List, Err, Ok, sym, ap, ◌∙◌, arith, length, length-append, append_assoc}
use Rattle.std.specs.Prelude.{IsErrAnd}
use Rattle.std.specs.declared.result.Result.{Result}
use Rattle.sig_c_write.specs.declared.answer.WriteAnswer.{WriteAnswer}
use Rattle.sig_c_write.specs.declared.answer.WriteAnswer.TheVariants.{TooLong}

pub two : (old t1 t2 a b all : List ℕ) → t1 ≡ old ++ a → t2 ≡ t1 ++ b → all ≡ a ++ b → t2 ≡ old ++ all
two old t1 t2 a b all p q is = rw (q, p, is) (simp append_assoc)

pub three : (old t1 t2 t3 a b c all : List ℕ) → t1 ≡ old ++ a → t2 ≡ t1 ++ b → t3 ≡ t2 ++ c → all ≡ a ++ (b ++ c) → t3 ≡ old ++ all
three old t1 t2 t3 a b c all p q r is = rw (r, q, p, is) (simp append_assoc)

pub four : (old t1 t2 t3 t4 a b c d all : List ℕ) → t1 ≡ old ++ a → t2 ≡ t1 ++ b → t3 ≡ t2 ++ c → t4 ≡ t3 ++ d → all ≡ a ++ (b ++ (c ++ d)) → t4 ≡ old ++ all
four old t1 t2 t3 t4 a b c d all p q r s is = rw (s, r, q, p, is) (simp append_assoc)

pub five : (old t1 t2 t3 t4 t5 a b c d e all : List ℕ) → t1 ≡ old ++ a → t2 ≡ t1 ++ b → t3 ≡ t2 ++ c → t4 ≡ t3 ++ d → t5 ≡ t4 ++ e → all ≡ a ++ (b ++ (c ++ (d ++ e))) → t5 ≡ old ++ all
five old t1 t2 t3 t4 t5 a b c d e all p q r s t is = rw (t, s, r, q, p, is) (simp append_assoc)

-- a text that is too long before its end
pub long_before : (most : ℕ) (old t a b rest all : List ℕ) → t ≡ old ++ a → all ≡ a ++ (b ++ rest) → most < length t + length b → most < length old + length all
long_before most old t a b rest all begun is long =
    let p : length t ≡ length old + length a = ap length begun ∙ length-append old a in
    let q : length all ≡ length a + length (b ++ rest) = ap length is ∙ length-append a (b ++ rest) in
    let r = length-append b rest in
    omega (arith, p, q, r, long)

pub passed_on : {T : Type 0} (result : Result T WriteAnswer) (e : WriteAnswer) → IsErrAnd result (λ d. d ≡ e) → result ≡ Err TooLong → e ≡ TooLong
passed_on {T} (Ok x) e h is = absurd h
passed_on {T} (Err d) e h is = let f : d ≡ TooLong = cc in sym h ∙ f

pub long_amid : (most : ℕ) (old t1 t2 t3 a b c d e all : List ℕ) → t1 ≡ old ++ a → t2 ≡ t1 ++ b → t3 ≡ t2 ++ c → all ≡ a ++ (b ++ (c ++ (d ++ e))) → most < length t3 + length d
    → most < length old + length all
long_amid most old t1 t2 t3 a b c d e all p q r is long =
    let u : length t1 ≡ length old + length a = ap length p ∙ length-append old a in
    let v : length t2 ≡ length t1 + length b = ap length q ∙ length-append t1 b in
    let w : length t3 ≡ length t2 + length c = ap length r ∙ length-append t2 c in
    let x : length all ≡ length a + length (b ++ (c ++ (d ++ e))) = ap length is ∙ length-append a (b ++ (c ++ (d ++ e))) in
    let y = length-append b (c ++ (d ++ e)) in
    let z = length-append c (d ++ e) in
    let last = length-append d e in
    omega (arith, u, v, w, x, y, z, last, long)
