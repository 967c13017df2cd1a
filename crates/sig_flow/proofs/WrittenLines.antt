-- Lines and texts of values that are written from their ends.
use Rattle.sig_flow.proofs.Common.{false, ◌≡◌, ◌≤◌, ◌<◌, ◌+◌, ◌∙◌, ℕ, ℤ, pos, negsuc, List, [], ◌∷◌, ◌++◌, length, drop, set, refl, sym, ap, arith, append_assoc, length-append, drop-set, true≢false, w64, FitsSigned, int_le, unsigned_abs, leb-zero, decimal, signed_decimal, length_signed_le, line_with}

-- one below 0 has one
pub text_of_minus : (z : ℤ) → int_le (pos 0) z ≡ false → 45 ∷ decimal (unsigned_abs z) ≡ signed_decimal z
text_of_minus (pos n) is = absurd (true≢false (sym (leb-zero n) ∙ is))
text_of_minus (negsuc n) is = refl

-- an integer of 64 bits has twenty bytes at most, and a truth fewer
pub integer_is_short : (z : ℤ) → FitsSigned w64 z → length (signed_decimal z) ≤ 20
integer_is_short (pos n) fits = let small = fits.sfits in length_signed_le 19 (pos n) (omega (arith, small)) (omega (arith, small))
integer_is_short (negsuc n) fits = let small = fits.sfits in length_signed_le 19 (negsuc n) (omega (arith, small)) (omega (arith, small))

-- a line, and what stands behind it
line_then : (name value rest : List ℕ) → line_with name value ++ rest ≡ name ++ (32 ∷ (value ++ (10 ∷ rest)))
line_then name value rest =
    append_assoc name (32 ∷ (value ++ 10 ∷ [])) rest
    ∙ ap (λ back. name ++ (32 ∷ back)) (append_assoc value (10 ∷ []) rest)

pub size_of_line : (name value : List ℕ) → length (line_with name value) ≡ length name + length value + 2
size_of_line name value =
    let all = length-append name (32 ∷ (value ++ 10 ∷ [])) in
    let back = length-append value (10 ∷ []) in
    omega (arith, all, back)

-- the newline, the value, the blank and the name, one after another
pub line_is_written : (old middle new name value : List ℕ) (newline blank at start end : ℕ) → newline + 1 ≡ end → newline < length old → drop at middle ≡ value ++ drop newline (set old newline 10)
    → blank + 1 ≡ at → blank < length middle → drop start new ≡ name ++ drop blank (set middle blank 32) → drop start new ≡ line_with name value ++ drop end old
line_is_written old middle new name value newline blank at start end last below valued before within named =
    named
    ∙ ap (λ back. name ++ back) (drop-set middle blank 32 within ∙ ap (λ (k : ℕ). 32 ∷ drop k middle) before ∙ ap (λ back. 32 ∷ back) valued)
    ∙ ap (λ back. name ++ (32 ∷ (value ++ back))) (drop-set old newline 10 below ∙ ap (λ (k : ℕ). 10 ∷ drop k old) last)
    ∙ sym (line_then name value (drop end old))
