-- The lines of some bytes, taken from their front.
use Rattle.sig_flow.proofs.Common.{◌≡◌, ◌<◌, ◌+◌, ℕ, List, [], ◌∷◌, length, take, drop, eqb, false, true, arith, refl, ◌∙◌, ap, ⊎_elim, slice_split_none, slice_split_first, length-slice_split, ne_eqb, cases_Bool, position_or_len, slice_split, All, lines, lines_of_parts, strip_carriage_return}

lines_of_parts-cons : (part : List ℕ) (parts : List (List ℕ)) → 0 < length parts → lines_of_parts (part ∷ parts) ≡ strip_carriage_return part ∷ lines_of_parts parts
lines_of_parts-cons part [] some = absurd (omega arith)
lines_of_parts-cons part (next ∷ parts) some = refl

-- a line ends at the first newline
pub lines_first : (bytes : List ℕ) (n : ℕ) → n < length bytes → position_or_len (λ b. eqb b 10) bytes ≡ n → lines bytes ≡ strip_carriage_return (take n bytes) ∷ lines (drop (n + 1) bytes)
lines_first bytes n lt at =
    let parts : slice_split (λ b. eqb b 10) bytes ≡ take n bytes ∷ slice_split (λ b. eqb b 10) (drop (n + 1) bytes) =
    rw at at (slice_split_first (λ b. eqb b 10) bytes 0 (rw at lt)) in
    ap lines_of_parts parts
    ∙ lines_of_parts-cons (take n bytes) (slice_split (λ b. eqb b 10) (drop (n + 1) bytes)) (omega (arith, length-slice_split (λ b. eqb b 10) (drop (n + 1) bytes)))

-- or, with no newline, with the bytes
pub lines_last : (bytes : List ℕ) → 0 < length bytes → All (λ b. eqb b 10 ≡ false) bytes → lines bytes ≡ bytes ∷ []
lines_last bytes some none = ap lines_of_parts (slice_split_none (λ b. eqb b 10) bytes none) ∙ rw (ne_eqb (length bytes) 0 (λ e. omega arith)) refl

pub no_newline : (b : ℕ) → (eqb b 10 ≡ true → ⊥) → eqb b 10 ≡ false
no_newline b other = ⊎_elim (λ is. absurd (other is)) (λ is. is) (cases_Bool (eqb b 10))
