-- Words that are truths.
use Rattle.sig_flow.proofs.Common.{◌≡◌, ◌≤◌, ◌<◌, ◌∙◌, Bool, true, false, ℕ, List, codes, length, take, get_or, leb-true, nat_le, refl, sym, ap, subst, arith, nat_tests, agree_below_at, get_or-take, is_blank, truth_word}

truth_letter : (truth : Bool) (k : ℕ) → k < length (truth_word truth) → 97 ≤ get_or (truth_word truth) k 0
truth_letter true k lt = leb-true 97 (get_or (codes "true") k 0) (agree_below_at (λ i. nat_le 97 (get_or (codes "true") i 0)) (λ i. true) 4 k refl lt)
truth_letter false k lt = leb-true 97 (get_or (codes "false") k 0) (agree_below_at (λ i. nat_le 97 (get_or (codes "false") i 0)) (λ i. true) 5 k refl lt)

letter_no_blank : (c : ℕ) → 97 ≤ c → is_blank c ≡ false
letter_no_blank c low = grind (arith, nat_tests)

-- a truth at the front of a line has no blank
pub truth_no_blank : (truth : Bool) (xs : List ℕ) (k : ℕ) → take (length (truth_word truth)) xs ≡ truth_word truth → k < length (truth_word truth) → is_blank (get_or xs k 0) ≡ false
truth_no_blank truth xs k front lt =
    let same : get_or (truth_word truth) k 0 ≡ get_or xs k 0 = ap (λ ys. get_or ys k 0) (sym front) ∙ get_or-take (length (truth_word truth)) xs k 0 lt in
    letter_no_blank (get_or xs k 0) (subst (λ b. 97 ≤ b) same (truth_letter truth k lt))

pub truth_some : (truth : Bool) → 0 < length (truth_word truth)
truth_some true = omega arith
truth_some false = omega arith
