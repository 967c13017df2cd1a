-- What follows a front in a word.
use Rattle.sig_words.proofs.Common.{◌≡◌, ℕ, Bool, true, false, eqb, List, ◌∷◌, ◌++◌, refl, cond, arith, Some, None, nat_tests}
use Rattle.sig_words.proofs.Steps.{after_front}

-- it stands where it is found
pub front_found : (front word rest : List ℕ) → after_front front word ≡ Some rest → word ≡ front ++ rest
front_found (x ∷ xs) (c ∷ cs) rest found = found_at x xs c cs rest (eqb x c) refl found (front_found xs cs rest)
  where
    found_at : (x : ℕ) (xs : List ℕ) (c : ℕ) (cs rest : List ℕ) (b : Bool) → eqb x c ≡ b
        → cond b (after_front xs cs) None ≡ Some rest → (after_front xs cs ≡ Some rest → cs ≡ xs ++ rest) → c ∷ cs ≡ x ∷ (xs ++ rest)
    found_at x xs c cs rest true same found more =
        let one : x ≡ c = grind (arith, nat_tests) in
        let all = more found in cc
    found_at x xs c cs rest false same found more = cc
front_found _ _ rest found = cc
