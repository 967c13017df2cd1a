-- One more level, and one more name.
use Rattle.sig_hier.proofs.Common.{◌≡◌, ℕ, zero, suc, ◌+◌, List, [], ◌∷◌, ◌++◌, refl, ap, add-one, append_assoc, sym, indent}

indent-suc : (n : ℕ) → indent (suc n) ≡ indent n ++ (32 ∷ 32 ∷ [])
indent-suc zero = refl
indent-suc (suc n) = ap (λ t. 32 ∷ 32 ∷ t) (indent-suc n)

pub indent_more : (text : List ℕ) (n : ℕ) → (text ++ indent n) ++ (32 ∷ 32 ∷ []) ≡ text ++ indent (n + 1)
indent_more text n = rw (append_assoc, add-one) (ap (λ t. text ++ t) (sym (indent-suc n)))
