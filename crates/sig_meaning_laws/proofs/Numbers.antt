-- Numbers and flows compared.
use Rattle.sig_meaning_laws.proofs.Common.{◌<◌, ◌≤◌, ◌⊎◌, inl, inr, ℕ, zero, suc, not, arith}

-- a number is at most another one, or not
pub at_most_or : (a b : ℕ) → (a ≤ b) ⊎ (b < a)
at_most_or zero b = inl (omega arith)
at_most_or (suc a) zero = inr (omega arith)
at_most_or (suc a) (suc b) = elim (at_most_or a b) [ inl le ↦ inl (omega (arith, le)) | inr lt ↦ inr (omega (arith, lt)) ]
