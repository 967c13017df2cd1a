-- Choices for each number below one, as a list.
use Rattle.sig_work.proofs.Common.{◌≡◌, ◌<◌, ℕ, zero, suc, List, [], ◌∷◌, length, refl, ap, subst, arith, None, Some, slice_get, same_Some}

module _ {A : Type 0} where
  with_first : (P : ℕ → A → Type 0) (x : A) (xs : List A) → P 0 x → ((k : ℕ) (a : A) → slice_get xs k ≡ Some a → P (suc k) a)
      → (k : ℕ) (a : A) → slice_get (x ∷ xs) k ≡ Some a → P k a
  with_first P x xs here rest zero a at = subst (P 0) (same_Some x a at) here
  with_first P x xs here rest (suc k) a at = rest k a at

  pub chosen : (P : ℕ → A → Type 0) (n : ℕ) → ((k : ℕ) → k < n → (a : A) × P k a)
      → (xs : List A) × (length xs ≡ n) × ((k : ℕ) (a : A) → slice_get xs k ≡ Some a → P k a)
  chosen P zero each = ([], refl, λ k a at. absurd (let e : None ≡ Some a = at in cc))
  chosen P (suc n) each =
      let first = each 0 (omega arith) in
      let rest = chosen (λ k. P (suc k)) n (λ k lt. each (suc k) (omega (arith, lt))) in
      (first.0 ∷ rest.0, ap suc rest.1, with_first P first.0 rest.0 first.1 rest.2)
