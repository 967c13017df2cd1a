-- Two lists of which the items at each place belong to each other.
use Rattle.sig_cells.proofs.Common.{◌≡◌, ◌++◌, ◌∷◌, [], ◌∙◌, inl, inr, ℕ, List, length, Some, same_Some, sym, ap, subst, slice_get}
use Rattle.sig_cells.proofs.GuardsInARow.{get_push}

module _ {A B : Type 0} (P : ℕ → A → B → Type 0) (xs : List A) where
  abbrev pub ArePairs : List B → Type 0
  ArePairs ys = (n : ℕ) (x : A) (y : B) → slice_get xs n ≡ Some x → slice_get ys n ≡ Some y → P n x y

  -- one more at the end
  pub pairs_push : (ys : List B) (x : A) (y : B) → ArePairs ys → slice_get xs (length ys) ≡ Some x → P (length ys) x y → ArePairs (ys ++ y ∷ [])
  pairs_push ys x y are here is = λ n a b at_x at_y. elim (get_push ys y b n at_y) [
    | inl there ↦ are n a b at_x there
    | inr last ↦
        let same : x ≡ a = same_Some x a (sym here ∙ ap (slice_get xs) (sym last.0) ∙ at_x) in
        subst (λ m. P m a b) (sym last.0) (subst (λ (z : B). P (length ys) a z) (sym last.1) (subst (λ (z : A). P (length ys) z y) same is))
  ]
