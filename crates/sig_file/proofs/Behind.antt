-- Items at their places.
use Rattle.sig_file.proofs.Common.{same_Some, ◌≡◌, ℕ, zero, suc, List, [], ◌∷◌, ◌++◌, take, slice_get, Some, sym, subst, append-nil, append_assoc, Each}

-- an item is right behind those before it
pub each_at : {A : Type 0} (right : List A → A → Type 0) (before xs : List A) (n : ℕ) (x : A) → Each right before xs → slice_get xs n ≡ Some x → right (before ++ take n xs) x
each_at right before [] n x h e = absurd cc
each_at right before (y ∷ xs) zero x h e = subst (λ (l : List _). right l x) (sym (append-nil before)) (subst (right before) (same_Some y x e) h.0)
each_at right before (y ∷ xs) (suc n) x h e = subst (λ (l : List _). right l x) (append_assoc before (y ∷ []) (take n xs)) (each_at right (before ++ y ∷ []) xs n x h.1 e)
