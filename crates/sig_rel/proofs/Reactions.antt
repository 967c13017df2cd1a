-- The reaction that truths of unknowns are, signal by signal.
use Rattle.sig_rel.proofs.Common.{◌≡◌, ℕ, zero, suc, Bool, List, ◌∷◌, Option, Some, slice_get, status_at, reaction_in, status_in}

pub status_of_unknowns : (truths : List Bool) (present : List ℕ) (truth : List (Option ℕ)) (s p : ℕ) (t : Option ℕ) → slice_get present s ≡ Some p → slice_get truth s ≡ Some t
    → status_at (reaction_in truths present truth) s ≡ status_in truths p t
status_of_unknowns truths (x ∷ present) (y ∷ truth) zero p t at at' =
    let e : x ≡ p = cc in
    let f : y ≡ t = cc in
    (λ j. status_in truths (e j) (f j))
status_of_unknowns truths (x ∷ present) (y ∷ truth) (suc s) p t at at' = status_of_unknowns truths present truth s p t at at'
status_of_unknowns truths _ _ s p t at at' = cc
