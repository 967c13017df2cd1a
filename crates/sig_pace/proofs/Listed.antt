-- Lemmas on lists, and on what holds of each element.
use Rattle.sig_pace.proofs.Common.{◌≡◌, ◌++◌, ◌∙◌, Bool, true, List, [], ◌∷◌, Contains, AllByRecursion, list_all, and_from, list_all-append, contains_head, contains_later}

pub all_members : {X : Type 0} (P : X → Type 0) (xs : List X) → ((x : X) → Contains xs x → P x) → AllByRecursion P xs
all_members P [] each = tt
all_members P (x ∷ xs) each = (each x (contains_head x xs), all_members P xs (λ y there. each y (contains_later x y xs there)))

pub three_pass : {X : Type 0} (p : X → Bool) (xs ys zs : List X) → list_all p xs ≡ true → list_all p ys ≡ true → list_all p zs ≡ true → list_all p (xs ++ (ys ++ zs)) ≡ true
three_pass p xs ys zs first second third =
    list_all-append p xs (ys ++ zs) ∙ and_from (list_all p xs) (list_all p (ys ++ zs)) first (list_all-append p ys zs ∙ and_from (list_all p ys) (list_all p zs) second third)
