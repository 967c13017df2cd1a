-- Lines of items that are numbered by their places.
use Rattle.std.proofs.Common.{◌≡◌, ◌<◌, ◌+◌, ◌++◌, ◌∷◌, ℕ, zero, suc, List, [], sym, ap, ◌∙◌, arith, length, take, get_or}
use Rattle.std.specs.List.{enumerate_from, flat_map}
use Rattle.std.proofs.lemmas.List.{flat_map_more}

one_more : {X : Type 0} (n : ℕ) (xs : List X) (i : ℕ) (d : X) → i < length xs → enumerate_from n (take (i + 1) xs) ≡ enumerate_from n (take i xs) ++ (n + i, get_or xs i d) ∷ []
one_more n [] i d lt = absurd (omega (arith, lt))
one_more {X} n (x ∷ xs) zero d lt = let here : n ≡ n + 0 = omega arith in ap (λ (k : ℕ). let pair : ℕ × X = (k, x) in pair ∷ []) here
one_more {X} n (x ∷ xs) (suc i) d lt =
    let size : suc i + 1 ≡ suc (i + 1) = omega arith in
    let place : n + 1 + i ≡ n + suc i = omega arith in
    ap (λ (k : ℕ). enumerate_from n (take k (x ∷ xs))) size
    ∙ ap (λ (pairs : List (ℕ × X)). (n, x) ∷ pairs) (one_more (n + 1) xs i d (omega (arith, lt)))
    ∙ ap (λ (k : ℕ). (n, x) ∷ (enumerate_from (n + 1) (take i xs) ++ (k, get_or xs i d) ∷ [])) place

pub line_more : {X : Type 0} (f : ℕ × X → List ℕ) (start text more : List ℕ) (xs : List X) (i : ℕ) (d : X) → i < length xs
    → text ≡ start ++ flat_map f (enumerate_from 0 (take i xs)) → more ≡ text ++ f (i, get_or xs i d) → more ≡ start ++ flat_map f (enumerate_from 0 (take (i + 1) xs))
line_more {X} f start text more xs i d lt so_far is =
    let place : 0 + i ≡ i = omega arith in
    let pairs : enumerate_from 0 (take (i + 1) xs) ≡ enumerate_from 0 (take i xs) ++ (i, get_or xs i d) ∷ [] =
    one_more 0 xs i d lt ∙ ap (λ (k : ℕ). enumerate_from 0 (take i xs) ++ (k, get_or xs i d) ∷ []) place in
    is ∙ ap (λ (t : List ℕ). t ++ f (i, get_or xs i d)) so_far ∙ flat_map_more f start (enumerate_from 0 (take i xs)) (i, get_or xs i d) ∙ ap (λ (ps : List (ℕ × X)). start ++ flat_map f ps) (sym pairs)
