-- Lists whose elements are numbered by their places.
use Rattle.sig_code.proofs.Common.{◌≡◌, ℕ, zero, suc, ◌+◌, ◌<◌, List, [], ◌∷◌, ◌++◌, length, take, get_or, sym, ap, ◌∙◌, append_assoc, arith, enumerate_from, flat_map, flat_map_more}

-- one more element, where the first has the number n
more_from : {X : Type 0} (n : ℕ) (xs : List X) (i : ℕ) (d : X) → i < length xs
    → enumerate_from n (take (i + 1) xs) ≡ enumerate_from n (take i xs) ++ (n + i, get_or xs i d) ∷ []
more_from n [] i d lt = absurd (omega (arith, lt))
more_from {X} n (x ∷ xs) zero d lt = let first : n ≡ n + 0 = omega arith in ap (λ (k : ℕ). let one : ℕ × X = (k, x) in one ∷ []) first
more_from {X} n (x ∷ xs) (suc i) d lt =
    let next : suc i + 1 ≡ suc (i + 1) = omega arith in
    let number : n + 1 + i ≡ n + suc i = omega arith in
    ap (λ (k : ℕ). enumerate_from n (take k (x ∷ xs))) next
    ∙ ap (λ (ps : List (ℕ × X)). (n, x) ∷ ps) (more_from (n + 1) xs i d (omega (arith, lt)))
    ∙ ap (λ (k : ℕ). (n, x) ∷ (enumerate_from (n + 1) (take i xs) ++ (k, get_or xs i d) ∷ [])) number

-- one more element
pub numbered_more : {X : Type 0} (xs : List X) (i : ℕ) (d : X) → i < length xs
    → enumerate_from 0 (take (i + 1) xs) ≡ enumerate_from 0 (take i xs) ++ (i, get_or xs i d) ∷ []
numbered_more {X} xs i d lt =
    let number : 0 + i ≡ i = omega arith in
    more_from 0 xs i d lt ∙ ap (λ (k : ℕ). enumerate_from 0 (take i xs) ++ (k, get_or xs i d) ∷ []) number

-- what is made of the elements so far and of one more
pub joined_more : {X A : Type 0} (f : ℕ × X → List A) (xs : List X) (i : ℕ) (d : X) → i < length xs
    → flat_map f (enumerate_from 0 (take i xs)) ++ f (i, get_or xs i d) ≡ flat_map f (enumerate_from 0 (take (i + 1) xs))
joined_more f xs i d lt =
    flat_map_more f [] (enumerate_from 0 (take i xs)) (i, get_or xs i d) ∙ ap (flat_map f) (sym (numbered_more xs i d lt))

-- the text of one more element
pub lines_more : {X : Type 0} (f : ℕ × X → List ℕ) (start text more : List ℕ) (xs : List X) (i : ℕ) (d : X) → i < length xs
    → text ≡ start ++ flat_map f (enumerate_from 0 (take i xs)) → more ≡ text ++ f (i, get_or xs i d) → more ≡ start ++ flat_map f (enumerate_from 0 (take (i + 1) xs))
lines_more f start text more xs i d lt so_far is =
    is ∙ ap (λ (t : List ℕ). t ++ f (i, get_or xs i d)) so_far
    ∙ append_assoc start (flat_map f (enumerate_from 0 (take i xs))) (f (i, get_or xs i d)) ∙ ap (λ t. start ++ t) (joined_more f xs i d lt)
