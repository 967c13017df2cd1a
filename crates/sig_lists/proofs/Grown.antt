-- Lists that a loop makes longer.
use Rattle.std.proofs.Common.{List, [], ap, append-nil, append_assoc, flat_map, get_or, length, map, sym, take, take_all, ℕ, ◌++◌, ◌+◌, ◌<◌, ◌∙◌, ◌∷◌, ◌≡◌, ◌≤◌}
use Rattle.std.proofs.lemmas.List.{map-append, take_more}
use Rattle.std.proofs.lemmas.List.Concat.{flat_map-append}
use Rattle.std.proofs.lemmas.List.Folds.{flat_map-map}

-- one turn, which adds what the thing stands for
pub grows : {A B : Type 0} (of : A → List B) (before old new : List B) (xs : List A) (i : ℕ) (x : A) → x ≡ get_or xs i x → i < length xs
    → old ≡ before ++ flat_map of (take i xs) → new ≡ old ++ of x → new ≡ before ++ flat_map of (take (i + 1) xs)
grows of before old new xs i x is h e f =
    f ∙ ap (λ l. l ++ of x) e ∙ append_assoc before (flat_map of (take i xs)) (of x)
    ∙ ap (λ l. before ++ l) (sym (ap (flat_map of) (take_more xs i x h) ∙ flat_map-append of (take i xs) (get_or xs i x ∷ [])
    ∙ ap (λ l. flat_map of (take i xs) ++ l) (append-nil (of (get_or xs i x)) ∙ ap of (sym is))))

-- the end
pub grown : {A B C : Type 0} (of : B → List C) (f : A → B) (before now : List C) (xs : List A) (i : ℕ) → length xs ≤ i
    → now ≡ before ++ flat_map (λ x. of (f x)) (take i xs) → now ≡ before ++ flat_map of (map f xs)
grown of f before now xs i h e = e ∙ ap (λ l. before ++ flat_map (λ x. of (f x)) l) (take_all i xs h) ∙ ap (λ l. before ++ l) (sym (flat_map-map of f xs))

-- one turn that adds one thing to a list, seen through a function
pub lengthens : {A B X : Type 0} (of : A → B) (see : X → B) (before : List B) (old : List X) (made : X) (xs : List A) (i : ℕ) (x : A) → x ≡ get_or xs i x → i < length xs
    → map see old ≡ before ++ map of (take i xs) → see made ≡ of x → map see (old ++ made ∷ []) ≡ before ++ map of (take (i + 1) xs)
lengthens of see before old made xs i x is h e f =
    map-append see old (made ∷ []) ∙ ap (λ l. l ++ see made ∷ []) e ∙ append_assoc before (map of (take i xs)) (see made ∷ [])
    ∙ ap (λ l. before ++ l) (ap (λ y. map of (take i xs) ++ y ∷ []) (f ∙ ap of is)
    ∙ sym (ap (map of) (take_more xs i x h) ∙ map-append of (take i xs) (get_or xs i x ∷ [])))
