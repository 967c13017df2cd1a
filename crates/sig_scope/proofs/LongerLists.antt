-- Lists that a loop makes longer.
use Rattle.sig_scope.proofs.Common.{◌≡◌, ◌++◌, ℕ, List, [], ◌∷◌, ap, sym, ◌∙◌, map, take, length, get_or, ◌+◌, ◌<◌, take_more, map-append}

-- one turn that adds what a thing stands for to a list
pub appends : {A B : Type 0} (of : A → B) (old new : List B) (made : B) (xs : List A) (i : ℕ) (x : A) → x ≡ get_or xs i x → i < length xs
    → old ≡ map of (take i xs) → new ≡ old ++ made ∷ [] → made ≡ of x → new ≡ map of (take (i + 1) xs)
appends of old new made xs i x is h e more f =
    more ∙ ap (λ l. l ++ made ∷ []) e ∙ ap (λ y. map of (take i xs) ++ y ∷ []) (f ∙ ap of is)
    ∙ sym (ap (map of) (take_more xs i x h) ∙ map-append of (take i xs) (get_or xs i x ∷ []))
