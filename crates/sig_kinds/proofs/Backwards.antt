-- Lists that are made from behind.
use Rattle.sig_kinds.proofs.Common.{◌≡◌, ◌++◌, List, [], ◌∷◌, refl, ap, sym, ◌∙◌, map, reverse, append_assoc, Result, Ok, Err, OnOk, map-append, reverse-append, flat_map}

-- a form behind its two operands, and the other way round
pub behind_two : {A B : Type 0} (f : A → B) (start one two now : List B) (x : A) (ls rs : List A) (k : B) → one ≡ start ++ reverse (map f rs) → two ≡ one ++ reverse (map f ls) → now ≡ two ++ k ∷ [] → k ≡ f x
    → now ≡ start ++ reverse (map f (x ∷ (ls ++ rs)))
behind_two f start one two now x ls rs k a b c d =
    c ∙ ap (λ l. l ++ k ∷ []) (b ∙ ap (λ l. l ++ reverse (map f ls)) a ∙ append_assoc start (reverse (map f rs)) (reverse (map f ls)))
    ∙ append_assoc start (reverse (map f rs) ++ reverse (map f ls)) (k ∷ [])
    ∙ ap (λ l. start ++ l) (ap (λ y. (reverse (map f rs) ++ reverse (map f ls)) ++ y ∷ []) d ∙ sym (ap reverse (ap (λ l. f x ∷ l) (map-append f ls rs)) ∙ reverse-append (f x ∷ []) (map f ls ++ map f rs) ∙ ap (λ l. l ++ f x ∷ []) (reverse-append (map f ls) (map f rs))))

-- pieces that are mapped each, and joined
pub pieces : {A B C : Type 0} (f : B → C) (g : A → List B) (xs : List A) → flat_map (λ x. map f (g x)) xs ≡ map f (flat_map g xs)
pieces f g [] = refl
pieces f g (x ∷ xs) = ap (λ l. map f (g x) ++ l) (pieces f g xs) ∙ sym (map-append f (g x) (flat_map g xs))

-- what an answer says of a list, said otherwise
pub on_added : {T E B : Type 0} (r : Result T E) (now a b : List B) → (now ≡ a → now ≡ b) → OnOk r (now ≡ a) → OnOk r (now ≡ b)
on_added (Ok x) now a b f h = f h
on_added (Err e) now a b f h = h
