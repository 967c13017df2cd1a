-- Lemmas on lists of candidates.
use Rattle.sig_tree.proofs.Common.{◌≡◌, ◌++◌, ◌∙◌, List, [], ◌∷◌, refl, ap, sym, inl, inr, map, append_assoc, flat_map, Candidate, Offence, NoneHolds, IsFirst, each}

pub one_first : (cs : List Candidate) (a b : Offence) → IsFirst cs a → IsFirst cs b → a ≡ b
one_first [] a b f g = elim f [ ]
one_first (c ∷ cs) a b (inl f) (inl g) = f.1 ∙ sym g.1
one_first (c ∷ cs) a b (inl f) (inr g) = absurd (g.0 f.0)
one_first (c ∷ cs) a b (inr f) (inl g) = absurd (f.0 g.0)
one_first (c ∷ cs) a b (inr f) (inr g) = one_first cs a b f.1 g.1

pub none_first : (cs : List Candidate) (a : Offence) → NoneHolds cs → IsFirst cs a → ⊥
none_first [] a none f = elim f [ ]
none_first (c ∷ cs) a none (inl f) = none.0 f.0
none_first (c ∷ cs) a none (inr f) = none_first cs a none.1 f.1

-- the candidates of each element of lists that are joined, mapped or flattened
pub each_append : {A : Type 0} (of : A → List Candidate) (xs ys : List A) → each of (xs ++ ys) ≡ each of xs ++ each of ys
each_append of [] ys = refl
each_append of (x ∷ xs) ys = ap (λ cs. of x ++ cs) (each_append of xs ys) ∙ sym (append_assoc (of x) (each of xs) (each of ys))

pub each_map : {A B : Type 0} (of : B → List Candidate) (f : A → B) (xs : List A) → each of (map f xs) ≡ each (λ x. of (f x)) xs
each_map of f [] = refl
each_map of f (x ∷ xs) = ap (λ cs. of (f x) ++ cs) (each_map of f xs)

pub each_flat : {A B : Type 0} (of : B → List Candidate) (f : A → List B) (xs : List A) → each of (flat_map f xs) ≡ each (λ x. each of (f x)) xs
each_flat of f [] = refl
each_flat of f (x ∷ xs) = each_append of (f x) (flat_map f xs) ∙ ap (λ cs. each of (f x) ++ cs) (each_flat of f xs)
