-- Lists and flows that begin one another.
use Rattle.sig_system_laws.proofs.Common.{◌≡◌, ◌++◌, ◌⊎◌, inl, inr, ℕ, List, [], ◌∷◌, refl, ap, sym, ◌∙◌, append-nil, IsPrefixOf, Trace, flow_of, flow_append}

pub itself : {A : Type 0} (t : List A) → IsPrefixOf t t
itself t = ([], sym (append-nil t))

pub flow_prefix : (signal : ℕ) (s t : Trace) → IsPrefixOf s t → IsPrefixOf (flow_of signal s) (flow_of signal t)
flow_prefix signal s t a = (flow_of signal a.0, ap (flow_of signal) a.1 ∙ flow_append signal s a.0)

pub cons_same : {A : Type 0} {x y : A} {xs ys : List A} → x ∷ xs ≡ y ∷ ys → (x ≡ y) × (xs ≡ ys)
cons_same {A} {x} {y} {xs} {ys} e = (ap (first x) e, ap rest e) where
  first : A → List A → A
  first d [] = d
  first d (z ∷ zs) = z

  rest : List A → List A
  rest [] = []
  rest (z ∷ zs) = zs

-- between a list and one that is one longer there is none
pub none_between : {A : Type 0} (s t : List A) (x : A) → IsPrefixOf s t → IsPrefixOf t (s ++ x ∷ []) → IsPrefixOf (s ++ x ∷ []) t ⊎ (t ≡ s)
none_between [] [] x a b = inr refl
none_between [] (y ∷ t) x a b = inl (t, let parts = cons_same b.1 in rw parts.0 refl)
none_between (z ∷ s) [] x a b = cc a.1
none_between (z ∷ s) (y ∷ t) x a b =
    let front = cons_same a.1 in
    let back = cons_same b.1 in
    one (none_between s t x (a.0, front.1) (b.0, back.1)) where
      one : IsPrefixOf (s ++ x ∷ []) t ⊎ (t ≡ s) → IsPrefixOf (z ∷ (s ++ x ∷ [])) (y ∷ t) ⊎ (y ∷ t ≡ z ∷ s)
      one (inl c) = inl (c.0, rw (cons_same a.1).0 (ap (λ list. z ∷ list) c.1))
      one (inr e) = inr (rw (cons_same a.1).0 (ap (λ list. z ∷ list) e))
