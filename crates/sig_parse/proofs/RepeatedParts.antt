-- Parts that are read one after another, as more of them are read.
use Rattle.sig_parse.proofs.Common.{◌≡◌, ◌++◌, List, [], ◌∷◌, refl, sym, subst, append_assoc, append-nil, Span, Terminal, State, Reads, IsLeaf, ReadsFurther, ReadsParts}

module _ {A : Type 0} (Part : A → State → State → Type 0) (separator : Terminal) where
  further_more : (xs : List A) (x : A) (at : Span) (s t u v : State) → ReadsFurther Part separator xs s t → Reads (IsLeaf separator at) 0 t u → Part x u v → ReadsFurther Part separator (xs ++ x ∷ []) s v
  further_more [] x at s t u v same q p = (at, u, v, subst (λ (w : State). Reads (IsLeaf separator at) 0 w u) same q, p, refl)
  further_more (y ∷ ys) x at s t u v (place, begun, read, r, o, more) q p = (place, begun, read, r, o, further_more ys x at read t u v more q p)

  -- the first part, and one more
  pub parts_one : (all : List A) (x : A) {s t : State} → all ≡ [] ++ x ∷ [] → Part x s t → ReadsParts Part separator all s t
  parts_one all x {s} {t} e p = subst (λ (xs : List A). ReadsParts Part separator xs s t) (sym e) (t, p, refl)

  parts_further : (xs : List A) (x : A) (at : Span) (s t u v : State) → ReadsParts Part separator xs s t → Reads (IsLeaf separator at) 0 t u → Part x u v → ReadsParts Part separator (xs ++ x ∷ []) s v
  parts_further [] x at s t u v h q p = absurd h
  parts_further (y ∷ ys) x at s t u v (read, o, more) q p = (read, o, further_more ys x at read t u v more q p)

  pub parts_more : (old new : List A) (x : A) (at : Span) (s t u v : State) → new ≡ old ++ x ∷ [] → ReadsParts Part separator old s t → Reads (IsLeaf separator at) 0 t u → Part x u v → ReadsParts Part separator new s v
  parts_more old new x at s t u v e h q p = subst (λ (xs : List A). ReadsParts Part separator xs s v) (sym e) (parts_further old x at s t u v h q p)

  -- What holds behind the first part, and behind one more where it held before that, holds behind all.
  module _ (P : List A → State → Type 0) (next : (xs : List A) (x : A) (at : Span) (t u v : State) → P xs t → Reads (IsLeaf separator at) 0 t u → Part x u v → P (xs ++ x ∷ []) v) where
    behind_further : (done xs : List A) (t v : State) → P done t → ReadsFurther Part separator xs t v → P (done ++ xs) v
    behind_further done [] t v p same = subst (λ (all : List A). P all v) (sym (append-nil done)) (subst (λ (w : State). P done w) (sym same) p)
    behind_further done (x ∷ xs) t v p (at, begun, read, q, o, more) =
        subst (λ (all : List A). P all v) (append_assoc done (x ∷ []) xs) (behind_further (done ++ x ∷ []) xs read v (next done x at t begun read p q o) more)

    pub behind_parts : (s : State) → ((x : A) (t : State) → Part x s t → P (x ∷ []) t) → (xs : List A) (t : State) → ReadsParts Part separator xs s t → P xs t
    behind_parts s first [] t h = absurd h
    behind_parts s first (x ∷ xs) t (read, o, more) = behind_further (x ∷ []) xs read t (first x read o) more
