-- Names that are named before.
use Rattle.sig_type.proofs.Common.{◌≡◌, ◌++◌, ◌⊎◌, ℕ, List, [], ◌∷◌, refl, ap, sym, ◌∙◌, subst, map, take, length, get_or, ◌+◌, ◌<◌, append_assoc, Contains, IsTrue, ◌↔◌, Bool, inl, inr, append-nil, take_more, map-append, flat_map-append, flat_map, Name, Candidate, candidate, Offence, BadPragma, each, Declaration, declaration_of, texts, behind, Placement, IsSignal, IsCluster, bad_pragmas_of, First, Finds, repeated, placed_twice, each_append}
use Rattle.sig_type.proofs.Sequences.{finds_then, finds_as, finds_same}

pub behind_append : {A : Type 0} (earlier xs : List A) (x : A) → behind earlier (xs ++ x ∷ []) ≡ behind earlier xs ++ (earlier ++ xs, x) ∷ []
behind_append earlier [] x = ap (λ e. (e, x) ∷ []) (sym (append-nil earlier))
behind_append earlier (y ∷ ys) x = ap (λ l. (earlier, y) ∷ l) (behind_append (earlier ++ y ∷ []) ys x
    ∙ ap (λ e. behind (earlier ++ y ∷ []) ys ++ (e, x) ∷ []) (append_assoc earlier (y ∷ []) ys))

abbrev named_before : (Name → Offence) → List Name × Name → List Candidate
named_before offence name = candidate (offence name.1) (Contains (texts name.0) name.1.text) ∷ []

named_more : {A : Type 0} (f : A → Name) (xs : List A) (i : ℕ) (x : A) → x ≡ get_or xs i x → i < length xs → map f (take (i + 1) xs) ≡ map f (take i xs) ++ f x ∷ []
named_more f xs i x is h = ap (map f) (take_more xs i x h) ∙ map-append f (take i xs) (get_or xs i x ∷ []) ∙ ap (λ y. map f (take i xs) ++ f y ∷ []) (sym is)

repeated_more : {A : Type 0} (offence : Name → Offence) (f : A → Name) (xs : List A) (i : ℕ) (x : A) → x ≡ get_or xs i x → i < length xs
    → repeated offence (map f (take (i + 1) xs)) ≡ repeated offence (map f (take i xs)) ++ candidate (offence (f x)) (Contains (texts (map f (take i xs))) (f x).text) ∷ []
repeated_more offence f xs i x is h =
    ap (repeated offence) (named_more f xs i x is h)
    ∙ ap (each (named_before offence)) (behind_append [] (map f (take i xs)) (f x))
    ∙ each_append (named_before offence) (behind [] (map f (take i xs))) ((map f (take i xs), f x) ∷ [])

same_earlier : {b c : First} (o : Offence) (again : Bool) (earlier now : List (List ℕ)) (t : List ℕ) → earlier ≡ now → (IsTrue again ↔ Contains earlier t)
    → Finds b c (candidate o (IsTrue again) ∷ []) → Finds b c (candidate o (Contains now t) ∷ [])
same_earlier {b} {c} o again earlier now t e same h = finds_same (Contains now t) (let P : List (List ℕ) → Type 0 = λ l. IsTrue again ↔ Contains l t in subst P e same) h

-- a loop over things with names: one turn
pub repeats : {A : Type 0} (offence : Name → Offence) (f : A → Name) {a b c : First} (xs : List A) (i : ℕ) (x : A) (again : Bool) (earlier : List (List ℕ))
    → x ≡ get_or xs i x → i < length xs → earlier ≡ texts (map f (take i xs)) → (IsTrue again ↔ Contains earlier (f x).text)
    → Finds a b (repeated offence (map f (take i xs))) → Finds b c (candidate (offence (f x)) (IsTrue again) ∷ []) → Finds a c (repeated offence (map f (take (i + 1) xs)))
repeats offence f xs i x again earlier is h e same before here =
    finds_as (sym (repeated_more offence f xs i x is h)) (finds_then before (same_earlier (offence (f x)) again earlier (texts (map f (take i xs))) (f x).text e same here))

-- the texts after one turn
pub texts_more : {A : Type 0} (f : A → Name) (xs : List A) (i : ℕ) (x : A) (earlier now : List (List ℕ)) → x ≡ get_or xs i x → i < length xs
    → earlier ≡ texts (map f (take i xs)) → now ≡ earlier ++ (f x).text ∷ [] → now ≡ texts (map f (take (i + 1) xs))
texts_more f xs i x earlier now is h e more = more ∙ ap (λ l. l ++ (f x).text ∷ []) e
    ∙ sym (ap texts (named_more f xs i x is h) ∙ map-append (λ (n : Name). n.text) (map f (take i xs)) (f x ∷ []))

-- the names of a pragma, behind those of earlier ones
pub placed_is : (scope : List Declaration) (earlier names : List Name)
    → each (λ name. candidate (BadPragma name.1.at) ((IsSignal (declaration_of scope name.1.text) → ⊥) ⊎ Contains (texts name.0) name.1.text) ∷ []) (behind earlier names)
    ≡ placed_twice scope (texts earlier) names
placed_is scope earlier [] = refl
placed_is scope earlier (name ∷ names) =
    ap (λ cs. candidate (BadPragma name.at) ((IsSignal (declaration_of scope name.text) → ⊥) ⊎ Contains (texts earlier) name.text) ∷ cs)
    (placed_is scope (earlier ++ name ∷ []) names ∙ ap (λ e. placed_twice scope e names) (map-append (λ (n : Name). n.text) earlier (name ∷ [])))

-- one name more
pub placed_more : (scope : List Declaration) (earlier : List (List ℕ)) (names : List Name) (x : Name)
    → placed_twice scope earlier (names ++ x ∷ []) ≡ placed_twice scope earlier names
    ++ candidate (BadPragma x.at) ((IsSignal (declaration_of scope x.text) → ⊥) ⊎ Contains (earlier ++ texts names) x.text) ∷ []
placed_more scope earlier [] x = ap (λ e. candidate (BadPragma x.at) ((IsSignal (declaration_of scope x.text) → ⊥) ⊎ Contains e x.text) ∷ []) (sym (append-nil earlier))
placed_more scope earlier (n ∷ names) x =
    ap (λ cs. candidate (BadPragma n.at) ((IsSignal (declaration_of scope n.text) → ⊥) ⊎ Contains earlier n.text) ∷ cs)
    (placed_more scope (earlier ++ n.text ∷ []) names x
    ∙ ap (λ e. placed_twice scope (earlier ++ n.text ∷ []) names ++ candidate (BadPragma x.at) ((IsSignal (declaration_of scope x.text) → ⊥) ⊎ Contains e x.text) ∷ []) (append_assoc earlier (n.text ∷ []) (texts names)))

-- the names of a pragma: one turn
pub placed_turn : {a b c : First} (scope : List Declaration) (start earlier : List (List ℕ)) (names : List Name) (i : ℕ) (x : Name) (again wrong : Bool) → x ≡ get_or names i x → i < length names
    → earlier ≡ start ++ texts (take i names) → (IsTrue again ↔ Contains earlier x.text) → (IsTrue wrong ↔ ((IsSignal (declaration_of scope x.text) → ⊥) ⊎ IsTrue again))
    → Finds a b (placed_twice scope start (take i names)) → Finds b c (candidate (BadPragma x.at) (IsTrue wrong) ∷ []) → Finds a c (placed_twice scope start (take (i + 1) names))
placed_turn scope start earlier names i x again wrong is h e seen bad before here =
    let P : List (List ℕ) → Type 0 = λ l. IsTrue again ↔ Contains l x.text in
    let now : IsTrue again ↔ Contains (start ++ texts (take i names)) x.text = subst P e seen in
    finds_as (sym (ap (placed_twice scope start) (take_more names i x h ∙ ap (λ y. take i names ++ y ∷ []) (sym is)) ∙ placed_more scope start (take i names) x))
    (finds_then before (finds_same ((IsSignal (declaration_of scope x.text) → ⊥) ⊎ Contains (start ++ texts (take i names)) x.text) (
      λ w. elim (bad.0 w) [ inl n ↦ inl n | inr t ↦ inr (now.0 t) ],
      λ w. bad.1 (elim w [ inl n ↦ inl n | inr t ↦ inr (now.1 t) ]),
    ) here))

-- its texts after the turn
pub placed_texts : (start earlier now : List (List ℕ)) (names : List Name) (i : ℕ) (x : Name) → x ≡ get_or names i x → i < length names
    → earlier ≡ start ++ texts (take i names) → now ≡ earlier ++ x.text ∷ [] → now ≡ start ++ texts (take (i + 1) names)
placed_texts start earlier now names i x is h e more = more ∙ ap (λ l. l ++ x.text ∷ []) e ∙ append_assoc start (texts (take i names)) (x.text ∷ [])
    ∙ ap (λ l. start ++ l) (sym (ap texts (take_more names i x h ∙ ap (λ y. take i names ++ y ∷ []) (sym is)) ∙ map-append (λ (n : Name). n.text) (take i names) (x ∷ [])))

-- what is asked for of one pragma, behind the names of earlier ones
abbrev pub pragma_at : List Declaration → List Name → Placement → List Candidate
pragma_at scope earlier p = candidate (BadPragma p.at) (IsCluster p.label → ⊥)
    ∷ each (λ name. candidate (BadPragma name.1.at) ((IsSignal (declaration_of scope name.1.text) → ⊥) ⊎ Contains (texts name.0) name.1.text) ∷ []) (behind earlier p.names)

-- the names of pragmas
abbrev pub names_placed : List Placement → List Name
names_placed ps = flat_map (λ p. p.names) ps

pragmas_append : (scope : List Declaration) (earlier : List Name) (ps : List Placement) (p : Placement)
    → bad_pragmas_of scope earlier (ps ++ p ∷ []) ≡ bad_pragmas_of scope earlier ps ++ pragma_at scope (earlier ++ names_placed ps) p
pragmas_append scope earlier [] p = ap (λ cs. candidate (BadPragma p.at) (IsCluster p.label → ⊥) ∷ cs) (append-nil _) ∙ ap (λ e. pragma_at scope e p) (sym (append-nil earlier))
pragmas_append scope earlier (q ∷ qs) p =
    ap (λ cs. pragma_at scope earlier q ++ cs) (pragmas_append scope (earlier ++ q.names) qs p ∙ ap (λ e. bad_pragmas_of scope (earlier ++ q.names) qs ++ pragma_at scope e p) (append_assoc earlier q.names (names_placed qs)))
    ∙ sym (append_assoc (pragma_at scope earlier q) (bad_pragmas_of scope (earlier ++ q.names) qs) (pragma_at scope (earlier ++ names_placed (q ∷ qs)) p))

-- pragmas: one turn
pub pragmas_turn : {A : Type 0} {a b m c : First} (scope : List Declaration) (see : A → Placement) (rs : List A) (i : ℕ) (x : A) (earlier : List (List ℕ)) → x ≡ get_or rs i x → i < length rs
    → earlier ≡ texts (names_placed (map see (take i rs))) → Finds a b (bad_pragmas_of scope [] (map see (take i rs)))
    → Finds b m (candidate (BadPragma (see x).at) (IsCluster (see x).label → ⊥) ∷ []) → Finds m c (placed_twice scope earlier (see x).names)
    → Finds a c (bad_pragmas_of scope [] (map see (take (i + 1) rs)))
pragmas_turn scope see rs i x earlier is h e before label named =
    finds_as (sym (ap (bad_pragmas_of scope []) (ap (map see) (take_more rs i x h ∙ ap (λ y. take i rs ++ y ∷ []) (sym is)) ∙ map-append see (take i rs) (x ∷ []))
    ∙ pragmas_append scope [] (map see (take i rs)) (see x)))
    (finds_then before (finds_then label (finds_as (ap (λ t. placed_twice scope t (see x).names) e ∙ sym (placed_is scope (names_placed (map see (take i rs))) (see x).names)) named)))

-- their texts after the turn
pub pragmas_texts : {A : Type 0} (see : A → Placement) (rs : List A) (i : ℕ) (x : A) (earlier now : List (List ℕ)) → x ≡ get_or rs i x → i < length rs
    → earlier ≡ texts (names_placed (map see (take i rs))) → now ≡ earlier ++ texts (see x).names → now ≡ texts (names_placed (map see (take (i + 1) rs)))
pragmas_texts see rs i x earlier now is h e more = more ∙ ap (λ l. l ++ texts (see x).names) e
    ∙ sym (map-append (λ (n : Name). n.text) (names_placed (map see (take i rs))) (see x).names)
    ∙ ap texts (sym (ap names_placed (ap (map see) (take_more rs i x h ∙ ap (λ y. take i rs ++ y ∷ []) (sym is)) ∙ map-append see (take i rs) (x ∷ []))
    ∙ flat_map-append (λ (p : Placement). p.names) (map see (take i rs)) (see x ∷ []) ∙ ap (λ l. names_placed (map see (take i rs)) ++ l) (append-nil (see x).names)))
