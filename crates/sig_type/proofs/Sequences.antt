-- What is found of candidates that are asked for in a row.
use Rattle.sig_type.proofs.Common.{◌≡◌, ◌++◌, ℕ, List, [], ◌∷◌, refl, ap, sym, ◌∙◌, subst, inl, inr, Option, None, Some, map, take, drop, length, get_or, ◌+◌, ◌<◌, ◌≤◌, ◌↔◌, append-nil, take_more, take_all, take-append-drop, flat_map, each_append, each_map, each_flat, Candidate, candidate, Offence, each, NoneHolds, IsFirst, Finding, First, offence_in, IsFoundOf, IsKept, Finds, sooner}

none_append : (ps qs : List Candidate) → NoneHolds ps → NoneHolds qs → NoneHolds (ps ++ qs)
none_append [] qs n m = m
none_append (c ∷ cs) qs n m = (n.0, none_append cs qs n.1 m)

first_left : (ps qs : List Candidate) (o : Offence) → IsFirst ps o → IsFirst (ps ++ qs) o
first_left [] qs o f = elim f [ ]
first_left (c ∷ cs) qs o (inl f) = inl f
first_left (c ∷ cs) qs o (inr f) = inr (f.0, first_left cs qs o f.1)

first_right : (ps qs : List Candidate) (o : Offence) → NoneHolds ps → IsFirst qs o → IsFirst (ps ++ qs) o
first_right [] qs o n f = f
first_right (c ∷ cs) qs o n f = inr (n.0, first_right cs qs o n.1 f)

kept_then : (a b c : Option Finding) (ps qs : List Candidate) → IsKept a b ps → IsKept b c qs → IsKept a c (ps ++ qs)
kept_then (Some f) b c ps qs h k = let P : Option Finding → Type 0 = λ v. IsKept v c qs in subst P h k
kept_then None None None ps qs h k = none_append ps qs h k
kept_then None None (Some g) ps qs h k = first_right ps qs (offence_in g) h k
kept_then None (Some f) c ps qs h k = let P : Option Finding → Type 0 = λ v. IsFoundOf (ps ++ qs) v in subst P (sym k) (first_left ps qs (offence_in f) h)

-- candidates, and then others
pub finds_then : {a b c : First} {ps qs : List Candidate} → Finds a b ps → Finds b c qs → Finds a c (ps ++ qs)
finds_then {a} {b} {c} {ps} {qs} h k = record { kept = kept_then a.found b.found c.found ps qs h.kept k.kept }

kept_later : (b l : Option Finding) (qs : List Candidate) → IsKept None l qs → IsKept b (sooner b l) qs
kept_later None l qs h = h
kept_later (Some f) l qs h = refl

-- what was asked for elsewhere
pub finds_later : {fresh l b c : First} {qs : List Candidate} → fresh.found ≡ None → Finds fresh l qs → c.found ≡ sooner b.found l.found → Finds b c qs
finds_later {fresh} {l} {b} {c} {qs} new h e = record {
  kept = let P : Option Finding → Type 0 = λ v. IsKept v l.found qs in
      let Q : Option Finding → Type 0 = λ v. IsKept b.found v qs in
      subst Q (sym e) (kept_later b.found l.found qs (subst P new h.kept));
}

none_same : (o : Offence) (P Q : Type 0) → (Q → P) → NoneHolds (candidate o P ∷ []) → NoneHolds (candidate o Q ∷ [])
none_same o P Q back n = (λ q. n.0 (back q), tt)

first_same : (o other : Offence) (P Q : Type 0) → (P → Q) → IsFirst (candidate o P ∷ []) other → IsFirst (candidate o Q ∷ []) other
first_same o other P Q there (inl f) = inl (there f.0, f.1)
first_same o other P Q there (inr f) = elim f.1 [ ]

kept_same : (a b : Option Finding) (o : Offence) (P Q : Type 0) → (P ↔ Q) → IsKept a b (candidate o P ∷ []) → IsKept a b (candidate o Q ∷ [])
kept_same None None o P Q e h = none_same o P Q e.1 h
kept_same None (Some f) o P Q e h = first_same o (offence_in f) P Q e.0 h
kept_same (Some f) b o P Q e h = h

-- a candidate that holds where another one does
pub finds_same : {a b : First} {o : Offence} {P : Type 0} (Q : Type 0) → (P ↔ Q) → Finds a b (candidate o P ∷ []) → Finds a b (candidate o Q ∷ [])
finds_same {a} {b} {o} {P} Q e h = record { kept = kept_same a.found b.found o P Q e h.kept }

each_more : {A : Type 0} (of : A → List Candidate) (xs : List A) (i : ℕ) (x : A) → x ≡ get_or xs i x → i < length xs → each of (take (i + 1) xs) ≡ each of (take i xs) ++ of x
each_more of xs i x is h = ap (each of) (take_more xs i x h) ∙ each_append of (take i xs) (get_or xs i x ∷ [])
    ∙ ap (λ cs. each of (take i xs) ++ cs) (append-nil (of (get_or xs i x)) ∙ ap of (sym is))

pub finds_as : {a b : First} {ps qs : List Candidate} → ps ≡ qs → Finds a b ps → Finds a b qs
finds_as {a} {b} {ps} {qs} e h = let P : List Candidate → Type 0 = λ cs. Finds a b cs in subst P e h

-- a loop over things, each with its candidates: one turn
pub finds_more : {A : Type 0} (of : A → List Candidate) {a b c : First} (xs : List A) (i : ℕ) (x : A) → x ≡ get_or xs i x → i < length xs
    → Finds a b (each of (take i xs)) → Finds b c (of x) → Finds a c (each of (take (i + 1) xs))
finds_more of xs i x is h e f = finds_as (sym (each_more of xs i x is h)) (finds_then e f)

-- its end
pub finds_all : {A : Type 0} (of : A → List Candidate) {a b : First} (xs : List A) (i : ℕ) → length xs ≤ i → Finds a b (each of (take i xs)) → Finds a b (each of xs)
finds_all of xs i h e = finds_as (ap (each of) (take_all i xs h)) e

-- its end, where the candidates are those of what the things stand for
pub finds_mapped : {A B : Type 0} (of : B → List Candidate) (f : A → B) {a b : First} (xs : List A) (i : ℕ) → length xs ≤ i
    → Finds a b (each (λ x. of (f x)) (take i xs)) → Finds a b (each of (map f xs))
finds_mapped of f xs i h e = finds_as (sym (each_map of f xs)) (finds_all (λ x. of (f x)) xs i h e)

-- its end, where each thing has several that have candidates
pub finds_flat : {A B C : Type 0} (of : C → List Candidate) (g : B → List C) (f : A → B) {a b : First} (xs : List A) (i : ℕ) → length xs ≤ i
    → Finds a b (each (λ x. each of (g (f x))) (take i xs)) → Finds a b (each of (flat_map g (map f xs)))
finds_flat of g f xs i h e = finds_as (sym (each_flat of g (map f xs))) (finds_mapped (λ y. each of (g y)) f xs i h e)

-- candidates of some things, and then of others
pub finds_both : {A : Type 0} (of : A → List Candidate) {a b c : First} (xs ys : List A) → Finds a b (each of xs) → Finds b c (each of ys) → Finds a c (each of (xs ++ ys))
finds_both of xs ys h k = finds_as (sym (each_append of xs ys)) (finds_then h k)

-- the end of a loop over things of which each has several that have candidates
pub finds_spread : {A C : Type 0} (of : C → List Candidate) (g : A → List C) {a b : First} (xs : List A) (i : ℕ) → length xs ≤ i
    → Finds a b (each (λ x. each of (g x)) (take i xs)) → Finds a b (each of (flat_map g xs))
finds_spread of g xs i h e = finds_as (sym (each_flat of g xs)) (finds_all (λ x. each of (g x)) xs i h e)

kept_stop : (a b : Option Finding) (ps qs : List Candidate) → (b ≡ None → ⊥) → IsKept a b ps → IsKept a b (ps ++ qs)
kept_stop None None ps qs f h = absurd (f refl)
kept_stop None (Some g) ps qs f h = first_left ps qs (offence_in g) h
kept_stop (Some g) b ps qs f h = h

-- where something was found, what comes later does not matter
pub finds_stop : {a b : First} {ps : List Candidate} (qs : List Candidate) → (b.found ≡ None → ⊥) → Finds a b ps → Finds a b (ps ++ qs)
finds_stop {a} {b} {ps} qs f h = record { kept = kept_stop a.found b.found ps qs f h.kept }

asked_kept : (a b : Option Finding) (o : Offence) (P : Type 0) → P → IsKept a b (candidate o P ∷ []) → b ≡ None → ⊥
asked_kept None None o P p h e = h.0 p
asked_kept None (Some g) o P p h e = absurd cc
asked_kept (Some g) b o P p h e = let s : Some g ≡ None = sym h ∙ e in absurd cc

-- what is asked for and holds is found
pub asked_found : {a b : First} {o : Offence} {P : Type 0} → P → Finds a b (candidate o P ∷ []) → b.found ≡ None → ⊥
asked_found {a} {b} {o} {P} p h = asked_kept a.found b.found o P p h.kept

-- a loop that ends early, since something was found
pub finds_early : {A B : Type 0} (of : B → List Candidate) (f : A → B) {a b : First} (xs : List A) (k : ℕ) → (b.found ≡ None → ⊥)
    → Finds a b (each (λ x. of (f x)) (take k xs)) → Finds a b (each of (map f xs))
finds_early of f xs k some h = finds_as (sym (each_append (λ x. of (f x)) (take k xs) (drop k xs)) ∙ ap (each (λ x. of (f x))) (take-append-drop k xs) ∙ sym (each_map of f xs)) (finds_stop (each (λ x. of (f x)) (drop k xs)) some h)

kept_none : (a : Option Finding) (cs : List Candidate) → NoneHolds cs → IsKept a a cs
kept_none None cs n = n
kept_none (Some f) cs n = refl

-- candidates of which none holds
pub finds_none : (a : First) (cs : List Candidate) → NoneHolds cs → Finds a a cs
finds_none a cs n = record { kept = kept_none a.found cs n }
