-- Lists with separators, from their parts.
use Rattle.sig_parse.proofs.Common.{◌≡◌, ◌++◌, ◌+◌, ◌≤◌, ℕ, List, [], ◌∷◌, length, map, sum_by, refl, sym, ap, ◌∙◌, subst, append_assoc, length-append, arith, append-nil, map-append, sum_by_push, Span, Terminal, Leaf, leaf, Each, Further, Separated, Listed, State, Reads, IsLeaf}
use Rattle.sig_parse.proofs.Joins.{joined, viewed, nothing, after_leaf}

module _ {A : Type 0} (Is : A → List Leaf → Type 0) (separator : Terminal) where
  pub separated_one : (x : A) (front : List Leaf) → Is x front → Separated Is separator (x ∷ []) front
  separated_one x front is = (front, [], sym (append-nil front), is, refl)

  further_more : (xs : List A) (x : A) (front back : List Leaf) (at : Span) → Further Is separator xs front → Is x back
      → Further Is separator (xs ++ x ∷ []) (front ++ leaf separator at ∷ back)
  further_more [] x front back at e is = (at, back, [], ap (λ f. f ++ leaf separator at ∷ back) e ∙ ap (λ b. leaf separator at ∷ b) (sym (append-nil back)), is, refl)
  further_more (y ∷ ys) x front back at h is = (
    h.0,
    h.1,
    h.2 ++ leaf separator at ∷ back,
    ap (λ f. f ++ leaf separator at ∷ back) h.3 ∙ ap (λ b. leaf separator h.0 ∷ b) (append_assoc h.1 h.2 (leaf separator at ∷ back)),
    h.4,
    further_more ys x h.2 back at h.5 is,
  )

  pub separated_more : (xs : List A) (x : A) (front back : List Leaf) (at : Span) → Separated Is separator xs front → Is x back
      → Separated Is separator (xs ++ x ∷ []) (front ++ leaf separator at ∷ back)
  separated_more [] x front back at h is = absurd h
  separated_more (y ∷ ys) x front back at h is = (
    h.0,
    h.1 ++ leaf separator at ∷ back,
    ap (λ f. f ++ leaf separator at ∷ back) h.2 ∙ append_assoc h.0 h.1 (leaf separator at ∷ back),
    h.3,
    further_more ys x h.1 back at h.4 is,
  )

  pub listed : (xs : List A) (front : List Leaf) → Separated Is separator xs front → Listed Is separator xs front
  listed [] front h = absurd h
  listed (x ∷ xs) front h = h

  -- the first of a list that is read, and one more
  pub reads_one : (x : A) (n : ℕ) {s t : State} → Reads (Is x) n s t → Reads (Separated Is separator (x ∷ [])) n s t
  reads_one x n r = viewed (Separated Is separator (x ∷ [])) (λ front is. separated_one x front is) r

  pub reads_more : (xs : List A) (x : A) (m n k : ℕ) (at : Span) {s t u v : State} → m + n ≡ k
      → Reads (Separated Is separator xs) m s t → Reads (IsLeaf separator at) 0 t u → Reads (Is x) n u v
      → Reads (Separated Is separator (xs ++ x ∷ [])) k s v
  reads_more xs x m n k at sum r q p =
      let Behind : List Leaf → Type 0 = λ ls. (back : List Leaf) × (ls ≡ leaf separator at ∷ back) × Is x back in
      joined (Separated Is separator (xs ++ x ∷ [])) k sum
      (λ front behind is more. subst (λ (b : List Leaf). Separated Is separator (xs ++ x ∷ []) (front ++ b)) (sym more.1) (separated_more xs x front more.0 at is more.2))
      r (after_leaf Behind n (omega arith) (λ back is. (back, refl, is)) q p)

-- the same of what the items stand for
module _ {A B : Type 0} (f : B → A) (Is : A → List Leaf → Type 0) (separator : Terminal) where
  pub views_one : (all : List B) (x : B) (n : ℕ) {s t : State} → all ≡ [] ++ x ∷ [] → Reads (Is (f x)) n s t → Reads (Separated Is separator (map f all)) n s t
  views_one all x n {s} {t} e r = subst (λ (xs : List B). Reads (Separated Is separator (map f xs)) n s t) (sym e) (reads_one Is separator (f x) n r)

  pub views_more : (old new : List B) (x : B) (m n k : ℕ) (at : Span) {s t u v : State} → new ≡ old ++ x ∷ [] → m + n ≡ k
      → Reads (Separated Is separator (map f old)) m s t → Reads (IsLeaf separator at) 0 t u → Reads (Is (f x)) n u v
      → Reads (Separated Is separator (map f new)) k s v
  views_more old new x m n k at {s} {t} {u} {v} e sum r q p =
      subst (λ (xs : List A). Reads (Separated Is separator xs) k s v) (sym (ap (map f) e ∙ map-append f old (x ∷ [])))
      (reads_more Is separator (map f old) (f x) m n k at sum r q p)

-- what they count
pub sum_more : {A B : Type 0} (f : B → A) (count : A → ℕ) (old new : List B) (x : B) → new ≡ old ++ x ∷ [] → sum_by count (map f old) + count (f x) ≡ sum_by count (map f new)
sum_more f count old new x e = sym (ap (λ xs. sum_by count (map f xs)) e ∙ ap (sum_by count) (map-append f old (x ∷ [])) ∙ sum_by_push count (map f old) (f x))

pub sum_one : {A B : Type 0} (f : B → A) (count : A → ℕ) (all : List B) (x : B) → all ≡ [] ++ x ∷ [] → count (f x) ≡ sum_by count (map f all)
sum_one f count all x e = let h = sum_more f count [] all x e in omega arith

module _ {A B : Type 0} (f : B → A) (Is : A → List Leaf → Type 0) (separator : Terminal) (count : A → ℕ) where
  pub counted_one : (all : List B) (x : B) {s t : State} → all ≡ [] ++ x ∷ [] → Reads (Is (f x)) (count (f x)) s t
      → Reads (Separated Is separator (map f all)) (sum_by count (map f all)) s t
  counted_one all x {s} {t} e r = subst (λ (n : ℕ). Reads (Separated Is separator (map f all)) n s t) (sum_one f count all x e) (views_one f Is separator all x (count (f x)) e r)

  pub counted_more : (old new : List B) (x : B) (at : Span) {s t u v : State} → new ≡ old ++ x ∷ []
      → Reads (Separated Is separator (map f old)) (sum_by count (map f old)) s t → Reads (IsLeaf separator at) 0 t u → Reads (Is (f x)) (count (f x)) u v
      → Reads (Separated Is separator (map f new)) (sum_by count (map f new)) s v
  counted_more old new x at e r q p =
      views_more f Is separator old new x (sum_by count (map f old)) (count (f x)) (sum_by count (map f new)) at e (sum_more f count old new x e) r q p

-- the first that is pushed
pub first_pushed : {B : Type 0} {none all : List B} {x : B} → none ≡ [] → all ≡ none ++ x ∷ [] → all ≡ [] ++ x ∷ []
first_pushed {x = x} empty e = e ∙ ap (λ l. l ++ x ∷ []) empty

-- the lengths of lists that grow
pub more_items : {B : Type 0} (n : ℕ) (a b : List B) (y : B) → b ≡ a ++ y ∷ [] → n ≤ length a → n ≤ length b
more_items n a b y f le = omega (arith, ap length f, length-append a (y ∷ []))

-- things one behind another
pub each_more : {A : Type 0} (Is : A → List Leaf → Type 0) (xs : List A) (x : A) (front back : List Leaf) → Each Is xs front → Is x back → Each Is (xs ++ x ∷ []) (front ++ back)
each_more Is [] x front back e is = (back, [], ap (λ ls. ls ++ back) e ∙ sym (append-nil back), is, refl)
each_more Is (y ∷ ys) x front back h is = (h.0, h.1 ++ back, ap (λ ls. ls ++ back) h.2 ∙ append_assoc h.0 h.1 back, h.3, each_more Is ys x h.1 back h.4 is)

pub reads_each_more : {A B : Type 0} (f : B → A) (Is : A → List Leaf → Type 0) (old new : List B) (x : B) {s t u : State} → new ≡ old ++ x ∷ []
    → Reads (Each Is (map f old)) 0 s t → Reads (Is (f x)) 0 t u → Reads (Each Is (map f new)) 0 s u
reads_each_more {A} f Is old new x {s} {t} {u} e r q =
    subst (λ (xs : List A). Reads (Each Is xs) 0 s u) (sym (ap (map f) e ∙ map-append f old (x ∷ [])))
    (joined (Each Is (map f old ++ f x ∷ [])) 0 refl (λ front back is one. each_more Is (map f old) (f x) front back is one) r q)

-- none of them
pub reads_none : {A B : Type 0} (f : B → A) (Is : A → List Leaf → Type 0) (all : List B) (s : State) → all ≡ [] → Reads (Each Is (map f all)) 0 s s
reads_none {A} {B} f Is all s e = subst (λ (xs : List B). Reads (Each Is (map f xs)) 0 s s) (sym e) (nothing (Each Is []) s s refl refl)
