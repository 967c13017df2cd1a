-- Reading one thing after another, where the operators are not counted.
use Rattle.sig_parse.proofs.Common.{◌≡◌, ◌++◌, ◌≤◌, ℕ, List, [], ◌∷◌, refl, sym, ap, ◌∙◌, subst, append_assoc, arith, length, length-append, append-nil, map-append, map, Span, Terminal, Leaf, leaf, Between, Each, Separated, State, Reads, Covers, IsLeaf}
use Rattle.sig_parse.proofs.Lists.{separated_one, separated_more, each_more}

pub covered : {A : List Leaf → Type 0} {n : ℕ} {s t : State} → Reads A n s t → Covers A s t
covered r = record { front = r.front; split = r.split; is = r.is }

-- one thing behind another
abbrev pub Both : (A B : List Leaf → Type 0) → List Leaf → Type 0
Both A B leaves = (front back : List Leaf) × (leaves ≡ front ++ back) × A front × B back

pub and_then : {A B : List Leaf → Type 0} {s t u : State} → Covers A s t → Covers B t u → Covers (Both A B) s u
and_then {A} {B} {s} {t} {u} r q = record {
  front = r.front ++ q.front;
  split = r.split ∙ ap (λ ls. r.front ++ ls) q.split ∙ sym (append_assoc r.front q.front u.leaves);
  is = (r.front, q.front, refl, r.is, q.is);
}

-- the same leaves as something else
pub seen_as : {A : List Leaf → Type 0} {s t : State} (C : List Leaf → Type 0) → ((front : List Leaf) → A front → C front) → Covers A s t → Covers C s t
seen_as C same r = record { front = r.front; split = r.split; is = same r.front r.is }

pub no_more : {A : List Leaf → Type 0} {s t : State} → Covers A s t → length t.leaves ≤ length s.leaves
no_more {s = s} {t = t} r = omega (arith, ap length r.split, length-append r.front t.leaves)

-- nothing was read
pub stays : (C : List Leaf → Type 0) (s t : State) → t ≡ s → C [] → Covers C s t
stays C s t e empty = record { front = []; split = ap (λ (x : State). x.leaves) (sym e); is = empty }

-- what stands between two marks
pub between_marks : (opening closing : Terminal) (Is : List Leaf → Type 0) (opened closed : Span) {s t u v : State}
    → Covers (IsLeaf opening opened) s t → Covers Is t u → Covers (IsLeaf closing closed) u v → Covers (Between opening closing Is) s v
between_marks opening closing Is opened closed before r behind =
    seen_as (Between opening closing Is)
    (λ front h. (opened, closed, h.4.0, h.2 ∙ ap (λ ls. ls ++ h.1) h.3 ∙ ap (λ ls. leaf opening opened ∷ ls) (h.4.2 ∙ ap (λ ls. h.4.0 ++ ls) h.4.4), h.4.3))
    (and_then before (and_then r behind))

module _ {A B : Type 0} (f : B → A) (Is : A → List Leaf → Type 0) (separator : Terminal) where
  -- the first of a list with separators, and one more
  pub first_item : (all : List B) (x : B) {s t : State} → all ≡ [] ++ x ∷ [] → Covers (Is (f x)) s t → Covers (Separated Is separator (map f all)) s t
  first_item all x {s} {t} e r = subst (λ (xs : List B). Covers (Separated Is separator (map f xs)) s t) (sym e)
      (seen_as (Separated Is separator (f x ∷ [])) (λ front is. separated_one Is separator (f x) front is) r)

  pub one_item_more : (old new : List B) (x : B) (at : Span) {s t u v : State} → new ≡ old ++ x ∷ []
      → Covers (Separated Is separator (map f old)) s t → Covers (IsLeaf separator at) t u → Covers (Is (f x)) u v
      → Covers (Separated Is separator (map f new)) s v
  one_item_more old new x at {s} {t} {u} {v} e r q p =
      subst (λ (xs : List A). Covers (Separated Is separator xs) s v) (sym (ap (map f) e ∙ map-append f old (x ∷ [])))
      (seen_as (Separated Is separator (map f old ++ f x ∷ []))
      (λ front h. subst (λ (ls : List Leaf). Separated Is separator (map f old ++ f x ∷ []) ls) (sym (h.2 ∙ ap (λ ls. h.0 ++ ls) (h.4.2 ∙ ap (λ ls. ls ++ h.4.1) h.4.3)))
      (separated_more Is separator (map f old) (f x) h.0 h.4.1 at h.3 h.4.4))
      (and_then r (and_then q p)))

-- things one behind another
pub one_each_more : {A B : Type 0} (f : B → A) (Is : A → List Leaf → Type 0) (old new : List B) (x : B) {s t u : State} → new ≡ old ++ x ∷ []
    → Covers (Each Is (map f old)) s t → Covers (Is (f x)) t u → Covers (Each Is (map f new)) s u
one_each_more {A} f Is old new x {s} {t} {u} e r q =
    subst (λ (xs : List A). Covers (Each Is xs) s u) (sym (ap (map f) e ∙ map-append f old (x ∷ [])))
    (seen_as (Each Is (map f old ++ f x ∷ []))
    (λ front h. subst (λ (ls : List Leaf). Each Is (map f old ++ f x ∷ []) ls) (sym h.2) (each_more Is (map f old) (f x) h.0 h.1 h.3 h.4))
    (and_then r q))

-- the whole of it, where nothing is left
some_items : {A B : Type 0} (f : B → A) (all : List B) → 1 ≤ length all → map f all ≡ [] → ⊥
some_items f [] some e = omega arith
some_items f (x ∷ xs) some e = cc

pub all_read : {A B : Type 0} (f : B → A) (Is : A → List Leaf → Type 0) (all : List B) {s t : State} → 1 ≤ length all → t.leaves ≡ []
    → Covers (Each Is (map f all)) s t → (map f all ≡ [] → ⊥) × Each Is (map f all) s.leaves
all_read f Is all {s} some done r = (
  some_items f all some,
  subst (λ (ls : List Leaf). Each Is (map f all) ls) (sym (r.split ∙ ap (λ ls. r.front ++ ls) done ∙ append-nil r.front)) r.is,
)
