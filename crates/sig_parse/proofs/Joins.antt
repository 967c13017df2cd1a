-- Reading one thing after another.
use Rattle.sig_parse.proofs.Common.{◌≡◌, ◌++◌, ◌+◌, ◌≤◌, ℕ, List, [], ◌∷◌, length, sym, ap, ◌∙◌, subst, append_assoc, length-append, arith, Span, Terminal, Leaf, leaf, State, Reads, IsLeaf}

-- one thing, and then another
pub joined : {A B : List Leaf → Type 0} {m n : ℕ} {s t u : State} (C : List Leaf → Type 0) (k : ℕ) → m + n ≡ k
    → ((front back : List Leaf) → A front → B back → C (front ++ back)) → Reads A m s t → Reads B n t u → Reads C k s u
joined {A} {B} {m} {n} {s} {t} {u} C k sum both r q = record {
  front = r.front ++ q.front;
  split = r.split ∙ ap (λ ls. r.front ++ ls) q.split ∙ sym (append_assoc r.front q.front u.leaves);
  is = both r.front q.front r.is q.is;
  counted = omega (arith, r.counted, q.counted, sum);
  few = λ h. q.few (r.few h);
}

-- the same leaves as something else
pub viewed : {A : List Leaf → Type 0} {n : ℕ} {s t : State} (C : List Leaf → Type 0) → ((front : List Leaf) → A front → C front) → Reads A n s t → Reads C n s t
viewed C same r = record { front = r.front; split = r.split; is = same r.front r.is; counted = r.counted; few = r.few }

-- nothing
pub nothing : (C : List Leaf → Type 0) (s t : State) → t ≡ s → C [] → Reads C 0 s t
nothing C s t e empty = record {
  front = [];
  split = ap (λ (x : State). x.leaves) (sym e);
  is = empty;
  counted = omega (arith, ap (λ (x : State). x.operators) e);
  few = λ h. omega (arith, ap (λ (x : State). x.operators) e);
}

-- a leaf, and then another thing
pub after_leaf : {B : List Leaf → Type 0} {terminal : Terminal} {at : Span} {m n : ℕ} {s t u : State} (C : List Leaf → Type 0) (k : ℕ) → m + n ≡ k
    → ((back : List Leaf) → B back → C (leaf terminal at ∷ back)) → Reads (IsLeaf terminal at) m s t → Reads B n t u → Reads C k s u
after_leaf {terminal = terminal} {at = at} C k sum both r q =
    joined C k sum (λ front back is rest. subst (λ (ls : List Leaf). C (ls ++ back)) (sym is) (both back rest)) r q

-- what was read is no longer ahead
pub no_longer : {A : List Leaf → Type 0} {n : ℕ} {s t : State} → Reads A n s t → length t.leaves ≤ length s.leaves
no_longer {s = s} {t = t} r = omega (arith, ap length r.split, length-append r.front t.leaves)
