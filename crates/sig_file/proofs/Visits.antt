-- Visits of diagrams: what they add, and that a visit of what was visited adds nothing.
use Rattle.sig_file.proofs.Common.{◌≡◌, ℕ, suc, ◌+◌, ◌<◌, ◌≤◌, Bool, true, false, List, [], ◌∷◌, ◌++◌, length, refl, sym, ap, subst, ◌∙◌, append_assoc, append-nil, arith, length-append, cond, list_any, position_or_len, Diagram, Constant, Choice, is_node, IsNumbered, place_of, visited, with_node, ImageNode, eq-eqb, ◌||◌, not}

no_more : {A : Type 0} (xs ys : List A) → xs ++ ys ≡ xs → ys ≡ []
no_more [] ys e = e
no_more (x ∷ xs) [] e = refl
no_more (x ∷ xs) (y ∷ ys) e = let n = length-append (x ∷ xs) (y ∷ ys) in let m = ap length e in absurd (omega (arith, n, m))

none_added : {A : Type 0} (xs a b c : List A) → ((xs ++ a) ++ b) ++ c ≡ xs → (a ≡ []) × ((b ≡ []) × (c ≡ []))
none_added {A = A} xs a b c e =
    let p : a ++ (b ++ c) ≡ [] = no_more xs (a ++ (b ++ c)) (sym (append_assoc xs a (b ++ c)) ∙ sym (append_assoc (xs ++ a) b c) ∙ e) in
    by a b c p
  where
    by : (a b c : List A) → a ++ (b ++ c) ≡ [] → (a ≡ []) × ((b ≡ []) × (c ≡ []))
    by [] [] c q = (refl, (refl, q))
    by [] (y ∷ b) c q = absurd cc
    by (x ∷ a) b c q = absurd cc

-- ---- one node

module _ (v l h : ℕ) where
  itself : is_node v l h (record { variable = v; low = l; high = h }) ≡ true
  itself = rw (eq-eqb v v refl, eq-eqb l l refl, eq-eqb h h refl) refl

  pub with_node_is : (ks : List ImageNode) → with_node v l h ks ≡ (cond (list_any (is_node v l h) ks) ks (ks ++ record { variable = v; low = l; high = h } ∷ []))
  with_node_is [] = refl
  with_node_is (k ∷ ks) = by (is_node v l h k) (list_any (is_node v l h) ks) (with_node_is ks)
    where
      by : (b t : Bool) → with_node v l h ks ≡ cond t ks (ks ++ record { variable = v; low = l; high = h } ∷ []) → cond b (k ∷ ks) (k ∷ with_node v l h ks) ≡ cond (b || t) (k ∷ ks) (k ∷ (ks ++ record { variable = v; low = l; high = h } ∷ []))
      by true t e = refl
      by false true e = ap (λ xs. k ∷ xs) e
      by false false e = ap (λ xs. k ∷ xs) e

  pub place_of_is : (ks : List ImageNode) → place_of v l h ks ≡ position_or_len (is_node v l h) ks
  place_of_is [] = refl
  place_of_is (k ∷ ks) = by (is_node v l h k) (place_of_is ks)
    where
      by : (b : Bool) → place_of v l h ks ≡ position_or_len (is_node v l h) ks → cond b 0 (suc (place_of v l h ks)) ≡ cond (not b) (1 + position_or_len (is_node v l h) ks) 0
      by true e = refl
      by false e = omega (arith, e)

  pub with_node_more : (ks : List ImageNode) → (more : List ImageNode) × (with_node v l h ks ≡ ks ++ more)
  with_node_more [] = (record { variable = v; low = l; high = h } ∷ [], refl)
  with_node_more (k ∷ ks) = by (is_node v l h k) (with_node_more ks)
    where
      by : (b : Bool) → (more : List ImageNode) × (with_node v l h ks ≡ ks ++ more) → (more : List ImageNode) × (cond b (k ∷ ks) (k ∷ with_node v l h ks) ≡ k ∷ (ks ++ more))
      by true m = ([], sym (append-nil (k ∷ ks)))
      by false m = (m.0, ap (λ xs. k ∷ xs) m.1)

  -- a place is within the nodes with the node
  pub place_within : (ks : List ImageNode) → place_of v l h ks < length (with_node v l h ks)
  place_within [] = omega arith
  place_within (k ∷ ks) = by (is_node v l h k) (place_within ks)
    where
      by : (b : Bool) → place_of v l h ks < length (with_node v l h ks) → cond b 0 (suc (place_of v l h ks)) < length (cond b (k ∷ ks) (k ∷ with_node v l h ks))
      by true m = omega arith
      by false m = omega arith

  -- where the node is among nodes, it stays there
  pub with_node_kept : (ks more : List ImageNode) → with_node v l h ks ≡ ks → (with_node v l h (ks ++ more) ≡ ks ++ more) × (place_of v l h (ks ++ more) ≡ place_of v l h ks)
  with_node_kept [] more e = absurd cc
  with_node_kept (k ∷ ks) more e = by (is_node v l h k) e (λ here. with_node_kept ks more here)
    where
      by : (b : Bool) → cond b (k ∷ ks) (k ∷ with_node v l h ks) ≡ k ∷ ks
          → (with_node v l h ks ≡ ks → (with_node v l h (ks ++ more) ≡ ks ++ more) × (place_of v l h (ks ++ more) ≡ place_of v l h ks))
          → (cond b (k ∷ (ks ++ more)) (k ∷ with_node v l h (ks ++ more)) ≡ k ∷ (ks ++ more)) × (cond b 0 (suc (place_of v l h (ks ++ more))) ≡ cond b 0 (suc (place_of v l h ks)))
      by true e more_of = (refl, refl)
      by false e more_of =
          let r = more_of cc in
          (ap (λ xs. k ∷ xs) r.0, ap suc r.1)

  pub with_node_again : (ks : List ImageNode) → (with_node v l h (with_node v l h ks) ≡ with_node v l h ks) × (place_of v l h (with_node v l h ks) ≡ place_of v l h ks)
  with_node_again [] = (rw itself refl, rw itself refl)
  with_node_again (k ∷ ks) = by (is_node v l h k) refl (with_node_again ks)
    where
      by : (b : Bool) → is_node v l h k ≡ b → (with_node v l h (with_node v l h ks) ≡ with_node v l h ks) × (place_of v l h (with_node v l h ks) ≡ place_of v l h ks)
          → (with_node v l h (cond b (k ∷ ks) (k ∷ with_node v l h ks)) ≡ cond b (k ∷ ks) (k ∷ with_node v l h ks)) × (place_of v l h (cond b (k ∷ ks) (k ∷ with_node v l h ks)) ≡ cond b 0 (suc (place_of v l h ks)))
      by true e r = (rw e refl, rw e refl)
      by false e r = (rw e (ap (λ xs. k ∷ xs) r.0), rw e (ap suc r.1))

-- ---- diagrams

last_step : ℕ → ℕ → List ImageNode × ℕ → List ImageNode × ℕ
last_step v l other = (with_node v l other.1 other.0, place_of v l other.1 other.0 + 2)

second_step : ℕ → Diagram → List ImageNode × ℕ → List ImageNode × ℕ
second_step v high one = last_step v one.1 (visited high one.0)

-- a visit of a choice is one of its children and of its node
pub visited_choice : (v : ℕ) (low high : Diagram) (x y z : List ImageNode) (a b : ℕ) → visited low x ≡ (y, a) → visited high y ≡ (z, b)
    → visited (Choice v low high) x ≡ (with_node v a b z, place_of v a b z + 2)
unfolding second_step last_step
visited_choice v low high x y z a b one other = ap (second_step v high) one ∙ ap (last_step v a) other

pub visited_more : (d : Diagram) (ks : List ImageNode) → (more : List ImageNode) × ((visited d ks).0 ≡ ks ++ more)
visited_more (Constant false) ks = ([], sym (append-nil ks))
visited_more (Constant true) ks = ([], sym (append-nil ks))
visited_more (Choice v low high) ks =
    let one = visited low ks in
    let other = visited high one.0 in
    let a = visited_more low ks in
    let b = visited_more high one.0 in
    let c = with_node_more v one.1 other.1 other.0 in (
      a.0 ++ (b.0 ++ c.0),
      c.1 ∙ ap (λ xs. xs ++ c.0) (b.1 ∙ ap (λ xs. xs ++ b.0) a.1) ∙ append_assoc (ks ++ a.0) b.0 c.0 ∙ append_assoc ks a.0 (b.0 ++ c.0),
    )

pub visited_longer : (d : Diagram) (ks : List ImageNode) → length ks ≤ length (visited d ks).0
visited_longer d ks =
    let m = visited_more d ks in
    let n = length-append ks m.0 in
    let e = ap length m.1 in
    omega (arith, n, e)

pair_of : (p : List ImageNode × ℕ) (ks : List ImageNode) → p.0 ≡ ks → p ≡ (ks, p.1)
pair_of p ks e = ap (λ xs. (xs, p.1)) e

-- where a visit adds nothing, it adds nothing to more nodes
pub visited_kept : (d : Diagram) (ks more : List ImageNode) (n : ℕ) → IsNumbered ks d n → IsNumbered (ks ++ more) d n
visited_kept (Constant false) ks more n e = ap (λ (p : List ImageNode × ℕ). (ks ++ more, p.1)) e
visited_kept (Constant true) ks more n e = ap (λ (p : List ImageNode × ℕ). (ks ++ more, p.1)) e
visited_kept (Choice v low high) ks more n e =
    let one = visited low ks in
    let other = visited high one.0 in
    let e0 : with_node v one.1 other.1 other.0 ≡ ks = ap (λ (p : List ImageNode × ℕ). p.0) e in
    let e1 : place_of v one.1 other.1 other.0 + 2 ≡ n = ap (λ (p : List ImageNode × ℕ). p.1) e in
    let a = visited_more low ks in
    let b = visited_more high one.0 in
    let c = with_node_more v one.1 other.1 other.0 in
    let all : ((ks ++ a.0) ++ b.0) ++ c.0 ≡ ks = sym (ap (λ xs. xs ++ c.0) (b.1 ∙ ap (λ xs. xs ++ b.0) a.1)) ∙ sym c.1 ∙ e0 in
    let none = none_added ks a.0 b.0 c.0 all in
    let s1 : one.0 ≡ ks = a.1 ∙ ap (λ xs. ks ++ xs) none.0 ∙ append-nil ks in
    let s2 : other.0 ≡ ks = b.1 ∙ ap (λ xs. one.0 ++ xs) none.1.0 ∙ append-nil one.0 ∙ s1 in
    let p1 : visited low ks ≡ (ks, one.1) = pair_of (visited low ks) ks s1 in
    let p2 : visited high ks ≡ (ks, other.1) = ap (λ xs. visited high xs) (sym s1) ∙ pair_of (visited high one.0) ks s2 in
    let q1 = visited_kept low ks more one.1 p1 in
    let q2 = visited_kept high ks more other.1 p2 in
    let here : with_node v one.1 other.1 ks ≡ ks = ap (λ xs. with_node v one.1 other.1 xs) (sym s2) ∙ e0 in
    let stays = with_node_kept v one.1 other.1 ks more here in
    let number : place_of v one.1 other.1 (ks ++ more) + 2 ≡ n = ap (λ m. m + 2) (stays.1 ∙ ap (λ xs. place_of v one.1 other.1 xs) (sym s2)) ∙ e1 in
    visited_choice v low high (ks ++ more) (ks ++ more) (ks ++ more) one.1 other.1 q1 q2
    ∙ ap (λ xs. (xs, place_of v one.1 other.1 (ks ++ more) + 2)) stays.0
    ∙ ap (λ m. (ks ++ more, m)) number

-- a visit of what was visited adds nothing
pub visited_again : (d : Diagram) (ks : List ImageNode) → IsNumbered (visited d ks).0 d (visited d ks).1
visited_again (Constant false) ks = refl
visited_again (Constant true) ks = refl
visited_again (Choice v low high) ks =
    let one = visited low ks in
    let other = visited high one.0 in
    let all = with_node v one.1 other.1 other.0 in
    let b = visited_more high one.0 in
    let c = with_node_more v one.1 other.1 other.0 in
    let long : all ≡ one.0 ++ (b.0 ++ c.0) = c.1 ∙ ap (λ xs. xs ++ c.0) b.1 ∙ append_assoc one.0 b.0 c.0 in
    let q1 : IsNumbered all low one.1 = subst (λ xs. IsNumbered xs low one.1) (sym long) (visited_kept low one.0 (b.0 ++ c.0) one.1 (visited_again low ks)) in
    let q2 : IsNumbered all high other.1 = subst (λ xs. IsNumbered xs high other.1) (sym c.1) (visited_kept high other.0 c.0 other.1 (visited_again high one.0)) in
    let again = with_node_again v one.1 other.1 other.0 in
    visited_choice v low high all all all one.1 other.1 q1 q2
    ∙ ap (λ xs. (xs, place_of v one.1 other.1 all + 2)) again.0
    ∙ ap (λ m. (all, m + 2)) again.1
