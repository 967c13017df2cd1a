-- The variables that a node's diagram tests, and sets of them.
use Rattle.sig_dd.proofs.Common.{◌≡◌, ℕ, suc, ◌<◌, Bool, true, false, cond, List, ◌⊎◌, inl, inr, None, Some, refl, sym, ◌∙◌, ap, subst, arith, IsTrue, Ordering, true≢false, eqb, nat_cmp, is_eq, Less, Equal, Greater, BTreeSet, contains, exact_unsigned, Diagram, Choice, Tests, Depends, truth_of, value_at, visited, Holds, node_of, diagram, test, IsReduced, Ref, Node}
use Rattle.sig_dd.proofs.Trees.{Depends-tests, Tests-depends}
use Rattle.sig_dd.proofs.Listed.{shape}
use Rattle.sig_dd.proofs.Canonical.{children_held, proper}
use Rattle.sig_dd.proofs.Sides.{names_node}

module _ (nodes : List Node) (reduced : IsReduced nodes) (r : Ref) (held : Holds nodes r) where
  pub constant_tests : None ≡ node_of nodes r → (v : ℕ) → Tests (diagram nodes r) v → ⊥
  unfolding Tests
  constant_tests is v t = elim (shape nodes reduced r held) [
    | inl (b, p) ↦ subst (λ d. Tests d v) p.diagram_is t
    | inr (i, n, p) ↦ let no : None ≡ Some n = is ∙ p.node in cc
  ]

  module _ (n : Node) (is : Some n ≡ node_of nodes r) where
    pub node_tests : (v : ℕ) → Tests (diagram nodes r) v → (v ≡ n.variable) ⊎ (Tests (diagram nodes n.low) v ⊎ Tests (diagram nodes n.high) v)
    unfolding Tests
    node_tests v t = let (i, p) = names_node nodes reduced r held n is in subst (λ d. Tests d v) p.diagram_is t

    pub tests_node : (v : ℕ) → (v ≡ n.variable) ⊎ (Tests (diagram nodes n.low) v ⊎ Tests (diagram nodes n.high) v) → Tests (diagram nodes r) v
    unfolding Tests
    tests_node v t = let (i, p) = names_node nodes reduced r held n is in subst (λ d. Tests d v) (sym p.diagram_is) t

    -- the children stand before the node
    pub low_below : n.low.number < r.number
    low_below = let (i, p) = names_node nodes reduced r held n is in let h = p.is.low_before in let k = p.number in omega arith

    pub high_below : n.high.number < r.number
    high_below = let (i, p) = names_node nodes reduced r held n is in let h = p.is.high_before in let k = p.number in omega arith

    pub low_held : Holds nodes n.low
    low_held = let (i, p) = names_node nodes reduced r held n is in (children_held nodes reduced r i n p).0

    pub high_held : Holds nodes n.high
    high_held = let (i, p) = names_node nodes reduced r held n is in (children_held nodes reduced r i n p).1

  -- what the diagram tests is what the function depends on
  pub Depends-Tests : (v : ℕ) → Tests (diagram nodes r) v → Depends (test nodes r) v
  Depends-Tests v t = Depends-tests (diagram nodes r) v (proper nodes reduced r held) t

  pub Tests-Depends : (v : ℕ) → Depends (test nodes r) v → Tests (diagram nodes r) v
  Tests-Depends v d = Tests-depends (diagram nodes r) v d

-- a constant's value
pub constant_value : (nodes : List Node) → IsReduced nodes → (r : Ref) → Holds nodes r → None ≡ node_of nodes r → (ts : List Bool) → eqb r.number 1 ≡ test nodes r ts
unfolding value_at
constant_value nodes reduced r held is ts = elim (shape nodes reduced r held) [
  | inl (b, p) ↦ ap (λ m. eqb m 1) p.number ∙ elim b as (λ b. eqb (cond b 1 0) 1 ≡ b) [ true ↦ refl | false ↦ refl ] ∙ sym (ap (λ d. value_at d ts) p.diagram_is)
  | inr (i, n, p) ↦ let no : None ≡ Some n = is ∙ p.node in cc
]

-- a walk meets no choice at a constant
pub visited_constant : (nodes : List Node) → IsReduced nodes → (r : Ref) → Holds nodes r → None ≡ node_of nodes r → (ts : List Bool) → visited (diagram nodes r) ts ≡ 0
unfolding visited
visited_constant nodes reduced r held is ts = elim (shape nodes reduced r held) [
  | inl (b, p) ↦ ap (λ d. visited d ts) p.diagram_is
  | inr (i, n, p) ↦ let no : None ≡ Some n = is ∙ p.node in cc
]

visited_choice : (v : ℕ) (low high : Diagram) (ts : List Bool) (x : Bool) → truth_of ts v ≡ x → visited (Choice v low high) ts ≡ suc (cond x (visited high ts) (visited low ts))
unfolding visited
visited_choice v low high ts x e = ap (λ b. suc (cond b (visited high ts) (visited low ts))) e

visited_side : (x : Bool) (ts : List Bool) (nodes : List Node) (low high c : Ref) → c ≡ cond x high low → cond x (visited (diagram nodes high) ts) (visited (diagram nodes low) ts) ≡ visited (diagram nodes c) ts
visited_side true ts nodes low high c e = ap (λ r. visited (diagram nodes r) ts) (sym e)
visited_side false ts nodes low high c e = ap (λ r. visited (diagram nodes r) ts) (sym e)

-- and at a node one more than from its child on
pub visited_child : (nodes : List Node) → IsReduced nodes → (r : Ref) → Holds nodes r → (n : Node) → Some n ≡ node_of nodes r → (x : Bool) (c : Ref) → c ≡ cond x n.high n.low → (ts : List Bool) → truth_of ts n.variable ≡ x
    → visited (diagram nodes r) ts ≡ suc (visited (diagram nodes c) ts)
visited_child nodes reduced r held n is x c e ts at =
    let (i, p) = names_node nodes reduced r held n is in
    ap (λ d. visited d ts) p.diagram_is ∙ visited_choice n.variable (diagram nodes n.low) (diagram nodes n.high) ts x at
    ∙ ap suc (visited_side x ts nodes n.low n.high c e)

equal_of : (o : Ordering) → is_eq o ≡ true → o ≡ Equal
equal_of Less e = absurd (true≢false (sym e))
equal_of Equal e = refl
equal_of Greater e = absurd (true≢false (sym e))

-- a set of variables with one more
module _ (old new : BTreeSet ℕ) (k : ℕ) (updates : (q : ℕ) → contains nat_cmp new q ≡ cond (is_eq (nat_cmp k q)) true (contains nat_cmp old q)) where
  pub inserted_kept : (q : ℕ) → IsTrue (contains nat_cmp old q) → IsTrue (contains nat_cmp new q)
  inserted_kept q h = updates q ∙ ap (λ b. cond (is_eq (nat_cmp k q)) true b) h ∙ elim (is_eq (nat_cmp k q)) as (λ b. cond b true true ≡ true) [ true ↦ refl | false ↦ refl ]

  pub inserted_only : (q : ℕ) → IsTrue (contains nat_cmp new q) → IsTrue (contains nat_cmp old q) ⊎ (q ≡ k)
  inserted_only q h = by (is_eq (nat_cmp k q)) refl
    where
      by : (b : Bool) → is_eq (nat_cmp k q) ≡ b → IsTrue (contains nat_cmp old q) ⊎ (q ≡ k)
      by true e = inr (sym (exact_unsigned k q (equal_of (nat_cmp k q) e)))
      by false e = inl (sym (ap (λ b. cond b true (contains nat_cmp old q)) e) ∙ sym (updates q) ∙ h)
