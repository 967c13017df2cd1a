-- The first variable of a reference, and its two sides.
use Rattle.sig_dd.proofs.Common.{◌≡◌, ℕ, suc, ◌<◌, ◌≤◌, Bool, true, false, cond, List, inl, inr, Option, None, Some, IfSome, IsSomeAnd, refl, sym, ◌∙◌, ap, subst, arith, if◌then◌else◌, value_at, StartsFrom, Tests, Holds, node_of, diagram, IsReduced, HasVariable, IsSide, Ref, Node}
use Rattle.sig_dd.proofs.Trees.{value_at-choice}
use Rattle.sig_dd.proofs.Listed.{shape, NamesNode}
use Rattle.sig_dd.proofs.Canonical.{StartsFrom-node, node-StartsFrom, children_held, children_later}

module _ (nodes : List Node) (reduced : IsReduced nodes) (r : Ref) (held : Holds nodes r) where
  -- a node that r has is the one that it names
  pub names_node : (n : Node) → Some n ≡ node_of nodes r → (i : ℕ) × NamesNode nodes r i n
  names_node n is = elim (shape nodes reduced r held) [
    | inl (b, p) ↦ let no : Some n ≡ None = is ∙ p.none in cc
    | inr (i, m, p) ↦
        let yes : Some m ≡ Some n = sym p.node ∙ sym is in
        let mn : m ≡ n = cc in
        (i, subst (NamesNode nodes r i) mn p)
  ]

  pub starts_at : (n : Node) → Some n ≡ node_of nodes r → (b : ℕ) → b ≤ n.variable → StartsFrom b (diagram nodes r)
  starts_at n is b le = StartsFrom-node nodes reduced r held b (subst (λ o. IfSome o (λ m. b ≤ m.variable)) is le)

  pub starts_nowhere : None ≡ node_of nodes r → (b : ℕ) → StartsFrom b (diagram nodes r)
  starts_nowhere is b = StartsFrom-node nodes reduced r held b (subst (λ o. IfSome o (λ m. b ≤ m.variable)) is tt)

  pub variable_from : (n : Node) → Some n ≡ node_of nodes r → (b : ℕ) → StartsFrom b (diagram nodes r) → b ≤ n.variable
  variable_from n is b starts = subst (λ o. IfSome o (λ m. b ≤ m.variable)) (sym is) (node-StartsFrom nodes reduced r held b starts)

  -- the side of a node that has the variable is a child
  pub IsSide-child : (n : Node) → Some n ≡ node_of nodes r → (x : Bool) (c : Ref) → c ≡ (if x then n.high else n.low) → IsSide nodes r n.variable x c
  unfolding Tests
  IsSide-child n is true c e =
      let (i, p) = names_node n is in
      let child = children_held nodes reduced r i n p in
      let later = children_later nodes reduced r i n p in
      let high : n.high.number < r.number = (let h = p.is.high_before in let k = p.number in omega arith) in
      subst (IsSide nodes r n.variable true) (sym e) (record {
        holds = child.1;
        function = λ ts at. sym (ap (λ d. value_at d ts) p.diagram_is ∙ value_at-choice n.variable _ _ ts true at);
        later = later.1;
        tests = λ u t. subst (λ d. Tests d u) (sym p.diagram_is) (inr (inr t));
        at_most = omega arith;
        smaller = λ h. high;
      })
  IsSide-child n is false c e =
      let (i, p) = names_node n is in
      let child = children_held nodes reduced r i n p in
      let later = children_later nodes reduced r i n p in
      let low : n.low.number < r.number = (let h = p.is.low_before in let k = p.number in omega arith) in
      subst (IsSide nodes r n.variable false) (sym e) (record {
        holds = child.0;
        function = λ ts at. sym (ap (λ d. value_at d ts) p.diagram_is ∙ value_at-choice n.variable _ _ ts false at);
        later = later.0;
        tests = λ u t. subst (λ d. Tests d u) (sym p.diagram_is) (inr (inl t));
        at_most = omega arith;
        smaller = λ h. low;
      })

  -- what begins later is its own side
  pub IsSide-itself : (v : ℕ) (x : Bool) → StartsFrom (suc v) (diagram nodes r) → (HasVariable nodes r v → ⊥) → IsSide nodes r v x r
  IsSide-itself v x later apart = record {
    holds = held;
    function = λ ts at. refl;
    later = later;
    tests = λ u t. t;
    at_most = omega arith;
    smaller = λ h. absurd (apart h);
  }

  -- a reference that names no node is a constant
  pub constant_below : None ≡ node_of nodes r → r.number < 2
  constant_below is = elim (shape nodes reduced r held) [
    | inl (b, p) ↦ let n = p.number in elim b as (λ b. r.number ≡ cond b 1 0 → r.number < 2) [ true ↦ λ e. omega arith | false ↦ λ e. omega arith ] n
    | inr (i, n, p) ↦ let no : None ≡ Some n = is ∙ p.node in cc
  ]

  -- a node's number is above those of the constants
  pub node_numbered_at : (n : Node) → Some n ≡ node_of nodes r → 2 ≤ r.number
  node_numbered_at n is = let (i, p) = names_node n is in let e = p.number in omega arith

  pub HasVariable-node : (n : Node) → Some n ≡ node_of nodes r → HasVariable nodes r n.variable
  HasVariable-node n is = subst (λ o. IsSomeAnd o (λ m. m.variable ≡ n.variable)) is refl

  node_with : (o : Option Node) (v : ℕ) → node_of nodes r ≡ o → IsSomeAnd o (λ n. n.variable ≡ v) → (n : Node) × (Some n ≡ node_of nodes r) × (n.variable ≡ v)
  node_with None v e h = absurd h
  node_with (Some n) v e h = (n, sym e, h)

  pub node_having : (v : ℕ) → HasVariable nodes r v → (n : Node) × (Some n ≡ node_of nodes r) × (n.variable ≡ v)
  node_having v h = node_with (node_of nodes r) v refl h

  -- a reference tests the variable that it has, and none before it
  pub tests_own : (v : ℕ) → HasVariable nodes r v → Tests (diagram nodes r) v
  unfolding Tests
  tests_own v h =
      let (n, is, e) = node_having v h in
      let (i, p) = names_node n is in
      subst (λ d. Tests d v) (sym p.diagram_is) (inl (sym e))

  pub own_first : (v : ℕ) → HasVariable nodes r v → (b : ℕ) → StartsFrom b (diagram nodes r) → b ≤ v
  own_first v h b s =
      let (n, is, e) = node_having v h in
      let le = variable_from n is b s in
      omega arith

  pub starts_own : (v : ℕ) → HasVariable nodes r v → (b : ℕ) → b ≤ v → StartsFrom b (diagram nodes r)
  starts_own v h b le =
      let (n, is, e) = node_having v h in
      starts_at n is b (omega arith)
