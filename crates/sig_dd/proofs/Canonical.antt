-- In a reduced list of nodes equal functions have one reference.
use Rattle.sig_dd.proofs.Common.{◌≡◌, ℕ, zero, suc, ◌+◌, ◌<◌, ◌≤◌, Bool, cond, List, ◌⊎◌, inl, inr, Option, None, Some, IfSome, sym, ◌∙◌, ap, subst, arith, slice_get_within, Constant, Choice, StartsFrom, Agree, Holds, node_of, diagram, test, IsReduced, Ref, Node}
use Rattle.sig_dd.proofs.Trees.{IsProper, one_diagram}
use Rattle.sig_dd.proofs.Listed.{shape, NamesConstant, NamesNode}

pub same_ref : (r s : Ref) → r.number ≡ s.number → r ≡ s
same_ref r s e = λ j. record { number = e j }

pub same_node : (m n : Node) → m.variable ≡ n.variable → m.low ≡ n.low → m.high ≡ n.high → m ≡ n
same_node m n v l h = λ j. record { variable = v j; low = l j; high = h j }

module _ (nodes : List Node) (reduced : IsReduced nodes) where
  -- what a reference names
  abbrev Shape : Ref → Type 0
  Shape r = ((b : Bool) × NamesConstant nodes r b) ⊎ ((i : ℕ) × (n : Node) × NamesNode nodes r i n)

  -- the children of a node are references of the list
  pub children_held : (r : Ref) (i : ℕ) (n : Node) → NamesNode nodes r i n → Holds nodes n.low × Holds nodes n.high
  children_held r i n p =
      let lt = slice_get_within nodes i n p.at in
      let low = p.is.low_before in
      let high = p.is.high_before in
      (omega arith, omega arith)

  two_shapes : (r s : Ref) → ((a b : Ref) → a.number < r.number → Holds nodes a → Holds nodes b → diagram nodes a ≡ diagram nodes b → a ≡ b)
      → diagram nodes r ≡ diagram nodes s → Shape r → Shape s → r ≡ s
  two_shapes r s below e (inl (a, p)) (inl (b, q)) =
      let same : Constant a ≡ Constant b = sym p.diagram_is ∙ e ∙ q.diagram_is in
      let ab : a ≡ b = cc in
      same_ref r s (p.number ∙ ap (λ x. cond x 1 0) ab ∙ sym q.number)
  two_shapes r s below e (inl (a, p)) (inr (j, n, q)) =
      let same : Constant a ≡ Choice n.variable (diagram nodes n.low) (diagram nodes n.high) = sym p.diagram_is ∙ e ∙ q.diagram_is in
      cc
  two_shapes r s below e (inr (i, m, p)) (inl (b, q)) =
      let same : Choice m.variable (diagram nodes m.low) (diagram nodes m.high) ≡ Constant b = sym p.diagram_is ∙ e ∙ q.diagram_is in
      cc
  two_shapes r s below e (inr (i, m, p)) (inr (j, n, q)) =
      let same : Choice m.variable (diagram nodes m.low) (diagram nodes m.high) ≡ Choice n.variable (diagram nodes n.low) (diagram nodes n.high) = sym p.diagram_is ∙ e ∙ q.diagram_is in
      let v : m.variable ≡ n.variable = cc in
      let dl : diagram nodes m.low ≡ diagram nodes n.low = cc in
      let dh : diagram nodes m.high ≡ diagram nodes n.high = cc in
      let hm = children_held r i m p in
      let hn = children_held s j n q in
      let l = below m.low n.low (let h = p.is.low_before in let k = p.number in omega arith) hm.0 hn.0 dl in
      let h = below m.high n.high (let h = p.is.high_before in let k = p.number in omega arith) hm.1 hn.1 dh in
      let mn : m ≡ n = same_node m n v l h in
      let ij = reduced.once i j m p.at (q.at ∙ ap Some (sym mn)) in
      same_ref r s (p.number ∙ ap (λ x. x + 2) ij ∙ sym q.number)

  one_name : (k : ℕ) (r s : Ref) → r.number ≤ k → Holds nodes r → Holds nodes s → diagram nodes r ≡ diagram nodes s → r ≡ s
  one_name zero r s le hr hs e = two_shapes r s (λ a b lt ha hb f. absurd (omega arith)) e (shape nodes reduced r hr) (shape nodes reduced s hs)
  one_name (suc k) r s le hr hs e = two_shapes r s (λ a b lt ha hb f. one_name k a b (omega arith) ha hb f) e (shape nodes reduced r hr) (shape nodes reduced s hs)

  -- one diagram has one reference
  pub one_reference : (r s : Ref) → Holds nodes r → Holds nodes s → diagram nodes r ≡ diagram nodes s → r ≡ s
  one_reference r s = one_name r.number r s (omega arith)

  -- a node's variable is the first that its diagram tests
  pub StartsFrom-node : (r : Ref) → Holds nodes r → (b : ℕ) → IfSome (node_of nodes r) (λ m. b ≤ m.variable) → StartsFrom b (diagram nodes r)
  unfolding StartsFrom
  StartsFrom-node r h b le = elim (shape nodes reduced r h) [
    | inl (c, p) ↦ subst (StartsFrom b) (sym p.diagram_is) tt
    | inr (i, n, p) ↦ subst (StartsFrom b) (sym p.diagram_is) (subst (λ o. IfSome o (λ m. b ≤ m.variable)) p.node le)
  ]

  pub node-StartsFrom : (r : Ref) → Holds nodes r → (b : ℕ) → StartsFrom b (diagram nodes r) → IfSome (node_of nodes r) (λ m. b ≤ m.variable)
  unfolding StartsFrom
  node-StartsFrom r h b s = elim (shape nodes reduced r h) [
    | inl (c, p) ↦ subst (λ o. IfSome o (λ m. b ≤ m.variable)) (sym p.none) tt
    | inr (i, n, p) ↦ subst (λ o. IfSome o (λ m. b ≤ m.variable)) (sym p.node) (subst (StartsFrom b) p.diagram_is s)
  ]

  later_from : (v : ℕ) (o : Option Node) → IfSome o (λ m. v < m.variable) → IfSome o (λ m. suc v ≤ m.variable)
  later_from v None h = tt
  later_from v (Some m) h = omega arith

  -- the children of a node test later variables
  pub children_later : (r : Ref) (i : ℕ) (n : Node) → NamesNode nodes r i n → StartsFrom (suc n.variable) (diagram nodes n.low) × StartsFrom (suc n.variable) (diagram nodes n.high)
  children_later r i n p =
      let held = children_held r i n p in (
        StartsFrom-node n.low held.0 (suc n.variable) (later_from n.variable _ p.is.low_later),
        StartsFrom-node n.high held.1 (suc n.variable) (later_from n.variable _ p.is.high_later),
      )

  proper_shape : (r : Ref) → ((a : Ref) → a.number < r.number → Holds nodes a → IsProper (diagram nodes a)) → Shape r → IsProper (diagram nodes r)
  proper_shape r below (inl (c, p)) = subst IsProper (sym p.diagram_is) tt
  proper_shape r below (inr (i, n, p)) =
      let held = children_held r i n p in
      let later = children_later r i n p in
      let low : n.low.number < r.number = (let h = p.is.low_before in let k = p.number in omega arith) in
      let high : n.high.number < r.number = (let h = p.is.high_before in let k = p.number in omega arith) in
      subst IsProper (sym p.diagram_is)
      (later.0, later.1, λ e. p.is.differ (one_reference n.low n.high held.0 held.1 e), below n.low low held.0, below n.high high held.1)

  proper_below : (k : ℕ) (r : Ref) → r.number ≤ k → Holds nodes r → IsProper (diagram nodes r)
  proper_below zero r le h = proper_shape r (λ a lt ha. absurd (omega arith)) (shape nodes reduced r h)
  proper_below (suc k) r le h = proper_shape r (λ a lt ha. proper_below k a (omega arith) ha) (shape nodes reduced r h)

  -- the diagrams are reduced and ordered all the way down
  pub proper : (r : Ref) → Holds nodes r → IsProper (diagram nodes r)
  proper r h = proper_below r.number r (omega arith) h

  -- equal functions have one reference
  pub one_ref : (r s : Ref) → Holds nodes r → Holds nodes s → Agree (test nodes r) (test nodes s) → r ≡ s
  one_ref r s hr hs same = one_reference r s hr hs (one_diagram _ _ (proper r hr) (proper s hs) same)
