-- The nodes of an image as those of a store of diagrams.
use Rattle.sig_file.proofs.Common.{same_Some, ◌≡◌, ℕ, zero, suc, ◌+◌, ◌<◌, inl, inr, Bool, true, false, List, [], ◌∷◌, take, slice_get, Option, Some, None, refl, sym, ap, subst, ◌∙◌, arith, list_any, cases_lt, slice_get-map, option_map, eq-eqb, ltb-true, length-take, ◌&&◌, ◌==◌, not, Node, Ref, IfSome, IsNodeAt, IsReduced, node_of, node_in, nodes_in, Each, IsNodeBehind, is_child, is_later, is_node, ImageNode, taken_is, and_from, and_parts, or_left, or_right, not_true}
use Rattle.sig_file.proofs.Behind.{each_at}
use Rattle.sig_file.proofs.Items.{child_below}

found_in : {A : Type 0} (p : A → Bool) (xs : List A) (i j : ℕ) (x : A) → i < j → slice_get xs i ≡ Some x → p x ≡ true → list_any p (take j xs) ≡ true
found_in p [] i j x lt e h = absurd cc
found_in p (y ∷ xs) i zero x lt e h = absurd (omega arith)
found_in p (y ∷ xs) zero (suc j) x lt e h = or_left (p y) (list_any p (take j xs)) (ap p (same_Some y x e) ∙ h)
found_in p (y ∷ xs) (suc i) (suc j) x lt e h = or_right (p y) (list_any p (take j xs)) (found_in p xs i j x (omega arith) e h)

-- the node of an image that a node of the store is
record Stands (nodes : List ImageNode) (i : ℕ) (n : Node) : Type 0 where
  pub node : ImageNode
  pub is : slice_get nodes i ≡ Some node
  pub same : node_in node ≡ n

stands_by : (nodes : List ImageNode) (i : ℕ) (n : Node) (o : Option ImageNode) → slice_get nodes i ≡ o → option_map node_in o ≡ Some n → Stands nodes i n
stands_by nodes i n None here e = absurd cc
stands_by nodes i n (Some node) here e = record { node = node; is = here; same = same_Some (node_in node) n e }

stands : (nodes : List ImageNode) (i : ℕ) (n : Node) → slice_get (nodes_in nodes) i ≡ Some n → Stands nodes i n
stands nodes i n e = stands_by nodes i n (slice_get nodes i) refl (sym (slice_get-map node_in nodes i) ∙ e)

later_by : (nodes : List ImageNode) (i k variable : ℕ) (o : Option ImageNode) → slice_get (take i nodes) k ≡ o → is_later variable o ≡ true → IfSome (slice_get (nodes_in nodes) k) (λ m. variable < m.variable)
later_by nodes i k variable None here e = absurd cc
later_by nodes i k variable (Some m) here e =
    let there : slice_get (nodes_in nodes) k ≡ Some (node_in m) = slice_get-map node_in nodes k ∙ ap (option_map node_in) (taken_is nodes i k m here) in
    subst (λ (o : Option Node). IfSome o (λ n. variable < n.variable)) (sym there) (ltb-true _ _ e)

later_child : (nodes : List ImageNode) (i variable child : ℕ) → is_child (take i nodes) variable child ≡ true → IfSome (node_of (nodes_in nodes) (record { number = child })) (λ m. variable < m.variable)
later_child nodes i variable zero e = tt
later_child nodes i variable (suc zero) e = tt
later_child nodes i variable (suc (suc k)) e = later_by nodes i k variable (slice_get (take i nodes) k) refl e

child_before : (nodes : List ImageNode) (i variable child : ℕ) → is_child (take i nodes) variable child ≡ true → child < i + 2
child_before nodes i variable child e = let h = child_below (take i nodes) variable child e in omega (arith, length-take i nodes)

other_child : (low high : ℕ) → not (high == low) ≡ true → low ≡ high → ⊥
other_child low high e same = let f = not_true (high == low) e in let t : (high == low) ≡ true = eq-eqb high low (sym same) in absurd cc

reference_number : (a b : Ref) → a ≡ b → a.number ≡ b.number
reference_number a b e = ap (λ (r : Ref). r.number) e

node_at : (conditions : ℕ) (nodes : List ImageNode) (i : ℕ) (node : ImageNode) → IsNodeBehind conditions (take i nodes) node → IsNodeAt (nodes_in nodes) i (node_in node)
node_at conditions nodes i node h =
    let high = and_parts (is_child (take i nodes) node.variable node.high) (not (node.high == node.low) && not (list_any (is_node node.variable node.low node.high) (take i nodes))) h.high in
    let other = and_parts (not (node.high == node.low)) (not (list_any (is_node node.variable node.low node.high) (take i nodes))) high.1 in
    record {
      low_before = child_before nodes i node.variable node.low h.low;
      high_before = child_before nodes i node.variable node.high high.0;
      differ = λ e. other_child node.low node.high other.0 (reference_number _ _ e);
      low_later = later_child nodes i node.variable node.low h.low;
      high_later = later_child nodes i node.variable node.high high.0;
    }

-- no node stands twice
not_twice : (conditions : ℕ) (nodes : List ImageNode) (i j : ℕ) (n : Node) → Each (IsNodeBehind conditions) [] nodes → i < j → Stands nodes i n → Stands nodes j n → ⊥
not_twice conditions nodes i j n each lt a b =
    let h = each_at (IsNodeBehind conditions) [] nodes j b.node each b.is in
    let high = and_parts (is_child (take j nodes) b.node.variable b.node.high) (not (b.node.high == b.node.low) && not (list_any (is_node b.node.variable b.node.low b.node.high) (take j nodes))) h.high in
    let other = and_parts (not (b.node.high == b.node.low)) (not (list_any (is_node b.node.variable b.node.low b.node.high) (take j nodes))) high.1 in
    let none : list_any (is_node b.node.variable b.node.low b.node.high) (take j nodes) ≡ false = not_true _ other.1 in
    let same : node_in b.node ≡ node_in a.node = b.same ∙ sym a.same in
    let is : is_node b.node.variable b.node.low b.node.high a.node ≡ true =
    and_from _ _ (eq-eqb _ _ (ap (λ (m : Node). m.variable) same)) (and_from _ _ (eq-eqb _ _ (ap (λ (m : Node). m.low.number) same)) (eq-eqb _ _ (ap (λ (m : Node). m.high.number) same))) in
    let some : list_any (is_node b.node.variable b.node.low b.node.high) (take j nodes) ≡ true = found_in (is_node b.node.variable b.node.low b.node.high) nodes i j a.node lt a.is is in
    absurd cc

pub reduced : (conditions : ℕ) (nodes : List ImageNode) → Each (IsNodeBehind conditions) [] nodes → IsReduced (nodes_in nodes)
reduced conditions nodes each = record {
  each = λ i n e. (let s = stands nodes i n e in subst (IsNodeAt (nodes_in nodes) i) s.same (node_at conditions nodes i s.node (each_at (IsNodeBehind conditions) [] nodes i s.node each s.is)));
  once = λ i j n e f. elim (cases_lt i j) [
    | inl lt ↦ absurd (not_twice conditions nodes i j n each lt (stands nodes i n e) (stands nodes j n f))
    | inr le ↦ elim (cases_lt j i) [
      | inl lt ↦ absurd (not_twice conditions nodes j i n each lt (stands nodes j n f) (stands nodes i n e))
      | inr ge ↦ omega arith
    ]
  ];
}
