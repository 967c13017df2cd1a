-- The number of a reference, by those of its children.
use Rattle.sig_file.proofs.Common.{◌≡◌, ◌<◌, ◌≤◌, ◌+◌, ℕ, List, ◌++◌, length, Option, None, Some, sym, ap, subst, ◌∙◌, arith, HashMap, get, Diagram, Choice, Holds, IsStore, StoreView, diagram, node_of, Node, Ref, names_node, AreNumbered, IsNumbered, place_of, visited, with_node, IfSome, ImageNode, length-append, Bool}
use Rattle.sig_file.proofs.Visits.{visited_again, visited_choice, visited_kept, visited_longer, with_node_more}

-- numbers stay as nodes are added
pub numbers_stay : {S : Type 0} (eq : Ref → Ref → Bool) (store : List Node) (ks more : List ImageNode) (table : HashMap Ref ℕ S) → AreNumbered eq store ks table → AreNumbered eq store (ks ++ more) table
numbers_stay eq store ks more table are r = entry (diagram store r) (get eq table r) (are r)
  where
    entry : (d : Diagram) (o : Option ℕ) → IfSome o (IsNumbered ks d) → IfSome o (IsNumbered (ks ++ more) d)
    entry d None h = tt
    entry d (Some n) h = visited_kept d ks more n h

with_node_longer : (v l h : ℕ) (ks : List ImageNode) → length ks ≤ length (with_node v l h ks)
with_node_longer v l h ks =
    let m = with_node_more v l h ks in
    let n = length-append ks m.0 in
    let e = ap length m.1 in
    omega (arith, n, e)

choice_longer : (v : ℕ) (low high : Diagram) (ks : List ImageNode) → length (visited high (visited low ks).0).0 ≤ length (visited (Choice v low high) ks).0
choice_longer v low high ks = let one = visited low ks in let other = visited high one.0 in with_node_longer v one.1 other.1 other.0

module _ (s : StoreView) (store : IsStore s) (r : Ref) (held : Holds s.nodes r) (n : Node) (is : Some n ≡ node_of s.nodes r) (old : List ImageNode) where
  choice : diagram s.nodes r ≡ Choice n.variable (diagram s.nodes n.low) (diagram s.nodes n.high)
  choice = let (i, p) = names_node s.nodes store.reduced r held n is in p.diagram_is

  longer : length (visited (diagram s.nodes n.high) (visited (diagram s.nodes n.low) old).0).0 ≤ length (visited (diagram s.nodes r) old).0
  longer = subst (λ d. length (visited (diagram s.nodes n.high) (visited (diagram s.nodes n.low) old).0).0 ≤ length (visited d old).0) (sym choice)
      (choice_longer n.variable (diagram s.nodes n.low) (diagram s.nodes n.high) old)

  pub low_long : (limit : ℕ) → limit < length (visited (diagram s.nodes n.low) old).0 → limit < length (visited (diagram s.nodes r) old).0
  low_long limit lt =
      let all = longer in
      let more = visited_longer (diagram s.nodes n.high) (visited (diagram s.nodes n.low) old).0 in
      omega (arith, lt, all, more)

  module _ (mid : List ImageNode) (low : ℕ) (one : visited (diagram s.nodes n.low) old ≡ (mid, low)) where
    pub high_long : (limit : ℕ) → limit < length (visited (diagram s.nodes n.high) mid).0 → limit < length (visited (diagram s.nodes r) old).0
    high_long limit lt =
        let all = longer in
        let same : length (visited (diagram s.nodes n.high) (visited (diagram s.nodes n.low) old).0).0 ≡ length (visited (diagram s.nodes n.high) mid).0 =
        ap (λ (p : List ImageNode × ℕ). length (visited (diagram s.nodes n.high) p.0).0) one in
        omega (arith, lt, all, same)

    module _ (hi : List ImageNode) (high : ℕ) (other : visited (diagram s.nodes n.high) mid ≡ (hi, high)) where
      visits : visited (diagram s.nodes r) old ≡ (with_node n.variable low high hi, place_of n.variable low high hi + 2)
      visits = ap (λ d. visited d old) choice ∙ visited_choice n.variable (diagram s.nodes n.low) (diagram s.nodes n.high) old mid hi low high one other

      pub node_long : (limit : ℕ) → limit < length (with_node n.variable low high hi) → limit < length (visited (diagram s.nodes r) old).0
      node_long limit lt = let e = ap (λ (p : List ImageNode × ℕ). length p.0) visits in omega (arith, lt, e)

      module _ (all : List ImageNode) (number : ℕ) (with : all ≡ with_node n.variable low high hi) (place : number ≡ place_of n.variable low high hi + 2) where
        pub node_visited : visited (diagram s.nodes r) old ≡ (all, number)
        node_visited = visits ∙ ap (λ xs. (xs, place_of n.variable low high hi + 2)) (sym with) ∙ ap (λ m. (all, m)) (sym place)

        pub node_again : IsNumbered all (diagram s.nodes r) number
        node_again = subst (λ (p : List ImageNode × ℕ). IsNumbered p.0 (diagram s.nodes r) p.1) node_visited (visited_again (diagram s.nodes r) old)

        pub numbers_with : {S : Type 0} (eq : Ref → Ref → Bool) (table : HashMap Ref ℕ S) → AreNumbered eq s.nodes hi table → AreNumbered eq s.nodes all table
        numbers_with eq table are =
            let m = with_node_more n.variable low high hi in
            subst (λ xs. AreNumbered eq s.nodes xs table) (sym (with ∙ m.1)) (numbers_stay eq s.nodes hi m.0 table are)
