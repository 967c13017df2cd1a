-- The nodes that are gathered from reduced and ordered diagrams are right: each stands behind its children, and once.
use Rattle.sig_file.proofs.Common.{◌≡◌, ℕ, suc, ◌+◌, ◌<◌, ◌⊎◌, inl, inr, Bool, true, false, cond, List, [], ◌∷◌, ◌++◌, length, slice_get, Some, refl, sym, ap, subst, ◌∙◌, arith, append-nil, append_assoc, list_any, lt-ltb, ◌&&◌, ◌==◌, not, Diagram, eqb-true, and_parts, Constant, Choice, StartsFrom, Tests, IsProper, Each, IsNodeBehind, is_child, is_later, is_node, place_of, visited, with_node, ImageNode, get_last, still_at, slice_get_within, and_from, not_from_false, or_from}

-- the diagram of this number among nodes
abbrev pub Shows : List ImageNode → ℕ → Diagram → Type 0
Shows nodes n (Constant false) = n ≡ 0
Shows nodes n (Constant true) = n ≡ 1
Shows nodes n (Choice v low high) =
    (i : ℕ) × (node : ImageNode) × (n ≡ suc (suc i)) × (slice_get nodes i ≡ Some node) × (node.variable ≡ v) × Shows nodes node.low low × Shows nodes node.high high

shows_still : (d : Diagram) (nodes more : List ImageNode) (n : ℕ) → Shows nodes n d → Shows (nodes ++ more) n d
shows_still (Constant false) nodes more n s = s
shows_still (Constant true) nodes more n s = s
shows_still (Choice v low high) nodes more n s =
    (s.0, s.1, s.2, still_at nodes more s.0 s.1 s.3, s.4, shows_still low nodes more s.1.low s.5, shows_still high nodes more s.1.high s.6)

-- a number shows one diagram
one_shown : (d e : Diagram) (nodes : List ImageNode) (n : ℕ) → Shows nodes n d → Shows nodes n e → d ≡ e
one_shown (Constant false) (Constant false) nodes n s t = refl
one_shown (Constant false) (Constant true) nodes n s t = absurd (omega (arith, s, t))
one_shown (Constant false) (Choice v low high) nodes n s t = absurd (omega (arith, s, t.2))
one_shown (Constant true) (Constant false) nodes n s t = absurd (omega (arith, s, t))
one_shown (Constant true) (Constant true) nodes n s t = refl
one_shown (Constant true) (Choice v low high) nodes n s t = absurd (omega (arith, s, t.2))
one_shown (Choice v low high) (Constant false) nodes n s t = absurd (omega (arith, t, s.2))
one_shown (Choice v low high) (Constant true) nodes n s t = absurd (omega (arith, t, s.2))
one_shown (Choice v low high) (Choice w below above) nodes n s t =
    let place : s.0 ≡ t.0 = omega (arith, s.2, t.2) in
    let there : Some s.1 ≡ Some t.1 = sym s.3 ∙ ap (slice_get nodes) place ∙ t.3 in
    let node : s.1 ≡ t.1 = cc in
    let variable : v ≡ w = sym s.4 ∙ ap (λ (m : ImageNode). m.variable) node ∙ t.4 in
    let lower : low ≡ below = one_shown low below nodes s.1.low s.5 (subst (λ (m : ImageNode). Shows nodes m.low below) (sym node) t.5) in
    let upper : high ≡ above = one_shown high above nodes s.1.high s.6 (subst (λ (m : ImageNode). Shows nodes m.high above) (sym node) t.6) in
    λ j. Choice (variable j) (lower j) (upper j)

child_at : (nodes : List ImageNode) (v n : ℕ) (d : Diagram) → Shows nodes n d → StartsFrom (suc v) d → is_child nodes v n ≡ true
unfolding StartsFrom
child_at nodes v n (Constant false) s later = ap (is_child nodes v) s
child_at nodes v n (Constant true) s later = ap (is_child nodes v) s
child_at nodes v n (Choice u low high) s later =
    ap (is_child nodes v) s.2 ∙ ap (is_later v) s.3 ∙ lt-ltb v s.1.variable (omega (arith, later, s.4))

-- a number that shows a diagram is that of a constant or of a node
pub number_below : (nodes : List ImageNode) (n : ℕ) (d : Diagram) → Shows nodes n d → n < length nodes + 2
number_below nodes n (Constant false) s = omega (arith, s)
number_below nodes n (Constant true) s = omega (arith, s)
number_below nodes n (Choice v low high) s = omega (arith, s.2, slice_get_within nodes s.0 s.1 s.3)

-- ---- one more node

made_node : ℕ → ℕ → ℕ → ImageNode
made_node variable low high = record { variable = variable; low = low; high = high }

record IsFound (v l h : ℕ) (nodes : List ImageNode) : Type 0 where
  pub node : ImageNode
  pub same : with_node v l h nodes ≡ nodes
  pub at : slice_get nodes (place_of v l h nodes) ≡ Some node
  pub is : is_node v l h node ≡ true

record IsNew (v l h : ℕ) (nodes : List ImageNode) : Type 0 where
  pub more : with_node v l h nodes ≡ nodes ++ made_node v l h ∷ []
  pub last : place_of v l h nodes ≡ length nodes
  pub none : list_any (is_node v l h) nodes ≡ false

module _ (v l h : ℕ) where
  found_later : (first : ImageNode) (nodes : List ImageNode) → is_node v l h first ≡ false → IsFound v l h nodes → IsFound v l h (first ∷ nodes)
  found_later first nodes other found = record {
    node = found.node;
    same = ap (λ (b : Bool). cond b (first ∷ nodes) (first ∷ with_node v l h nodes)) other ∙ ap (λ (rest : List ImageNode). first ∷ rest) found.same;
    at = ap (λ (b : Bool). slice_get (first ∷ nodes) (cond b 0 (suc (place_of v l h nodes)))) other ∙ found.at;
    is = found.is;
  }

  new_later : (first : ImageNode) (nodes : List ImageNode) → is_node v l h first ≡ false → IsNew v l h nodes → IsNew v l h (first ∷ nodes)
  new_later first nodes other new = record {
    more = ap (λ (b : Bool). cond b (first ∷ nodes) (first ∷ with_node v l h nodes)) other ∙ ap (λ (rest : List ImageNode). first ∷ rest) new.more;
    last = ap (λ (b : Bool). cond b 0 (suc (place_of v l h nodes))) other ∙ ap suc new.last;
    none = or_from (is_node v l h first) (list_any (is_node v l h) nodes) other new.none;
  }

  found_here : (first : ImageNode) (nodes : List ImageNode) → is_node v l h first ≡ true → IsFound v l h (first ∷ nodes)
  found_here first nodes this = record {
    node = first;
    same = ap (λ (b : Bool). cond b (first ∷ nodes) (first ∷ with_node v l h nodes)) this;
    at = ap (λ (b : Bool). slice_get (first ∷ nodes) (cond b 0 (suc (place_of v l h nodes)))) this;
    is = this;
  }

  found_or_new : (nodes : List ImageNode) → IsFound v l h nodes ⊎ IsNew v l h nodes
  unfolding made_node
  found_or_new [] = inr (record { more = refl; last = refl; none = refl })
  found_or_new (first ∷ nodes) = by (is_node v l h first) refl (found_or_new nodes) where
    by : (b : Bool) → is_node v l h first ≡ b → IsFound v l h nodes ⊎ IsNew v l h nodes → IsFound v l h (first ∷ nodes) ⊎ IsNew v l h (first ∷ nodes)
    by true this rest = inl (found_here first nodes this)
    by false other (inl found) = inl (found_later first nodes other found)
    by false other (inr new) = inr (new_later first nodes other new)

each_push : {A : Type 0} (right : List A → A → Type 0) (front xs : List A) (x : A) → Each right front xs → right (front ++ xs) x → Each right front (xs ++ x ∷ [])
each_push right front [] x each here = (subst (λ (l : List _). right l x) (append-nil front) here, tt)
each_push right front (y ∷ xs) x each here =
    (each.0, each_push right (front ++ y ∷ []) xs x each.1 (subst (λ (l : List _). right l x) (sym (append_assoc front (y ∷ []) xs)) here))

-- ---- all nodes of a diagram

-- nodes grow to right ones that show the diagram
pub record IsMade (k : ℕ) (nodes : List ImageNode) (d : Diagram) (made : List ImageNode × ℕ) : Type 0 where
  pub more : List ImageNode
  pub grown : made.0 ≡ nodes ++ more
  pub right : Each (IsNodeBehind k) [] made.0
  pub shown : Shows made.0 made.1 d

module _ (k v : ℕ) (low high : Diagram) (proper : IsProper (Choice v low high)) (within : v < k) where
  two_more : (number : ℕ) → number + 2 ≡ suc (suc number)
  two_more number = omega arith

  with_found : (nodes : List ImageNode) (l h : ℕ) → Each (IsNodeBehind k) [] nodes → Shows nodes l low → Shows nodes h high → IsFound v l h nodes
      → IsMade k nodes (Choice v low high) (with_node v l h nodes, place_of v l h nodes + 2)
  with_found nodes l h each at_low at_high found =
      let one = and_parts (v == found.node.variable) ((l == found.node.low) && (h == found.node.high)) found.is in
      let two = and_parts (l == found.node.low) (h == found.node.high) one.1 in
      let same : with_node v l h nodes ≡ nodes = found.same in
      record {
        more = [];
        grown = same ∙ sym (append-nil nodes);
        right = subst (Each (IsNodeBehind k) []) (sym same) each;
        shown = subst (λ (ns : List ImageNode). Shows ns (place_of v l h nodes + 2) (Choice v low high)) (sym same) (
          place_of v l h nodes,
          found.node,
          two_more (place_of v l h nodes),
          found.at,
          sym (eqb-true v found.node.variable one.0),
          subst (λ n. Shows nodes n low) (eqb-true l found.node.low two.0) at_low,
          subst (λ n. Shows nodes n high) (eqb-true h found.node.high two.1) at_high,
        );
      }

  differ : (nodes : List ImageNode) (l h : ℕ) → Shows nodes l low → Shows nodes h high → (h == l) ≡ false
  differ nodes l h at_low at_high = by (h == l) refl where
    by : (b : Bool) → (h == l) ≡ b → (h == l) ≡ false
    by false e = e
    by true e = absurd (proper.2 (one_shown low high nodes l at_low (subst (λ n. Shows nodes n high) (eqb-true h l e) at_high)))

  with_new : (nodes : List ImageNode) (l h : ℕ) → Each (IsNodeBehind k) [] nodes → Shows nodes l low → Shows nodes h high → IsNew v l h nodes
      → IsMade k nodes (Choice v low high) (with_node v l h nodes, place_of v l h nodes + 2)
  unfolding made_node
  with_new nodes l h each at_low at_high new =
      let node = made_node v l h in
      let behind : IsNodeBehind k nodes node = record {
        variable = within;
        low = child_at nodes v l low at_low proper.0;
        high = and_from (is_child nodes v h) (not (h == l) && not (list_any (is_node v l h) nodes)) (child_at nodes v h high at_high proper.1)
            (and_from (not (h == l)) (not (list_any (is_node v l h) nodes)) (not_from_false (h == l) (differ nodes l h at_low at_high)) (not_from_false (list_any (is_node v l h) nodes) new.none));
      } in
      record {
        more = node ∷ [];
        grown = new.more;
        right = subst (Each (IsNodeBehind k) []) (sym new.more) (each_push (IsNodeBehind k) [] nodes node each behind);
        shown = subst (λ (ns : List ImageNode). Shows ns (place_of v l h nodes + 2) (Choice v low high)) (sym new.more) (
          place_of v l h nodes,
          node,
          two_more (place_of v l h nodes),
          ap (slice_get (nodes ++ node ∷ [])) new.last ∙ get_last nodes node,
          refl,
          shows_still low nodes (node ∷ []) l at_low,
          shows_still high nodes (node ∷ []) h at_high,
        );
      }

  one_node : (nodes : List ImageNode) (l h : ℕ) → Each (IsNodeBehind k) [] nodes → Shows nodes l low → Shows nodes h high
      → IsMade k nodes (Choice v low high) (with_node v l h nodes, place_of v l h nodes + 2)
  one_node nodes l h each at_low at_high = elim (found_or_new v l h nodes) [
    | inl found ↦ with_found nodes l h each at_low at_high found
    | inr new ↦ with_new nodes l h each at_low at_high new
  ]

-- a reduced and ordered diagram whose variables are below k makes right nodes
pub visited_right : (k : ℕ) (d : Diagram) → IsProper d → ((v : ℕ) → Tests d v → v < k) → (nodes : List ImageNode) → Each (IsNodeBehind k) [] nodes → IsMade k nodes d (visited d nodes)
unfolding Tests
visited_right k (Constant false) proper within nodes each = record { more = []; grown = sym (append-nil nodes); right = each; shown = refl }
visited_right k (Constant true) proper within nodes each = record { more = []; grown = sym (append-nil nodes); right = each; shown = refl }
visited_right k (Choice v low high) proper within nodes each =
    let one = visited_right k low proper.3 (λ u t. within u (inr (inl t))) nodes each in
    let other = visited_right k high proper.4 (λ u t. within u (inr (inr t))) (visited low nodes).0 one.right in
    let at_low = subst (λ (ns : List ImageNode). Shows ns (visited low nodes).1 low) (sym other.grown) (shows_still low (visited low nodes).0 other.more (visited low nodes).1 one.shown) in
    let all = visited high (visited low nodes).0 in
    let last = one_node k v low high proper (within v (inl refl)) all.0 (visited low nodes).1 all.1 other.right at_low other.shown in
    record {
      more = one.more ++ (other.more ++ last.more);
      grown = last.grown ∙ ap (λ (ns : List ImageNode). ns ++ last.more) (other.grown ∙ ap (λ (ns : List ImageNode). ns ++ other.more) one.grown)
          ∙ append_assoc (nodes ++ one.more) other.more last.more ∙ append_assoc nodes one.more (other.more ++ last.more);
      right = last.right;
      shown = last.shown;
    }
