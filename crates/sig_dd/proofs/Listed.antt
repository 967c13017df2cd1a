-- The diagrams that a list of nodes names.
use Rattle.sig_dd.proofs.Common.{◌≡◌, ℕ, zero, suc, ◌+◌, ◌<◌, Bool, true, false, cond, List, [], ◌∷◌, ◌++◌, ◌⊎◌, inl, inr, None, Some, length, get_or, take, drop, fold, slice_get, refl, sym, ◌∙◌, ap, subst, arith, length-take, drop-cons, length_push, get_or_append_left, take-append-drop, fold-append, slice_get_within, get_or_from_slice_get, slice_get-get_or, get_or-append_seam, Diagram, Constant, Choice, Holds, node_numbered, node_of, with_node, diagrams, diagram, IsNodeAt, IsReduced, Ref, Node}

start : List Diagram
start = Constant false ∷ Constant true ∷ []

length-fold : (nodes : List Node) (ds : List Diagram) → length (fold with_node ds nodes) ≡ length ds + length nodes
unfolding with_node
length-fold [] ds = omega arith
length-fold (n ∷ nodes) ds =
    let more = length-fold nodes (with_node ds n) in
    let one : length (with_node ds n) ≡ length ds + 1 = length_push ds _ in
    omega (arith, more, one)

get_or-fold : (nodes : List Node) (ds : List Diagram) (i : ℕ) (d : Diagram) → i < length ds → get_or (fold with_node ds nodes) i d ≡ get_or ds i d
unfolding with_node
get_or-fold [] ds i d lt = refl
get_or-fold (n ∷ nodes) ds i d lt =
    let one : length (with_node ds n) ≡ length ds + 1 = length_push ds _ in
    get_or-fold nodes (with_node ds n) i d (omega (arith, one)) ∙ get_or_append_left ds _ d i lt

length-diagrams : (nodes : List Node) → length (diagrams nodes) ≡ length nodes + 2
unfolding diagrams start
length-diagrams nodes = let e = length-fold nodes start in omega (arith, e)

-- what a reference names stays as nodes are added
pub diagram-append : (nodes more : List Node) (r : Ref) → Holds nodes r → diagram (nodes ++ more) r ≡ diagram nodes r
unfolding diagram diagrams start
diagram-append nodes more r h =
    let len = length-diagrams nodes in
    let lt : r.number < length (diagrams nodes) = omega (arith, len) in
    ap (λ ds. get_or ds r.number (Constant false)) (fold-append with_node start nodes more)
    ∙ get_or-fold more (diagrams nodes) r.number (Constant false) lt

pub diagram-false : (nodes : List Node) (r : Ref) → r.number ≡ 0 → diagram nodes r ≡ Constant false
unfolding diagram diagrams start
diagram-false nodes r e =
    ap (λ m. get_or (diagrams nodes) m (Constant false)) e ∙ get_or-fold nodes start 0 (Constant false) (omega arith)

pub diagram-true : (nodes : List Node) (r : Ref) → r.number ≡ 1 → diagram nodes r ≡ Constant true
unfolding diagram diagrams start
diagram-true nodes r e =
    ap (λ m. get_or (diagrams nodes) m (Constant false)) e ∙ get_or-fold nodes start 1 (Constant false) (omega arith)

-- the choice that a node stands for, among the diagrams so far
choice_of : List Node → Node → Diagram
choice_of nodes n = Choice n.variable (diagram nodes n.low) (diagram nodes n.high)

-- a node's diagram is made of those of its children, which stand before it
diagram-between : (front : List Node) (n : Node) (rest : List Node) (r : Ref) → r.number ≡ length front + 2 → n.low.number < length front + 2 → n.high.number < length front + 2 → diagram (front ++ n ∷ rest) r ≡ choice_of (front ++ n ∷ rest) n
unfolding diagram diagrams start with_node choice_of
diagram-between front n rest r e low high =
    let so_far = diagrams front in
    let len : length so_far ≡ length front + 2 = length-diagrams front in
    let one : length (with_node so_far n) ≡ length so_far + 1 = length_push so_far _ in
    let all : diagrams (front ++ n ∷ rest) ≡ fold with_node (with_node so_far n) rest = fold-append with_node start front (n ∷ rest) in
    let here : get_or (fold with_node (with_node so_far n) rest) (length so_far) (Constant false) ≡ choice_of front n =
    get_or-fold rest (with_node so_far n) (length so_far) (Constant false) (omega (arith, one)) ∙ get_or-append_seam so_far _ [] (Constant false) in
    let at_low = diagram-append front (n ∷ rest) n.low low in
    let at_high = diagram-append front (n ∷ rest) n.high high in
    ap (λ ds. get_or ds r.number (Constant false)) all
    ∙ ap (λ m. get_or (fold with_node (with_node so_far n) rest) m (Constant false)) (e ∙ sym len)
    ∙ here
    ∙ sym (ap (λ d. Choice n.variable d (diagram (front ++ n ∷ rest) n.high)) at_low ∙ ap (λ d. Choice n.variable (diagram front n.low) d) at_high)

-- a list is what stands before a place, what stands there and the rest
split_at : {X : Type 0} (xs : List X) (i : ℕ) (x : X) → slice_get xs i ≡ Some x → take i xs ++ x ∷ drop (suc i) xs ≡ xs
split_at xs i x e =
    let lt = slice_get_within xs i x e in
    ap (λ y. take i xs ++ y ∷ drop (suc i) xs) (sym (get_or_from_slice_get xs i x x e))
    ∙ ap (λ ys. take i xs ++ ys) (sym (drop-cons xs i x lt))
    ∙ take-append-drop i xs

-- the diagram of a node
pub diagram-node : (nodes : List Node) (i : ℕ) (n : Node) (r : Ref) → slice_get nodes i ≡ Some n → IsNodeAt nodes i n → r.number ≡ i + 2 → diagram nodes r ≡ Choice n.variable (diagram nodes n.low) (diagram nodes n.high)
unfolding choice_of
diagram-node nodes i n r e is number =
    let lt = slice_get_within nodes i n e in
    let len : length (take i nodes) ≡ i = simp length-take (omega arith) in
    subst (λ ns. diagram ns r ≡ choice_of ns n) (split_at nodes i n e)
    (diagram-between (take i nodes) n (drop (suc i) nodes) r (omega (arith, len)) (let h = is.low_before in omega (arith, len)) (let h = is.high_before in omega (arith, len)))

-- r names a constant
pub record NamesConstant (nodes : List Node) (r : Ref) (b : Bool) : Type 0 where
  pub none : node_of nodes r ≡ None
  pub number : r.number ≡ cond b 1 0
  pub diagram_is : diagram nodes r ≡ Constant b

-- r names the node n at the place i
pub record NamesNode (nodes : List Node) (r : Ref) (i : ℕ) (n : Node) : Type 0 where
  pub at : slice_get nodes i ≡ Some n
  pub node : node_of nodes r ≡ Some n
  pub number : r.number ≡ i + 2
  pub is : IsNodeAt nodes i n
  pub diagram_is : diagram nodes r ≡ Choice n.variable (diagram nodes n.low) (diagram nodes n.high)

module _ (nodes : List Node) (reduced : IsReduced nodes) where
  shape_of : (r : Ref) (m : ℕ) → r.number ≡ m → Holds nodes r → ((b : Bool) × NamesConstant nodes r b) ⊎ ((i : ℕ) × (n : Node) × NamesNode nodes r i n)
  shape_of r zero e h = inl (false, record { none = ap (node_numbered nodes) e; number = e; diagram_is = diagram-false nodes r e })
  shape_of r (suc zero) e h = inl (true, record { none = ap (node_numbered nodes) e; number = e; diagram_is = diagram-true nodes r e })
  shape_of r (suc (suc i)) e h =
      let lt : i < length nodes = omega arith in
      let n = get_or nodes i (record { variable = 0; low = record { number = 0 }; high = record { number = 0 } }) in
      let at : slice_get nodes i ≡ Some n = slice_get-get_or nodes i _ lt in
      let is = reduced.each i n at in
      let number : r.number ≡ i + 2 = omega arith in
      inr (i, n, record { at = at; node = ap (node_numbered nodes) e ∙ at; number = number; is = is; diagram_is = diagram-node nodes i n r at is number })

  -- a reference names a constant or a node
  pub shape : (r : Ref) → Holds nodes r → ((b : Bool) × NamesConstant nodes r b) ⊎ ((i : ℕ) × (n : Node) × NamesNode nodes r i n)
  shape r h = shape_of r r.number refl h
