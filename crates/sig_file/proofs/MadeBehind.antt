-- What is made of the operations of an order, one behind the other.
use Rattle.sig_file.proofs.Common.{◌≡◌, ◌<◌, ◌≤◌, ◌+◌, ℕ, List, [], ◌∷◌, ◌++◌, length, take, drop, Option, None, Some, sym, ap, ◌∙◌, arith, append_assoc, append-nil, slice_get, get_or, take_at_read, slice_get-get_or, slice_get_past, drop-cons, add-one, cons_option, filter_map, filter_map-append, OpId, diagram, PlanView, Op, made_behind, before, image_op, made_of, visited, ImageNode, ImageOp}
use Rattle.sig_file.proofs.Visits.{visited_longer}

-- one more item
pub filter_map_more : {X Y : Type 0} (h : X → Option Y) (xs : List X) (i : ℕ) (x : X) → i < length xs → x ≡ get_or xs i x → filter_map h (take (i + 1) xs) ≡ filter_map h (take i xs) ++ cons_option (h x) []
filter_map_more h xs i x lt is =
    ap (λ ys. filter_map h ys) ((take_at_read xs i x lt).1)
    ∙ filter_map-append h (take i xs) (get_or xs i x ∷ [])
    ∙ ap (λ y. filter_map h (take i xs) ++ cons_option (h y) []) (sym is)

before_append : (ops xs : List ImageOp) (o : Option ImageOp) → ops ++ before o xs ≡ (ops ++ before o []) ++ xs
before_append ops xs None = ap (λ ys. ys ++ xs) (sym (append-nil ops))
before_append ops xs (Some op) = sym (append_assoc ops (op ∷ []) xs)

module _ (plan : PlanView) where
  -- what is made of an operation, if it is there, and of those of an order
  made_with : List OpId → List ImageNode → List ImageOp → Option Op → List ImageNode × List ImageOp
  made_with order nodes ops o =
      let made = made_of plan (cons_option o (filter_map (λ number. slice_get plan.ops number.0) order)) nodes in
      (made.0, ops ++ made.1)

  pub made_longer : (ops : List Op) (nodes : List ImageNode) → length nodes ≤ length (made_of plan ops nodes).0
  made_longer [] nodes = omega arith
  made_longer (op ∷ ops) nodes =
      let one = visited_longer (diagram plan.store.nodes op.guard) nodes in
      let more = made_longer ops (visited (diagram plan.store.nodes op.guard) nodes).0 in
      omega (arith, one, more)

  module _ (id : OpId) (order : List OpId) (nodes : List ImageNode) (ops : List ImageOp) where
    pub none_made : slice_get plan.ops id.0 ≡ None → made_behind plan (id ∷ order) nodes ops ≡ made_behind plan order nodes ops
    unfolding made_with
    none_made lookup = ap (made_with order nodes ops) lookup

    module _ (op : Op) (lookup : slice_get plan.ops id.0 ≡ Some op) where
      some_made : made_behind plan (id ∷ order) nodes ops ≡ made_with order nodes ops (Some op)
      unfolding made_with
      some_made = ap (made_with order nodes ops) lookup

      pub one_made : (more : List ImageNode) (others : List ImageOp) → more ≡ (visited (diagram plan.store.nodes op.guard) nodes).0
          → others ≡ ops ++ before (image_op plan.kernel (visited (diagram plan.store.nodes op.guard) nodes).1 op.kind op.eq) []
          → made_behind plan (id ∷ order) nodes ops ≡ made_behind plan order more others
      unfolding made_with
      one_made more others is_more is_others =
          let guard = visited (diagram plan.store.nodes op.guard) nodes in
          let made = made_of plan (filter_map (λ number. slice_get plan.ops number.0) order) guard.0 in
          some_made
          ∙ ap (λ xs. (made.0, xs)) (before_append ops made.1 (image_op plan.kernel guard.1 op.kind op.eq))
          ∙ ap (λ xs. (made.0, xs ++ made.1)) (sym is_others)
          ∙ ap (λ ks. made_behind plan order ks others) (sym is_more)

      pub one_long : (limit : ℕ) → limit < length (visited (diagram plan.store.nodes op.guard) nodes).0 → limit < length (made_behind plan (id ∷ order) nodes ops).0
      unfolding made_with
      one_long limit lt =
          let more = made_longer (filter_map (λ number. slice_get plan.ops number.0) order) (visited (diagram plan.store.nodes op.guard) nodes).0 in
          let e = ap (λ (p : List ImageNode × List ImageOp). length p.0) some_made in
          omega (arith, lt, more, e)

-- ---- what a slice has at a place

pub stands_at : {X : Type 0} (xs ys : List X) (i : ℕ) (x : X) → xs ≡ ys → i < length xs → x ≡ get_or xs i x → slice_get ys i ≡ Some x
stands_at xs ys i x same lt is = ap (λ zs. slice_get zs i) (sym same) ∙ slice_get-get_or xs i x lt ∙ ap Some (sym is)

pub stands_past : {X : Type 0} (xs ys : List X) (i : ℕ) → xs ≡ ys → length xs ≤ i → slice_get ys i ≡ None
stands_past xs ys i same le = ap (λ zs. slice_get zs i) (sym same) ∙ slice_get_past xs i le

-- what an item gives, behind what those before it gave
pub filter_map_next : {X Y : Type 0} (h : X → Option Y) (xs : List X) (i : ℕ) (x : X) → i < length xs → x ≡ get_or xs i x → (old new : List Y) (o : Option Y) → old ≡ filter_map h (take i xs) → o ≡ h x → new ≡ old ++ cons_option o [] → new ≡ filter_map h (take (i + 1) xs)
filter_map_next h xs i x lt is old new o e f g =
    g ∙ ap (λ ys. ys ++ cons_option o []) e ∙ ap (λ p. filter_map h (take i xs) ++ cons_option p []) f ∙ sym (filter_map_more h xs i x lt is)

-- where too much is made of what is left of an order, too much is made of the whole
pub long_behind : (plan : PlanView) (order : List OpId) (i : ℕ) (d : OpId) (nodes : List ImageNode) (ops : List ImageOp) (limit : ℕ) (all : List ImageNode × List ImageOp)
    → i < length order → made_behind plan (drop i order) nodes ops ≡ all → limit < length (made_behind plan (get_or order i d ∷ drop (i + 1) order) nodes ops).0 → limit < length all.0
long_behind plan order i d nodes ops limit all within so_far lt =
    let is : drop i order ≡ get_or order i d ∷ drop (i + 1) order = drop-cons order i d within ∙ ap (λ n. get_or order i d ∷ drop n order) (sym (add-one i)) in
    let e : length (made_behind plan (get_or order i d ∷ drop (i + 1) order) nodes ops).0 ≡ length all.0 =
    ap (λ xs. length (made_behind plan xs nodes ops).0) (sym is) ∙ ap (λ (p : List ImageNode × List ImageOp). length p.0) so_far in
    omega (arith, lt, e)
