-- The functions of the nodes of an image, in a store.
use Rattle.sig_exec.proofs.Common.{◌≡◌, ◌<◌, ◌≤◌, ◌+◌, ◌-◌, ◌++◌, ◌∙◌, inl, inr, ℕ, zero, suc, Bool, true, false, List, [], ◌∷◌, length, eqb, if◌then◌else◌, None, Some, refl, ap, sym, subst, arith, length-append, slice_get, option_map, length-map, slice_get-map, get_pushed, truth_of, Holds, IsReduced, node_of, test, IsSide, Node, Ref, IsRefOf, IsRefOf-kept, Keeps, HasVariable-node, IsSide-child, constant_value, node_in, nodes_in, ImageView, IsImage, IsNodeBehind, ImageNode, each_at, reduced, reference, AreFunctionsOfFirst, IsChosen, Functions, StoreView, DdAnswer, Result, Ok, Err, IfOk}

node_there : (nodes : List ImageNode) (r : ℕ) (node : ImageNode) → 2 ≤ r → slice_get nodes (r - 2) ≡ Some node → Some (node_in node) ≡ node_of (nodes_in nodes) (reference r)
node_there nodes zero node far is = absurd (omega (arith, far))
node_there nodes (suc zero) node far is = absurd (omega (arith, far))
node_there nodes (suc (suc i)) node far is =
    let same : suc (suc i) - 2 ≡ i = omega arith in
    sym (slice_get-map node_in nodes i ∙ ap (option_map node_in) (ap (slice_get nodes) (sym same) ∙ is))

none_there : (nodes : List Node) (r : ℕ) → r < 2 → None ≡ node_of nodes (reference r)
none_there nodes zero near = refl
none_there nodes (suc zero) near = refl
none_there nodes (suc (suc i)) near = absurd (omega (arith, near))

module _ (image : ImageView) (right : IsImage image) where
  abbrev nodes : List Node
  nodes = nodes_in image.nodes

  are_reduced : IsReduced nodes
  are_reduced = reduced (length image.conditions) image.nodes right.nodes

  held : (r : ℕ) → r < length image.nodes + 2 → Holds nodes (reference r)
  held r below = let count = length-map image.nodes node_in in omega (arith, below, count)

  -- a constant is its own truth
  pub constant_truth : (r : ℕ) → r < 2 → r < length image.nodes + 2 → (truths : List Bool) → eqb r 1 ≡ test nodes (reference r) truths
  constant_truth r near below truths = constant_value nodes are_reduced (reference r) (held r below) (none_there nodes r near) truths

  module _ (r : ℕ) (far : 2 ≤ r) (below : r < length image.nodes + 2) (node : ImageNode) (is : slice_get image.nodes (r - 2) ≡ Some node) where
    -- its variable is a condition
    pub variable_within : node.variable < length image.conditions
    variable_within = (each_at (IsNodeBehind (length image.conditions)) [] image.nodes (r - 2) node right.nodes is).variable

    module _ (truth : Bool) (c : ℕ) (child : c ≡ (if truth then node.high else node.low)) where
      child_is : (t : Bool) → c ≡ (if t then node.high else node.low) → reference c ≡ (if t then reference node.high else reference node.low)
      child_is true e = ap reference e
      child_is false e = ap reference e

      side : IsSide nodes (reference r) node.variable truth (reference c)
      side = IsSide-child nodes are_reduced (reference r) (held r below) (node_in node) (node_there image.nodes r node far is) truth (reference c) (child_is truth child)

      pub child_smaller : c < r
      child_smaller = side.smaller (HasVariable-node nodes are_reduced (reference r) (held r below) (node_in node) (node_there image.nodes r node far is))

  -- ---- the node behind the first ones

  module _ (n : ℕ) (node : ImageNode) (is : slice_get image.nodes n ≡ Some node) (within : n < length image.nodes) where
    pub there : slice_get image.nodes (n + 2 - 2) ≡ Some node
    there = ap (slice_get image.nodes) (let e : n + 2 - 2 ≡ n = omega arith in e) ∙ is

    pub low_before : node.low < n + 2
    low_before = child_smaller (n + 2) (omega arith) (omega (arith, within)) node there false node.low refl

    pub high_before : node.high < n + 2
    high_before = child_smaller (n + 2) (omega arith) (omega (arith, within)) node there true node.high refl

    -- its function is that of one child or of the other
    pub node_function : (truths : List Bool) (t : Bool) → truth_of truths node.variable ≡ t
        → (if t then test nodes (reference node.high) truths else test nodes (reference node.low) truths) ≡ test nodes (reference (n + 2)) truths
    node_function truths true e = (side (n + 2) (omega arith) (omega (arith, within)) node there true node.high refl).function truths e
    node_function truths false e = (side (n + 2) (omega arith) (omega (arith, within)) node there false node.low refl).function truths e

    pub functions_more : (old new : Functions) (low high r : Ref) → AreFunctionsOfFirst image n old → Keeps old.store new.store → slice_get old.refs.items node.low ≡ Some low
        → slice_get old.refs.items node.high ≡ Some high → IsChosen old.store.nodes new.store.nodes node.variable low high r → new.refs.items ≡ old.refs.items ++ r ∷ []
        → AreFunctionsOfFirst image (n + 1) new
    functions_more old new low high r first keeps low_is high_is chosen pushed = record {
      count = ap (λ (l : List Ref). length l) pushed ∙ length-append old.refs.items (r ∷ []) ∙ (let c = first.count in let e : length old.refs.items + 1 ≡ n + 1 + 2 = omega (arith, c) in e);
      each = λ number s at. elim (get_pushed old.refs.items r number s (subst (λ (l : List Ref). slice_get l number ≡ Some s) pushed at)) [
        | inl before ↦ IsRefOf-kept old.store new.store keeps (test nodes (reference number)) s (first.each number s before)
        | inr (last, same) ↦ subst (λ (x : Ref). IsRefOf new.store.nodes (test nodes (reference number)) x) same (record {
          holds = chosen.holds;
          function = λ truths.
              chosen.function truths
              ∙ ap (λ (b : Bool). if truth_of truths node.variable then b else test old.store.nodes low truths) ((first.each node.high high high_is).function truths)
              ∙ ap (λ (b : Bool). if truth_of truths node.variable then test nodes (reference node.high) truths else b) ((first.each node.low low low_is).function truths)
              ∙ node_function truths (truth_of truths node.variable) refl
              ∙ ap (λ (k : ℕ). test nodes (reference k) truths) (let c = first.count in let e : n + 2 ≡ number = omega (arith, c, last) in e);
        })
      ];
    }

  -- the constants
  constant_is : (r : ℕ) (b : Bool) → r < 2 → eqb r 1 ≡ b → (truths : List Bool) → b ≡ test nodes (reference r) truths
  constant_is r b near same truths = sym same ∙ constant_truth r near (omega (arith, near)) truths

  constant_ref : (store : List Node) (r : ℕ) (b : Bool) (x : Ref) → r < 2 → eqb r 1 ≡ b → IsRefOf store (λ truths. b) x → IsRefOf store (test nodes (reference r)) x
  constant_ref store r b x near same is = record { holds = is.holds; function = λ truths. is.function truths ∙ constant_is r b near same truths }

  pub functions_first : (functions : Functions) (off on : Ref) → IsRefOf functions.store.nodes (λ truths. false) off → IsRefOf functions.store.nodes (λ truths. true) on
      → functions.refs.items ≡ off ∷ on ∷ [] → AreFunctionsOfFirst image 0 functions
  functions_first functions off on is_off is_on all = record {
    count = ap (λ (l : List Ref). length l) all;
    each = λ number r at. by number r (subst (λ (l : List Ref). slice_get l number ≡ Some r) all at);
  } where
    by : (number : ℕ) (r : Ref) → slice_get (off ∷ on ∷ []) number ≡ Some r → IsRefOf functions.store.nodes (test nodes (reference number)) r
    by zero r e = let same : off ≡ r = cc in subst (λ (x : Ref). IsRefOf functions.store.nodes (test nodes (reference 0)) x) same (constant_ref functions.store.nodes 0 false off (omega arith) refl is_off)
    by (suc zero) r e = let same : on ≡ r = cc in subst (λ (x : Ref). IsRefOf functions.store.nodes (test nodes (reference 1)) x) same (constant_ref functions.store.nodes 1 true on (omega arith) refl is_on)
    by (suc (suc k)) r e = absurd (let f : None ≡ Some r = e in cc)

-- ---- the choice by a variable

module _ (old middle : StoreView) (keeps : Keeps old middle) (condition high low : Ref) (high_held : Holds old.nodes high) (low_held : Holds old.nodes low) (variable : ℕ)
    (is : IsRefOf middle.nodes (λ truths. truth_of truths variable) condition) (new : StoreView) where
  kept_high : IsRefOf middle.nodes (test old.nodes high) high
  kept_high = IsRefOf-kept old middle keeps (test old.nodes high) high (record { holds = high_held; function = λ truths. refl })

  kept_low : IsRefOf middle.nodes (test old.nodes low) low
  kept_low = IsRefOf-kept old middle keeps (test old.nodes low) low (record { holds = low_held; function = λ truths. refl })

  chosen_one : (r : Ref) → IsRefOf new.nodes (λ truths. if test middle.nodes condition truths then test middle.nodes high truths else test middle.nodes low truths) r
      → IsChosen old.nodes new.nodes variable low high r
  chosen_one r one = record {
    holds = one.holds;
    function = λ truths.
        one.function truths
        ∙ ap (λ (b : Bool). if b then test middle.nodes high truths else test middle.nodes low truths) (is.function truths)
        ∙ ap (λ (b : Bool). if truth_of truths variable then b else test middle.nodes low truths) (kept_high.function truths)
        ∙ ap (λ (b : Bool). if truth_of truths variable then test old.nodes high truths else b) (kept_low.function truths);
  }

  pub chosen_by : (result : Result Ref DdAnswer) → IfOk result (λ r. IsRefOf new.nodes (λ truths. if test middle.nodes condition truths then test middle.nodes high truths else test middle.nodes low truths) r)
      → IfOk result (λ r. IsChosen old.nodes new.nodes variable low high r)
  chosen_by (Ok r) one = chosen_one r one
  chosen_by (Err answer) one = tt
