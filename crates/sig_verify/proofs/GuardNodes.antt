-- The diagrams of the guards of an image.
use Rattle.sig_verify.proofs.Common.{◌≡◌, ℕ, zero, suc, ◌+◌, ◌-◌, ◌<◌, ◌≤◌, ◌^◌, Bool, true, false, [], length, Some, inl, inr, refl, sym, ap, subst, ◌∙◌, arith, cases_eq, cases_lt, pow_mono, pow_pos, pow-suc, length-map, slice_get-get_or, slice_get-map, slice_get_within, option_map, StartsFrom, IsReduced, node_numbered, node_of, proper, diagram-false, diagram-true, names_node, IsProper, high_below, high_held, low_below, low_held, node_in, nodes_in, ImageView, IsImage, IsNodeBehind, ImageNode, each_at, reduced, choices, guard_at, Choice, Constant, Diagram, Holds, slice_get}

pub starts_anywhere : (d : Diagram) → StartsFrom 0 d
unfolding StartsFrom
starts_anywhere (Constant b) = tt
starts_anywhere (Choice v low high) = omega arith

-- two halves of what is left
pub doubled : (k b v : ℕ) → b ≤ v → v < k → 2 ^ (k - suc v) + 2 ^ (k - suc v) ≤ 2 ^ (k - b)
doubled k b v le lt =
    let twice = pow-suc 2 (k - suc v) in
    let more : 2 ^ suc (k - suc v) ≤ 2 ^ (k - b) = pow_mono (omega arith) in
    omega (arith, twice, more)

-- the constants are no nodes
pub guard_false : (image : ImageView) → guard_at image 0 ≡ Constant false
guard_false image = diagram-false (nodes_in image.nodes) (record { number = 0 }) refl

pub guard_true : (image : ImageView) → guard_at image 1 ≡ Constant true
guard_true image = diagram-true (nodes_in image.nodes) (record { number = 1 }) refl

module _ (image : ImageView) (is : IsImage image) where
  reduced_nodes : IsReduced (nodes_in image.nodes)
  reduced_nodes = reduced (length image.conditions) image.nodes is.nodes

  many_nodes : length (nodes_in image.nodes) ≡ length image.nodes
  many_nodes = length-map image.nodes node_in

  guard_held : (n : ℕ) → n < length image.nodes + 2 → Holds (nodes_in image.nodes) (record { number = n })
  guard_held n lt = let many = many_nodes in omega (arith, many)

  module _ (n : ℕ) (node : ImageNode) (two : 2 ≤ n) (at : slice_get image.nodes (n - 2) ≡ Some node) where
    named : Some (node_in node) ≡ node_of (nodes_in image.nodes) (record { number = n })
    named =
        let place : suc (suc (n - 2)) ≡ n = omega arith in
        subst (λ m. Some (node_in node) ≡ node_numbered (nodes_in image.nodes) m) place (sym (slice_get-map node_in image.nodes (n - 2) ∙ ap (option_map node_in) at))

    held : Holds (nodes_in image.nodes) (record { number = n })
    held = let there = slice_get_within image.nodes (n - 2) node at in guard_held n (omega (arith, there))

    -- the diagram of a node is a choice between those of its children
    pub guard_choice : guard_at image n ≡ Choice node.variable (guard_at image node.low) (guard_at image node.high)
    guard_choice = let (i, p) = names_node (nodes_in image.nodes) reduced_nodes (record { number = n }) held (node_in node) named in p.diagram_is

    pub low_less : node.low < n
    low_less = low_below (nodes_in image.nodes) reduced_nodes (record { number = n }) held (node_in node) named

    pub high_less : node.high < n
    high_less = high_below (nodes_in image.nodes) reduced_nodes (record { number = n }) held (node_in node) named

    pub low_within : node.low < length image.nodes + 2
    low_within = let there = low_held (nodes_in image.nodes) reduced_nodes (record { number = n }) held (node_in node) named in let many = many_nodes in omega (arith, there, many)

    pub high_within : node.high < length image.nodes + 2
    high_within = let there = high_held (nodes_in image.nodes) reduced_nodes (record { number = n }) held (node_in node) named in let many = many_nodes in omega (arith, there, many)

    pub variable_within : node.variable < length image.conditions
    variable_within = (each_at (IsNodeBehind (length image.conditions)) [] image.nodes (n - 2) node is.nodes at).variable

  nothing : ImageNode
  nothing = record { variable = 0; low = 0; high = 0 }

  -- the node of a number
  there : (n : ℕ) → 2 ≤ n → n < length image.nodes + 2 → (node : ImageNode) × (slice_get image.nodes (n - 2) ≡ Some node)
  there n two lt = (_, slice_get-get_or image.nodes (n - 2) nothing (omega arith))

  few_in_constant : (n b : ℕ) (c : Bool) → guard_at image n ≡ Constant c → choices (guard_at image n) + 1 ≤ 2 ^ (length image.conditions - b)
  unfolding choices
  few_in_constant n b c same = let none : choices (guard_at image n) ≡ 0 = ap choices same in let some = pow_pos (length image.conditions - b) in omega (arith, none, some)

  few_in_choice : (d : Diagram) (v b : ℕ) (low high : Diagram) → d ≡ Choice v low high → StartsFrom b d → v < length image.conditions
      → choices low + 1 ≤ 2 ^ (length image.conditions - suc v) → choices high + 1 ≤ 2 ^ (length image.conditions - suc v) → choices d + 1 ≤ 2 ^ (length image.conditions - b)
  unfolding choices StartsFrom
  few_in_choice d v b low high same starts lt few_low few_high =
      let all : choices d ≡ choices low + choices high + 1 = ap choices same in
      let from : b ≤ v = subst (StartsFrom b) same starts in
      let room = doubled (length image.conditions) b v from lt in
      omega (arith, all, room, few_low, few_high)

  few_node : (m n b : ℕ) → n ≤ suc m → n < length image.nodes + 2 → StartsFrom b (guard_at image n) → 2 ≤ n
      → ((c b : ℕ) → c ≤ m → c < length image.nodes + 2 → StartsFrom b (guard_at image c) → choices (guard_at image c) + 1 ≤ 2 ^ (length image.conditions - b))
      → choices (guard_at image n) + 1 ≤ 2 ^ (length image.conditions - b)
  few_node m n b le lt starts two below =
      let (node, at) = there n two lt in
      let choice = guard_choice n node two at in
      let is_proper = subst IsProper choice (proper (nodes_in image.nodes) reduced_nodes (record { number = n }) (guard_held n lt)) in
      few_in_choice (guard_at image n) node.variable b (guard_at image node.low) (guard_at image node.high) choice starts (variable_within n node two at)
      (below node.low (suc node.variable) (let less = low_less n node two at in omega (arith, less)) (low_within n node two at) is_proper.0)
      (below node.high (suc node.variable) (let less = high_less n node two at in omega (arith, less)) (high_within n node two at) is_proper.1)

  few_below : (m n b : ℕ) → n ≤ m → n < length image.nodes + 2 → StartsFrom b (guard_at image n) → choices (guard_at image n) + 1 ≤ 2 ^ (length image.conditions - b)
  few_below zero n b le lt starts = let none : 0 ≡ n = omega arith in few_in_constant n b false (subst (λ m. guard_at image m ≡ Constant false) none (guard_false image))
  few_below (suc m) n b le lt starts = elim (cases_lt n 2) [
    | inr two ↦ few_node m n b le lt starts two (few_below m)
    | inl less ↦ elim (cases_eq n 0) [
      | inl none ↦ few_in_constant n b false (subst (λ k. guard_at image k ≡ Constant false) (sym none) (guard_false image))
      | inr some ↦ few_in_constant n b true (let one : 1 ≡ n = omega arith in subst (λ k. guard_at image k ≡ Constant true) one (guard_true image))
    ]
  ]

  -- a guard has fewer choices than there are proposals
  pub few_choices : (n : ℕ) → n < length image.nodes + 2 → choices (guard_at image n) + 1 ≤ 2 ^ length image.conditions
  few_choices n lt =
      let few = few_below n n 0 (omega arith) lt (starts_anywhere (guard_at image n)) in
      let all : 2 ^ (length image.conditions - 0) ≡ 2 ^ length image.conditions = ap (λ k. 2 ^ k) (omega arith) in
      omega (arith, few, all)
