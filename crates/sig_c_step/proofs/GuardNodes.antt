-- The expression of a guard, node by node: what a writer of it goes by.
use Rattle.std.proofs.Common.{◌≡◌, ◌<◌, ◌+◌, ℕ, zero, suc, pos, true, false, Some, refl, ap, ◌∙◌, arith, length, slice_get}
use Rattle.std.specs.Prelude.{option_map}
use Rattle.std.proofs.lemmas.Option.{slice_get-map, slice_get_within}
use Rattle.sig_lists.proofs.Places.{some_at}
use Rattle.sig_dd.specs.Diagram.{Diagram, Constant, Choice}
use Rattle.sig_dd.specs.Nodes.{IsReduced, diagram}
use Rattle.sig_dd.proofs.Listed.{diagram-false, diagram-node, diagram-true}
use Rattle.sig_file.specs.Guarded.{node_in, nodes_in}
use Rattle.sig_file.specs.Images.{ImageView, IsImage}
use Rattle.sig_file.specs.declared.images.ImageNode.{ImageNode}
use Rattle.sig_file.proofs.Reduced.{reduced}
use Rattle.sig_c.specs.SmallC.{And, Or, Expression, Number, Not, Binary, Choose}
use Rattle.sig_c_step.specs.Translation.{choice, condition, condition_in, guard_of}

-- a choice by w, by the numbers of its children: 0 is false, 1 is true
abbrev pub choice_of_children : (low high : ℕ) → (w l h : Expression) → Expression
choice_of_children zero (suc zero) w l h = w
choice_of_children (suc zero) zero w l h = Not w
choice_of_children low (suc zero) w l h = Binary Or w l
choice_of_children low zero w l h = Binary And (Not w) l
choice_of_children (suc zero) high w l h = Binary Or (Not w) h
choice_of_children zero high w l h = Binary And w h
choice_of_children low high w l h = Choose w h l

-- what the diagram of a child of this number is
abbrev IsOfNumber : ℕ → Diagram → Type 0
IsOfNumber zero d = d ≡ Constant false
IsOfNumber (suc zero) d = d ≡ Constant true
IsOfNumber (suc (suc n)) d = (v : ℕ) × (low : Diagram) × (high : Diagram) × (d ≡ Choice v low high)

by_children : (low high : ℕ) (low_is high_is : Diagram) (w l h : Expression) → IsOfNumber low low_is → IsOfNumber high high_is → choice w low_is high_is l h ≡ choice_of_children low high w l h
by_children zero zero low_is high_is w l h one two = rw (one, two) refl
by_children zero (suc zero) low_is high_is w l h one two = rw (one, two) refl
by_children zero (suc (suc n)) low_is high_is w l h one (v, a, b, two) = rw (one, two) refl
by_children (suc zero) zero low_is high_is w l h one two = rw (one, two) refl
by_children (suc zero) (suc zero) low_is high_is w l h one two = rw (one, two) refl
by_children (suc zero) (suc (suc n)) low_is high_is w l h one (v, a, b, two) = rw (one, two) refl
by_children (suc (suc m)) zero low_is high_is w l h (u, c, d, one) two = rw (one, two) refl
by_children (suc (suc m)) (suc zero) low_is high_is w l h (u, c, d, one) two = rw (one, two) refl
by_children (suc (suc m)) (suc (suc n)) low_is high_is w l h (u, c, d, one) (v, a, b, two) = rw (one, two) refl

module _ (image : ImageView) (right : IsImage image) where
  nodes_reduced : IsReduced (nodes_in image.nodes)
  nodes_reduced = reduced (length image.conditions) image.nodes right.nodes

  node_there : (n : ℕ) (node : ImageNode) → slice_get image.nodes n ≡ Some node → slice_get (nodes_in image.nodes) n ≡ Some (node_in node)
  node_there n node at = slice_get-map node_in image.nodes n ∙ ap (option_map node_in) at

  child_is : (m : ℕ) → m < length (nodes_in image.nodes) + 2 → IsOfNumber m (diagram (nodes_in image.nodes) (record { number = m }))
  child_is zero inside = diagram-false (nodes_in image.nodes) (record { number = 0 }) refl
  child_is (suc zero) inside = diagram-true (nodes_in image.nodes) (record { number = 1 }) refl
  child_is (suc (suc k)) inside =
      let (node, at) = some_at (nodes_in image.nodes) k (omega (arith, inside)) in
      let e : suc (suc k) ≡ k + 2 = omega arith in
      (node.variable, diagram (nodes_in image.nodes) node.low, diagram (nodes_in image.nodes) node.high, diagram-node (nodes_in image.nodes) k node (record { number = suc (suc k) }) at (nodes_reduced.each k node at) e)

  pub guard_false : guard_of image 0 ≡ Number (pos 0)
  guard_false = ap (condition image.conditions) (diagram-false (nodes_in image.nodes) (record { number = 0 }) refl)

  pub guard_true : guard_of image 1 ≡ Number (pos 1)
  guard_true = ap (condition image.conditions) (diagram-true (nodes_in image.nodes) (record { number = 1 }) refl)

  -- the guard of a node is made of those of its children, which stand before it
  pub guard_node : (n : ℕ) (node : ImageNode) → slice_get image.nodes n ≡ Some node
      → guard_of image (suc (suc n)) ≡ choice_of_children node.low node.high (condition_in (slice_get image.conditions node.variable)) (guard_of image node.low) (guard_of image node.high)
  guard_node n node at =
      let there = node_there n node at in
      let is = nodes_reduced.each n (node_in node) there in
      let e : suc (suc n) ≡ n + 2 = omega arith in
      let inside = slice_get_within (nodes_in image.nodes) n (node_in node) there in
      let low_before = is.low_before in
      let high_before = is.high_before in
      ap (condition image.conditions) (diagram-node (nodes_in image.nodes) n (node_in node) (record { number = suc (suc n) }) there is e)
      ∙ by_children node.low node.high (diagram (nodes_in image.nodes) (record { number = node.low })) (diagram (nodes_in image.nodes) (record { number = node.high }))
      (condition_in (slice_get image.conditions node.variable)) (guard_of image node.low) (guard_of image node.high)
      (child_is node.low (omega (arith, low_before, inside))) (child_is node.high (omega (arith, high_before, inside)))
