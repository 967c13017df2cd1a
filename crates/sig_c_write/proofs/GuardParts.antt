-- Guards by their nodes.
use Rattle.std.proofs.Common.{◌≡◌, ◌≢◌, ◌<◌, ◌≤◌, ◌+◌, ◌-◌, ◌++◌, ℕ, zero, suc, Bool, true, false, List, [], Option, None, Some, refl, sym, ap, ◌∙◌, arith, length, slice_get, append_assoc, append-nil}
use Rattle.std.specs.Prelude.{codes, option_map}
use Rattle.std.proofs.lemmas.Option.{slice_get-map}
use Rattle.sig_base.specs.declared.ids.SigId.{SigId}
use Rattle.sig_dd.specs.Nodes.{IsReduced}
use Rattle.sig_file.specs.Guarded.{node_in, nodes_in}
use Rattle.sig_file.specs.Images.{ImageView, IsImage}
use Rattle.sig_file.specs.declared.images.ImageNode.{ImageNode}
use Rattle.sig_file.proofs.Reduced.{reduced}
use Rattle.sig_c.specs.SmallC.{Expression}
use Rattle.sig_c.specs.Written.{Scope}
use Rattle.sig_c.specs.Layout.{expression_text, operand_bytes}
use Rattle.sig_c_step.specs.Translation.{condition_in, guard_of}
use Rattle.sig_c_step.proofs.GuardNodes.{choice_of_children, guard_node}
use Rattle.sig_c_write.specs.declared.guards.Child.{Child}
use Rattle.sig_c_write.specs.declared.guards.Child.TheVariants.{Inner}
use Rattle.sig_c_write.specs.inner.GuardBytes.{beginning, between, bracket, child_of, guard_bytes, node_bytes, part}

pub child_inner : (n : ℕ) → 2 ≤ n → child_of n ≡ Inner
child_inner zero large = absurd (omega (arith, large))
child_inner (suc zero) large = absurd (omega (arith, large))
child_inner (suc (suc n)) large = refl

pub low_before : (nodes : List ImageNode) (n : ℕ) (node : ImageNode) → IsReduced (nodes_in nodes) → slice_get nodes n ≡ Some node → node.low < n + 2
low_before nodes n node reduced at =
    let is = reduced.each n (node_in node) (slice_get-map node_in nodes n ∙ ap (option_map node_in) at) in is.low_before

pub high_before : (nodes : List ImageNode) (n : ℕ) (node : ImageNode) → IsReduced (nodes_in nodes) → slice_get nodes n ≡ Some node → node.high < n + 2
high_before nodes n node reduced at =
    let is = reduced.each n (node_in node) (slice_get-map node_in nodes n ∙ ap (option_map node_in) at) in is.high_before

-- ---- the bytes of a node

tidy : (o : List ℕ) → o ≡ (o ++ []) ++ []
tidy o = sym (append-nil (o ++ []) ∙ append-nil o)

module _ (scope : Scope) (w l h : Expression) (alone : expression_text scope w ≡ operand_bytes scope w) where
  node_is : (inner : Bool) (low high : ℕ) → low ≢ high
      → guard_bytes scope inner (choice_of_children low high w l h) ≡ node_bytes scope inner (child_of low) (child_of high) w (operand_bytes scope l) (operand_bytes scope h)
  node_is inner zero zero differ = absurd (differ refl)
  node_is true zero (suc zero) differ = tidy (operand_bytes scope w)
  node_is false zero (suc zero) differ = alone ∙ tidy (operand_bytes scope w)
  node_is true zero (suc (suc n)) differ = simp (append_assoc, append-nil)
  node_is false zero (suc (suc n)) differ = simp (append_assoc, append-nil)
  node_is true (suc zero) zero differ = ap (λ (l : List ℕ). codes "!" ++ l) (tidy (operand_bytes scope w))
  node_is false (suc zero) zero differ = ap (λ (l : List ℕ). codes "!" ++ l) (tidy (operand_bytes scope w))
  node_is inner (suc zero) (suc zero) differ = absurd (differ refl)
  node_is true (suc zero) (suc (suc n)) differ = simp (append_assoc, append-nil)
  node_is false (suc zero) (suc (suc n)) differ = simp (append_assoc, append-nil)
  node_is true (suc (suc m)) zero differ = simp (append_assoc, append-nil)
  node_is false (suc (suc m)) zero differ = simp (append_assoc, append-nil)
  node_is true (suc (suc m)) (suc zero) differ = simp (append_assoc, append-nil)
  node_is false (suc (suc m)) (suc zero) differ = simp (append_assoc, append-nil)
  node_is true (suc (suc m)) (suc (suc n)) differ = simp (append_assoc, append-nil)
  node_is false (suc (suc m)) (suc (suc n)) differ = simp (append_assoc, append-nil)

condition_alone : (scope : Scope) (x : Option SigId) → expression_text scope (condition_in x) ≡ operand_bytes scope (condition_in x)
condition_alone scope None = refl
condition_alone scope (Some x) = refl

guard_is : (image : ImageView) (scope : Scope) (inner : Bool) (guard : ℕ) (node : ImageNode) → IsImage image → 2 ≤ guard → slice_get image.nodes (guard - 2) ≡ Some node
    → guard_bytes scope inner (guard_of image guard)
    ≡ node_bytes scope inner (child_of node.low) (child_of node.high) (condition_in (slice_get image.conditions node.variable)) (operand_bytes scope (guard_of image node.low)) (operand_bytes scope (guard_of image node.high))
guard_is image scope inner guard node right large at =
    let e : guard ≡ suc (suc (guard - 2)) = omega (arith, large) in
    let is = (reduced (length image.conditions) image.nodes right.nodes).each (guard - 2) (node_in node) (slice_get-map node_in image.nodes (guard - 2) ∙ ap (option_map node_in) at) in
    let w = condition_in (slice_get image.conditions node.variable) in
    ap (λ (g : ℕ). guard_bytes scope inner (guard_of image g)) e
    ∙ ap (guard_bytes scope inner) (guard_node image right (guard - 2) node at)
    ∙ node_is scope w (guard_of image node.low) (guard_of image node.high) (condition_alone scope (slice_get image.conditions node.variable)) inner node.low node.high (λ (same : node.low ≡ node.high). is.differ (ap (λ (n : ℕ). record { number = n }) same))

pub guard_pieces : (image : ImageView) (scope : Scope) (inner : Bool) (guard : ℕ) (node : ImageNode) (low high : Child) → IsImage image → 2 ≤ guard → slice_get image.nodes (guard - 2) ≡ Some node
    → low ≡ child_of node.low → high ≡ child_of node.high
    → guard_bytes scope inner (guard_of image guard)
    ≡ beginning scope inner low high (condition_in (slice_get image.conditions node.variable))
    ++ (part (child_of node.high) (operand_bytes scope (guard_of image node.high)) ++ (between low high ++ (part (child_of node.low) (operand_bytes scope (guard_of image node.low)) ++ bracket inner low high (codes ")"))))
guard_pieces image scope inner guard node low high right large at is_low is_high = rw (is_low, is_high) (guard_is image scope inner guard node right large at)
