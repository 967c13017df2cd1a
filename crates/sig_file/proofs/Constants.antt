-- The diagrams of constants, by the references that name no node.
use Rattle.sig_file.proofs.Common.{◌≡◌, Bool, true, false, List, [], Some, None, inl, inr, refl, sym, ap, ◌∙◌, ◌≢◌, Constant, value_at, Holds, IsRefOf, IsStore, StoreView, diagram, node_of, Ref, one_ref, shape, IsNumbered, visited, ImageNode}

module _ (s : StoreView) (store : IsStore s) (r t : Ref) (held : Holds s.nodes r) (none : node_of s.nodes r ≡ None) (is : IsRefOf s.nodes (λ _. true) t) where
  true_where : (b : Bool) → diagram s.nodes r ≡ Constant b → r ≡ t → b ≡ true
  unfolding value_at
  true_where b e same =
      let here : value_at (diagram s.nodes r) [] ≡ true = ap (λ q. value_at (diagram s.nodes q) []) same ∙ is.function [] in
      sym (ap (λ d. value_at d []) e) ∙ here

  false_where : (b : Bool) → diagram s.nodes r ≡ Constant b → r ≢ t → b ≡ false
  unfolding value_at
  false_where false e ne = refl
  false_where true e ne = absurd (ne (one_ref s.nodes store.reduced r t held is.holds (λ ts. ap (λ d. value_at d ts) e ∙ sym (is.function ts))))

  constant_of : (b : Bool) × (diagram s.nodes r ≡ Constant b)
  constant_of = elim (shape s.nodes store.reduced r held) [
    | inl (b, p) ↦ (b, p.diagram_is)
    | inr (i, n, p) ↦ let no : None ≡ Some n = sym none ∙ p.node in absurd cc
  ]

  pub one_where : r ≡ t → (nodes : List ImageNode) → IsNumbered nodes (diagram s.nodes r) 1
  one_where same nodes = let c = constant_of in ap (λ d. visited d nodes) (c.1 ∙ ap Constant (true_where c.0 c.1 same))

  pub zero_where : r ≢ t → (nodes : List ImageNode) → IsNumbered nodes (diagram s.nodes r) 0
  zero_where ne nodes = let c = constant_of in ap (λ d. visited d nodes) (c.1 ∙ ap Constant (false_where c.0 c.1 ne))
