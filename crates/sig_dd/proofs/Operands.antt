-- An operand's first variable, and its two sides.
use Rattle.sig_dd.proofs.Common.{◌≡◌, ℕ, suc, ◌≤◌, Bool, true, false, cond, List, ◌⊎◌, inl, inr, Option, None, Some, IsSomeAnd, refl, sym, ◌∙◌, subst, arith, nat_lt, nat_eq, ltb-true, ltb-false, eqb-true, eqb-false, StartsFrom, Holds, node_of, diagram, IsReduced, IsOperand, earlier_of, side_of, HasVariable, IsSide, Ref, Node, Operand}
use Rattle.sig_dd.proofs.Sides.{HasVariable-node, IsSide-child, IsSide-itself, starts_at, starts_nowhere, variable_from}

module _ (nodes : List Node) (reduced : IsReduced nodes) (r : Ref) (held : Holds nodes r) where
  -- u is the earlier one of v and r's own variable
  pub record IsEarlier (v u : ℕ) : Type 0 where
    pub at_most : u ≤ v
    pub starts : StartsFrom u (diagram nodes r)
    pub one_of : (u ≡ v) ⊎ HasVariable nodes r u

  earlier_at : (n : Node) → Some n ≡ node_of nodes r → (v : ℕ) (b : Bool) → nat_lt n.variable v ≡ b → IsEarlier v (cond b n.variable v)
  earlier_at n is v true e =
      let lt = ltb-true n.variable v e in
      record { at_most = omega arith; starts = starts_at nodes reduced r held n is n.variable (omega arith); one_of = inr (HasVariable-node nodes reduced r held n is) }
  earlier_at n is v false e =
      record { at_most = omega arith; starts = starts_at nodes reduced r held n is v (ltb-false n.variable v e); one_of = inl refl }

  earlier_by : (o : Option Node) → o ≡ node_of nodes r → (v : ℕ) → IsEarlier v (earlier_of o v)
  earlier_by None is v = record { at_most = omega arith; starts = starts_nowhere nodes reduced r held is v; one_of = inl refl }
  earlier_by (Some n) is v = earlier_at n is v (nat_lt n.variable v) refl

  pub earlier_is : (o : Operand) → IsOperand nodes r o → (v u : ℕ) → u ≡ earlier_of o.node v → IsEarlier v u
  earlier_is o op v u e = subst (IsEarlier v) (sym e) (earlier_by o.node op.node v)

  side_at : (n : Node) → Some n ≡ node_of nodes r → (v : ℕ) (x : Bool) → StartsFrom v (diagram nodes r) → (b : Bool) → nat_eq n.variable v ≡ b → IsSide nodes r v x (cond b (cond x n.high n.low) r)
  side_at n is v x starts true e =
      subst (λ u. IsSide nodes r u x (cond x n.high n.low)) (eqb-true n.variable v e) (IsSide-child nodes reduced r held n is x (cond x n.high n.low) refl)
  side_at n is v x starts false e =
      let from = variable_from nodes reduced r held n is v starts in
      let apart = eqb-false n.variable v e in
      IsSide-itself nodes reduced r held v x (starts_at nodes reduced r held n is (suc v) (omega arith))
      (λ h. apart (subst (λ o. IsSomeAnd o (λ m. m.variable ≡ v)) (sym is) h))

  side_by : (o : Option Node) → o ≡ node_of nodes r → (v : ℕ) (x : Bool) → StartsFrom v (diagram nodes r) → IsSide nodes r v x (side_of o r v x)
  side_by None is v x starts =
      IsSide-itself nodes reduced r held v x (starts_nowhere nodes reduced r held is (suc v)) (λ h. subst (λ o. IsSomeAnd o (λ m. m.variable ≡ v)) (sym is) h)
  side_by (Some n) is v x starts = side_at n is v x starts (nat_eq n.variable v) refl

  pub side_is : (o : Operand) → IsOperand nodes r o → (v : ℕ) (x : Bool) → StartsFrom v (diagram nodes r) → (c : Ref) → c ≡ side_of o.node o.reference v x → IsSide nodes r v x c
  side_is o op v x starts c e =
      subst (IsSide nodes r v x) (sym (e ∙ (λ j. side_of o.node (op.reference j) v x))) (side_by o.node op.node v x starts)
