-- A tree without places, of leaves without places, can be given the places of any leaves that are
-- those: definitions, clock equations and bodies.
use Rattle.sig_print.proofs.Common.{◌≡◌, ℕ, suc, ◌++◌, List, [], ◌∷◌, refl, sym, ap, ◌∙◌, subst, codes, inl, inr, map, sum_by, Name, Constant, Expression, RightSide, Computed, Called, Equations, Together, Defines, Equal, Bodies, no_body, more_bodies, Leaf, leaf, name_leaf, name_terminal, default_level, Limits, MayHave, operators, right_operators, Separated, Listed, IsConstant, IsExpression, IsName, IsLeft, AreConstants, AreArguments, IsRight, IsDefinition, IsClockEquation, IsBody, AreBodies, AreFurtherBodies, unplaced_leaves, unplaced_name, unplaced_constant, unplaced_expression, unplaced_right, unplaced_equations, unplaced_bodies}
use Rattle.sig_tree.specs.Terminals.{mark}
use Rattle.sig_print.proofs.ReadEquations.{operators_all, right_operators_unplaced}
use Rattle.sig_print.proofs.PlaceExpressions.{none_new, head_new, one_new, split_new, place_separated, place_listed, place_between, place_constant, place_expression}

place_name : (n : Name) (new : List Leaf) → IsName (unplaced_name n) (unplaced_leaves new) → (m : Name) × (unplaced_name m ≡ unplaced_name n) × IsName m new
place_name n new e = let k = one_new new (name_leaf (unplaced_name n)) e in (record { text = n.text; at = k.0 }, refl, k.1)

pub place_names : (names : List Name) (new : List Leaf) → Separated IsName (mark (codes ",")) (map unplaced_name names) (unplaced_leaves new)
    → (others : List Name) × (map unplaced_name others ≡ map unplaced_name names) × Separated IsName (mark (codes ",")) others new
place_names names new h = place_separated IsName unplaced_name place_name (mark (codes ",")) names new h

place_constants : (constants : List Constant) (new : List Leaf) → AreConstants (map unplaced_constant constants) (unplaced_leaves new)
    → (others : List Constant) × (map unplaced_constant others ≡ map unplaced_constant constants) × AreConstants others new
place_constants constants new (inl (e, f)) = ([], sym e, inl (refl, none_new new f))
place_constants constants new (inr h) =
    let b = place_between (mark (codes "{")) (mark (codes "}")) (Listed IsConstant (mark (codes ",")) (map unplaced_constant constants)) new h in
    let r = place_listed IsConstant unplaced_constant place_constant (mark (codes ",")) constants b.2 b.4 in
    (r.0, r.1, inr (b.0, b.1, b.2, b.3, r.2))

-- the one name of a left side
one_name : (names : List Name) (n : Name) → map unplaced_name names ≡ n ∷ [] → unplaced_name n ≡ n
one_name (m ∷ []) n e =
    let first : unplaced_name m ≡ n = cc in
    ap unplaced_name (sym first) ∙ first
one_name _ n e = cc

module _ (limits : Limits) where
  place_left : (depth : ℕ) (names : List Name) (new : List Leaf) → IsLeft limits depth (map unplaced_name names) (unplaced_leaves new)
      → (others : List Name) × (map unplaced_name others ≡ map unplaced_name names) × IsLeft limits depth others new
  place_left depth names new (inl (n, e, is)) =
      let k = one_new new (name_leaf n) is in
      let m : Name = record { text = n.text; at = k.0 } in
      (m ∷ [], ap (λ x. x ∷ []) (one_name names n e) ∙ sym e, inl (m, refl, k.1))
  place_left depth names new (inr (may, h)) =
      let b = place_between (mark (codes "(")) (mark (codes ")")) (Separated IsName (mark (codes ",")) (map unplaced_name names)) new h in
      let r = place_names names b.2 b.4 in
      (r.0, r.1, inr (may, (b.0, b.1, b.2, b.3, r.2)))

  place_right : (depth : ℕ) (right : RightSide) (new : List Leaf) → IsRight limits depth (unplaced_right right) (unplaced_leaves new)
      → (other : RightSide) × (unplaced_right other ≡ unplaced_right right) × IsRight limits depth other new
  place_right depth (Computed e) new h = let r = place_expression limits default_level depth e new h in (Computed r.0, ap (λ f. Computed f) r.1, r.2)
  place_right depth (Called n constants arguments) new (front, back, e, h, k) =
      let t = head_new new (name_leaf (unplaced_name n)) (front ++ back) e in
      let s = split_new t.1 front back t.3 in
      let c = place_constants constants s.0 (subst (AreConstants (map unplaced_constant constants)) (sym s.3) h) in
      let b = place_between (mark (codes "(")) (mark (codes ")")) (Listed (IsExpression limits depth) (mark (codes ",")) (map unplaced_expression arguments)) s.1
      (subst (AreArguments limits depth (map unplaced_expression arguments)) (sym s.4) k) in
      let a = place_listed (IsExpression limits depth) unplaced_expression (place_expression limits default_level depth) (mark (codes ",")) arguments b.2 b.4 in (
        Called (record { text = n.text; at = t.0 }) c.0 a.0,
        ap (λ cs. Called (unplaced_name n) cs (map unplaced_expression a.0)) c.1 ∙ ap (λ es. Called (unplaced_name n) (map unplaced_constant constants) es) a.1,
        (s.0, s.1, t.2 ∙ ap (λ l. leaf (name_terminal n.text) t.0 ∷ l) s.2, c.2, (b.0, b.1, b.2, b.3, a.2)),
      )

  place_definition : (depth : ℕ) (names : List Name) (right : RightSide) (new : List Leaf) → IsDefinition limits depth (map unplaced_name names) (unplaced_right right) (unplaced_leaves new)
      → (body : Equations) × (unplaced_equations body ≡ Defines (map unplaced_name names) (unplaced_right right)) × IsBody limits body depth new
  place_definition depth names right new (at, front, back, e, h, k, few) =
      let s = split_new new front (leaf (mark (codes ":=")) at ∷ back) e in
      let t = head_new s.1 (leaf (mark (codes ":=")) at) back s.4 in
      let l = place_left depth names s.0 (subst (IsLeft limits depth (map unplaced_name names)) (sym s.3) h) in
      let r = place_right depth right t.1 (subst (IsRight limits depth (unplaced_right right)) (sym t.3) k) in (
        Defines l.0 r.0,
        ap (λ ns. Defines ns (unplaced_right r.0)) l.1 ∙ ap (λ x. Defines (map unplaced_name names) x) r.1,
        (
          t.0,
          s.0,
          t.1,
          s.2 ∙ ap (λ x. s.0 ++ x) t.2,
          l.2,
          r.2,
          subst (MayHave limits) (sym (ap right_operators r.1) ∙ right_operators_unplaced r.0) few,
        ),
      )

  clock_from : (depth : ℕ) (x y : Expression) (rest others : List Expression) (new : List Leaf) → map unplaced_expression others ≡ x ∷ y ∷ rest
      → Separated (IsExpression limits depth) (mark (codes "^=")) others new → MayHave limits (sum_by operators others) → IsClockEquation limits depth others new
  clock_from depth x y rest (a ∷ b ∷ others) new e h few = (h, few)
  clock_from depth x y rest _ new e h few = cc

  place_clock : (depth : ℕ) (operands : List Expression) (new : List Leaf) → IsClockEquation limits depth (map unplaced_expression operands) (unplaced_leaves new)
      → (body : Equations) × (unplaced_equations body ≡ Equal (map unplaced_expression operands)) × IsBody limits body depth new
  place_clock depth (e ∷ f ∷ others) new (h, few) =
      let r = place_separated (IsExpression limits depth) unplaced_expression (place_expression limits default_level depth) (mark (codes "^=")) (e ∷ f ∷ others) new h in (
        Equal r.0,
        ap (λ es. Equal es) r.1,
        clock_from depth (unplaced_expression e) (unplaced_expression f) (map unplaced_expression others) r.0 new r.1 r.2
            (subst (MayHave limits) (sym (ap (sum_by operators) r.1) ∙ operators_all r.0) few),
      )
  place_clock depth _ new h = absurd h

  mutual
    pub place_body : (body : Equations) (depth : ℕ) (new : List Leaf) → IsBody limits (unplaced_equations body) depth (unplaced_leaves new)
        → (other : Equations) × (unplaced_equations other ≡ unplaced_equations body) × IsBody limits other depth new
    place_body (Together bodies) depth new (may, h) =
        let b = place_between (mark (codes "(|")) (mark (codes "|)")) (AreBodies limits (unplaced_bodies bodies) (suc depth)) new h in
        let r = place_bodies bodies (suc depth) b.2 b.4 in
        (Together r.0, ap (λ bs. Together bs) r.1, (may, (b.0, b.1, b.2, b.3, r.2)))
    place_body (Defines names right) depth new h = place_definition depth names right new h
    place_body (Equal operands) depth new h = place_clock depth operands new h

    place_bodies : (bodies : Bodies) (depth : ℕ) (new : List Leaf) → AreBodies limits (unplaced_bodies bodies) depth (unplaced_leaves new)
        → (others : Bodies) × (unplaced_bodies others ≡ unplaced_bodies bodies) × AreBodies limits others depth new
    place_bodies no_body depth new h = (no_body, refl, none_new new h)
    place_bodies (more_bodies body rest) depth new (front, back, e, h, k) =
        let s = split_new new front back e in
        let b = place_body body depth s.0 (subst (IsBody limits (unplaced_equations body) depth) (sym s.3) h) in
        let r = place_further_bodies rest depth s.1 (subst (AreFurtherBodies limits (unplaced_bodies rest) depth) (sym s.4) k) in
        (more_bodies b.0 r.0, ap (λ x. more_bodies x (unplaced_bodies r.0)) b.1 ∙ ap (λ x. more_bodies (unplaced_equations body) x) r.1, (s.0, s.1, s.2, b.2, r.2))

    place_further_bodies : (bodies : Bodies) (depth : ℕ) (new : List Leaf) → AreFurtherBodies limits (unplaced_bodies bodies) depth (unplaced_leaves new)
        → (others : Bodies) × (unplaced_bodies others ≡ unplaced_bodies bodies) × AreFurtherBodies limits others depth new
    place_further_bodies no_body depth new h = (no_body, refl, none_new new h)
    place_further_bodies (more_bodies body rest) depth new (at, front, back, e, h, k) =
        let t = head_new new (leaf (mark (codes "|")) at) (front ++ back) e in
        let s = split_new t.1 front back t.3 in
        let b = place_body body depth s.0 (subst (IsBody limits (unplaced_equations body) depth) (sym s.3) h) in
        let r = place_further_bodies rest depth s.1 (subst (AreFurtherBodies limits (unplaced_bodies rest) depth) (sym s.4) k) in (
          more_bodies b.0 r.0,
          ap (λ x. more_bodies x (unplaced_bodies r.0)) b.1 ∙ ap (λ x. more_bodies (unplaced_equations body) x) r.1,
          (t.0, s.0, s.1, t.2 ∙ ap (λ l. leaf (mark (codes "|")) t.0 ∷ l) s.2, b.2, r.2),
        )
