-- What the parts of the parser refuse: names, numbers, truths and parentheses.
use Rattle.sig_parse.proofs.Common.{◌≡◌, ◌++◌, ◌+◌, ◌≤◌, ◌<◌, ℕ, suc, List, [], ◌∷◌, codes, inl, inr, refl, sym, ap, ◌∙◌, subst, arith, append-nil, Span, UnOp, Expression, Named, Number, Truth, Leaf, leaf, name, number, mark, truth_word, unary_terminal, default_level, primary_level, Limits, both_limits, nesting_limit, no_limits, MayStandInside, operators, IsAtLevel, StopsBefore, BeginsExpression, ContinuesNothing, ContinuesExpression, IsAtom, IsOperand, no_place, AtTruth, AtOpening, AtPrefix, first_of, expression_unlimited, expression_within, prefix_first, truth_first, expression_once, expression_begins, cons_same, append_to, part_at, mark_apart, stops_nothing, operand_at, Cause, Wrong, TooDeep, Refuses, InLeaf, InLevel, InOperand}
use Rattle.sig_parse.proofs.PartRefusals.{first_stops, refuses_inside, refuses_at_once}
use Rattle.sig_parse.proofs.RefusedConstants.{some_name, some_leaf}
use Rattle.sig_parse.proofs.RefusedOperands.{named_operand}

module _ (depth used : ℕ) where
  pub atom_refused : used ≤ 512 → (here : List Leaf) → StopsBefore (BeginsExpression primary_level) here → Refuses (InOperand primary_level depth used) (ContinuesExpression (suc primary_level)) Wrong here here
  atom_refused few here stops =
      refuses_at_once (InOperand primary_level depth used) (ContinuesExpression (suc primary_level)) (BeginsExpression primary_level) (some_leaf ∷ [])
      (Named some_name, named_operand both_limits primary_level depth (omega arith), λ kept. omega arith)
      (λ leaves is. expression_begins no_limits primary_level depth is.0 leaves (operand_at no_limits primary_level depth is.0 leaves (omega arith) is.1)) here stops

  -- what stands in parentheses
  prefix_no_opening : (op : UnOp) (opened at : Span) (rest more : List Leaf) → leaf (mark (codes "(")) opened ∷ rest ≡ leaf (unary_terminal op) at ∷ more → ⊥
  prefix_no_opening op opened at rest more e =
      let heads = cons_same _ _ _ _ e in
      let terminals : mark (codes "(") ≡ unary_terminal op = ap (λ l. l.terminal) heads.0 in
      let firsts : AtOpening ≡ AtPrefix op = ap first_of terminals ∙ prefix_first op in
      cc

  atom_no_opening : (x : Expression) (opened : Span) (rest whole back : List Leaf) → leaf (mark (codes "(")) opened ∷ rest ≡ whole ++ back → IsAtom x whole → ⊥
  atom_no_opening (Named n) opened rest whole back e is =
      let heads = cons_same _ _ _ _ (e ∙ ap (λ l. l ++ back) is) in
      let terminals : mark (codes "(") ≡ name n.text = ap (λ l. l.terminal) heads.0 in
      cc
  atom_no_opening (Number v at) opened rest whole back e is =
      let heads = cons_same _ _ _ _ (e ∙ ap (λ l. l ++ back) is) in
      let terminals : mark (codes "(") ≡ number v = ap (λ l. l.terminal) heads.0 in
      cc
  atom_no_opening (Truth truth at) opened rest whole back e is =
      let heads = cons_same _ _ _ _ (e ∙ ap (λ l. l ++ back) is) in
      let terminals : mark (codes "(") ≡ truth_word truth = ap (λ l. l.terminal) heads.0 in
      let firsts : AtOpening ≡ AtTruth truth = ap first_of terminals ∙ truth_first truth in
      cc
  atom_no_opening _ opened rest whole back e is = is

  parentheses_part : (opened : Span) (limits : Limits) (rest whole back : List Leaf) → leaf (mark (codes "(")) opened ∷ rest ≡ whole ++ back → (x : Expression) → IsOperand limits primary_level depth x whole
      → (closed : Span) × (inside : List Leaf) × (rest ≡ inside ++ leaf (mark (codes ")")) closed ∷ back) × MayStandInside limits depth × IsAtLevel limits default_level (suc depth) x inside
  parentheses_part opened limits rest whole back e x (inl (op, operand, at, more, own, f, g, may, is)) = absurd (prefix_no_opening op opened at rest (more ++ back) (e ∙ ap (λ l. l ++ back) g))
  parentheses_part opened limits rest whole back e x (inr (inl (tighter, is))) = absurd (omega arith)
  parentheses_part opened limits rest whole back e x (inr (inr (own, inl atom))) = absurd (atom_no_opening x opened rest whole back e atom)
  parentheses_part opened limits rest whole back e x (inr (inr (own, inr (may, (begun, closed, inside, f, is))))) =
      let heads = cons_same (leaf (mark (codes "(")) opened) (leaf (mark (codes "(")) begun) rest (inside ++ leaf (mark (codes ")")) closed ∷ back)
      (e ∙ append_to whole (leaf (mark (codes "(")) begun ∷ inside) (leaf (mark (codes ")")) closed ∷ []) back f) in
      (closed, inside, heads.1, may, is)

  in_parentheses : (limits : Limits) (x : Expression) (opened closed : Span) (inside : List Leaf) → MayStandInside limits depth → IsAtLevel limits default_level (suc depth) x inside
      → IsOperand limits primary_level depth x (leaf (mark (codes "(")) opened ∷ (inside ++ leaf (mark (codes ")")) closed ∷ []))
  in_parentheses limits x opened closed inside may is = inr (inr (refl, inr (may, (opened, closed, inside, refl, is))))

  pub parentheses_too_deep : 64 ≤ depth → used ≤ 512 → (opened : Span) (more : List Leaf)
      → Refuses (InOperand primary_level depth used) (ContinuesExpression (suc primary_level)) TooDeep (leaf (mark (codes "(")) opened ∷ more) (leaf (mark (codes "(")) opened ∷ more)
  parentheses_too_deep deep few opened more = record {
    passed = [];
    split = refl;
    viable = (some_leaf ∷ [], (Named some_name, named_operand both_limits primary_level depth (omega arith), λ kept. omega arith));
    allowed = (some_leaf ∷ leaf (mark (codes ")")) no_place ∷ [], (Named some_name, in_parentheses no_limits (Named some_name) opened no_place (some_leaf ∷ []) (λ kept. cc) (0, (omega arith, refl)), λ kept. cc));
    excluded = λ leaves front back agrees e is stops.
        let part = parentheses_part opened nesting_limit agrees.0 front back (sym agrees.1 ∙ e) is.0 is.1 in
        let shallow : depth < 64 = part.3 refl in
        omega arith;
  }

  pub parentheses_inside : depth < 64 → (opened : Span) (cause : Cause) (here after : List Leaf) → Refuses (InLevel default_level (suc depth) used) (ContinuesExpression default_level) cause here after
      → Refuses (InOperand primary_level depth used) (ContinuesExpression (suc primary_level)) cause (leaf (mark (codes "(")) opened ∷ here) after
  parentheses_inside shallow opened cause here after r =
      refuses_inside (InLevel default_level (suc depth) used) (InOperand primary_level depth used) (leaf (mark (codes "(")) opened ∷ []) (leaf (mark (codes ")")) no_place ∷ [])
      (λ limits leaves is. (is.0, in_parentheses limits is.0 opened no_place leaves (λ kept. shallow) is.1, is.2))
      (ContinuesExpression default_level) (ContinuesExpression (suc primary_level)) cause here after
      (λ limits rest whole back e is stops same.
      let part = parentheses_part opened limits rest whole back e is.0 is.1 in
      (part.1, leaf (mark (codes ")")) part.0 ∷ back, part.2, (is.0, part.4, is.2), mark_apart (codes ")") refl default_level)) r

  pub parentheses_end : depth < 64 → (opened : Span) (x : Expression) (front : List Leaf) → IsAtLevel both_limits default_level (suc depth) x front → used + operators x ≤ 512 → (cause : Cause) (here after : List Leaf)
      → StopsBefore (ContinuesExpression default_level) here → Refuses (InLeaf (mark (codes ")"))) ContinuesNothing cause here after
      → Refuses (InOperand primary_level depth used) (ContinuesExpression (suc primary_level)) cause ((leaf (mark (codes "(")) opened ∷ front) ++ here) after
  parentheses_end shallow opened x front is_x few cause here after stopped r =
      refuses_inside (InLeaf (mark (codes ")"))) (InOperand primary_level depth used) (leaf (mark (codes "(")) opened ∷ front) []
      (λ limits leaves is. (
        x,
        subst (λ (l : List Leaf). IsOperand limits primary_level depth x (leaf (mark (codes "(")) opened ∷ (front ++ l))) (sym (append-nil leaves ∙ is.1))
            (in_parentheses limits x opened is.0 front (λ kept. shallow) (expression_within limits default_level (suc depth) x front is_x)),
        λ kept. few,
      ))
      ContinuesNothing (ContinuesExpression (suc primary_level)) cause here after
      (λ limits rest whole back e is stops same.
      let part = parentheses_part opened limits (front ++ rest) whole back e is.0 is.1 in
      let one = part_at (IsAtLevel no_limits default_level (suc depth)) (ContinuesExpression default_level) x (expression_once no_limits default_level (suc depth) x) is.0 front part.1 rest (leaf (mark (codes ")")) part.0 ∷ back) part.2
      (expression_unlimited both_limits default_level (suc depth) (suc depth) x front is_x) (expression_unlimited limits default_level (suc depth) (suc depth) is.0 part.1 part.4)
      (first_stops (ContinuesExpression default_level) here rest same stopped) (mark_apart (codes ")") refl default_level) in
      (leaf (mark (codes ")")) part.0 ∷ [], back, one.2, (part.0, refl), stops_nothing back)) r
