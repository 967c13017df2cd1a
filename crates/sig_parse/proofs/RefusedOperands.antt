-- What the parts of the parser refuse: operands, and what an operator takes.
use Rattle.sig_parse.proofs.Common.{◌≡◌, ◌++◌, ◌+◌, ◌≤◌, ◌<◌, ℕ, suc, List, [], ◌∷◌, inl, inr, ◌⊎◌, refl, sym, ap, ◌∙◌, subst, arith, append-nil, Span, UnOp, Not, Expression, Named, Unary, Leaf, leaf, unary_terminal, primary_level, unary_level, operand_level, Limits, both_limits, nesting_limit, no_limits, MayStandInside, MayHave, operators, IsAtLevel, StopsBefore, StartsWith, BeginsExpression, ContinuesExpression, IsOperand, stops_smaller, cons_same, unary_same, prefix_no_inner, operand_tighter, inner_begins, Cause, TooDeep, TooMany, Refuses, InLevel, InOperand}
use Rattle.sig_parse.proofs.PartRefusals.{SameFirst, refuses_inside, refuses_first}
use Rattle.sig_parse.proofs.RefusedConstants.{some_name, some_leaf}
use Rattle.sig_parse.proofs.RefusedLevels.{fewer}

-- an operand of any level: a name
pub named_operand : (limits : Limits) (level depth : ℕ) → level ≤ primary_level → IsOperand limits level depth (Named some_name) (some_leaf ∷ [])
named_operand limits level depth within = go (last_level level within) where
  last_level : (level : ℕ) → level ≤ primary_level → (suc level ≤ primary_level) ⊎ (level ≡ primary_level)
  last_level level within = grind arith

  go : (suc level ≤ primary_level) ⊎ (level ≡ primary_level) → IsOperand limits level depth (Named some_name) (some_leaf ∷ [])
  go (inl tighter) = inr (inl (tighter, (0, (tighter, refl))))
  go (inr own) = inr (inr (own, inl refl))

unary_within : (op : UnOp) → unary_level op ≤ primary_level
unary_within Not = omega arith
unary_within _ = omega arith

operand_within_levels : (op : UnOp) → operand_level op ≤ primary_level
operand_within_levels Not = omega arith
operand_within_levels _ = omega arith

module _ (level depth used : ℕ) where
  -- what an operator before it takes
  prefix_part : (op : UnOp) (at : Span) → unary_level op ≡ level → (limits : Limits) (rest whole back : List Leaf) → leaf (unary_terminal op) at ∷ rest ≡ whole ++ back → (e : Expression) → IsOperand limits level depth e whole
      → MayHave limits (used + operators e) → (part : List Leaf) × (rest ≡ part ++ back) × InLevel (operand_level op) (suc depth) (suc used) limits part × MayStandInside limits depth
  prefix_part op at own limits rest whole back e x (inl (other, operand, place, part, other_own, same, f, may, is)) fits =
      let heads = cons_same _ _ _ _ (e ∙ ap (λ l. l ++ back) f) in
      let ops : op ≡ other = unary_same op other (ap (λ l. l.terminal) heads.0) in
      let count : operators x ≡ suc (operators operand) = ap operators same ∙ one_more operand in
      (part, heads.1, (operand, subst (λ (o : UnOp). IsAtLevel limits (operand_level o) (suc depth) operand part) (sym ops) is, fewer limits (suc used + operators operand) (used + operators x) (omega arith) fits), may)
    where
      one_more : (operand : Expression) → 1 + operators operand ≡ suc (operators operand)
      one_more operand = omega arith
  prefix_part op at own limits rest whole back e x (inr is) fits =
      absurd (starts_not whole back e (inner_begins limits level depth x whole is))
    where
      starts_not : (whole back : List Leaf) → leaf (unary_terminal op) at ∷ rest ≡ whole ++ back → StartsWith (BeginsExpression (suc level)) whole → ⊥
      starts_not [] back e starts = starts
      starts_not (l ∷ whole) back e starts =
          let heads = cons_same _ _ _ _ e in
          prefix_no_inner op level own l.terminal (ap (λ m. m.terminal) (sym heads.0)) starts

  pub prefix_operand : (op : UnOp) (at : Span) → unary_level op ≡ level → depth < 64 → (cause : Cause) (here after : List Leaf)
      → Refuses (InLevel (operand_level op) (suc depth) (suc used)) (ContinuesExpression (operand_level op)) cause here after
      → Refuses (InOperand level depth used) (ContinuesExpression (suc level)) cause (leaf (unary_terminal op) at ∷ here) after
  prefix_operand op at own shallow cause here after r =
      refuses_inside (InLevel (operand_level op) (suc depth) (suc used)) (InOperand level depth used) (leaf (unary_terminal op) at ∷ []) []
      (λ limits leaves is. (
        Unary op is.0 at,
        inl (
          op,
          is.0,
          at,
          leaves ++ [],
          own,
          refl,
          refl,
          (λ kept. shallow),
          subst (λ (l : List Leaf). IsAtLevel limits (operand_level op) (suc depth) is.0 l) (sym (append-nil leaves)) is.1,
        ),
        fewer limits (used + (1 + operators is.0)) (suc used + operators is.0) (omega arith) is.2,
      ))
      (ContinuesExpression (operand_level op)) (ContinuesExpression (suc level)) cause here after
      (λ limits rest whole back e is stops same.
      let part = prefix_part op at own limits rest whole back e is.0 is.1 is.2 in
      (part.0, back, part.1, part.2, stops_smaller (ContinuesExpression (suc level)) (ContinuesExpression (operand_level op)) (operand_tighter op level own) back stops)) r

  prefixed_name : (limits : Limits) (op : UnOp) (at : Span) → unary_level op ≡ level → MayStandInside limits depth → IsOperand limits level depth (Unary op (Named some_name) at) (leaf (unary_terminal op) at ∷ some_leaf ∷ [])
  prefixed_name limits op at own may = inl (op, Named some_name, at, some_leaf ∷ [], own, refl, refl, may, (0, (operand_within_levels op, refl)))

  -- such an operator that stands too deep
  pub prefix_too_deep : (op : UnOp) (at : Span) (more : List Leaf) → unary_level op ≡ level → 64 ≤ depth → used ≤ 512
      → Refuses (InOperand level depth used) (ContinuesExpression (suc level)) TooDeep (leaf (unary_terminal op) at ∷ more) (leaf (unary_terminal op) at ∷ more)
  prefix_too_deep op at more own deep few = record {
    passed = [];
    split = refl;
    viable = (some_leaf ∷ [], (Named some_name, named_operand both_limits level depth (omega (arith, unary_within op)), λ kept. omega arith));
    allowed = (some_leaf ∷ [], (Unary op (Named some_name) at, prefixed_name no_limits op at own (λ kept. cc), λ kept. cc));
    excluded = λ leaves front back agrees e is stops.
        let part = prefix_part op at own nesting_limit agrees.0 front back (sym agrees.1 ∙ e) is.0 is.1 is.2 in
        let shallow : depth < 64 = part.3 refl in
        omega arith;
  }

  -- and one operator too many
  pub prefix_too_many : (op : UnOp) (at : Span) (more : List Leaf) → unary_level op ≡ level → depth < 64 → used ≡ 512
      → Refuses (InOperand level depth used) (ContinuesExpression (suc level)) TooMany (leaf (unary_terminal op) at ∷ more) (leaf (unary_terminal op) at ∷ more)
  prefix_too_many op at more own shallow full = record {
    passed = [];
    split = refl;
    viable = (some_leaf ∷ [], (Named some_name, named_operand both_limits level depth (omega (arith, unary_within op)), λ kept. omega arith));
    allowed = (some_leaf ∷ [], (Unary op (Named some_name) at, prefixed_name nesting_limit op at own (λ kept. shallow), λ kept. cc));
    excluded = λ leaves front back agrees e is stops.
        let part = prefix_part op at own both_limits agrees.0 front back (sym agrees.1 ∙ e) is.0 is.1 is.2 in
        let most : suc used + operators part.2.0 ≤ 512 = part.2.2 refl in
        omega arith;
  }

  -- where no operator before it is next: an expression of the next tighter level
  pub tighter_operand : suc level ≤ primary_level → (cause : Cause) (here after : List Leaf) → ((op : UnOp) → unary_level op ≡ level → StopsBefore (λ t. t ≡ unary_terminal op) here)
      → Refuses (InLevel (suc level) depth used) (ContinuesExpression (suc level)) cause here after → Refuses (InOperand level depth used) (ContinuesExpression (suc level)) cause here after
  tighter_operand tighter cause here after no_prefix r =
      refuses_first (InLevel (suc level) depth used) (InOperand level depth used) []
      (λ limits leaves is. (is.0, inr (inl (tighter, subst (λ (l : List Leaf). IsAtLevel limits (suc level) depth is.0 l) (sym (append-nil leaves)) is.1)), is.2))
      (ContinuesExpression (suc level)) (ContinuesExpression (suc level)) cause here after
      (λ limits whole back is stops same. (whole, back, refl, inner limits whole back is.0 is.1 is.2 same, stops)) r
    where
      prefixed_not : (here : List Leaf) (op : UnOp) (at : Span) (more : List Leaf) → StopsBefore (λ t. t ≡ unary_terminal op) here → SameFirst here (leaf (unary_terminal op) at ∷ more) → ⊥
      prefixed_not [] op at more stops same = same
      prefixed_not (l ∷ here) op at more stops same = stops (ap (λ m. m.terminal) same)

      inner : (limits : Limits) (whole back : List Leaf) (e : Expression) → IsOperand limits level depth e whole → MayHave limits (used + operators e) → SameFirst here (whole ++ back) → InLevel (suc level) depth used limits whole
      inner limits whole back e (inl (op, operand, at, rest, own, f, g, may, is)) fits same =
          absurd (prefixed_not here op at (rest ++ back) (no_prefix op own) (subst (λ (w : List Leaf). SameFirst here (w ++ back)) g same))
      inner limits whole back e (inr (inl (low, is))) fits same = (e, is, fits)
      inner limits whole back e (inr (inr (own, is))) fits same = absurd (omega arith)
