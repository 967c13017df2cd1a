-- An expression of a level is a first operand and the operators of the level behind it.
use Rattle.sig_tree.proofs.Common.{◌≡◌, ℕ, zero, suc, ◌≤◌, ◌<◌, ◌++◌, List, [], ◌∷◌, length, refl, sym, ap, ◌∙◌, subst, codes, inl, inr, ◌⊎◌, ⊎_elim, arith, append_assoc, cases_lt, append-nil, UnOp, Not, BinOp, Default, Plus, Meet, Less, Or, Xor, And, Add, Sub, Mul, Div, Mod, Expression, Named, Number, Truth, Unary, Binary, Delay, Cell, Leaf, leaf, word, mark, binary_terminal, default_level, mixed_level, relation_level, sum_level, delay_level, primary_level, unary_level, operand_level, binary_level, left_level, right_level, level_of, Limits, both_limits, no_limits, MayStandInside, Each, Enclosed, IsBare, IsAtLevel, IsAtom, Step, WithOperand, WithCell, WithDelay, stepped, stepped_all, IsStep, AreSoMany, IsSpine}
use Rattle.sig_tree.specs.declared.expr.BinOp.TheVariants.{When}
use Rattle.sig_tree.proofs.Unlimited.{expression_unlimited, expression_within}
use Rattle.sig_tree.specs.Spines.{IsOperand}

-- a relation's left operand is tighter, and no other's
left_cases : (op : BinOp) → ((binary_level op ≡ relation_level) × (left_level op ≡ suc (binary_level op))) ⊎ ((binary_level op ≡ relation_level → ⊥) × (left_level op ≡ binary_level op))
left_cases Default = inr (λ e. omega arith, refl)
left_cases When = inr (λ e. omega arith, refl)
left_cases Plus = inr (λ e. omega arith, refl)
left_cases Meet = inr (λ e. omega arith, refl)
left_cases Less = inr (λ e. omega arith, refl)
left_cases Or = inr (λ e. omega arith, refl)
left_cases Xor = inr (λ e. omega arith, refl)
left_cases And = inr (λ e. omega arith, refl)
left_cases Add = inr (λ e. omega arith, refl)
left_cases Sub = inr (λ e. omega arith, refl)
left_cases Mul = inr (λ e. omega arith, refl)
left_cases Div = inr (λ e. omega arith, refl)
left_cases Mod = inr (λ e. omega arith, refl)
left_cases _ = inl (refl, refl)

pub level_within : (e : Expression) → level_of e ≤ primary_level
level_within (Named n) = omega arith
level_within (Number v at) = omega arith
level_within (Truth t at) = omega arith
level_within (Unary op operand at) = unary_within op where
  unary_within : (op : UnOp) → unary_level op ≤ primary_level
  unary_within Not = omega arith
  unary_within _ = omega arith
level_within (Binary op left right at) = binary_within op where
  binary_within : (op : BinOp) → binary_level op ≤ primary_level
  binary_within Default = omega arith
  binary_within _ = omega arith
level_within (Delay operand init at) = omega arith
level_within (Cell operand held init at) = omega arith

-- one more step
stepped_last : (left : Expression) (steps : List Step) (step : Step) → stepped_all left (steps ++ step ∷ []) ≡ stepped (stepped_all left steps) step
stepped_last left [] step = refl
stepped_last left (s ∷ steps) step = stepped_last (stepped left s) steps step

each_last : {A : Type 0} (Is : A → List Leaf → Type 0) (xs : List A) (x : A) (front back : List Leaf) → Each Is xs front → Is x back → Each Is (xs ++ x ∷ []) (front ++ back)
each_last Is [] x front back e is = (back, [], ap (λ l. l ++ back) e ∙ sym (append-nil back), is, refl)
each_last Is (y ∷ xs) x front back (first, rest, e, is_y, are) is = (first, rest ++ back, ap (λ l. l ++ back) e ∙ append_assoc first rest back, is_y, each_last Is xs x rest back are is)

module _ (limits : Limits) where
  -- an operand alone
  alone : (level depth : ℕ) (e : Expression) (leaves : List Leaf) → IsOperand limits level depth e leaves → IsSpine limits level depth e leaves
  alone level depth e leaves is = (e, [], leaves, [], sym (append-nil leaves), refl, is, refl, λ relation. omega arith)

  -- one more step, where the level has any number of them
  with_step : (level depth : ℕ) → (level ≡ relation_level → ⊥) → (left : Expression) (step : Step) (front back leaves : List Leaf) → leaves ≡ front ++ back
      → IsSpine limits level depth left front → IsStep limits level depth step back → IsSpine limits level depth (stepped left step) leaves
  with_step level depth several left step front back leaves e (first, steps, begin, rest, f, g, is, are, many) last = (
    first,
    steps ++ step ∷ [],
    begin,
    rest ++ back,
    e ∙ ap (λ l. l ++ back) f ∙ append_assoc begin rest back,
    ap (λ l. stepped l step) g ∙ sym (stepped_last first steps step),
    is,
    each_last (IsStep limits level depth) steps step rest back are last,
    λ relation. absurd (several relation),
  )

  -- the same behind an operand alone
  with_only : (level depth : ℕ) (left : Expression) (step : Step) (front back leaves : List Leaf) → leaves ≡ front ++ back
      → IsOperand limits level depth left front → IsStep limits level depth step back → IsSpine limits level depth (stepped left step) leaves
  with_only level depth left step front back leaves e is last =
      (left, step ∷ [], front, back, e, refl, is, (back, [], sym (append-nil back), last, refl), λ relation. omega arith)

  enclosed_spine : (e : Expression) → ((level depth : ℕ) (leaves : List Leaf) → level_of e ≡ level → IsBare limits e depth leaves → IsSpine limits level depth e leaves)
      → (parentheses level depth : ℕ) (leaves : List Leaf) → level ≤ primary_level → Enclosed limits (level_of e) (IsBare limits e) parentheses level depth leaves → IsSpine limits level depth e leaves
  enclosed_spine e bare zero level depth leaves within (tight, is) = ⊎_elim
      (λ (tighter : level < level_of e). alone level depth e leaves (inr (inl (let most = level_within e in omega arith, (0, (tighter, is))))))
      (λ (at_most : level_of e ≤ level). bare level depth leaves (omega arith) is)
      (cases_lt level (level_of e))
  enclosed_spine e bare (suc parentheses) level depth leaves within (may, (opened, closed, inside, f, is)) = ⊎_elim
      (λ (looser : level < primary_level). alone level depth e leaves (inr (inl (looser, (suc parentheses, (may, (opened, closed, inside, f, is)))))))
      (λ (at_most : primary_level ≤ level). alone level depth e leaves (inr (inr (omega arith, inr (may, (opened, closed, inside, f, (parentheses, is)))))))
      (cases_lt level primary_level)

  bare_spine : (e : Expression) (level depth : ℕ) (leaves : List Leaf) → level_of e ≡ level → IsBare limits e depth leaves → IsSpine limits level depth e leaves
  bare_spine (Named n) level depth leaves own is = alone level depth (Named n) leaves (inr (inr (sym own, inl is)))
  bare_spine (Number v at) level depth leaves own is = alone level depth (Number v at) leaves (inr (inr (sym own, inl is)))
  bare_spine (Truth t at) level depth leaves own is = alone level depth (Truth t at) leaves (inr (inr (sym own, inl is)))
  bare_spine (Unary op operand at) level depth leaves own (may, rest, e, is) =
      alone level depth (Unary op operand at) leaves (inl (op, operand, at, rest, own, refl, e, may, is))
  bare_spine (Binary op left right at) level depth leaves own (front, back, e, (p, is_left), is_right) = ⊎_elim
      (λ (relation : (binary_level op ≡ relation_level) × (left_level op ≡ suc (binary_level op))).
      let tighter : left_level op ≡ suc level = relation.1 ∙ ap suc own in
      let small : suc level ≤ primary_level = omega (arith, relation.0) in
      with_only level depth left (WithOperand op right at) front (leaf (binary_terminal op) at ∷ back) leaves e
      (inr (inl (small, subst (λ (w : ℕ). IsAtLevel limits w depth left front) tighter (p, is_left)))) (back, own, refl, is_right))
      (λ (other : (binary_level op ≡ relation_level → ⊥) × (left_level op ≡ binary_level op)).
      let same : left_level op ≡ level = other.1 ∙ own in
      let within : level ≤ primary_level = let most = level_within (Binary op left right at) in omega arith in
      with_step level depth (λ relation. other.0 (own ∙ relation)) left (WithOperand op right at) front (leaf (binary_terminal op) at ∷ back) leaves e
      (enclosed_spine left (bare_spine left) p level depth front within (subst (λ (w : ℕ). Enclosed limits (level_of left) (IsBare limits left) p w depth front) same is_left)) (back, own, refl, is_right))
      (left_cases op)
  bare_spine (Delay operand init at) level depth leaves own (front, one, back, e, (p, is), is_one, is_init) =
      with_step level depth (λ relation. omega arith) operand (WithDelay init at) front (leaf (mark (codes "$")) at ∷ (one ++ back)) leaves e
      (enclosed_spine operand (bare_spine operand) p level depth front (omega arith) (subst (λ (w : ℕ). Enclosed limits (level_of operand) (IsBare limits operand) p w depth front) own is))
      (one, back, own, refl, is_one, is_init)
  bare_spine (Cell operand held init at) level depth leaves own (front, middle, back, e, (p, is), is_held, is_init) =
      with_step level depth (λ relation. omega arith) operand (WithCell held init at) front (leaf (word (codes "cell")) at ∷ (middle ++ back)) leaves e
      (enclosed_spine operand (bare_spine operand) p level depth front (omega arith) (subst (λ (w : ℕ). Enclosed limits (level_of operand) (IsBare limits operand) p w depth front) own is))
      (middle, back, own, refl, is_held, is_init)

  pub spine_of : (level depth : ℕ) (e : Expression) (leaves : List Leaf) → level ≤ primary_level → IsAtLevel limits level depth e leaves → IsSpine limits level depth e leaves
  spine_of level depth e leaves within (p, is) = enclosed_spine e (bare_spine e) p level depth leaves within is

  -- the other way
  looser : (v w depth : ℕ) (e : Expression) (leaves : List Leaf) → v ≤ w → IsAtLevel limits w depth e leaves → IsAtLevel limits v depth e leaves
  looser v w depth e leaves within (zero, (tight, is)) = (0, (omega arith, is))
  looser v w depth e leaves within (suc p, is) = (suc p, is)

  atom_at : (level depth : ℕ) (e : Expression) (leaves : List Leaf) → level ≤ primary_level → IsAtom e leaves → IsAtLevel limits level depth e leaves
  atom_at level depth (Named n) leaves within is = (0, (within, is))
  atom_at level depth (Number v at) leaves within is = (0, (within, is))
  atom_at level depth (Truth t at) leaves within is = (0, (within, is))
  atom_at level depth (Unary op operand at) leaves within is = absurd is
  atom_at level depth (Binary op left right at) leaves within is = absurd is
  atom_at level depth (Delay operand init at) leaves within is = absurd is
  atom_at level depth (Cell operand held init at) leaves within is = absurd is

  pub operand_at : (level depth : ℕ) (e : Expression) (leaves : List Leaf) → level ≤ primary_level → IsOperand limits level depth e leaves → IsAtLevel limits level depth e leaves
  operand_at level depth e leaves within (inl (op, operand, at, rest, own, same, f, may, is)) =
      subst (λ (x : Expression). IsAtLevel limits level depth x leaves) (sym same) (0, (omega (arith, own), (may, rest, f, is)))
  operand_at level depth e leaves within (inr (inl (tighter, is))) = looser level (suc level) depth e leaves (omega arith) is
  operand_at level depth e leaves within (inr (inr (own, inl atom))) = atom_at level depth e leaves within atom
  operand_at level depth e leaves within (inr (inr (own, inr (may, (opened, closed, inside, f, (p, is)))))) = (suc p, (may, (opened, closed, inside, f, is)))

  -- the level of what stands left of an operator
  abbrev left_of : Step → ℕ
  left_of (WithOperand op right at) = left_level op
  left_of (WithCell held init at) = mixed_level
  left_of (WithDelay init at) = delay_level

  step_at : (level depth : ℕ) (left : Expression) (step : Step) (front back : List Leaf) → IsAtLevel limits (left_of step) depth left front → IsStep limits level depth step back
      → IsAtLevel limits level depth (stepped left step) (front ++ back)
  step_at level depth left (WithOperand op right at) front back is_left (rest, own, f, is) = (0, (omega (arith, own), (front, rest, ap (λ l. front ++ l) f, is_left, is)))
  step_at level depth left (WithCell held init at) front back is_left (middle, rest, own, f, is_held, is_init) = (0, (omega (arith, own), (front, middle, rest, ap (λ l. front ++ l) f, is_left, is_held, is_init)))
  step_at level depth left (WithDelay init at) front back is_left (one, rest, own, f, is_one, is_init) = (0, (omega (arith, own), (front, one, rest, ap (λ l. front ++ l) f, is_left, is_one, is_init)))

  left_same : (level depth : ℕ) (step : Step) (back : List Leaf) → (level ≡ relation_level → ⊥) → IsStep limits level depth step back → left_of step ≡ level
  left_same level depth (WithOperand op right at) back several (rest, own, f, is) = ⊎_elim
      (λ (relation : (binary_level op ≡ relation_level) × (left_level op ≡ suc (binary_level op))). absurd (several (sym own ∙ relation.0)))
      (λ (other : (binary_level op ≡ relation_level → ⊥) × (left_level op ≡ binary_level op)). other.1 ∙ own)
      (left_cases op)
  left_same level depth (WithCell held init at) back several (middle, rest, own, f, is, is_init) = own
  left_same level depth (WithDelay init at) back several (one, rest, own, f, is, is_init) = own

  steps_at : (level depth : ℕ) → (level ≡ relation_level → ⊥) → (left : Expression) (steps : List Step) (front back : List Leaf)
      → IsAtLevel limits level depth left front → Each (IsStep limits level depth) steps back → IsAtLevel limits level depth (stepped_all left steps) (front ++ back)
  steps_at level depth several left [] front back is e = subst (λ (l : List Leaf). IsAtLevel limits level depth left l) (sym (ap (λ l. front ++ l) e ∙ append-nil front)) is
  steps_at level depth several left (s ∷ steps) front back is (first, rest, e, is_step, are) =
      subst (λ (l : List Leaf). IsAtLevel limits level depth (stepped_all (stepped left s) steps) l) (append_assoc front first rest ∙ ap (λ l. front ++ l) (sym e))
      (steps_at level depth several (stepped left s) steps (front ++ first) rest
      (step_at level depth left s front first (subst (λ (w : ℕ). IsAtLevel limits w depth left front) (sym (left_same level depth s first several is_step)) is) is_step) are)

  unary_no_relation : (op : UnOp) → unary_level op ≡ relation_level → ⊥
  unary_no_relation Not e = omega arith
  unary_no_relation _ e = omega arith

  inner_at : (depth : ℕ) (e : Expression) (leaves : List Leaf) → IsOperand limits relation_level depth e leaves → IsAtLevel limits sum_level depth e leaves
  inner_at depth e leaves (inl (op, operand, at, rest, own, same, f, may, is)) = absurd (unary_no_relation op own)
  inner_at depth e leaves (inr (inl (tighter, is))) = is
  inner_at depth e leaves (inr (inr (own, is))) = absurd (omega (arith, own))

  relation_left : (depth : ℕ) (step : Step) (back : List Leaf) → IsStep limits relation_level depth step back → left_of step ≡ sum_level
  relation_left depth (WithOperand op right at) back (rest, own, f, is) = ⊎_elim
      (λ (relation : (binary_level op ≡ relation_level) × (left_level op ≡ suc (binary_level op))). relation.1 ∙ ap suc own)
      (λ (other : (binary_level op ≡ relation_level → ⊥) × (left_level op ≡ binary_level op)). absurd (other.0 own))
      (left_cases op)
  relation_left depth (WithCell held init at) back (middle, rest, own, f, is, is_init) = absurd (omega (arith, own))
  relation_left depth (WithDelay init at) back (one, rest, own, f, is, is_init) = absurd (omega (arith, own))

  relation_at : (depth : ℕ) (first : Expression) (steps : List Step) (front back : List Leaf) → IsOperand limits relation_level depth first front → Each (IsStep limits relation_level depth) steps back
      → length steps ≤ 1 → IsAtLevel limits relation_level depth (stepped_all first steps) (front ++ back)
  relation_at depth first [] front back is e many =
      subst (λ (l : List Leaf). IsAtLevel limits relation_level depth first l) (sym (ap (λ l. front ++ l) e ∙ append-nil front)) (operand_at relation_level depth first front (omega arith) is)
  relation_at depth first (s ∷ []) front back is (begin, rest, e, is_step, f) many =
      let whole : begin ≡ back = sym (append-nil begin) ∙ ap (λ l. begin ++ l) (sym f) ∙ sym e in
      subst (λ (l : List Leaf). IsAtLevel limits relation_level depth (stepped first s) (front ++ l)) whole
      (step_at relation_level depth first s front begin (subst (λ (w : ℕ). IsAtLevel limits w depth first front) (sym (relation_left depth s begin is_step)) (inner_at depth first front is)) is_step)
  relation_at depth first (s ∷ t ∷ steps) front back is are many = absurd (omega arith)

  spine_parts : (level depth : ℕ) (first : Expression) (steps : List Step) (front back : List Leaf) → level ≤ primary_level → IsOperand limits level depth first front
      → Each (IsStep limits level depth) steps back → AreSoMany level (length steps) → (level ≡ relation_level) ⊎ (level ≡ relation_level → ⊥) → IsAtLevel limits level depth (stepped_all first steps) (front ++ back)
  spine_parts level depth first steps front back within is are many (inl relation) =
      subst (λ (w : ℕ). IsAtLevel limits w depth (stepped_all first steps) (front ++ back)) (sym relation)
      (relation_at depth first steps front back (subst (λ (w : ℕ). IsOperand limits w depth first front) relation is)
      (subst (λ (w : ℕ). Each (IsStep limits w depth) steps back) relation are) (many relation))
  spine_parts level depth first steps front back within is are many (inr several) =
      steps_at level depth several first steps front back (operand_at level depth first front within is) are

  is_relation : (level : ℕ) → (level ≡ relation_level) ⊎ (level ≡ relation_level → ⊥)
  is_relation level = ⊎_elim
      (λ (below : level < relation_level). inr (λ (e : level ≡ relation_level). omega arith))
      (λ (at_least : relation_level ≤ level). ⊎_elim
      (λ (above : relation_level < level). inr (λ (e : level ≡ relation_level). omega arith))
      (λ (at_most : level ≤ relation_level). inl (omega arith))
      (cases_lt relation_level level))
      (cases_lt level relation_level)

  pub spine_at : (level depth : ℕ) (first : Expression) (steps : List Step) (front back : List Leaf) → level ≤ primary_level → IsOperand limits level depth first front
      → Each (IsStep limits level depth) steps back → AreSoMany level (length steps) → IsAtLevel limits level depth (stepped_all first steps) (front ++ back)
  spine_at level depth first steps front back within is are many = spine_parts level depth first steps front back within is are many (is_relation level)

  pub of_spine : (level depth : ℕ) (e : Expression) (leaves : List Leaf) → level ≤ primary_level → IsSpine limits level depth e leaves → IsAtLevel limits level depth e leaves
  of_spine level depth e leaves within (first, steps, front, back, f, g, is, are, many) =
      subst (λ (l : List Leaf). IsAtLevel limits level depth e l) (sym f)
      (subst (λ (x : Expression). IsAtLevel limits level depth x (front ++ back)) (sym g) (spine_at level depth first steps front back within is are many))

-- from limits to others
module _ (limits target : Limits) (may : (depth : ℕ) → MayStandInside limits depth → MayStandInside target depth)
    (same : (level depth : ℕ) (e : Expression) (leaves : List Leaf) → IsAtLevel limits level depth e leaves → IsAtLevel target level depth e leaves) where
  operand_target : (level depth : ℕ) (e : Expression) (leaves : List Leaf) → IsOperand limits level depth e leaves → IsOperand target level depth e leaves
  operand_target level depth e leaves (inl (op, operand, at, rest, own, f, g, allowed, is)) =
      inl (op, operand, at, rest, own, f, g, may depth allowed, same (operand_level op) (suc depth) operand rest is)
  operand_target level depth e leaves (inr (inl (tighter, is))) = inr (inl (tighter, same (suc level) depth e leaves is))
  operand_target level depth e leaves (inr (inr (own, inl atom))) = inr (inr (own, inl atom))
  operand_target level depth e leaves (inr (inr (own, inr (allowed, (opened, closed, inside, f, is))))) =
      inr (inr (own, inr (may depth allowed, (opened, closed, inside, f, same default_level (suc depth) e inside is))))

  step_target : (level depth : ℕ) (s : Step) (leaves : List Leaf) → IsStep limits level depth s leaves → IsStep target level depth s leaves
  step_target level depth (WithOperand op right at) leaves (rest, own, f, is) = (rest, own, f, same (right_level op) depth right rest is)
  step_target level depth (WithCell held init at) leaves (middle, back, own, f, is, is_init) = (middle, back, own, f, same primary_level depth held middle is, is_init)
  step_target level depth (WithDelay init at) leaves (one, back, own, f, is_one, is_init) = (one, back, own, f, is_one, is_init)

module _ (limits : Limits) where
  pub operand_unlimited : (level depth : ℕ) (e : Expression) (leaves : List Leaf) → IsOperand limits level depth e leaves → IsOperand no_limits level depth e leaves
  operand_unlimited = operand_target limits no_limits (λ depth allowed kept. cc) (λ level depth e leaves is. expression_unlimited limits level depth depth e leaves is)

  pub step_unlimited : (level depth : ℕ) (s : Step) (leaves : List Leaf) → IsStep limits level depth s leaves → IsStep no_limits level depth s leaves
  step_unlimited = step_target limits no_limits (λ depth allowed kept. cc) (λ level depth e leaves is. expression_unlimited limits level depth depth e leaves is)

  pub operand_within : (level depth : ℕ) (e : Expression) (leaves : List Leaf) → IsOperand both_limits level depth e leaves → IsOperand limits level depth e leaves
  operand_within = operand_target both_limits limits (λ depth allowed kept. allowed refl) (expression_within limits)

  pub step_within : (level depth : ℕ) (s : Step) (leaves : List Leaf) → IsStep both_limits level depth s leaves → IsStep limits level depth s leaves
  step_within = step_target both_limits limits (λ depth allowed kept. allowed refl) (expression_within limits)
