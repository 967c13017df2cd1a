-- What a part of the grammar begins with.
use Rattle.sig_tree.proofs.Common.{◌≡◌, ℕ, zero, suc, ◌≤◌, ◌++◌, List, [], ◌∷◌, refl, sym, subst, inl, inr, arith, Name, Constant, Int, BoolConstant, Param, Item, Expression, Named, Number, Truth, Unary, Binary, Delay, Cell, Declared, Placement, RightSide, Computed, Called, Equations, Together, ProcessModel, Modelled, Terminal, Leaf, default_level, mixed_level, delay_level, primary_level, binary_level, left_level, level_of, Limits, IsConstant, Enclosed, IsBare, IsAtLevel, IsLeft, IsRight, IsDefinition, IsClockEquation, IsBody, IsGroup, IsLocalGroup, IsPlacement, IsModel, IsProgram, StartsWith, BeginsConstant, BeginsExpression, BeginsLeft, BeginsBody, BeginsGroup, BeginsPlacement, BeginsProcess}
use Rattle.sig_tree.specs.Syntax.{Defines, Equal}
use Rattle.sig_tree.proofs.Operators.{two_levels}

pub starts_longer : (Begins : Terminal → Type 0) (front back : List Leaf) → StartsWith Begins front → StartsWith Begins (front ++ back)
starts_longer Begins [] back starts = absurd starts
starts_longer Begins (l ∷ front) back starts = starts

pub starts_larger : (Small Large : Terminal → Type 0) → ((t : Terminal) → Small t → Large t) → (leaves : List Leaf) → StartsWith Small leaves → StartsWith Large leaves
starts_larger Small Large within [] starts = starts
starts_larger Small Large within (l ∷ leaves) starts = within l.terminal starts

pub starts_at : (Begins : Terminal → Type 0) (leaves : List Leaf) (l : Leaf) (rest : List Leaf) → leaves ≡ l ∷ rest → Begins l.terminal → StartsWith Begins leaves
starts_at Begins leaves l rest e begins = subst (λ (ls : List Leaf). StartsWith Begins ls) (sym e) begins

pub starts_front : (Begins : Terminal → Type 0) (leaves front back : List Leaf) → leaves ≡ front ++ back → StartsWith Begins front → StartsWith Begins leaves
starts_front Begins leaves front back e starts = subst (λ (ls : List Leaf). StartsWith Begins ls) (sym e) (starts_longer Begins front back starts)

-- an expression of a level may stand where a looser one is asked for
pub looser_begins : (low high : ℕ) → low ≤ high → (t : Terminal) → BeginsExpression high t → BeginsExpression low t
looser_begins low high within t (inl (inl (op, e, tight))) = inl (inl (op, e, omega arith))
looser_begins low high within t (inl (inr e)) = inl (inr e)
looser_begins low high within t (inr rest) = inr rest

pub constant_begins : (c : Constant) (leaves : List Leaf) → IsConstant c leaves → StartsWith BeginsConstant leaves
constant_begins (Int value at) leaves (inl (n, v, e)) = starts_at BeginsConstant leaves _ _ e (inl (inr (n, refl)))
constant_begins (Int value at) leaves (inr (n, digits, v, e)) = starts_at BeginsConstant leaves _ _ e (inl (inl refl))
constant_begins (BoolConstant truth at) leaves e = starts_at BeginsConstant leaves _ _ e (inr (inl (truth, refl)))
constant_begins (Param n) leaves e = starts_at BeginsConstant leaves _ _ e (inr (inr (n.text, refl)))

module _ (limits : Limits) where
  enclosed_begins : (e : Expression) → ((depth : ℕ) (leaves : List Leaf) → IsBare limits e depth leaves → StartsWith (BeginsExpression (level_of e)) leaves)
      → (parentheses wanted depth : ℕ) (leaves : List Leaf) → Enclosed limits (level_of e) (IsBare limits e) parentheses wanted depth leaves → StartsWith (BeginsExpression wanted) leaves
  enclosed_begins e bare zero wanted depth leaves (tight, is) =
      starts_larger (BeginsExpression (level_of e)) (BeginsExpression wanted) (looser_begins wanted (level_of e) tight) leaves (bare depth leaves is)
  enclosed_begins e bare (suc parentheses) wanted depth leaves (may, (opened, closed, inside, same, is)) = starts_at (BeginsExpression wanted) leaves _ _ same (inl (inr refl))

  behind_begins : (e : Expression) → ((depth : ℕ) (leaves : List Leaf) → IsBare limits e depth leaves → StartsWith (BeginsExpression (level_of e)) leaves)
      → (own wanted depth parentheses : ℕ) → own ≤ wanted → (leaves front back : List Leaf) → leaves ≡ front ++ back
      → Enclosed limits (level_of e) (IsBare limits e) parentheses wanted depth front → StartsWith (BeginsExpression own) leaves
  behind_begins e bare own wanted depth parentheses tight leaves front back same is =
      starts_front (BeginsExpression own) leaves front back same
      (starts_larger (BeginsExpression wanted) (BeginsExpression own) (looser_begins own wanted tight) front (enclosed_begins e bare parentheses wanted depth front is))

  bare_begins : (e : Expression) (depth : ℕ) (leaves : List Leaf) → IsBare limits e depth leaves → StartsWith (BeginsExpression (level_of e)) leaves
  bare_begins (Named n) depth leaves is = starts_at (BeginsExpression primary_level) leaves _ _ is (inr (inr (inr (n.text, refl))))
  bare_begins (Number v at) depth leaves is = starts_at (BeginsExpression primary_level) leaves _ _ is (inr (inl (v, refl)))
  bare_begins (Truth t at) depth leaves is = starts_at (BeginsExpression primary_level) leaves _ _ is (inr (inr (inl (t, refl))))
  bare_begins (Unary op operand at) depth leaves (may, rest, e, is) = starts_at (BeginsExpression (level_of (Unary op operand at))) leaves _ _ e (inl (inl (op, refl, omega arith)))
  bare_begins (Binary op left right at) depth leaves (front, back, e, (p, is_left), is_right) =
      behind_begins left (bare_begins left) (binary_level op) (left_level op) depth p (two_levels op).0 leaves front _ e is_left
  bare_begins (Delay operand init at) depth leaves (front, one, back, e, (p, is), is_one, is_init) =
      behind_begins operand (bare_begins operand) delay_level delay_level depth p (omega arith) leaves front _ e is
  bare_begins (Cell operand held init at) depth leaves (front, middle, back, e, (p, is), is_held, is_init) =
      behind_begins operand (bare_begins operand) mixed_level mixed_level depth p (omega arith) leaves front _ e is

  pub expression_begins : (level depth : ℕ) (e : Expression) (leaves : List Leaf) → IsAtLevel limits level depth e leaves → StartsWith (BeginsExpression level) leaves
  expression_begins level depth e leaves (p, is) = enclosed_begins e (bare_begins e) p level depth leaves is

  pub left_begins : (depth : ℕ) (names : List Name) (leaves : List Leaf) → IsLeft limits depth names leaves → StartsWith BeginsLeft leaves
  left_begins depth names leaves (inl (n, one, e)) = starts_at BeginsLeft leaves _ _ e (inr (n.text, refl))
  left_begins depth names leaves (inr (may, (opened, closed, inside, e, is))) = starts_at BeginsLeft leaves _ _ e (inl refl)

  pub right_begins : (depth : ℕ) (right : RightSide) (leaves : List Leaf) → IsRight limits depth right leaves → StartsWith (BeginsExpression default_level) leaves
  right_begins depth (Computed e) leaves is = expression_begins default_level depth e leaves is
  right_begins depth (Called n constants arguments) leaves (front, back, e, are_constants, are_arguments) =
      starts_at (BeginsExpression default_level) leaves _ _ e (inr (inr (inr (n.text, refl))))

  pub definition_begins : (depth : ℕ) (names : List Name) (right : RightSide) (leaves : List Leaf) → IsDefinition limits depth names right leaves → StartsWith BeginsLeft leaves
  definition_begins depth names right leaves (at, front, back, e, is_left, is_right, few) = starts_front BeginsLeft leaves front _ e (left_begins depth names front is_left)

  pub clock_equation_begins : (depth : ℕ) (operands : List Expression) (leaves : List Leaf) → IsClockEquation limits depth operands leaves → StartsWith (BeginsExpression default_level) leaves
  clock_equation_begins depth [] leaves is = absurd is
  clock_equation_begins depth (e ∷ []) leaves is = absurd is
  clock_equation_begins depth (e ∷ f ∷ others) leaves ((front, back, same, is, rest), few) =
      starts_front (BeginsExpression default_level) leaves front back same (expression_begins default_level depth e front is)

  left_is_body : (t : Terminal) → BeginsLeft t → BeginsBody t
  left_is_body t (inl e) = inr (inl (inr e))
  left_is_body t (inr begins) = inr (inr (inr (inr begins)))

  pub body_begins : (body : Equations) (depth : ℕ) (leaves : List Leaf) → IsBody limits body depth leaves → StartsWith BeginsBody leaves
  body_begins (Together bodies) depth leaves (may, (opened, closed, inside, e, are)) = starts_at BeginsBody leaves _ _ e (inl refl)
  body_begins (Defines names right) depth leaves is = starts_larger BeginsLeft BeginsBody left_is_body leaves (definition_begins depth names right leaves is)
  body_begins (Equal operands) depth leaves is =
      starts_larger (BeginsExpression default_level) BeginsBody (λ t begins. inr begins) leaves (clock_equation_begins depth operands leaves is)

  pub model_begins : (model : ProcessModel) (depth : ℕ) (leaves : List Leaf) → IsModel limits model depth leaves → StartsWith BeginsProcess leaves
  model_begins (Modelled heading pragmas body locals inner) depth leaves is = starts_at BeginsProcess leaves _ _ is.8 refl

  pub program_begins : (processes : List ProcessModel) (leaves : List Leaf) → IsProgram limits processes leaves → StartsWith BeginsProcess leaves
  program_begins [] leaves (some, each) = absurd (some refl)
  program_begins (p ∷ ps) leaves (some, (front, back, e, is, rest)) = starts_front BeginsProcess leaves front back e (model_begins p 0 front is)

pub group_begins : (Is : Item → List Leaf → Type 0) (group : Declared) (leaves : List Leaf) → IsGroup Is group leaves → StartsWith BeginsGroup leaves
group_begins Is group leaves (at, rest, e, are) = starts_at BeginsGroup leaves _ _ e (group.kind, refl)

pub local_group_begins : (group : Declared) (leaves : List Leaf) → IsLocalGroup group leaves → StartsWith BeginsGroup leaves
local_group_begins group leaves (at, front, e, is) = starts_front BeginsGroup leaves front _ e (group_begins _ group front is)

pub placement_begins : (pragma : Placement) (leaves : List Leaf) → IsPlacement pragma leaves → StartsWith BeginsPlacement leaves
placement_begins pragma leaves (labelled, names, e, are) = starts_at BeginsPlacement leaves _ _ e refl
