-- What is in the grammar within limits is in it without them, at any depth, and what is in it within
-- both limits is so within any.
use Rattle.sig_tree.proofs.Common.{◌≡◌, ℕ, zero, suc, ◌<◌, List, [], ◌∷◌, refl, ap, subst, inl, inr, codes, Name, Expression, Named, Number, Truth, Unary, Binary, Delay, Cell, Declared, RightSide, Computed, Called, Equations, Together, Bodies, no_body, more_bodies, ProcessModel, Modelled, ProcessModels, no_model, more_models, Terminal, Leaf, mark, default_level, mixed_level, delay_level, primary_level, operand_level, left_level, right_level, level_of, Limits, both_limits, no_limits, MayStandInside, MayHave, Each, Further, Separated, Listed, Enclosed, IsBare, IsAtLevel, IsExpression, IsLeft, IsRight, IsDefinition, IsClockEquation, IsBody, AreBodies, AreFurtherBodies, IsModel, AreLocals, IsWhere, IsProgram}
use Rattle.sig_tree.specs.Syntax.{Defines, Equal}

module _ {A : Type 0} (Was Is : A → List Leaf → Type 0) (same : (x : A) (leaves : List Leaf) → Was x leaves → Is x leaves) where
  pub each_same : (xs : List A) (leaves : List Leaf) → Each Was xs leaves → Each Is xs leaves
  each_same [] leaves h = h
  each_same (x ∷ xs) leaves (front, back, e, is, rest) = (front, back, e, same x front is, each_same xs back rest)

  pub further_same : (separator : Terminal) (xs : List A) (leaves : List Leaf) → Further Was separator xs leaves → Further Is separator xs leaves
  further_same separator [] leaves h = h
  further_same separator (x ∷ xs) leaves (at, front, back, e, is, rest) = (at, front, back, e, same x front is, further_same separator xs back rest)

  pub separated_same : (separator : Terminal) (xs : List A) (leaves : List Leaf) → Separated Was separator xs leaves → Separated Is separator xs leaves
  separated_same separator [] leaves h = h
  separated_same separator (x ∷ xs) leaves (front, back, e, is, rest) = (front, back, e, same x front is, further_same separator xs back rest)

  pub listed_same : (separator : Terminal) (xs : List A) (leaves : List Leaf) → Listed Was separator xs leaves → Listed Is separator xs leaves
  listed_same separator [] leaves h = h
  listed_same separator (x ∷ xs) leaves h = separated_same separator (x ∷ xs) leaves h

-- From limits to others: which depths are taken to which, and that what may stand inside so many
-- constructs may do so again.
module _ (limits target : Limits) (Carries : ℕ → ℕ → Type 0)
    (deeper : (depth other : ℕ) → Carries depth other → Carries (suc depth) (suc other))
    (may : (depth other : ℕ) → Carries depth other → MayStandInside limits depth → MayStandInside target other)
    (few : (count : ℕ) → MayHave limits count → MayHave target count) where
  enclosed_free : (e : Expression) → ((depth other : ℕ) → Carries depth other → (leaves : List Leaf) → IsBare limits e depth leaves → IsBare target e other leaves)
      → (parentheses wanted depth other : ℕ) → Carries depth other → (leaves : List Leaf)
      → Enclosed limits (level_of e) (IsBare limits e) parentheses wanted depth leaves → Enclosed target (level_of e) (IsBare target e) parentheses wanted other leaves
  enclosed_free e bare zero wanted depth other carries leaves (tight, is) = (tight, bare depth other carries leaves is)
  enclosed_free e bare (suc parentheses) wanted depth other carries leaves (limited, (opened, closed, inside, same, is)) =
      (may depth other carries limited, (opened, closed, inside, same, enclosed_free e bare parentheses default_level (suc depth) (suc other) (deeper depth other carries) inside is))

  bare_free : (e : Expression) (depth other : ℕ) → Carries depth other → (leaves : List Leaf) → IsBare limits e depth leaves → IsBare target e other leaves
  bare_free (Named n) depth other carries leaves is = is
  bare_free (Number v at) depth other carries leaves is = is
  bare_free (Truth t at) depth other carries leaves is = is
  bare_free (Unary op operand at) depth other carries leaves (limited, rest, e, (p, is)) =
      (may depth other carries limited, rest, e, (p, enclosed_free operand (bare_free operand) p (operand_level op) (suc depth) (suc other) (deeper depth other carries) rest is))
  bare_free (Binary op left right at) depth other carries leaves (front, back, e, (p, is_left), (q, is_right)) = (
    front,
    back,
    e,
    (p, enclosed_free left (bare_free left) p (left_level op) depth other carries front is_left),
    (q, enclosed_free right (bare_free right) q (right_level op) depth other carries back is_right),
  )
  bare_free (Delay operand init at) depth other carries leaves (front, one, back, e, (p, is), is_one, is_init) =
      (front, one, back, e, (p, enclosed_free operand (bare_free operand) p delay_level depth other carries front is), is_one, is_init)
  bare_free (Cell operand held init at) depth other carries leaves (front, middle, back, e, (p, is), (q, is_held), is_init) = (
    front,
    middle,
    back,
    e,
    (p, enclosed_free operand (bare_free operand) p mixed_level depth other carries front is),
    (q, enclosed_free held (bare_free held) q primary_level depth other carries middle is_held),
    is_init,
  )

  pub expression_free : (level depth other : ℕ) → Carries depth other → (e : Expression) (leaves : List Leaf) → IsAtLevel limits level depth e leaves → IsAtLevel target level other e leaves
  expression_free level depth other carries e leaves (p, is) = (p, enclosed_free e (bare_free e) p level depth other carries leaves is)

  pub left_free : (depth other : ℕ) → Carries depth other → (names : List Name) (leaves : List Leaf) → IsLeft limits depth names leaves → IsLeft target other names leaves
  left_free depth other carries names leaves (inl is) = inl is
  left_free depth other carries names leaves (inr (limited, is)) = inr (may depth other carries limited, is)

  pub right_free : (depth other : ℕ) → Carries depth other → (right : RightSide) (leaves : List Leaf) → IsRight limits depth right leaves → IsRight target other right leaves
  right_free depth other carries (Computed e) leaves is = expression_free default_level depth other carries e leaves is
  right_free depth other carries (Called n constants arguments) leaves (front, back, e, are_constants, (opened, closed, inside, f, is)) = (
    front,
    back,
    e,
    are_constants,
    (opened, closed, inside, f, listed_same (IsExpression limits depth) (IsExpression target other) (expression_free default_level depth other carries) (mark (codes ",")) arguments inside is),
  )

  pub definition_free : (depth other : ℕ) → Carries depth other → (names : List Name) (right : RightSide) (leaves : List Leaf) → IsDefinition limits depth names right leaves → IsDefinition target other names right leaves
  definition_free depth other carries names right leaves (at, front, back, e, is_left, is_right, limited) =
      (at, front, back, e, left_free depth other carries names front is_left, right_free depth other carries right back is_right, few _ limited)

  pub clock_equation_free : (depth other : ℕ) → Carries depth other → (operands : List Expression) (leaves : List Leaf) → IsClockEquation limits depth operands leaves → IsClockEquation target other operands leaves
  clock_equation_free depth other carries [] leaves is = is
  clock_equation_free depth other carries (e ∷ []) leaves is = is
  clock_equation_free depth other carries (e ∷ f ∷ others) leaves (is, limited) =
      (separated_same (IsExpression limits depth) (IsExpression target other) (expression_free default_level depth other carries) (mark (codes "^=")) (e ∷ f ∷ others) leaves is, few _ limited)

  mutual
    pub body_free : (body : Equations) (depth other : ℕ) → Carries depth other → (leaves : List Leaf) → IsBody limits body depth leaves → IsBody target body other leaves
    body_free (Together bodies) depth other carries leaves (limited, (opened, closed, inside, e, are)) =
        (may depth other carries limited, (opened, closed, inside, e, bodies_free bodies (suc depth) (suc other) (deeper depth other carries) inside are))
    body_free (Defines names right) depth other carries leaves is = definition_free depth other carries names right leaves is
    body_free (Equal operands) depth other carries leaves is = clock_equation_free depth other carries operands leaves is

    pub bodies_free : (bodies : Bodies) (depth other : ℕ) → Carries depth other → (leaves : List Leaf) → AreBodies limits bodies depth leaves → AreBodies target bodies other leaves
    bodies_free no_body depth other carries leaves are = are
    bodies_free (more_bodies body rest) depth other carries leaves (front, back, e, is, are) =
        (front, back, e, body_free body depth other carries front is, further_bodies_free rest depth other carries back are)

    pub further_bodies_free : (bodies : Bodies) (depth other : ℕ) → Carries depth other → (leaves : List Leaf) → AreFurtherBodies limits bodies depth leaves → AreFurtherBodies target bodies other leaves
    further_bodies_free no_body depth other carries leaves are = are
    further_bodies_free (more_bodies body rest) depth other carries leaves (at, front, back, e, is, are) =
        (at, front, back, e, body_free body depth other carries front is, further_bodies_free rest depth other carries back are)

  where_free : (locals : List Declared) (inner : ProcessModels) (Were Are : List Leaf → Type 0) → ((leaves : List Leaf) → Were leaves → Are leaves)
      → (leaves : List Leaf) → IsWhere locals inner Were leaves → IsWhere locals inner Are leaves
  where_free locals inner Were Are same leaves (inl none) = inl none
  where_free locals inner Were Are same leaves (inr (opened, closed, inside, e, were)) = inr (opened, closed, inside, e, same inside were)

  mutual
    pub model_free : (model : ProcessModel) (depth other : ℕ) → Carries depth other → (leaves : List Leaf) → IsModel limits model depth leaves → IsModel target model other leaves
    model_free (Modelled heading pragmas body locals inner) depth other carries leaves
        (begun, equals, ended, params, interface, placed, equations, others, e, are_params, is_interface, are_pragmas, is_body, is_where) = (
          begun,
          equals,
          ended,
          params,
          interface,
          placed,
          equations,
          others,
          e,
          are_params,
          is_interface,
          are_pragmas,
          body_free body depth other carries equations is_body,
          where_free locals inner (AreLocals limits inner depth locals) (AreLocals target inner other locals) (locals_free inner depth other carries locals) others is_where,
        )

    pub locals_free : (inner : ProcessModels) (depth other : ℕ) → Carries depth other → (groups : List Declared) (leaves : List Leaf) → AreLocals limits inner depth groups leaves → AreLocals target inner other groups leaves
    locals_free no_model depth other carries groups leaves are = are
    locals_free (more_models model rest) depth other carries groups leaves (before, after, front, middle, back, e, f, each, (limited, is), are) =
        (before, after, front, middle, back, e, f, each, (may depth other carries limited, model_free model (suc depth) (suc other) (deeper depth other carries) middle is), locals_free rest depth other carries after back are)

  pub program_free : Carries 0 0 → (processes : List ProcessModel) (leaves : List Leaf) → IsProgram limits processes leaves → IsProgram target processes leaves
  program_free carries processes leaves (some, each) =
      (some, each_same (λ process. IsModel limits process 0) (λ process. IsModel target process 0) (λ process front is. model_free process 0 0 carries front is) processes leaves each)

-- without limits, whatever the depths
unlimited_may : (limits : Limits) (depth other : ℕ) → Unit {0} → MayStandInside limits depth → MayStandInside no_limits other
unlimited_may limits depth other carries limited = λ kept. cc

unlimited_few : (limits : Limits) (count : ℕ) → MayHave limits count → MayHave no_limits count
unlimited_few limits count limited = λ kept. cc

-- both limits are the strongest, at the same depth
strongest_may : (target : Limits) (depth other : ℕ) → depth ≡ other → MayStandInside both_limits depth → MayStandInside target other
strongest_may target depth other same limited = λ kept. subst (λ (d : ℕ). d < 64) same (limited refl)

strongest_few : (target : Limits) (count : ℕ) → MayHave both_limits count → MayHave target count
strongest_few target count limited = λ kept. limited refl

module _ (limits : Limits) where
  pub expression_unlimited : (level depth other : ℕ) (e : Expression) (leaves : List Leaf) → IsAtLevel limits level depth e leaves → IsAtLevel no_limits level other e leaves
  expression_unlimited level depth other e leaves is = expression_free limits no_limits (λ d o. Unit {0}) (λ d o c. tt) (unlimited_may limits) (unlimited_few limits) level depth other tt e leaves is

  pub left_unlimited : (depth other : ℕ) (names : List Name) (leaves : List Leaf) → IsLeft limits depth names leaves → IsLeft no_limits other names leaves
  left_unlimited depth other names leaves is = left_free limits no_limits (λ d o. Unit {0}) (λ d o c. tt) (unlimited_may limits) (unlimited_few limits) depth other tt names leaves is

  pub right_unlimited : (depth other : ℕ) (right : RightSide) (leaves : List Leaf) → IsRight limits depth right leaves → IsRight no_limits other right leaves
  right_unlimited depth other right leaves is = right_free limits no_limits (λ d o. Unit {0}) (λ d o c. tt) (unlimited_may limits) (unlimited_few limits) depth other tt right leaves is

  pub definition_unlimited : (depth other : ℕ) (names : List Name) (right : RightSide) (leaves : List Leaf) → IsDefinition limits depth names right leaves → IsDefinition no_limits other names right leaves
  definition_unlimited depth other names right leaves is = definition_free limits no_limits (λ d o. Unit {0}) (λ d o c. tt) (unlimited_may limits) (unlimited_few limits) depth other tt names right leaves is

  pub clock_equation_unlimited : (depth other : ℕ) (operands : List Expression) (leaves : List Leaf) → IsClockEquation limits depth operands leaves → IsClockEquation no_limits other operands leaves
  clock_equation_unlimited depth other operands leaves is = clock_equation_free limits no_limits (λ d o. Unit {0}) (λ d o c. tt) (unlimited_may limits) (unlimited_few limits) depth other tt operands leaves is

  pub body_unlimited : (body : Equations) (depth other : ℕ) (leaves : List Leaf) → IsBody limits body depth leaves → IsBody no_limits body other leaves
  body_unlimited body depth other leaves is = body_free limits no_limits (λ d o. Unit {0}) (λ d o c. tt) (unlimited_may limits) (unlimited_few limits) body depth other tt leaves is

  pub model_unlimited : (model : ProcessModel) (depth other : ℕ) (leaves : List Leaf) → IsModel limits model depth leaves → IsModel no_limits model other leaves
  model_unlimited model depth other leaves is = model_free limits no_limits (λ d o. Unit {0}) (λ d o c. tt) (unlimited_may limits) (unlimited_few limits) model depth other tt leaves is

  pub program_unlimited : (processes : List ProcessModel) (leaves : List Leaf) → IsProgram limits processes leaves → IsProgram no_limits processes leaves
  program_unlimited processes leaves is = program_free limits no_limits (λ d o. Unit {0}) (λ d o c. tt) (unlimited_may limits) (unlimited_few limits) tt processes leaves is

module _ (target : Limits) where
  pub expression_within : (level depth : ℕ) (e : Expression) (leaves : List Leaf) → IsAtLevel both_limits level depth e leaves → IsAtLevel target level depth e leaves
  expression_within level depth e leaves is = expression_free both_limits target (λ d o. d ≡ o) (λ d o same. ap suc same) (strongest_may target) (strongest_few target) level depth depth refl e leaves is

  pub left_within : (depth : ℕ) (names : List Name) (leaves : List Leaf) → IsLeft both_limits depth names leaves → IsLeft target depth names leaves
  left_within depth names leaves is = left_free both_limits target (λ d o. d ≡ o) (λ d o same. ap suc same) (strongest_may target) (strongest_few target) depth depth refl names leaves is

  pub right_within : (depth : ℕ) (right : RightSide) (leaves : List Leaf) → IsRight both_limits depth right leaves → IsRight target depth right leaves
  right_within depth right leaves is = right_free both_limits target (λ d o. d ≡ o) (λ d o same. ap suc same) (strongest_may target) (strongest_few target) depth depth refl right leaves is

  pub definition_within : (depth : ℕ) (names : List Name) (right : RightSide) (leaves : List Leaf) → IsDefinition both_limits depth names right leaves → IsDefinition target depth names right leaves
  definition_within depth names right leaves is = definition_free both_limits target (λ d o. d ≡ o) (λ d o same. ap suc same) (strongest_may target) (strongest_few target) depth depth refl names right leaves is

  pub clock_equation_within : (depth : ℕ) (operands : List Expression) (leaves : List Leaf) → IsClockEquation both_limits depth operands leaves → IsClockEquation target depth operands leaves
  clock_equation_within depth operands leaves is = clock_equation_free both_limits target (λ d o. d ≡ o) (λ d o same. ap suc same) (strongest_may target) (strongest_few target) depth depth refl operands leaves is

  pub body_within : (body : Equations) (depth : ℕ) (leaves : List Leaf) → IsBody both_limits body depth leaves → IsBody target body depth leaves
  body_within body depth leaves is = body_free both_limits target (λ d o. d ≡ o) (λ d o same. ap suc same) (strongest_may target) (strongest_few target) body depth depth refl leaves is

  pub bodies_within : (bodies : Bodies) (depth : ℕ) (leaves : List Leaf) → AreBodies both_limits bodies depth leaves → AreBodies target bodies depth leaves
  bodies_within bodies depth leaves is = bodies_free both_limits target (λ d o. d ≡ o) (λ d o same. ap suc same) (strongest_may target) (strongest_few target) bodies depth depth refl leaves is

  pub further_bodies_within : (bodies : Bodies) (depth : ℕ) (leaves : List Leaf) → AreFurtherBodies both_limits bodies depth leaves → AreFurtherBodies target bodies depth leaves
  further_bodies_within bodies depth leaves is = further_bodies_free both_limits target (λ d o. d ≡ o) (λ d o same. ap suc same) (strongest_may target) (strongest_few target) bodies depth depth refl leaves is

  pub model_within : (model : ProcessModel) (depth : ℕ) (leaves : List Leaf) → IsModel both_limits model depth leaves → IsModel target model depth leaves
  model_within model depth leaves is = model_free both_limits target (λ d o. d ≡ o) (λ d o same. ap suc same) (strongest_may target) (strongest_few target) model depth depth refl leaves is

  pub program_within : (processes : List ProcessModel) (leaves : List Leaf) → IsProgram both_limits processes leaves → IsProgram target processes leaves
  program_within processes leaves is = program_free both_limits target (λ d o. d ≡ o) (λ d o same. ap suc same) (strongest_may target) (strongest_few target) refl processes leaves is
