-- Definitions, clock equations and bodies: the leaves that they stand as.
use Rattle.std.specs.Prelude.{◌≡◌, ◌++◌, ◌⊎◌, ◌∷◌}
use Rattle.sig_tree.specs.Prelude.{ℕ, suc, List, [], codes, sum_by, Span}
use Rattle.sig_tree.specs.declared.expr.Name.{Name}
use Rattle.sig_tree.specs.declared.expr.Constant.{Constant}
use Rattle.sig_tree.specs.Syntax.{Expression, RightSide, Computed, Called, Equations, Together, Defines, Equal, Bodies, no_body, more_bodies}
use Rattle.sig_tree.specs.Terminals.{Leaf, leaf, name_leaf, mark}
use Rattle.sig_tree.specs.Limits.{Limits, MayStandInside, MayHave, operators, right_operators}
use Rattle.sig_tree.specs.Repeated.{Between, Separated, Listed}
use Rattle.sig_tree.specs.Expressions.{IsConstant, IsExpression}

-- NAME
abbrev pub IsName : Name → List Leaf → Type 0
IsName name leaves = leaves ≡ name_leaf name ∷ []

-- left = NAME | "(" NAME { "," NAME } ")"
abbrev pub IsLeft : Limits → ℕ → List Name → List Leaf → Type 0
IsLeft limits depth names leaves = ((name : Name) × (names ≡ name ∷ []) × IsName name leaves)
    ⊎ (MayStandInside limits depth × Between (mark (codes "(")) (mark (codes ")")) (Separated IsName (mark (codes ",")) names) leaves)

-- [ "{" [ constant { "," constant } ] "}" ]
abbrev pub AreConstants : List Constant → List Leaf → Type 0
AreConstants constants leaves = ((constants ≡ []) × (leaves ≡ []))
    ⊎ Between (mark (codes "{")) (mark (codes "}")) (Listed IsConstant (mark (codes ",")) constants) leaves

-- "(" [ expr { "," expr } ] ")"
abbrev pub AreArguments : Limits → ℕ → List Expression → List Leaf → Type 0
AreArguments limits depth arguments leaves = Between (mark (codes "(")) (mark (codes ")")) (Listed (IsExpression limits depth) (mark (codes ",")) arguments) leaves

-- right = call | expr, call = NAME constants arguments
abbrev pub IsRight : Limits → ℕ → RightSide → List Leaf → Type 0
IsRight limits depth (Computed e) leaves = IsExpression limits depth e leaves
IsRight limits depth (Called name constants arguments) leaves = (front back : List Leaf)
    × (leaves ≡ name_leaf name ∷ (front ++ back)) × AreConstants constants front × AreArguments limits depth arguments back

-- left ":=" right
abbrev pub IsDefinition : Limits → ℕ → List Name → RightSide → List Leaf → Type 0
IsDefinition limits depth names right leaves = (at : Span) × (front back : List Leaf)
    × (leaves ≡ front ++ leaf (mark (codes ":=")) at ∷ back)
    × IsLeft limits depth names front × IsRight limits depth right back × MayHave limits (right_operators right)

-- expr "^=" expr { "^=" expr }
abbrev pub IsClockEquation : Limits → ℕ → List Expression → List Leaf → Type 0
IsClockEquation limits depth [] leaves = ⊥
IsClockEquation limits depth (e ∷ []) leaves = ⊥
IsClockEquation limits depth (e ∷ f ∷ others) leaves =
    Separated (IsExpression limits depth) (mark (codes "^=")) (e ∷ f ∷ others) leaves × MayHave limits (sum_by operators (e ∷ f ∷ others))

-- body = "(|" [ body { "|" body } ] "|)" | left ":=" right | expr "^=" expr { "^=" expr }
abbrev mutual
  pub IsBody : Limits → Equations → ℕ → List Leaf → Type 0
  IsBody limits (Together bodies) = λ depth leaves. MayStandInside limits depth
      × Between (mark (codes "(|")) (mark (codes "|)")) (AreBodies limits bodies (suc depth)) leaves
  IsBody limits (Defines names right) = λ depth leaves. IsDefinition limits depth names right leaves
  IsBody limits (Equal operands) = λ depth leaves. IsClockEquation limits depth operands leaves

  -- [ body { "|" body } ]
  pub AreBodies : Limits → Bodies → ℕ → List Leaf → Type 0
  AreBodies limits no_body = λ depth leaves. leaves ≡ []
  AreBodies limits (more_bodies body rest) = λ depth leaves. (front back : List Leaf) × (leaves ≡ front ++ back)
      × IsBody limits body depth front × AreFurtherBodies limits rest depth back

  -- { "|" body }
  pub AreFurtherBodies : Limits → Bodies → ℕ → List Leaf → Type 0
  AreFurtherBodies limits no_body = λ depth leaves. leaves ≡ []
  AreFurtherBodies limits (more_bodies body rest) = λ depth leaves. (at : Span) × (front back : List Leaf)
      × (leaves ≡ leaf (mark (codes "|")) at ∷ (front ++ back))
      × IsBody limits body depth front × AreFurtherBodies limits rest depth back
