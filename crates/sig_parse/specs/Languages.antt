-- The languages of the parts of the parser: leaves that are something of the grammar within limits, in
-- an equation that has so many operators before them.
use Rattle.std.specs.Prelude.{◌≡◌, ◌++◌, ◌+◌, ◌∷◌}
use Rattle.sig_parse.specs.Prelude.{ℕ, suc, List, [], length, codes, Option, Constant, Name, Expression, RightSide, Span, Terminal, Leaf, leaf, number, label, mark, Limits, MayHave, operators, right_operators, Each, Listed, IsConstant, IsInit, IsOptionalInit, IsOptionalOne, IsAtLevel, IsExpression, IsName, IsLeft, AreConstants, AreArguments, IsRight, IsDefinition, IsClockEquation, Step, WithOperand, WithCell, WithDelay, IsOperand, IsStep, AreSoMany}

-- something of these, with its operators
abbrev pub InOne : {A : Type 0} → (Limits → A → List Leaf → Type 0) → (A → ℕ) → (used : ℕ) → Limits → List Leaf → Type 0
InOne {A = A} Is count used limits leaves = (x : A) × Is limits x leaves × MayHave limits (used + count x)

-- the operators of all of them
abbrev pub counted : {A : Type 0} → (A → ℕ) → List A → ℕ
counted count [] = 0
counted count (x ∷ xs) = count x + counted count xs

-- one leaf with a terminal
abbrev pub InLeaf : Terminal → Limits → List Leaf → Type 0
InLeaf t limits leaves = (at : Span) × (leaves ≡ leaf t at ∷ [])

-- a number, a label, a name
abbrev pub InNumber : Limits → List Leaf → Type 0
InNumber limits leaves = (n : ℕ) × InLeaf (number n) limits leaves

abbrev pub InLabel : Limits → List Leaf → Type 0
InLabel limits leaves = (text : List ℕ) × InLeaf (label text) limits leaves

abbrev pub InName : Limits → List Leaf → Type 0
InName limits leaves = (name : Name) × IsName name leaves

abbrev pub InConstant : Limits → List Leaf → Type 0
InConstant limits leaves = (constant : Constant) × IsConstant constant leaves

abbrev pub InInit : Limits → List Leaf → Type 0
InInit limits leaves = (constant : Constant) × IsInit constant leaves

abbrev pub InOptionalInit : Limits → List Leaf → Type 0
InOptionalInit limits leaves = (constant : Option Constant) × IsOptionalInit constant leaves

abbrev pub InOptionalOne : Limits → List Leaf → Type 0
InOptionalOne limits leaves = IsOptionalOne leaves

-- an expression where one of a level is asked for
abbrev pub InLevel : (level depth used : ℕ) → Limits → List Leaf → Type 0
InLevel level depth used limits leaves = (e : Expression) × IsAtLevel limits level depth e leaves × MayHave limits (used + operators e)

-- what stands left of the operators of a level
abbrev pub InOperand : (level depth used : ℕ) → Limits → List Leaf → Type 0
InOperand level depth used limits leaves = (e : Expression) × IsOperand limits level depth e leaves × MayHave limits (used + operators e)

-- the operators of steps
abbrev pub step_operators : Step → ℕ
step_operators (WithOperand op right at) = suc (operators right)
step_operators (WithCell held init at) = suc (operators held)
step_operators (WithDelay init at) = 1

abbrev pub steps_operators : List Step → ℕ
steps_operators [] = 0
steps_operators (step ∷ steps) = step_operators step + steps_operators steps

-- an operator behind an operand, with what it takes
abbrev pub InStep : (level depth used : ℕ) → Limits → List Leaf → Type 0
InStep level depth used limits leaves = (step : Step) × IsStep limits level depth step leaves × MayHave limits (used + step_operators step)

-- any number of them, behind so many
abbrev pub InSteps : (level depth taken used : ℕ) → Limits → List Leaf → Type 0
InSteps level depth taken used limits leaves = (steps : List Step) × Each (IsStep limits level depth) steps leaves
    × AreSoMany level (taken + length steps) × MayHave limits (used + steps_operators steps)

-- a left side
abbrev pub InLeft : (depth : ℕ) → Limits → List Leaf → Type 0
InLeft depth limits leaves = (names : List Name) × IsLeft limits depth names leaves

-- the constants of a call, where it has any
abbrev pub InConstants : Limits → List Leaf → Type 0
InConstants limits leaves = (constants : List Constant) × AreConstants constants leaves

-- the constants of a call up to the mark that closes them, and its arguments so
abbrev pub InConstantList : Limits → List Leaf → Type 0
InConstantList limits leaves = (constants : List Constant) × (closed : Span) × (inside : List Leaf)
    × (leaves ≡ inside ++ leaf (mark (codes "}")) closed ∷ []) × Listed IsConstant (mark (codes ",")) constants inside

abbrev pub InArgumentList : (depth used : ℕ) → Limits → List Leaf → Type 0
InArgumentList depth used limits leaves = (arguments : List Expression)
    × ((closed : Span) × (inside : List Leaf) × (leaves ≡ inside ++ leaf (mark (codes ")")) closed ∷ []) × Listed (IsExpression limits depth) (mark (codes ",")) arguments inside)
    × MayHave limits (used + counted operators arguments)

-- the arguments of a call
abbrev pub InArguments : (depth used : ℕ) → Limits → List Leaf → Type 0
InArguments depth used limits leaves = (arguments : List Expression) × AreArguments limits depth arguments leaves × MayHave limits (used + counted operators arguments)

-- a right side
abbrev pub InRight : (depth used : ℕ) → Limits → List Leaf → Type 0
InRight depth used limits leaves = (right : RightSide) × IsRight limits depth right leaves × MayHave limits (used + right_operators right)

-- a definition
abbrev pub InDefinition : (depth : ℕ) → Limits → List Leaf → Type 0
InDefinition depth limits leaves = (names : List Name) × (right : RightSide) × IsDefinition limits depth names right leaves

-- a clock equation
abbrev pub InClockEquation : (depth : ℕ) → Limits → List Leaf → Type 0
InClockEquation depth limits leaves = (operands : List Expression) × IsClockEquation limits depth operands leaves
