-- Constants and expressions: the leaves that they stand as.
use Rattle.std.specs.Prelude.{◌≡◌, ◌++◌, ◌≤◌, ◌⊎◌, ◌∷◌}
use Rattle.sig_tree.specs.Prelude.{ℕ, zero, suc, pos, neg_ℤ, List, [], codes, Option, None, Some, Span}
use Rattle.sig_tree.specs.declared.expr.Constant.{Constant}
use Rattle.sig_tree.specs.declared.expr.Constant.TheVariants.{Int, Bool, Param}
use Rattle.sig_tree.specs.Syntax.{Expression, Named, Number, Truth, Unary, Binary, Delay, Cell}
use Rattle.sig_tree.specs.Terminals.{Leaf, leaf, name_leaf, number, word, mark, truth_word, unary_terminal, binary_terminal}
use Rattle.sig_tree.specs.Levels.{default_level, mixed_level, delay_level, primary_level, operand_level, left_level, right_level, level_of}
use Rattle.sig_tree.specs.Limits.{Limits, MayStandInside}
use Rattle.sig_tree.specs.Repeated.{Between}

-- constant = [ "-" ] NUMBER | "true" | "false" | NAME
abbrev pub IsConstant : Constant → List Leaf → Type 0
IsConstant (Int value at) leaves = ((n : ℕ) × (value ≡ pos n) × (leaves ≡ leaf (number n) at ∷ []))
    ⊎ ((n : ℕ) × (digits : Span) × (value ≡ neg_ℤ (pos n)) × (leaves ≡ leaf (mark (codes "-")) at ∷ leaf (number n) digits ∷ []))
IsConstant (Bool truth at) leaves = leaves ≡ leaf (truth_word truth) at ∷ []
IsConstant (Param name) leaves = leaves ≡ name_leaf name ∷ []

-- "init" constant
abbrev pub IsInit : Constant → List Leaf → Type 0
IsInit constant leaves = (at : Span) × (rest : List Leaf) × (leaves ≡ leaf (word (codes "init")) at ∷ rest) × IsConstant constant rest

-- [ "init" constant ]
abbrev pub IsOptionalInit : Option Constant → List Leaf → Type 0
IsOptionalInit None leaves = leaves ≡ []
IsOptionalInit (Some constant) leaves = IsInit constant leaves

-- [ "1" ]
abbrev pub IsOptionalOne : List Leaf → Type 0
IsOptionalOne leaves = (leaves ≡ []) ⊎ ((at : Span) × (leaves ≡ leaf (number 1) at ∷ []))

-- An expression where one of a wanted level is asked for, inside so many constructs, with so many
-- parentheses around it. With none, it must be tight enough. With one more, there is a `(`, which is
-- counted here, and inside it any level will do. The level of the expression and what it is without
-- parentheses are parameters, so that the recursion of `IsBare` goes down the tree.
abbrev pub Enclosed : Limits → (level : ℕ) → (ℕ → List Leaf → Type 0) → (parentheses wanted depth : ℕ) → List Leaf → Type 0
Enclosed limits level IsBare zero wanted depth leaves = (wanted ≤ level) × IsBare depth leaves
Enclosed limits level IsBare (suc parentheses) wanted depth leaves = MayStandInside limits depth
    × Between (mark (codes "(")) (mark (codes ")")) (Enclosed limits level IsBare parentheses default_level (suc depth)) leaves

-- the same, with any number of parentheses
abbrev pub Stands : Limits → (level : ℕ) → (ℕ → List Leaf → Type 0) → (wanted depth : ℕ) → List Leaf → Type 0
Stands limits level IsBare wanted depth leaves = (parentheses : ℕ) × Enclosed limits level IsBare parentheses wanted depth leaves

-- an expression without parentheses around it, inside so many constructs
abbrev pub IsBare : Limits → Expression → ℕ → List Leaf → Type 0
IsBare limits (Named name) = λ depth leaves. leaves ≡ name_leaf name ∷ []
IsBare limits (Number value at) = λ depth leaves. leaves ≡ leaf (number value) at ∷ []
IsBare limits (Truth truth at) = λ depth leaves. leaves ≡ leaf (truth_word truth) at ∷ []
IsBare limits (Unary op operand at) = λ depth leaves. MayStandInside limits depth
    × (rest : List Leaf) × (leaves ≡ leaf (unary_terminal op) at ∷ rest)
    × Stands limits (level_of operand) (IsBare limits operand) (operand_level op) (suc depth) rest
IsBare limits (Binary op left right at) = λ depth leaves.
    (front back : List Leaf) × (leaves ≡ front ++ leaf (binary_terminal op) at ∷ back)
    × Stands limits (level_of left) (IsBare limits left) (left_level op) depth front
    × Stands limits (level_of right) (IsBare limits right) (right_level op) depth back
IsBare limits (Delay operand init at) = λ depth leaves.
    (front one back : List Leaf) × (leaves ≡ front ++ leaf (mark (codes "$")) at ∷ (one ++ back))
    × Stands limits (level_of operand) (IsBare limits operand) delay_level depth front
    × IsOptionalOne one × IsOptionalInit init back
IsBare limits (Cell operand held init at) = λ depth leaves.
    (front middle back : List Leaf) × (leaves ≡ front ++ leaf (word (codes "cell")) at ∷ (middle ++ back))
    × Stands limits (level_of operand) (IsBare limits operand) mixed_level depth front
    × Stands limits (level_of held) (IsBare limits held) primary_level depth middle
    × IsInit init back

-- an expression where one of a wanted level is asked for
abbrev pub IsAtLevel : Limits → (wanted depth : ℕ) → Expression → List Leaf → Type 0
IsAtLevel limits wanted depth e leaves = Stands limits (level_of e) (IsBare limits e) wanted depth leaves

-- any expression
abbrev pub IsExpression : Limits → ℕ → Expression → List Leaf → Type 0
IsExpression limits depth e leaves = IsAtLevel limits default_level depth e leaves
