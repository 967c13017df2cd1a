-- An expression of a level as a reader from the left meets it: a first operand, and behind it the
-- operators of the level, each with what it takes.
use Rattle.std.specs.Prelude.{◌≡◌, ◌++◌, ◌≤◌, ◌⊎◌, ◌∷◌}
use Rattle.sig_tree.specs.Prelude.{ℕ, suc, List, [], length, codes, Option, Span}
use Rattle.sig_tree.specs.declared.expr.Constant.{Constant}
use Rattle.sig_tree.specs.declared.expr.UnOp.{UnOp}
use Rattle.sig_tree.specs.declared.expr.BinOp.{BinOp}
use Rattle.sig_tree.specs.Syntax.{Expression, Named, Number, Truth, Unary, Binary, Delay, Cell}
use Rattle.sig_tree.specs.Terminals.{Leaf, leaf, name_leaf, number, word, mark, truth_word, unary_terminal, binary_terminal}
use Rattle.sig_tree.specs.Levels.{default_level, mixed_level, relation_level, delay_level, primary_level, unary_level, operand_level, binary_level, right_level}
use Rattle.sig_tree.specs.Limits.{Limits, MayStandInside}
use Rattle.sig_tree.specs.Repeated.{Between, Each}
use Rattle.sig_tree.specs.Expressions.{IsInit, IsOptionalOne, IsOptionalInit, IsAtLevel}

-- NAME | NUMBER | "true" | "false"
abbrev pub IsAtom : Expression → List Leaf → Type 0
IsAtom (Named name) leaves = leaves ≡ name_leaf name ∷ []
IsAtom (Number value at) leaves = leaves ≡ leaf (number value) at ∷ []
IsAtom (Truth truth at) leaves = leaves ≡ leaf (truth_word truth) at ∷ []
IsAtom e leaves = ⊥

-- "(" default_level ")"
abbrev pub IsParenthesised : Limits → (depth : ℕ) → Expression → List Leaf → Type 0
IsParenthesised limits depth e leaves = MayStandInside limits depth
    × Between (mark (codes "(")) (mark (codes ")")) (IsAtLevel limits default_level (suc depth) e) leaves

-- an operator of this level and its operand behind it
abbrev pub IsPrefixed : Limits → (level depth : ℕ) → Expression → List Leaf → Type 0
IsPrefixed limits level depth e leaves = (op : UnOp) × (operand : Expression) × (at : Span) × (rest : List Leaf)
    × (unary_level op ≡ level) × (e ≡ Unary op operand at) × (leaves ≡ leaf (unary_terminal op) at ∷ rest)
    × MayStandInside limits depth × IsAtLevel limits (operand_level op) (suc depth) operand rest

-- an expression of the next tighter level, or what needs none
abbrev pub IsInner : Limits → (level depth : ℕ) → Expression → List Leaf → Type 0
IsInner limits level depth e leaves = ((suc level ≤ primary_level) × IsAtLevel limits (suc level) depth e leaves)
    ⊎ ((level ≡ primary_level) × (IsAtom e leaves ⊎ IsParenthesised limits depth e leaves))

-- what stands left of the operators of a level
abbrev pub IsOperand : Limits → (level depth : ℕ) → Expression → List Leaf → Type 0
IsOperand limits level depth e leaves = IsPrefixed limits level depth e leaves ⊎ IsInner limits level depth e leaves

-- an operator behind an operand, with what it takes and its place
pub data Step : Type 0 where
  WithOperand : BinOp → Expression → Span → Step
  WithCell : Expression → Constant → Span → Step
  WithDelay : Option Constant → Span → Step

abbrev pub stepped : Expression → Step → Expression
stepped left (WithOperand op right at) = Binary op left right at
stepped left (WithCell held init at) = Cell left held init at
stepped left (WithDelay init at) = Delay left init at

abbrev pub stepped_all : Expression → List Step → Expression
stepped_all left [] = left
stepped_all left (step ∷ steps) = stepped_all (stepped left step) steps

abbrev pub IsStep : Limits → (level depth : ℕ) → Step → List Leaf → Type 0
IsStep limits level depth (WithOperand op right at) leaves = (rest : List Leaf) × (binary_level op ≡ level) × (leaves ≡ leaf (binary_terminal op) at ∷ rest)
    × IsAtLevel limits (right_level op) depth right rest
IsStep limits level depth (WithCell held init at) leaves = (middle back : List Leaf) × (mixed_level ≡ level) × (leaves ≡ leaf (word (codes "cell")) at ∷ (middle ++ back))
    × IsAtLevel limits primary_level depth held middle × IsInit init back
IsStep limits level depth (WithDelay init at) leaves = (one back : List Leaf) × (delay_level ≡ level) × (leaves ≡ leaf (mark (codes "$")) at ∷ (one ++ back))
    × IsOptionalOne one × IsOptionalInit init back

-- of the relations there is at most one
abbrev pub AreSoMany : (level count : ℕ) → Type 0
AreSoMany level count = level ≡ relation_level → count ≤ 1

abbrev pub IsSpine : Limits → (level depth : ℕ) → Expression → List Leaf → Type 0
IsSpine limits level depth e leaves = (first : Expression) × (steps : List Step) × (front back : List Leaf)
    × (leaves ≡ front ++ back) × (e ≡ stepped_all first steps)
    × IsOperand limits level depth first front × Each (IsStep limits level depth) steps back × AreSoMany level (length steps)
