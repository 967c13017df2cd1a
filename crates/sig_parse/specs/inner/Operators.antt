-- The levels and the operators of expressions as the parser has them, in the terms of the grammar.
use Rattle.std.specs.Prelude.{◌≡◌, ◌++◌, ◌+◌, ◌≤◌, ◌⊎◌, ◌∷◌}
use Rattle.sig_parse.specs.Prelude.{ℕ, suc, Bool, List, codes, OPERATORS, Span, Terminal, Leaf, leaf, number, word, mark, truth_word, binary_terminal, Constant, BeginsName, StartsWith, IsInfix as StandsBehind, ContinuesNothing, ContinuesDelay, Step, IsStep, Expression, default_level, mixed_level, clock_level, or_level, and_level, not_level, relation_level, sum_level, product_level, minus_level, delay_level, primary_level, left_level, binary_level, both_limits, operators, IsInit, IsAtLevel}
use Rattle.sig_parse.specs.declared.operator.Level.{Level}
use Rattle.sig_parse.specs.declared.operator.Level.TheVariants.{Default, Mixed, Clock, Or, And, Not, Relation, Sum, Product, Minus, Delay, Primary}
use Rattle.sig_parse.specs.declared.operator.Infix.{Infix}
use Rattle.sig_parse.specs.declared.operator.Infix.TheVariants.{Binary, Cell, Delay as DelayOp}
use Rattle.sig_parse.specs.State.{State}
use Rattle.sig_parse.specs.declared.refusal.Refusal.{Refusal}
use Rattle.sig_parse.specs.declared.refusal.Refusal.TheVariants.{Syntax}
use Rattle.sig_parse.specs.Reads.{Reads}
use Rattle.sig_parse.specs.Refusals.{IsOfText, cause_of, Refuses}
use Rattle.sig_parse.specs.Languages.{InInit, step_operators}

abbrev pub level_number : Level → ℕ
level_number Default = default_level
level_number Mixed = mixed_level
level_number Clock = clock_level
level_number Or = or_level
level_number And = and_level
level_number Not = not_level
level_number Relation = relation_level
level_number Sum = sum_level
level_number Product = product_level
level_number Minus = minus_level
level_number Delay = delay_level
level_number Primary = primary_level

-- the next tighter level
pub record IsTighter (next level : Level) : Type 0 where
  pub next_is : level_number next ≡ suc (level_number level)
  pub within : level_number next ≤ primary_level

-- the level of what stands left of an operator of a level: its own, but a tighter one for relations
abbrev pub first_level : Level → ℕ
first_level Relation = sum_level
first_level level = level_number level

-- an operator behind its left operand: its terminal, its level, and that of the operand
abbrev pub infix_terminal : Infix → Terminal
infix_terminal (Binary op) = binary_terminal op
infix_terminal Cell = word (codes "cell")
infix_terminal DelayOp = mark (codes "$")

abbrev pub infix_level : Infix → ℕ
infix_level (Binary op) = binary_level op
infix_level Cell = mixed_level
infix_level DelayOp = delay_level

abbrev pub infix_left : Infix → ℕ
infix_left (Binary op) = left_level op
infix_left Cell = mixed_level
infix_left DelayOp = delay_level

-- the terminal is an operator behind an operand, and one of this level
abbrev pub IsOperator : Terminal → Type 0
IsOperator t = (op : Infix) × (t ≡ infix_terminal op)

abbrev pub IsOperatorOf : (level : ℕ) → Terminal → Type 0
IsOperatorOf level t = (op : Infix) × (t ≡ infix_terminal op) × (infix_level op ≡ level)

-- What may go on with what an operator of this level takes: a tighter operator, or what stands behind "$".
abbrev pub ContinuesStep : (level : ℕ) → Terminal → Type 0
ContinuesStep level t = StandsBehind (suc level) t ⊎ ((level ≤ delay_level) × ContinuesDelay t)

-- a number, a truth or a name
abbrev pub BeginsAtom : Terminal → Type 0
BeginsAtom t = ((value : ℕ) × (t ≡ number value)) ⊎ (((truth : Bool) × (t ≡ truth_word truth)) ⊎ BeginsName t)

-- an operator of this level, with this terminal
pub record IsInfix (op : Infix) (level : Level) (terminal : Terminal) : Type 0 where
  pub terminal_is : infix_terminal op ≡ terminal
  pub level_is : infix_level op ≡ level_number level
  pub left_is : infix_left op ≡ first_level level

-- The leaves that were read are what an operator takes, whose operators count.
pub record ReadsStep (depth : ℕ) (op : Infix) (at : Span) (before after : State) : Type 0 where
  pub step : Step
  pub back : List Leaf
  pub split : before.leaves ≡ back ++ after.leaves
  pub is : IsStep both_limits (infix_level op) depth step (leaf (infix_terminal op) at ∷ back)
  pub counted : suc after.operators ≡ before.operators + step_operators step

-- The leaves that were read complete an expression, behind its left operand and its operator.
pub record Completes (depth : ℕ) (left : Expression) (op : Infix) (at : Span) (e : Expression) (before after : State) : Type 0 where
  pub back : List Leaf
  pub split : before.leaves ≡ back ++ after.leaves
  pub stands : (front : List Leaf) → IsAtLevel both_limits (infix_left op) depth left front
      → IsAtLevel both_limits (infix_level op) depth e (front ++ leaf (infix_terminal op) at ∷ back)
  pub count : ℕ
  pub operators_are : operators e ≡ suc (operators left + count)
  pub counted : after.operators ≡ before.operators + count
  pub few : before.operators ≤ OPERATORS → after.operators ≤ OPERATORS

-- The init of a cell is refused, or a tighter operator behind it.
abbrev pub RefusesInit : Refusal → (before after : State) → Type 0
RefusesInit why before after = IsOfText why → Refuses InInit ContinuesNothing (cause_of why) before.leaves after.leaves
    ⊎ ((constant : Constant) × Reads (IsInit constant) 0 before after × (why ≡ Syntax) × StartsWith (ContinuesStep mixed_level) after.leaves)
