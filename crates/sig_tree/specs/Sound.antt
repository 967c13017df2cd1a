-- What is asked of a program whose calls are expanded, beyond the rules on well-formed programs: what holds
-- of each tree that was read from a text.
use Rattle.std.specs.Prelude.{◌≡◌, ◌≢◌, ◌+◌, ◌<◌, ◌≤◌, ◌^◌, ◌∷◌}
use Rattle.sig_tree.specs.Prelude.{ℕ, suc, List, [], length, Option, None, Some, ⊤, AllByRecursion}
use Rattle.sig_tree.specs.declared.expr.Name.{Name}
use Rattle.sig_tree.specs.Syntax.{Expression, Named, Number, Truth, Unary, Binary, Delay, Cell, Placement, RightSide, Computed, Called, Equations, Together, Defines, Equal, ProcessModel}
use Rattle.sig_tree.specs.FlatSyntax.{FlatEquation, Defines as DefinesFlat, Equal as EqualFlat}
use Rattle.sig_tree.specs.Declarations.{all_processes, inputs_of, outputs_of, process_of, equations_of_model, pragmas_of_model}
use Rattle.sig_tree.specs.Rules.{number_of}

-- the numbers of an expression are at most 2 ^ 63 - 1
abbrev pub IsSmall : Expression → Type 0
IsSmall (Named name) = ⊤
IsSmall (Number value at) = value < 2 ^ 63
IsSmall (Truth truth at) = ⊤
IsSmall (Unary op operand at) = IsSmall operand
IsSmall (Binary op left right at) = IsSmall left × IsSmall right
IsSmall (Delay operand init at) = IsSmall operand
IsSmall (Cell operand held init at) = IsSmall operand × IsSmall held

abbrev pub IsSmallRight : RightSide → Type 0
IsSmallRight (Computed e) = IsSmall e
IsSmallRight (Called name constants arguments) = AllByRecursion IsSmall arguments

-- a definition has a left side, and numbers are small
abbrev pub IsRead : Equations → Type 0
IsRead (Together bodies) = ⊤
IsRead (Defines names right) = (names ≢ []) × IsSmallRight right
IsRead (Equal operands) = AllByRecursion IsSmall operands

-- there is a process, and so are the equations of all
pub record IsTree (program : List ProcessModel) : Type 0 where
  pub some : program ≢ []
  pub equations : AllByRecursion (λ p. AllByRecursion IsRead (equations_of_model p)) (all_processes program)

-- the label of a pragma writes at most 63
abbrev pub IsLow : Placement → Type 0
IsLow pragma = number_of pragma.label ≤ 63

-- an equation that can be expanded: a call is of a process that is there, with its numbers of arguments and left sides
abbrev pub Fits : List Name → List Expression → Option ProcessModel → Type 0
Fits names arguments None = ⊥
Fits names arguments (Some called) = (length arguments ≡ length (inputs_of called)) × (length names ≡ length (outputs_of called))

abbrev pub IsReady : List ProcessModel → Equations → Type 0
IsReady all (Together bodies) = ⊥
IsReady all (Defines [] right) = ⊥
IsReady all (Defines (name ∷ names) (Computed e)) = (names ≡ []) × IsSmall e
IsReady all (Defines (first ∷ names) (Called name constants arguments)) = Fits (first ∷ names) arguments (process_of all name.text) × AllByRecursion IsSmall arguments
IsReady all (Equal operands) = AllByRecursion IsSmall operands

-- so are all equations of a process, and its pragmas' labels are low
pub record IsExpandable (all : List ProcessModel) (p : ProcessModel) : Type 0 where
  pub equations : AllByRecursion (IsReady all) (equations_of_model p)
  pub labels : AllByRecursion IsLow (pragmas_of_model p)

-- so is every process that a name finds
abbrev pub AreExpandable : List ProcessModel → Type 0
AreExpandable all = (text : List ℕ) (p : ProcessModel) → process_of all text ≡ Some p → IsExpandable all p

-- how much an equation counts: one, and a clock equation one for each pair of operands that stand beside each other
abbrev pub weight : Equations → ℕ
weight (Together bodies) = 1
weight (Defines names right) = 1
weight (Equal []) = 1
weight (Equal (e ∷ [])) = 1
weight (Equal (e ∷ f ∷ operands)) = suc (length operands)

abbrev pub weights : List Equations → ℕ
weights [] = 0
weights (q ∷ qs) = weight q + weights qs

abbrev pub flat_weight : FlatEquation → ℕ
flat_weight (DefinesFlat left e prefix) = 1
flat_weight (EqualFlat [] prefix) = 1
flat_weight (EqualFlat (e ∷ []) prefix) = 1
flat_weight (EqualFlat (e ∷ f ∷ operands) prefix) = suc (length operands)

abbrev pub flat_weights : List FlatEquation → ℕ
flat_weights [] = 0
flat_weights (q ∷ qs) = flat_weight q + flat_weights qs

-- the equations, inputs and outputs of each process are at most so many
abbrev pub size_of : ProcessModel → ℕ
size_of p = weights (equations_of_model p) + (length (inputs_of p) + length (outputs_of p))

abbrev pub IsSized : ℕ → List ProcessModel → Type 0
IsSized size program = AllByRecursion (λ p. size_of p ≤ size) (all_processes program)
