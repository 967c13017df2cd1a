-- What is asked of the constants of a program: their integers have 64 bits, as those of each tree that was
-- read from a text.
use Rattle.std.specs.Prelude.{◌++◌}
use Rattle.sig_call.specs.Prelude.{List, Option, None, Some, ⊤, AllByRecursion, Bounded, IsInteger, Constant, Int, Bool as Truthful, Param, Expression, Unary, Binary, Delay, Cell, RightSide, Computed, Called, Equations, Together, Defines, ProcessModel, outputs_of, locals_of, all_processes, equations_of_model}
use Rattle.sig_tree.specs.Syntax.{Equal}

abbrev pub IsBoundedConstant : Constant → Type 0
IsBoundedConstant (Int value at) = IsInteger Bounded value
IsBoundedConstant (Truthful truth at) = ⊤
IsBoundedConstant (Param name) = ⊤

abbrev pub IsBoundedInit : Option Constant → Type 0
IsBoundedInit None = ⊤
IsBoundedInit (Some init) = IsBoundedConstant init

-- the inits in an expression
abbrev pub HasBoundedInits : Expression → Type 0
HasBoundedInits (Unary op operand at) = HasBoundedInits operand
HasBoundedInits (Binary op left right at) = HasBoundedInits left × HasBoundedInits right
HasBoundedInits (Delay operand init at) = HasBoundedInits operand × IsBoundedInit init
HasBoundedInits (Cell operand held init at) = HasBoundedInits operand × HasBoundedInits held × IsBoundedConstant init
HasBoundedInits _ = ⊤

-- the constants of a right side
abbrev pub IsBoundedRight : RightSide → Type 0
IsBoundedRight (Computed e) = HasBoundedInits e
IsBoundedRight (Called name constants arguments) = AllByRecursion IsBoundedConstant constants × AllByRecursion HasBoundedInits arguments

abbrev pub IsBoundedEquation : Equations → Type 0
IsBoundedEquation (Together bodies) = ⊤
IsBoundedEquation (Defines names right) = IsBoundedRight right
IsBoundedEquation (Equal operands) = AllByRecursion HasBoundedInits operands

-- the constants of a process: in its equations, and the inits with which its outputs and locals are declared
pub record IsBoundedProcess (p : ProcessModel) : Type 0 where
  pub equations : AllByRecursion IsBoundedEquation (equations_of_model p)
  pub declared : AllByRecursion (λ d. IsBoundedInit d.init) (outputs_of p ++ locals_of p)

abbrev pub IsBounded : List ProcessModel → Type 0
IsBounded program = AllByRecursion IsBoundedProcess (all_processes program)
