-- Syntax trees as contracts see them: the trees of the code, without where they lie in memory.
use Rattle.sig_tree.specs.Prelude.{ℕ, Bool, List, map, Option, Span, Kind}
use Rattle.sig_tree.specs.declared.expr.Name.{Name}
use Rattle.sig_tree.specs.declared.expr.Constant.{Constant}
use Rattle.sig_tree.specs.declared.expr.UnOp.{UnOp}
use Rattle.sig_tree.specs.declared.expr.BinOp.{BinOp}
use Rattle.sig_tree.specs.declared.expr.Expr.{Expr, Name as ExprName, Int, Bool as ExprBool, Unary', Binary', Delay', Cell'}
use Rattle.sig_tree.specs.declared.process.Item.{Item}
use Rattle.sig_tree.specs.declared.process.Group.{Group}
use Rattle.sig_tree.specs.declared.process.RunOn.{RunOn}
use Rattle.sig_tree.specs.declared.process.Right.{Right}
use Rattle.sig_tree.specs.declared.process.Right.TheVariants.{Value, Call}
use Rattle.sig_tree.specs.declared.process.Body.{Body, All', Def, Same, Row_of-Body, end_of-Body, more_of-Body}
use Rattle.sig_tree.specs.declared.process.Process.{Process, Process', Row_of-Process, end_of-Process, more_of-Process}
use Rattle.sig_tree.specs.declared.process.Program.{Program}

-- an expression
pub data Expression : Type 0 where
  Named : Name → Expression
  Number : ℕ → Span → Expression
  Truth : Bool → Span → Expression
  Unary : UnOp → Expression → Span → Expression
  Binary : BinOp → Expression → Expression → Span → Expression
  Delay : Expression → Option Constant → Span → Expression
  Cell : Expression → Expression → Constant → Span → Expression

-- names of one kind that are declared together
pub record Declared : Type 0 where
  pub kind : Kind
  pub items : List Item

-- a pragma RunOn: names of signals, its label without the quotes, and its place
pub record Placement : Type 0 where
  pub names : List Name
  pub label : List ℕ
  pub at : Span

-- the right side of a definition: an expression, or a call
pub data RightSide : Type 0 where
  Computed : Expression → RightSide
  Called : Name → List Constant → List Expression → RightSide

-- what a process says
mutual
  pub data Equations : Type 0 where
    Together : Bodies → Equations
    Defines : List Name → RightSide → Equations
    Equal : List Expression → Equations

  pub data Bodies : Type 0 where
    no_body : Bodies
    more_bodies : Equations → Bodies → Bodies

-- the heading of a process: its name, its parameters, its inputs and its outputs
pub record Heading : Type 0 where
  pub name : Name
  pub params : List Declared
  pub inputs : List Declared
  pub outputs : List Declared

-- a process: its heading, its pragmas, its body, and what it declares after `where`
mutual
  pub data ProcessModel : Type 0 where
    Modelled : Heading → List Placement → Equations → List Declared → ProcessModels → ProcessModel

  pub data ProcessModels : Type 0 where
    no_model : ProcessModels
    more_models : ProcessModel → ProcessModels → ProcessModels

abbrev pub expression_of : Expr → Expression
expression_of (ExprName name) = Named name
expression_of (Int value at) = Number value at
expression_of (ExprBool truth at) = Truth truth at
expression_of (Unary' op _ operand at) = Unary op (expression_of operand) at
expression_of (Binary' op _ left _ right at) = Binary op (expression_of left) (expression_of right) at
expression_of (Delay' _ operand init at) = Delay (expression_of operand) init at
expression_of (Cell' _ operand _ held init at) = Cell (expression_of operand) (expression_of held) init at

abbrev pub declared_of : Group → Declared
declared_of group = record { kind = group.kind; items = group.items.items }

abbrev pub placement_of : RunOn → Placement
placement_of pragma = record { names = pragma.names.items; label = pragma.label; at = pragma.at }

abbrev pub right_side_of : Right → RightSide
right_side_of (Value e) = Computed (expression_of e)
right_side_of (Call name constants arguments) = Called name constants.items (map expression_of arguments.items)

abbrev mutual
  pub equations_of : Body → Equations
  equations_of (All' _ bodies) = Together (bodies_of bodies)
  equations_of (Def names right) = Defines names.items (right_side_of right)
  equations_of (Same operands) = Equal (map expression_of operands.items)

  pub bodies_of : {m : _} → Row_of-Body m → Bodies
  bodies_of end_of-Body = no_body
  bodies_of (more_of-Body body rest) = more_bodies (equations_of body) (bodies_of rest)

abbrev pub heading_of : Name → List Group → List Group → List Group → Heading
heading_of name params inputs outputs = record {
  name = name;
  params = map declared_of params;
  inputs = map declared_of inputs;
  outputs = map declared_of outputs;
}

abbrev mutual
  pub model_of : Process → ProcessModel
  model_of (Process' name params inputs outputs run_on body locals _ inner) = Modelled (heading_of name params.items inputs.items outputs.items) (map placement_of run_on.items) (equations_of body) (map declared_of locals.items) (models_of inner)

  pub models_of : {m : _} → Row_of-Process m → ProcessModels
  models_of end_of-Process = no_model
  models_of (more_of-Process process rest) = more_models (model_of process) (models_of rest)

-- the processes of a program, in the order of the text
abbrev pub program_of : Program → List ProcessModel
program_of program = map model_of program.processes.items
