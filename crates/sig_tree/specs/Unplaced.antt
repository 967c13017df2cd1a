-- Trees and leaves with their places left out: each stands at 1:1.
use Rattle.sig_tree.specs.Prelude.{List, map, Option, None, Some, Span}
use Rattle.sig_tree.specs.declared.expr.Name.{Name}
use Rattle.sig_tree.specs.declared.expr.Constant.{Constant}
use Rattle.sig_tree.specs.declared.expr.Constant.TheVariants.{Int, Bool, Param}
use Rattle.sig_tree.specs.declared.process.Item.{Item}
use Rattle.sig_tree.specs.Syntax.{Expression, Named, Number, Truth, Unary, Binary, Delay, Cell, Declared, Placement, RightSide, Computed, Called, Equations, Together, Defines, Equal, Bodies, no_body, more_bodies, Heading, ProcessModel, Modelled, ProcessModels, no_model, more_models}
use Rattle.sig_tree.specs.Terminals.{Leaf, leaf}

abbrev pub no_place : Span
no_place = record { line = 1; col = 1 }

abbrev pub unplaced_leaf : Leaf → Leaf
unplaced_leaf l = leaf l.terminal no_place

abbrev pub unplaced_leaves : List Leaf → List Leaf
unplaced_leaves leaves = map unplaced_leaf leaves

abbrev pub unplaced_name : Name → Name
unplaced_name n = record { text = n.text; at = no_place }

abbrev pub unplaced_constant : Constant → Constant
unplaced_constant (Int value at) = Int value no_place
unplaced_constant (Bool holds at) = Bool holds no_place
unplaced_constant (Param n) = Param (unplaced_name n)

abbrev pub unplaced_init : Option Constant → Option Constant
unplaced_init None = None
unplaced_init (Some constant) = Some (unplaced_constant constant)

abbrev pub unplaced_expression : Expression → Expression
unplaced_expression (Named n) = Named (unplaced_name n)
unplaced_expression (Number value at) = Number value no_place
unplaced_expression (Truth holds at) = Truth holds no_place
unplaced_expression (Unary op operand at) = Unary op (unplaced_expression operand) no_place
unplaced_expression (Binary op left right at) = Binary op (unplaced_expression left) (unplaced_expression right) no_place
unplaced_expression (Delay operand init at) = Delay (unplaced_expression operand) (unplaced_init init) no_place
unplaced_expression (Cell operand held init at) = Cell (unplaced_expression operand) (unplaced_expression held) (unplaced_constant init) no_place

abbrev pub unplaced_item : Item → Item
unplaced_item item = record { name = unplaced_name item.name; init = unplaced_init item.init }

abbrev pub unplaced_declared : Declared → Declared
unplaced_declared group = record { kind = group.kind; items = map unplaced_item group.items }

abbrev pub unplaced_placement : Placement → Placement
unplaced_placement pragma = record { names = map unplaced_name pragma.names; label = pragma.label; at = no_place }

abbrev pub unplaced_right : RightSide → RightSide
unplaced_right (Computed e) = Computed (unplaced_expression e)
unplaced_right (Called n constants arguments) = Called (unplaced_name n) (map unplaced_constant constants) (map unplaced_expression arguments)

abbrev mutual
  pub unplaced_equations : Equations → Equations
  unplaced_equations (Together bodies) = Together (unplaced_bodies bodies)
  unplaced_equations (Defines names right) = Defines (map unplaced_name names) (unplaced_right right)
  unplaced_equations (Equal operands) = Equal (map unplaced_expression operands)

  pub unplaced_bodies : Bodies → Bodies
  unplaced_bodies no_body = no_body
  unplaced_bodies (more_bodies body rest) = more_bodies (unplaced_equations body) (unplaced_bodies rest)

abbrev pub unplaced_heading : Heading → Heading
unplaced_heading heading = record {
  name = unplaced_name heading.name;
  params = map unplaced_declared heading.params;
  inputs = map unplaced_declared heading.inputs;
  outputs = map unplaced_declared heading.outputs;
}

abbrev mutual
  pub unplaced_model : ProcessModel → ProcessModel
  unplaced_model (Modelled heading pragmas body locals inner) = Modelled (unplaced_heading heading) (map unplaced_placement pragmas) (unplaced_equations body) (map unplaced_declared locals) (unplaced_models inner)

  pub unplaced_models : ProcessModels → ProcessModels
  unplaced_models no_model = no_model
  unplaced_models (more_models model rest) = more_models (unplaced_model model) (unplaced_models rest)

abbrev pub unplaced : List ProcessModel → List ProcessModel
unplaced processes = map unplaced_model processes
