-- What a program's processes declare and use, in the order of the text.
use Rattle.std.specs.Prelude.{◌∷◌, ◌++◌}
use Rattle.sig_tree.specs.Prelude.{ℕ, List, [], map, flat_map, find, Option, None, Some, bytes_eq, Kind}
use Rattle.sig_tree.specs.declared.expr.Name.{Name}
use Rattle.sig_tree.specs.declared.expr.Constant.{Constant}
use Rattle.sig_tree.specs.declared.expr.Constant.TheVariants.{Int, Bool as Truthful, Param}
use Rattle.sig_tree.specs.Syntax.{Expression, Named, Number, Truth, Unary, Binary, Delay, Cell, Declared, Placement, RightSide, Computed, Called, Equations, Together, Defines, Equal, Bodies, no_body, more_bodies, Heading, ProcessModel, Modelled, ProcessModels, no_model, more_models}

-- each element with those before it
abbrev pub behind : {A : Type 0} → List A → List A → List (List A × A)
behind earlier [] = []
behind earlier (x ∷ xs) = (earlier, x) ∷ behind (earlier ++ x ∷ []) xs

abbrev pub with_earlier : {A : Type 0} → List A → List (List A × A)
with_earlier xs = behind [] xs

-- what a name is declared as
pub data Role : Type 0 where
  Parameter : Role
  Input : Role
  Output : Role
  Local : Role

pub record Declaration : Type 0 where
  pub name : Name
  pub kind : Kind
  pub role : Role
  pub init : Option Constant

abbrev pub declared_as : Role → List Declared → List Declaration
declared_as role groups = flat_map (λ group. map (λ item. record { name = item.name; kind = group.kind; role = role; init = item.init }) group.items) groups

abbrev pub heading_of_model : ProcessModel → Heading
heading_of_model (Modelled heading pragmas body locals inner) = heading

abbrev pub pragmas_of_model : ProcessModel → List Placement
pragmas_of_model (Modelled heading pragmas body locals inner) = pragmas

abbrev pub body_of_model : ProcessModel → Equations
body_of_model (Modelled heading pragmas body locals inner) = body

abbrev pub locals_of_model : ProcessModel → List Declared
locals_of_model (Modelled heading pragmas body locals inner) = locals

-- a process's parameters, inputs, outputs and locals
abbrev pub params_of : ProcessModel → List Declaration
params_of p = declared_as Parameter (heading_of_model p).params

abbrev pub inputs_of : ProcessModel → List Declaration
inputs_of p = declared_as Input (heading_of_model p).inputs

abbrev pub outputs_of : ProcessModel → List Declaration
outputs_of p = declared_as Output (heading_of_model p).outputs

abbrev pub locals_of : ProcessModel → List Declaration
locals_of p = declared_as Local (locals_of_model p)

-- all that a process declares
abbrev pub declarations : ProcessModel → List Declaration
declarations p = params_of p ++ (inputs_of p ++ (outputs_of p ++ locals_of p))

-- the name of a process
abbrev pub name_of : ProcessModel → Name
name_of p = (heading_of_model p).name

-- the processes of a text in the order of their keyword `process`: each before those inside it
abbrev mutual
  pub with_inner : ProcessModel → List ProcessModel
  with_inner (Modelled heading pragmas body locals inner) = Modelled heading pragmas body locals inner ∷ those_inner inner

  pub those_inner : ProcessModels → List ProcessModel
  those_inner no_model = []
  those_inner (more_models process rest) = with_inner process ++ those_inner rest

abbrev pub all_processes : List ProcessModel → List ProcessModel
all_processes processes = flat_map with_inner processes

-- the first declaration of a name, and the first process of a name
abbrev pub declaration_of : List Declaration → List ℕ → Option Declaration
declaration_of declared text = find (λ d. bytes_eq d.name.text text) declared

abbrev pub process_of : List ProcessModel → List ℕ → Option ProcessModel
process_of processes text = find (λ p. bytes_eq (name_of p).text text) processes

-- the names of a list stand for their texts
abbrev pub texts : List Name → List (List ℕ)
texts names = map (λ name. name.text) names

-- the definitions and clock equations of a body
abbrev mutual
  pub equations_in : Equations → List Equations
  equations_in (Together bodies) = equations_inside bodies
  equations_in (Defines names right) = Defines names right ∷ []
  equations_in (Equal operands) = Equal operands ∷ []

  pub equations_inside : Bodies → List Equations
  equations_inside no_body = []
  equations_inside (more_bodies body rest) = equations_in body ++ equations_inside rest

abbrev pub equations_of_model : ProcessModel → List Equations
equations_of_model p = equations_in (body_of_model p)

-- the left sides of an equation, and of a process
abbrev pub left_sides : Equations → List Name
left_sides (Together bodies) = []
left_sides (Defines names right) = names
left_sides (Equal operands) = []

abbrev pub left_sides_of : ProcessModel → List Name
left_sides_of p = flat_map left_sides (equations_of_model p)

-- the names that constants and expressions use
abbrev pub names_of_constant : Constant → List Name
names_of_constant (Int value at) = []
names_of_constant (Truthful truth at) = []
names_of_constant (Param name) = name ∷ []

abbrev pub names_of_init : Option Constant → List Name
names_of_init None = []
names_of_init (Some constant) = names_of_constant constant

abbrev pub names_of_expression : Expression → List Name
names_of_expression (Named name) = name ∷ []
names_of_expression (Number value at) = []
names_of_expression (Truth truth at) = []
names_of_expression (Unary op operand at) = names_of_expression operand
names_of_expression (Binary op left right at) = names_of_expression left ++ names_of_expression right
names_of_expression (Delay operand init at) = names_of_expression operand ++ names_of_init init
names_of_expression (Cell operand held init at) = names_of_expression operand ++ (names_of_expression held ++ names_of_constant init)

-- a use of a name: for a signal or a parameter, or for a process that is called
pub data Use : Type 0 where
  OfSignal : Name → Use
  OfProcess : Name → Use

abbrev pub signals_used : List Name → List Use
signals_used names = map OfSignal names

abbrev pub uses_of_right : RightSide → List Use
uses_of_right (Computed e) = signals_used (names_of_expression e)
uses_of_right (Called name constants arguments) = OfProcess name ∷ signals_used (flat_map names_of_constant constants ++ flat_map names_of_expression arguments)

abbrev pub uses_of_equation : Equations → List Use
uses_of_equation (Together bodies) = []
uses_of_equation (Defines names right) = signals_used names ++ uses_of_right right
uses_of_equation (Equal operands) = signals_used (flat_map names_of_expression operands)

abbrev pub uses_of_inits : List Declaration → List Use
uses_of_inits declared = signals_used (flat_map (λ d. names_of_init d.init) declared)

-- all uses in a process: the inits of its interface, its body, the inits of its locals
abbrev pub uses_of : ProcessModel → List Use
uses_of p = uses_of_inits (outputs_of p) ++ (flat_map uses_of_equation (equations_of_model p) ++ uses_of_inits (locals_of p))

-- the names of the processes that are called
abbrev pub called_in : Equations → List Name
called_in (Together bodies) = []
called_in (Defines names (Computed e)) = []
called_in (Defines names (Called name constants arguments)) = name ∷ []
called_in (Equal operands) = []

abbrev pub called_by : ProcessModel → List Name
called_by p = flat_map called_in (equations_of_model p)
