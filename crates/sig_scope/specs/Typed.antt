-- The kinds of a program's expressions.
use Rattle.std.specs.Prelude.{◌≡◌, ◌++◌, ◌∷◌}
use Rattle.sig_scope.specs.Prelude.{List, [], map, flat_map, Option, None, Some, Kind, Integer, Expression, Named, Number, Truth, Unary, Binary, Delay, Cell, Computed, Called, Equations, Together, Defines, Equal, ProcessModel, Declaration, declarations, equations_of_model, all_processes, kind_of}

-- an expression with those inside it, each before its operands
abbrev pub nodes : Expression → List Expression
nodes (Named name) = Named name ∷ []
nodes (Number value at) = Number value at ∷ []
nodes (Truth truth at) = Truth truth at ∷ []
nodes (Unary op operand at) = Unary op operand at ∷ nodes operand
nodes (Binary op left right at) = Binary op left right at ∷ (nodes left ++ nodes right)
nodes (Delay operand init at) = Delay operand init at ∷ nodes operand
nodes (Cell operand held init at) = Cell operand held init at ∷ (nodes operand ++ nodes held)

-- the whole expressions of an equation
abbrev pub expressions_of : Equations → List Expression
expressions_of (Together bodies) = []
expressions_of (Defines names (Computed e)) = e ∷ []
expressions_of (Defines names (Called name constants arguments)) = arguments
expressions_of (Equal operands) = operands

-- the kinds of expressions, and of those inside them, in a scope
abbrev pub kinds_in : List Declaration → List Expression → List (Option Kind)
kinds_in scope es = map (kind_of scope) (flat_map nodes es)

-- the kinds of a process's expressions
abbrev pub kinds_of_model : ProcessModel → List (Option Kind)
kinds_of_model p = kinds_in (declarations p) (flat_map expressions_of (equations_of_model p))

-- the kinds of a program's expressions, a process's before those of its inner processes
abbrev pub kinds_of_program : List ProcessModel → List (Option Kind)
kinds_of_program program = flat_map kinds_of_model (all_processes program)

-- these are the kinds of a program's expressions, of which each has one
abbrev pub AreKinds : List ProcessModel → List Kind → Type 0
AreKinds program kinds = map Some kinds ≡ kinds_of_program program

-- the kind of what has one
abbrev pub known : Option Kind → Kind
known (Some kind) = kind
known None = Integer
