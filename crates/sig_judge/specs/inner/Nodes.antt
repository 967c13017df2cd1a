-- The expressions and equations that the judge keeps, as those of flat bodies. They keep no prefixes.
use Rattle.sig_judge.specs.Prelude.{[], map, Option, None, Some, FlatExpression, Sig, Const, Unary, Binary, Delay, Cell, FlatEquation, Defines, Equal}
use Rattle.sig_judge.specs.declared.equation.Equation.{Equation}
use Rattle.sig_judge.specs.declared.equation.Equation.TheVariants.{Defines as NodeDefines, Equal as NodeEqual}
use Rattle.sig_judge.specs.declared.node.Node.{Node, Sig as NodeSig, Const as NodeConst, Unary', Binary', Delay', Cell'}
use Rattle.sig_judge.specs.declared.operator.Found.{Found}
use Rattle.sig_judge.specs.declared.operator.Found.TheVariants.{Signal as FoundSignal, Constant as FoundConstant}
use Rattle.sig_judge.specs.declared.trace.Seen.{Seen}

abbrev pub node_expression : Node → FlatExpression
node_expression (NodeSig signal at) = Sig signal.0 at
node_expression (NodeConst value kind at) = Const value kind at
node_expression (Unary' op _ operand at) = Unary op (node_expression operand) at
node_expression (Binary' op _ left _ right at) = Binary op (node_expression left) (node_expression right) at
node_expression (Delay' _ operand memory at) = Delay (node_expression operand) memory.value at
node_expression (Cell' _ operand _ truth memory at) = Cell (node_expression operand) (node_expression truth) memory.value at

-- what a signal is, where a signal was found
abbrev pub signal_found : Option Found → Option Seen
signal_found None = None
signal_found (Some (FoundSignal seen)) = Some seen
signal_found (Some (FoundConstant c)) = None

-- an equation without the prefix of its copy, on which no meaning depends
abbrev pub without_prefix : FlatEquation → FlatEquation
without_prefix (Defines signal e prefix) = Defines signal e []
without_prefix (Equal operands prefix) = Equal operands []

abbrev pub equation_of : Equation → FlatEquation
equation_of (NodeDefines signal e) = Defines signal.0 (node_expression e) []
equation_of (NodeEqual operands) = Equal (map node_expression operands.items) []
