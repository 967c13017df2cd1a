-- Flat bodies as contracts see them: the trees of the code, without where they lie in memory.
use Rattle.sig_tree.specs.Prelude.{ℕ, ℤ, List, map, Span, Kind, Signal}
use Rattle.sig_tree.specs.declared.expr.UnOp.{UnOp}
use Rattle.sig_tree.specs.declared.expr.BinOp.{BinOp}
use Rattle.sig_tree.specs.declared.flat.FlatExpr.{FlatExpr, Sig as SigExpr, Const as ConstExpr, Unary', Binary', Delay', Cell'}
use Rattle.sig_tree.specs.declared.flat.FlatEq.{FlatEq}
use Rattle.sig_tree.specs.declared.flat.FlatEq.TheVariants.{Def, Same}
use Rattle.sig_tree.specs.declared.flat.Flat.{Flat}

-- an expression over the numbers of signals
pub data FlatExpression : Type 0 where
  Sig : ℕ → Span → FlatExpression
  Const : ℤ → Kind → Span → FlatExpression
  Unary : UnOp → FlatExpression → Span → FlatExpression
  Binary : BinOp → FlatExpression → FlatExpression → Span → FlatExpression
  Delay : FlatExpression → ℤ → Span → FlatExpression
  Cell : FlatExpression → FlatExpression → ℤ → Span → FlatExpression

-- the definition of a signal, or a clock equation, with the prefix of its copy
pub data FlatEquation : Type 0 where
  Defines : ℕ → FlatExpression → List ℕ → FlatEquation
  Equal : List FlatExpression → List ℕ → FlatEquation

-- a flat body
pub record FlatBody : Type 0 where
  pub signals : List Signal
  pub inputs : ℕ
  pub outputs : ℕ
  pub equations : List FlatEquation

abbrev pub flat_expression_of : FlatExpr → FlatExpression
flat_expression_of (SigExpr signal at) = Sig signal.0 at
flat_expression_of (ConstExpr value kind at) = Const value kind at
flat_expression_of (Unary' op _ operand at) = Unary op (flat_expression_of operand) at
flat_expression_of (Binary' op _ left _ right at) = Binary op (flat_expression_of left) (flat_expression_of right) at
flat_expression_of (Delay' _ operand init at) = Delay (flat_expression_of operand) init at
flat_expression_of (Cell' _ operand _ held init at) = Cell (flat_expression_of operand) (flat_expression_of held) init at

abbrev pub flat_equation_of : FlatEq → FlatEquation
flat_equation_of (Def signal e prefix) = Defines signal.0 (flat_expression_of e) prefix
flat_equation_of (Same operands prefix) = Equal (map flat_expression_of operands.items) prefix

abbrev pub flat_body_of : Flat → FlatBody
flat_body_of flat = record {
  signals = flat.signals.items;
  inputs = flat.inputs;
  outputs = flat.outputs;
  equations = map flat_equation_of flat.body.items;
}
