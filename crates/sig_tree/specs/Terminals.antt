-- The terminals of the grammar: what the tokens of a program say, without blanks and comments.
use Rattle.std.specs.Prelude.{if◌then◌else◌}
use Rattle.sig_tree.specs.Prelude.{ℕ, Bool, List, codes, Span, Kind, Integer, Boolean, Event}
use Rattle.sig_tree.specs.declared.expr.Name.{Name}
use Rattle.sig_tree.specs.declared.expr.UnOp.{UnOp}
use Rattle.sig_tree.specs.declared.expr.UnOp.TheVariants.{Not, Neg, When as UnaryWhen, Clock}
use Rattle.sig_tree.specs.declared.expr.BinOp.{BinOp}
use Rattle.sig_tree.specs.declared.expr.BinOp.TheVariants.{Default, When, Plus, Meet, Less, Or, Xor, And, Eq, Ne, Lt, Le, Gt, Ge, Add, Sub, Mul, Div, Mod}

-- a name, a reserved word, a number with its value, a label without its quotes, a mark
pub data Terminal : Type 0 where
  name : List ℕ → Terminal
  word : List ℕ → Terminal
  number : ℕ → Terminal
  label : List ℕ → Terminal
  mark : List ℕ → Terminal

-- a terminal where it stands in the text
pub record Leaf : Type 0 where
  pub terminal : Terminal
  pub at : Span

abbrev pub leaf : Terminal → Span → Leaf
leaf terminal at = record { terminal = terminal; at = at }

abbrev pub name_leaf : Name → Leaf
name_leaf n = leaf (name n.text) n.at

abbrev pub kind_word : Kind → Terminal
kind_word Integer = word (codes "integer")
kind_word Boolean = word (codes "boolean")
kind_word Event = word (codes "event")

abbrev pub truth_word : Bool → Terminal
truth_word truth = if truth then word (codes "true") else word (codes "false")

abbrev pub unary_terminal : UnOp → Terminal
unary_terminal Not = word (codes "not")
unary_terminal Neg = mark (codes "-")
unary_terminal UnaryWhen = word (codes "when")
unary_terminal Clock = mark (codes "^")

abbrev pub binary_terminal : BinOp → Terminal
binary_terminal Default = word (codes "default")
binary_terminal When = word (codes "when")
binary_terminal Plus = mark (codes "^+")
binary_terminal Meet = mark (codes "^*")
binary_terminal Less = mark (codes "^-")
binary_terminal Or = word (codes "or")
binary_terminal Xor = word (codes "xor")
binary_terminal And = word (codes "and")
binary_terminal Eq = mark (codes "=")
binary_terminal Ne = mark (codes "/=")
binary_terminal Lt = mark (codes "<")
binary_terminal Le = mark (codes "<=")
binary_terminal Gt = mark (codes ">")
binary_terminal Ge = mark (codes ">=")
binary_terminal Add = mark (codes "+")
binary_terminal Sub = mark (codes "-")
binary_terminal Mul = mark (codes "*")
binary_terminal Div = mark (codes "/")
binary_terminal Mod = word (codes "modulo")
