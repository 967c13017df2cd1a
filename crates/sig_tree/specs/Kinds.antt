-- The kinds of expressions, by one table of their forms. "Truth" means boolean or event.
use Rattle.std.specs.Prelude.{◌≡◌, ◌⊎◌, ◌&&◌, ◌||◌, if◌then◌else◌}
use Rattle.sig_tree.specs.Prelude.{ℕ, Bool, true, false, List, Option, None, Some, option_map, Kind, Integer, Boolean, Event}
use Rattle.sig_tree.specs.declared.expr.Constant.{Constant}
use Rattle.sig_tree.specs.declared.expr.Constant.TheVariants.{Int, Bool as Truthful, Param}
use Rattle.sig_tree.specs.declared.expr.UnOp.{UnOp}
use Rattle.sig_tree.specs.declared.expr.UnOp.TheVariants.{Not, Neg, When as UnaryWhen, Clock}
use Rattle.sig_tree.specs.declared.expr.BinOp.{BinOp}
use Rattle.sig_tree.specs.declared.expr.BinOp.TheVariants.{Default, When, Plus, Meet, Less, Or, Xor, And, Eq, Ne, Lt, Le, Gt, Ge, Add, Sub, Mul, Div, Mod}
use Rattle.sig_tree.specs.Syntax.{Expression, Named, Number, Truth, Unary, Binary, Delay, Cell}
use Rattle.sig_tree.specs.Declarations.{Declaration, Parameter, Input, Output, Local, declaration_of}

-- what the kinds of a form's operands must be
pub data OperandRule : Type 0 where
  Integers : OperandRule
  Truths : OperandRule
  -- both integer, or both truth
  Alike : OperandRule
  -- any, and then a truth
  AnyThenTruth : OperandRule
  Any : OperandRule

-- the kind of a form
pub data ResultRule : Type 0 where
  Always : Kind → ResultRule
  -- that of the first operand
  OfFirst : ResultRule
  -- that of the first operand, but boolean for an event
  Stored : ResultRule
  -- integer; event where both operands are; else boolean
  Merged : ResultRule

-- which of a form's operands may be constants
pub data ConstantRule : Type 0 where
  NoConstant : ConstantRule
  OneConstant : ConstantRule
  FirstConstant : ConstantRule

pub record FormRow : Type 0 where
  pub operands : OperandRule
  pub result : ResultRule
  pub constants : ConstantRule

abbrev pub row : OperandRule → ResultRule → ConstantRule → FormRow
row operands result constants = record { operands = operands; result = result; constants = constants }

-- the table
abbrev pub unary_row : UnOp → FormRow
unary_row Not = row Truths (Always Boolean) NoConstant
unary_row Neg = row Integers (Always Integer) NoConstant
unary_row UnaryWhen = row Truths (Always Event) NoConstant
unary_row Clock = row Any (Always Event) NoConstant

abbrev pub binary_row : BinOp → FormRow
binary_row Default = row Alike Merged NoConstant
binary_row When = row AnyThenTruth OfFirst FirstConstant
binary_row Plus = row Any (Always Event) NoConstant
binary_row Meet = row Any (Always Event) NoConstant
binary_row Less = row Any (Always Event) NoConstant
binary_row Or = row Truths (Always Boolean) OneConstant
binary_row Xor = row Truths (Always Boolean) OneConstant
binary_row And = row Truths (Always Boolean) OneConstant
binary_row Eq = row Alike (Always Boolean) OneConstant
binary_row Ne = row Alike (Always Boolean) OneConstant
binary_row Lt = row Integers (Always Boolean) OneConstant
binary_row Le = row Integers (Always Boolean) OneConstant
binary_row Gt = row Integers (Always Boolean) OneConstant
binary_row Ge = row Integers (Always Boolean) OneConstant
binary_row Add = row Integers (Always Integer) OneConstant
binary_row Sub = row Integers (Always Integer) OneConstant
binary_row Mul = row Integers (Always Integer) OneConstant
binary_row Div = row Integers (Always Integer) OneConstant
binary_row Mod = row Integers (Always Integer) OneConstant

abbrev pub delay_row : FormRow
delay_row = row Any Stored NoConstant

abbrev pub cell_row : FormRow
cell_row = row AnyThenTruth Stored NoConstant

-- whether a kind is integer, and whether it is a truth
abbrev pub is_integer : Kind → Bool
is_integer Integer = true
is_integer Boolean = false
is_integer Event = false

abbrev pub is_truth : Kind → Bool
is_truth Integer = false
is_truth Boolean = true
is_truth Event = true

-- boolean for an event: the kind of what is kept, and of an init
abbrev pub stored : Kind → Kind
stored Integer = Integer
stored Boolean = Boolean
stored Event = Boolean

abbrev pub merged : Kind → Kind → Kind
merged Event Event = Event
merged Integer kind = Integer
merged Boolean kind = Boolean
merged Event Integer = Boolean
merged Event Boolean = Boolean

-- whether a rule accepts the kinds of a form's operands, of which there are one or two
abbrev pub accepts : OperandRule → Kind → Option Kind → Bool
accepts Integers first None = is_integer first
accepts Integers first (Some second) = is_integer first && is_integer second
accepts Truths first None = is_truth first
accepts Truths first (Some second) = is_truth first && is_truth second
accepts Alike first None = true
accepts Alike first (Some second) = (is_integer first && is_integer second) || (is_truth first && is_truth second)
accepts AnyThenTruth first None = true
accepts AnyThenTruth first (Some second) = is_truth second
accepts Any first second = true

-- the kind of a form whose operands are accepted
abbrev pub kind_of_result : ResultRule → Kind → Option Kind → Kind
kind_of_result (Always kind) first second = kind
kind_of_result OfFirst first second = first
kind_of_result Stored first second = stored first
kind_of_result Merged first None = first
kind_of_result Merged first (Some second) = merged first second

-- The kind of a form with one operand or two. It has none where an operand has none, or where the rule on
-- its operands fails.
abbrev pub unary_kind : FormRow → Option Kind → Option Kind
unary_kind form None = None
unary_kind form (Some first) = if accepts form.operands first None then Some (kind_of_result form.result first None) else None

abbrev pub binary_kind : FormRow → Option Kind → Option Kind → Option Kind
binary_kind form None second = None
binary_kind form (Some first) None = None
binary_kind form (Some first) (Some second) = if accepts form.operands first (Some second) then Some (kind_of_result form.result first (Some second)) else None

-- the kind of a declared name
abbrev pub kind_of_name : List Declaration → List ℕ → Option Kind
kind_of_name declared text = option_map (λ d. d.kind) (declaration_of declared text)

-- the kind of an expression, where it has one
abbrev pub kind_of : List Declaration → Expression → Option Kind
kind_of declared (Named name) = kind_of_name declared name.text
kind_of declared (Number value at) = Some Integer
kind_of declared (Truth truth at) = Some Boolean
kind_of declared (Unary op operand at) = unary_kind (unary_row op) (kind_of declared operand)
kind_of declared (Binary op left right at) = binary_kind (binary_row op) (kind_of declared left) (kind_of declared right)
kind_of declared (Delay operand init at) = unary_kind delay_row (kind_of declared operand)
kind_of declared (Cell operand held init at) = binary_kind cell_row (kind_of declared operand) (kind_of declared held)

-- the kind of a parameter
abbrev pub kind_of_parameter : Declaration → Option Kind
kind_of_parameter d = elim d.role as (λ _. Option Kind) [ Parameter ↦ Some d.kind | Input ↦ None | Output ↦ None | Local ↦ None ]

abbrev pub parameter_kind : Option Declaration → Option Kind
parameter_kind None = None
parameter_kind (Some d) = kind_of_parameter d

-- the kind of a constant of a call or of an init; a signal's name is none
abbrev pub kind_of_constant : List Declaration → Constant → Option Kind
kind_of_constant declared (Int value at) = Some Integer
kind_of_constant declared (Truthful truth at) = Some Boolean
kind_of_constant declared (Param name) = parameter_kind (declaration_of declared name.text)

-- a signal of a kind may take what is of that kind, and a boolean signal an event too
abbrev pub Takes : Kind → Kind → Type 0
Takes wanted given = (given ≡ wanted) ⊎ ((wanted ≡ Boolean) × (given ≡ Event))

-- whether an expression is a constant: a number, `-` directly on a number, a truth, or a parameter
abbrev pub is_parameter : Option Kind → Bool
is_parameter None = false
is_parameter (Some kind) = true

abbrev pub is_number : Expression → Bool
is_number (Named name) = false
is_number (Number value at) = true
is_number (Truth truth at) = false
is_number (Unary op operand at) = false
is_number (Binary op left right at) = false
is_number (Delay operand init at) = false
is_number (Cell operand held init at) = false

abbrev pub is_negative_number : UnOp → Expression → Bool
is_negative_number Not operand = false
is_negative_number Neg operand = is_number operand
is_negative_number UnaryWhen operand = false
is_negative_number Clock operand = false

abbrev pub is_constant : List Declaration → Expression → Bool
is_constant declared (Named name) = is_parameter (parameter_kind (declaration_of declared name.text))
is_constant declared (Number value at) = true
is_constant declared (Truth truth at) = true
is_constant declared (Unary op operand at) = is_negative_number op operand
is_constant declared (Binary op left right at) = false
is_constant declared (Delay operand init at) = false
is_constant declared (Cell operand held init at) = false
