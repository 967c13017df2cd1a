-- The flat body of a program: the body of its first process after every call is replaced by the body of what
-- it calls. The calls are numbered from 1 as they are met, a call before those inside the called body.
use Rattle.std.specs.Prelude.{◌≡◌, ◌+◌, ◌++◌, ◌∷◌, if◌then◌else◌}
use Rattle.sig_tree.specs.Prelude.{ℕ, zero, suc, ℤ, pos, neg_ℤ, Bool, true, false, List, [], map, length, find, zip, Option, None, Some, unwrap_or, option_map, option_and_then, codes, decimal, bytes_eq, Kind, Integer, Boolean, Span, Signal}
use Rattle.sig_tree.specs.declared.expr.Name.{Name}
use Rattle.sig_tree.specs.declared.expr.Constant.{Constant}
use Rattle.sig_tree.specs.declared.expr.Constant.TheVariants.{Int, Bool as Truthful, Param}
use Rattle.sig_tree.specs.declared.expr.UnOp.{UnOp}
use Rattle.sig_tree.specs.declared.expr.UnOp.TheVariants.{Neg}
use Rattle.sig_tree.specs.Syntax.{Expression, Named, Number, Truth, Unary as UnaryForm, Binary as BinaryForm, Delay as DelayForm, Cell as CellForm, Placement, Computed, Called, Equations, Defines as DefinesNames, Equal as EqualForms, ProcessModel}
use Rattle.sig_tree.specs.FlatSyntax.{FlatExpression, Sig, Const, Unary, Binary, Delay, Cell, FlatEquation, Defines, Equal, FlatBody}
use Rattle.sig_tree.specs.Declarations.{Declaration, params_of, inputs_of, outputs_of, locals_of, declarations, declaration_of, process_of, all_processes, pragmas_of_model, equations_of_model}
use Rattle.sig_tree.specs.Rules.{number_of}

-- what a name stands for in a copy of a process: the signal of a number, or a constant
pub data Binding : Type 0 where
  BoundSignal : ℕ → Binding
  BoundConstant : ℤ → Kind → Binding

-- a copy of a process: the prefix of its signals' names, the process, and what its names stand for
pub record Copy : Type 0 where
  pub prefix : List ℕ
  pub process : ProcessModel
  pub bindings : List (List ℕ × Binding)

-- how far the expansion is: the calls so far, and the signals so far, by their numbers
pub record Progress : Type 0 where
  pub calls : ℕ
  pub signals : List Signal

-- what a name stands for
abbrev pub binding_of : Copy → List ℕ → Option Binding
binding_of copy text = option_map (λ b. b.1) (find (λ b. bytes_eq b.0 text) copy.bindings)

-- the number of a signal's name, and the value of a constant's
abbrev pub signal_bound : Option Binding → ℕ
signal_bound None = 0
signal_bound (Some (BoundSignal number)) = number
signal_bound (Some (BoundConstant value kind)) = 0

abbrev pub signal_of : Copy → Name → ℕ
signal_of copy name = signal_bound (binding_of copy name.text)

abbrev pub value_bound : Option Binding → ℤ
value_bound None = pos 0
value_bound (Some (BoundSignal number)) = pos 0
value_bound (Some (BoundConstant value kind)) = value

-- a truth as a value
abbrev pub truth_value : Bool → ℤ
truth_value truth = if truth then pos 1 else pos 0

-- the value of a constant; a missing init has none, which no well-formed program asks for
abbrev pub value_of : Copy → Constant → ℤ
value_of copy (Int value at) = value
value_of copy (Truthful truth at) = truth_value truth
value_of copy (Param name) = value_bound (binding_of copy name.text)

abbrev pub init_value : Copy → Option Constant → ℤ
init_value copy None = pos 0
init_value copy (Some init) = value_of copy init

-- the init with which a name is declared
abbrev pub declared_init : Copy → Name → Option Constant
declared_init copy name = option_and_then (λ d. d.init) (declaration_of (declarations copy.process) name.text)

-- a name where it stands in an expression
abbrev pub flat_name : Option Binding → Span → FlatExpression
flat_name None at = Sig 0 at
flat_name (Some (BoundSignal number)) at = Sig number at
flat_name (Some (BoundConstant value kind)) at = Const value kind at

-- an operator before its operand; `-` directly on a number is a constant
abbrev pub flat_unary : UnOp → Expression → FlatExpression → Span → FlatExpression
flat_unary Neg (Number value number_at) flat at = Const (neg_ℤ (pos value)) Integer at
flat_unary op operand flat at = Unary op flat at

-- an expression with its names replaced
abbrev pub flat_of : Copy → Expression → FlatExpression
flat_of copy (Named name) = flat_name (binding_of copy name.text) name.at
flat_of copy (Number value at) = Const (pos value) Integer at
flat_of copy (Truth truth at) = Const (truth_value truth) Boolean at
flat_of copy (UnaryForm op operand at) = flat_unary op operand (flat_of copy operand) at
flat_of copy (BinaryForm op left right at) = Binary op (flat_of copy left) (flat_of copy right) at
flat_of copy (DelayForm operand init at) = Delay (flat_of copy operand) (init_value copy init) at
flat_of copy (CellForm operand held init at) = Cell (flat_of copy operand) (flat_of copy held) (value_of copy init) at

-- a whole right side: a delay without an init has the one with which the left side is declared
abbrev pub flat_right : Copy → Name → Expression → FlatExpression
flat_right copy left (DelayForm operand None at) = Delay (flat_of copy operand) (init_value copy (declared_init copy left)) at
flat_right copy left e = flat_of copy e

-- the signals that a process declares, in the order of their numbers
abbrev pub signals_declared : ProcessModel → List Declaration
signals_declared p = inputs_of p ++ (outputs_of p ++ locals_of p)

-- whether a name is among some
abbrev pub is_named : List ℕ → List Name → Bool
is_named text [] = false
is_named text (name ∷ names) = if bytes_eq name.text text then true else is_named text names

-- the cluster of a name by the pragmas, or else the one given
abbrev pub cluster_of : ℕ → List Placement → List ℕ → ℕ
cluster_of other pragmas text = unwrap_or (option_map (λ pragma. number_of pragma.label) (find (λ pragma. is_named text pragma.names) pragmas)) other

-- the signals of a copy, each named by the prefix and its declared name
abbrev pub copied_signals : (prefix : List ℕ) → (cluster : ℕ) → ProcessModel → List Signal
copied_signals prefix cluster p = map (λ d. record {
  name = prefix ++ d.name.text;
  kind = d.kind;
  cluster = cluster_of cluster (pragmas_of_model p) d.name.text;
  at = d.name.at;
}) (signals_declared p)

-- what the names of a copy stand for: constants, and signals numbered from `base`
abbrev pub bound_from : ℕ → List Declaration → List (List ℕ × Binding)
bound_from base [] = []
bound_from base (d ∷ ds) = (d.name.text, BoundSignal base) ∷ bound_from (suc base) ds

abbrev pub bound_constants : List Declaration → List ℤ → List (List ℕ × Binding)
bound_constants params values = map (λ both. (both.0.name.text, BoundConstant both.1 both.0.kind)) (zip params values)

abbrev pub copy_of : (prefix : List ℕ) → (base : ℕ) → (constants : List ℤ) → ProcessModel → Copy
copy_of prefix base constants p = record {
  prefix = prefix;
  process = p;
  bindings = bound_constants (params_of p) constants ++ bound_from base (signals_declared p);
}

-- the prefix of the copy that a call makes: `Q#n.`
abbrev pub copy_prefix : Name → ℕ → List ℕ
copy_prefix name number = name.text ++ (codes "#" ++ (decimal number ++ codes "."))

-- one definition for each copied input, by its argument, and one for each left side, by its copied output
abbrev pub inputs_defined : Copy → ℕ → List Expression → List FlatEquation
inputs_defined copy base [] = []
inputs_defined copy base (argument ∷ arguments) = Defines base (flat_of copy argument) copy.prefix ∷ inputs_defined copy (suc base) arguments

abbrev pub outputs_defined : Copy → List Name → ℕ → List FlatEquation
outputs_defined copy [] output = []
outputs_defined copy (name ∷ names) output = Defines (signal_of copy name) (Sig output name.at) copy.prefix ∷ outputs_defined copy names (suc output)

-- the cluster of the signal of a number
abbrev pub cluster_at : List Signal → ℕ → ℕ
cluster_at [] number = 0
cluster_at (signal ∷ signals) zero = signal.cluster
cluster_at (signal ∷ signals) (suc number) = cluster_at signals number

-- the cluster of a call's first left side
abbrev pub cluster_of_call : Copy → List Signal → List Name → ℕ
cluster_of_call copy signals [] = 0
cluster_of_call copy signals (name ∷ names) = cluster_at signals (signal_of copy name)

-- the progress behind the making of a copy's signals
abbrev pub with_copy : Copy → Progress → List Name → Name → ProcessModel → Progress
with_copy copy before names name called = record {
  calls = suc before.calls;
  signals = before.signals ++ copied_signals (copy_prefix name (suc before.calls)) (cluster_of_call copy before.signals names) called;
}

-- the copy that a call makes
abbrev pub called_copy : Copy → Progress → Name → List Constant → ProcessModel → Copy
called_copy copy before name constants called =
    copy_of (copy_prefix name (suc before.calls)) (length before.signals) (map (value_of copy) constants) called

-- equations of a copy, and the flat equations that stand in their place, from one progress to another
pub data Expands (all : List ProcessModel) : Copy → List Equations → (before after : Progress) → List FlatEquation → Type 0 where
  Ended : {copy : Copy} {before : Progress} → Expands all copy [] before before []
  Defined : {copy : Copy} {before after : Progress} {rest : List Equations} {flat : List FlatEquation} (name : Name) (e : Expression)
      → Expands all copy rest before after flat
      → Expands all copy (DefinesNames (name ∷ []) (Computed e) ∷ rest) before after (Defines (signal_of copy name) (flat_right copy name e) copy.prefix ∷ flat)
  Equated : {copy : Copy} {before after : Progress} {rest : List Equations} {flat : List FlatEquation} (operands : List Expression)
      → Expands all copy rest before after flat
      → Expands all copy (EqualForms operands ∷ rest) before after (Equal (map (flat_of copy) operands) copy.prefix ∷ flat)
  Expanded : {copy : Copy} {before inside after : Progress} {rest : List Equations} {body flat : List FlatEquation}
      (names : List Name) (name : Name) (constants : List Constant) (arguments : List Expression) (called : ProcessModel)
      → process_of all name.text ≡ Some called
      → Expands all (called_copy copy before name constants called) (equations_of_model called) (with_copy copy before names name called) inside body
      → Expands all copy rest inside after flat
      → Expands all copy (DefinesNames names (Called name constants arguments) ∷ rest) before after
      (inputs_defined copy (length before.signals) arguments
      ++ (body ++ (outputs_defined copy names (length before.signals + length (inputs_of called)) ++ flat)))

-- the first process, before its body is expanded: its own signals, in cluster 0 where no pragma names them
abbrev pub first_copy : ProcessModel → Copy
first_copy p = copy_of [] 0 [] p

abbrev pub first_progress : ProcessModel → Progress
first_progress p = record { calls = 0; signals = copied_signals [] 0 p }

-- the flat body of a program, and how many signals it needs: those of the first process and of all copies
abbrev pub IsFlatBody : List ProcessModel → FlatBody → Type 0
IsFlatBody [] flat = ⊥
IsFlatBody (p ∷ ps) flat = (after : Progress) × (equations : List FlatEquation)
    × Expands (all_processes (p ∷ ps)) (first_copy p) (equations_of_model p) (first_progress p) after equations
    × (flat ≡ record { signals = after.signals; inputs = length (inputs_of p); outputs = length (outputs_of p); equations = equations })
