-- The rules on a process by itself and among the others, one after another. Each lists what may be wrong
-- in the order of the text. `all` are the program's processes in the order of the text.
use Rattle.std.specs.Prelude.{◌≡◌, ◌≢◌, ◌⊎◌, ◌≤◌, ◌+◌, ◌*◌, ◌-◌, ◌++◌, ◌∷◌}
use Rattle.sig_tree.specs.Prelude.{ℕ, true, false, List, [], map, length, fold, zip, Option, None, Some, IsSome, Contains, Any, ⊤, AllByRecursion, Span, Kind}
use Rattle.sig_tree.specs.declared.expr.Name.{Name}
use Rattle.sig_tree.specs.declared.expr.Constant.{Constant}
use Rattle.sig_tree.specs.declared.expr.Constant.TheVariants.{Int, Bool as Truthful, Param}
use Rattle.sig_tree.specs.Syntax.{Expression, Named, Number, Truth, Unary, Binary, Delay, Cell, Placement, Computed, Called, Equations, Together, Defines, Equal, ProcessModel}
use Rattle.sig_tree.specs.Declarations.{with_earlier, behind, Parameter, Input, Declaration, params_of, inputs_of, outputs_of, locals_of, declarations, name_of, declaration_of, process_of, texts, equations_of_model, left_sides_of, Use, OfSignal, OfProcess, uses_of, called_by, pragmas_of_model}
use Rattle.sig_tree.specs.Kinds.{FormRow, ConstantRule, NoConstant, OneConstant, FirstConstant, unary_row, binary_row, delay_row, cell_row, accepts, unary_kind, kind_of_name, kind_of, kind_of_constant, Takes, is_constant, is_negative_number}
use Rattle.sig_tree.specs.Candidates.{Unknown, DeclaredTwice, InputDefined, DefinedTwice, Undefined, Clash, BareConstant, BadCall, Recursive, BadPragma, NoInit, Candidate, candidate, each}

-- 1. Unknown: a name is used that nothing declares, or a process is called that is not there.
abbrev pub unknown_use : List ProcessModel → List Declaration → Use → Candidate
unknown_use all declared (OfSignal name) = candidate (Unknown name) (declaration_of declared name.text ≡ None)
unknown_use all declared (OfProcess name) = candidate (Unknown name) (process_of all name.text ≡ None)

abbrev pub unknown_names : List ProcessModel → ProcessModel → List Candidate
unknown_names all p = each (λ used. unknown_use all (declarations p) used ∷ []) (uses_of p)

-- 2. DeclaredTwice: a name is declared before in the process; the process's name is that of an earlier process.
abbrev pub declared_twice : List ProcessModel → ProcessModel → List Candidate
declared_twice before p = candidate (DeclaredTwice (name_of p)) (Contains (texts (map name_of before)) (name_of p).text)
    ∷ each (λ d. candidate (DeclaredTwice d.1) (Contains (texts d.0) d.1.text) ∷ []) (with_earlier (map (λ d. d.name) (declarations p)))

-- 3. InputDefined: a left side is an input or a parameter.
abbrev pub IsGiven : Option Declaration → Type 0
IsGiven None = ⊥
IsGiven (Some d) = (d.role ≡ Input) ⊎ (d.role ≡ Parameter)

abbrev pub inputs_defined : ProcessModel → List Candidate
inputs_defined p = each (λ name. candidate (InputDefined name) (IsGiven (declaration_of (declarations p) name.text)) ∷ []) (left_sides_of p)

-- 4. DefinedTwice: a left side is defined before.
abbrev pub defined_twice : ProcessModel → List Candidate
defined_twice p = each (λ name. candidate (DefinedTwice name.1) (Contains (texts name.0) name.1.text) ∷ []) (with_earlier (left_sides_of p))

-- 5. Undefined: an output or a local has no definition.
abbrev pub undefined : ProcessModel → List Candidate
undefined p = each (λ d. candidate (Undefined d.name) (Contains (texts (left_sides_of p)) d.name.text → ⊥) ∷ []) (outputs_of p ++ locals_of p)

-- 6. Clash: a rule on kinds fails.
abbrev pub place_of_constant : Constant → Span
place_of_constant (Int value at) = at
place_of_constant (Truthful truth at) = at
place_of_constant (Param name) = name.at

-- a constant that is a signal's name, or whose kind is not the one that is wanted, where one is
abbrev pub IsUnfit : List Declaration → Option Kind → Constant → Type 0
IsUnfit declared wanted constant = (kind_of_constant declared constant ≡ None)
    ⊎ ((kind : Kind) × (wanted ≡ Some kind) × (kind_of_constant declared constant ≢ Some kind))

abbrev pub clash_of_constant : List Declaration → Option Kind → Constant → Candidate
clash_of_constant declared wanted constant = candidate (Clash (place_of_constant constant)) (IsUnfit declared wanted constant)

-- an init of what has a kind
abbrev pub clash_of_init : List Declaration → Option Kind → Option Constant → List Candidate
clash_of_init declared kind None = []
clash_of_init declared kind (Some init) = clash_of_constant declared (unary_kind delay_row kind) init ∷ []

-- operands that a form's rule does not accept
abbrev pub RefusesOne : FormRow → Option Kind → Type 0
RefusesOne form first = (k : Kind) × (first ≡ Some k) × (accepts form.operands k None ≡ false)

abbrev pub RefusesTwo : FormRow → Option Kind → Option Kind → Type 0
RefusesTwo form first second = (k l : Kind) × (first ≡ Some k) × (second ≡ Some l) × (accepts form.operands k (Some l) ≡ false)

abbrev pub clashes_of_expression : List Declaration → Expression → List Candidate
clashes_of_expression declared (Named name) = []
clashes_of_expression declared (Number value at) = []
clashes_of_expression declared (Truth truth at) = []
clashes_of_expression declared (Unary op operand at) =
    candidate (Clash at) (RefusesOne (unary_row op) (kind_of declared operand)) ∷ clashes_of_expression declared operand
clashes_of_expression declared (Binary op left right at) = clashes_of_expression declared left
    ++ candidate (Clash at) (RefusesTwo (binary_row op) (kind_of declared left) (kind_of declared right)) ∷ clashes_of_expression declared right
clashes_of_expression declared (Delay operand init at) = clashes_of_expression declared operand ++ clash_of_init declared (kind_of declared operand) init
clashes_of_expression declared (Cell operand held init at) = clashes_of_expression declared operand
    ++ candidate (Clash at) (RefusesTwo cell_row (kind_of declared operand) (kind_of declared held))
    ∷ (clashes_of_expression declared held ++ clash_of_init declared (kind_of declared operand) (Some init))

-- a signal that is defined by what is not of its kind, where both have one
abbrev pub DoesNotTake : Option Kind → Option Kind → Type 0
DoesNotTake wanted given = (k l : Kind) × (wanted ≡ Some k) × (given ≡ Some l) × (Takes k l → ⊥)

abbrev pub clash_of_left : List Declaration → Option Kind → Name → Candidate
clash_of_left declared given name = candidate (Clash name.at) (DoesNotTake (kind_of_name declared name.text) given)

-- a call: its left sides take the outputs, its inputs the arguments, its parameters the constants, as far as both lists go
abbrev pub clashes_of_results : List Declaration → List Name → List Declaration → List Candidate
clashes_of_results declared names outputs = each (λ both. clash_of_left declared (Some both.1.kind) both.0 ∷ []) (zip names outputs)

abbrev pub clash_of_arguments : List Declaration → Name → List Expression → List Declaration → Candidate
clash_of_arguments declared name arguments inputs = candidate (Clash name.at)
    (Any (λ both. DoesNotTake (Some both.1.kind) (kind_of declared both.0)) (zip arguments inputs))

abbrev pub clashes_of_constants : List Declaration → List Constant → List Declaration → List Candidate
clashes_of_constants declared [] params = []
clashes_of_constants declared (constant ∷ constants) [] = clash_of_constant declared None constant ∷ clashes_of_constants declared constants []
clashes_of_constants declared (constant ∷ constants) (param ∷ params) =
    clash_of_constant declared (Some param.kind) constant ∷ clashes_of_constants declared constants params

abbrev pub clashes_of_call : List Declaration → List Name → Name → List Constant → List Expression → Option ProcessModel → List Candidate
clashes_of_call declared names name constants arguments None = []
clashes_of_call declared names name constants arguments (Some called) = clashes_of_results declared names (outputs_of called)
    ++ clash_of_arguments declared name arguments (inputs_of called)
    ∷ (clashes_of_constants declared constants (params_of called) ++ each (clashes_of_expression declared) arguments)

abbrev pub clashes_of_equation : List ProcessModel → List Declaration → Equations → List Candidate
clashes_of_equation all declared (Together bodies) = []
clashes_of_equation all declared (Defines names (Computed e)) = each (λ name. clash_of_left declared (kind_of declared e) name ∷ []) names ++ clashes_of_expression declared e
clashes_of_equation all declared (Defines names (Called name constants arguments)) =
    clashes_of_call declared names name constants arguments (process_of all name.text)
clashes_of_equation all declared (Equal operands) = each (clashes_of_expression declared) operands

abbrev pub clashes_of_inits : List Declaration → List Declaration → List Candidate
clashes_of_inits declared those = each (λ d. clash_of_init declared (Some d.kind) d.init) those

abbrev pub clashes : List ProcessModel → ProcessModel → List Candidate
clashes all p = clashes_of_inits (declarations p) (outputs_of p)
    ++ (each (clashes_of_equation all (declarations p)) (equations_of_model p) ++ clashes_of_inits (declarations p) (locals_of p))

-- 7. BareConstant: a constant stands where none may. It is named, or the operator where all operands are constants.
abbrev pub place_of : Expression → Span
place_of (Named name) = name.at
place_of (Number value at) = at
place_of (Truth truth at) = at
place_of (Unary op operand at) = at
place_of (Binary op left right at) = at
place_of (Delay operand init at) = at
place_of (Cell operand held init at) = at

-- a constant alone, as the first operand of two, or as the second
abbrev pub MayNotBeFirst : ConstantRule → Type 0
MayNotBeFirst NoConstant = ⊤
MayNotBeFirst OneConstant = ⊥
MayNotBeFirst FirstConstant = ⊥

abbrev pub MayNotBeSecond : ConstantRule → Type 0
MayNotBeSecond NoConstant = ⊤
MayNotBeSecond OneConstant = ⊥
MayNotBeSecond FirstConstant = ⊤

abbrev pub bare_operands : FormRow → List Declaration → Expression → Expression → Span → (before behind : List Candidate) → List Candidate
bare_operands form declared left right at before behind = before
    ++ candidate (BareConstant (place_of left)) (MayNotBeFirst form.constants × (is_constant declared left ≡ true) × (is_constant declared right ≡ false))
    ∷ candidate (BareConstant at) ((is_constant declared left ≡ true) × (is_constant declared right ≡ true))
    ∷ candidate (BareConstant (place_of right)) (MayNotBeSecond form.constants × (is_constant declared left ≡ false) × (is_constant declared right ≡ true))
    ∷ behind

abbrev pub bare_in_expression : List Declaration → Expression → List Candidate
bare_in_expression declared (Named name) = []
bare_in_expression declared (Number value at) = []
bare_in_expression declared (Truth truth at) = []
bare_in_expression declared (Unary op operand at) =
    candidate (BareConstant at) ((is_constant declared operand ≡ true) × (is_negative_number op operand ≡ false)) ∷ bare_in_expression declared operand
bare_in_expression declared (Binary op left right at) =
    bare_operands (binary_row op) declared left right at (bare_in_expression declared left) (bare_in_expression declared right)
bare_in_expression declared (Delay operand init at) = bare_in_expression declared operand ++ candidate (BareConstant at) (is_constant declared operand ≡ true) ∷ []
bare_in_expression declared (Cell operand held init at) =
    bare_operands cell_row declared operand held at (bare_in_expression declared operand) (bare_in_expression declared held)

-- where a constant may not stand alone: a whole right side, an argument, an operand of a clock equation
abbrev pub bare_alone : List Declaration → Expression → List Candidate
bare_alone declared e = candidate (BareConstant (place_of e)) (is_constant declared e ≡ true) ∷ bare_in_expression declared e

abbrev pub bare_in_equation : List Declaration → Equations → List Candidate
bare_in_equation declared (Together bodies) = []
bare_in_equation declared (Defines names (Computed e)) = bare_alone declared e
bare_in_equation declared (Defines names (Called name constants arguments)) = each (bare_alone declared) arguments
bare_in_equation declared (Equal operands) = each (bare_alone declared) operands

abbrev pub bare_constants : ProcessModel → List Candidate
bare_constants p = each (bare_in_equation (declarations p)) (equations_of_model p)

-- 8. BadCall: the numbers of constants, arguments or left sides are not the called process's; several left sides
-- have no call; the first process of the text has a parameter.
abbrev pub DiffersFrom : List Name → List Constant → List Expression → Option ProcessModel → Type 0
DiffersFrom names constants arguments None = ⊥
DiffersFrom names constants arguments (Some called) = (length constants ≢ length (params_of called))
    ⊎ (length arguments ≢ length (inputs_of called)) ⊎ (length names ≢ length (outputs_of called))

abbrev pub bad_calls_of : List ProcessModel → Equations → List Candidate
bad_calls_of all (Together bodies) = []
bad_calls_of all (Defines [] right) = []
bad_calls_of all (Defines (first ∷ names) (Computed e)) = candidate (BadCall first) (names ≢ []) ∷ []
bad_calls_of all (Defines (first ∷ names) (Called name constants arguments)) =
    candidate (BadCall name) (DiffersFrom (first ∷ names) constants arguments (process_of all name.text)) ∷ []
bad_calls_of all (Equal operands) = []

abbrev pub bad_calls : (all before : List ProcessModel) → ProcessModel → List Candidate
bad_calls all before p = candidate (BadCall (name_of p)) ((before ≡ []) × (params_of p ≢ [])) ∷ each (bad_calls_of all) (equations_of_model p)

-- 9. Recursive: the called process reaches this one by calls. Processes are told by their names.
abbrev pub CallsByName : List ProcessModel → (caller called : List ℕ) → Type 0
CallsByName all caller called = (p : ProcessModel) × (process_of all caller ≡ Some p) × Contains (texts (called_by p)) called

pub data Reaches (all : List ProcessModel) : (from to : List ℕ) → Type 0 where
  Itself : {name : List ℕ} → Reaches all name name
  ByCall : {from next to : List ℕ} → CallsByName all from next → Reaches all next to → Reaches all from to

abbrev pub recursive_calls : List ProcessModel → ProcessModel → List Candidate
recursive_calls all p = each (λ name. candidate (Recursive name) (Reaches all name.text (name_of p).text) ∷ []) (called_by p)

-- 10. BadPragma: what is named is no signal of the process, or is named before; a label is no cluster's number.
abbrev pub IsSignal : Option Declaration → Type 0
IsSignal None = ⊥
IsSignal (Some d) = d.role ≢ Parameter

abbrev pub IsDigit : ℕ → Type 0
IsDigit byte = (48 ≤ byte) × (byte ≤ 57)

-- the number that digits write
abbrev pub number_of : List ℕ → ℕ
number_of digits = fold (λ n digit. n * 10 + (digit - 48)) 0 digits

-- the label of a cluster: 1 to 9 digits, of a value of 0 to 63
pub record IsCluster (label : List ℕ) : Type 0 where
  pub digits : AllByRecursion IsDigit label
  pub some : 1 ≤ length label
  pub few : length label ≤ 9
  pub value : number_of label ≤ 63

abbrev pub bad_pragmas_of : List Declaration → (earlier : List Name) → List Placement → List Candidate
bad_pragmas_of declared earlier [] = []
bad_pragmas_of declared earlier (pragma ∷ pragmas) = candidate (BadPragma pragma.at) (IsCluster pragma.label → ⊥)
    ∷ (each (λ name. candidate (BadPragma name.1.at) ((IsSignal (declaration_of declared name.1.text) → ⊥) ⊎ Contains (texts name.0) name.1.text) ∷ []) (behind earlier pragma.names)
    ++ bad_pragmas_of declared (earlier ++ pragma.names) pragmas)

abbrev pub bad_pragmas : ProcessModel → List Candidate
bad_pragmas p = bad_pragmas_of (declarations p) [] (pragmas_of_model p)

-- 11. NoInit: a delay has no init of its own, and is not the whole right side of a signal declared with one.
abbrev pub missing_init : Option Constant → Span → Type 0 → List Candidate
missing_init None at Holds = candidate (NoInit at) Holds ∷ []
missing_init (Some init) at Holds = []

abbrev pub missing_inits : Expression → List Candidate
missing_inits (Named name) = []
missing_inits (Number value at) = []
missing_inits (Truth truth at) = []
missing_inits (Unary op operand at) = missing_inits operand
missing_inits (Binary op left right at) = missing_inits left ++ missing_inits right
missing_inits (Delay operand init at) = missing_inits operand ++ missing_init init at ⊤
missing_inits (Cell operand held init at) = missing_inits operand ++ missing_inits held

-- the first declared with an init
abbrev pub HasInit : Option Declaration → Type 0
HasInit None = ⊥
HasInit (Some d) = IsSome d.init

abbrev pub missing_inits_of_right : Type 0 → Expression → List Candidate
missing_inits_of_right Lacks (Named name) = missing_inits (Named name)
missing_inits_of_right Lacks (Number value at) = missing_inits (Number value at)
missing_inits_of_right Lacks (Truth truth at) = missing_inits (Truth truth at)
missing_inits_of_right Lacks (Unary op operand at) = missing_inits (Unary op operand at)
missing_inits_of_right Lacks (Binary op left right at) = missing_inits (Binary op left right at)
missing_inits_of_right Lacks (Delay operand init at) = missing_inits operand ++ missing_init init at Lacks
missing_inits_of_right Lacks (Cell operand held init at) = missing_inits (Cell operand held init at)

abbrev pub missing_inits_of_equation : List Declaration → Equations → List Candidate
missing_inits_of_equation declared (Together bodies) = []
missing_inits_of_equation declared (Defines names (Computed e)) =
    missing_inits_of_right (AllByRecursion (λ name. HasInit (declaration_of declared name.text)) names → ⊥) e
missing_inits_of_equation declared (Defines names (Called name constants arguments)) = each missing_inits arguments
missing_inits_of_equation declared (Equal operands) = each missing_inits operands

abbrev pub missing_inits_in : ProcessModel → List Candidate
missing_inits_in p = each (missing_inits_of_equation (declarations p)) (equations_of_model p)
