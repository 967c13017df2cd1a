-- The eleven rules are decided: of each candidate it is decided whether it holds.
use Rattle.sig_tree.proofs.Common.{◌≡◌, ◌≢◌, ◌++◌, ◌⊎◌, ℕ, List, [], ◌∷◌, Option, None, Some, true, false, inl, inr, refl, length, map, zip, is_some, ⊤, Contains, AllByRecursion, dec_both, dec_contains, dec_either, dec_not, dec_number, dec_option, dec_some, dec_text, dec_truth, map_dec, Kind, Name, Constant, Span, ProcessModel, Expression, Named, Number, Truth, Unary, Binary, Delay, Cell, Placement, Candidate, candidate}
use Rattle.sig_tree.specs.Syntax.{Equations, Together, Defines, Equal, Computed, Called}
use Rattle.sig_tree.specs.Candidates.{DeclaredTwice, InputDefined, DefinedTwice, Undefined, Recursive, BadPragma}
use Rattle.sig_tree.specs.Declarations.{Declaration, Role, Parameter, Input, Output, Local, Use, OfSignal, OfProcess, behind, with_earlier, declaration_of, declarations, process_of, texts, name_of, uses_of, left_sides_of, outputs_of, inputs_of, params_of, locals_of, equations_of_model, pragmas_of_model, called_by}
use Rattle.sig_tree.specs.Kinds.{ConstantRule, NoConstant, OneConstant, FirstConstant, FormRow, accepts, unary_row, binary_row, delay_row, cell_row, unary_kind, kind_of, kind_of_name, kind_of_constant, is_constant, is_negative_number, Takes}
use Rattle.sig_tree.specs.Rules.{Reaches, IsGiven, IsUnfit, RefusesOne, RefusesTwo, DoesNotTake, MayNotBeFirst, MayNotBeSecond, DiffersFrom, IsSignal, IsDigit, IsCluster, HasInit, number_of, unknown_use, unknown_names, declared_twice, inputs_defined, defined_twice, undefined, clash_of_init, clashes_of_expression, clash_of_left, clashes_of_results, clash_of_arguments, clashes_of_constants, clashes_of_call, clashes_of_equation, clashes_of_inits, clashes, bare_operands, bare_in_expression, bare_alone, bare_in_equation, bare_constants, bad_calls_of, bad_calls, recursive_calls, bad_pragmas_of, bad_pragmas, missing_init, missing_inits, missing_inits_of_right, missing_inits_of_equation, missing_inits_in}
use Rattle.sig_tree.specs.WellFormed.{rules_on, rules_of}
use Rattle.sig_tree.proofs.DecidedCandidates.{AreDecided, decided_append, decided_each, decided_one, joined}
use Rattle.sig_tree.proofs.DecidedKinds.{dec_all, dec_any, dec_empty, dec_kind, dec_most, dec_none, dec_takes, dec_three, dec_two}
use Rattle.sig_tree.proofs.ReachedNames.{dec_reaches}

dec_among : (names : List Name) (text : List ℕ) → Dec (Contains (texts names) text)
dec_among names text = dec_contains dec_text (texts names) text

-- 1. to 5. names

decided_use : (all : List ProcessModel) (declared : List Declaration) (used : Use) → Dec (unknown_use all declared used).Holds
decided_use all declared (OfSignal name) = dec_none (declaration_of declared name.text)
decided_use all declared (OfProcess name) = dec_none (process_of all name.text)

decided_names : (all : List ProcessModel) (p : ProcessModel) → AreDecided (unknown_names all p)
decided_names all p = decided_one (unknown_use all (declarations p)) (decided_use all (declarations p)) (uses_of p)

decided_declared : (before : List ProcessModel) (p : ProcessModel) → AreDecided (declared_twice before p)
decided_declared before p = (
  dec_among (map name_of before) (name_of p).text,
  decided_one (λ (d : List Name × Name). candidate (DeclaredTwice d.1) (Contains (texts d.0) d.1.text)) (λ d. dec_among d.0 d.1.text) (with_earlier (map (λ d. d.name) (declarations p))),
)

dec_given_role : (role : Role) → Dec ((role ≡ Input) ⊎ (role ≡ Parameter))
dec_given_role Parameter = yes (inr refl)
dec_given_role Input = yes (inl refl)
dec_given_role Output = no (λ given. elim given [ inl e ↦ cc | inr e ↦ cc ])
dec_given_role Local = no (λ given. elim given [ inl e ↦ cc | inr e ↦ cc ])

dec_given : (found : Option Declaration) → Dec (IsGiven found)
dec_given None = no (λ none. none)
dec_given (Some d) = dec_given_role d.role

decided_inputs : (p : ProcessModel) → AreDecided (inputs_defined p)
decided_inputs p = decided_one (λ (name : Name). candidate (InputDefined name) (IsGiven (declaration_of (declarations p) name.text)))
    (λ name. dec_given (declaration_of (declarations p) name.text)) (left_sides_of p)

decided_defined : (p : ProcessModel) → AreDecided (defined_twice p)
decided_defined p = decided_one (λ (name : List Name × Name). candidate (DefinedTwice name.1) (Contains (texts name.0) name.1.text))
    (λ name. dec_among name.0 name.1.text) (with_earlier (left_sides_of p))

decided_undefined : (p : ProcessModel) → AreDecided (undefined p)
decided_undefined p = decided_one (λ (d : Declaration). candidate (Undefined d.name) (Contains (texts (left_sides_of p)) d.name.text → ⊥))
    (λ d. dec_not (dec_among (left_sides_of p) d.name.text)) (outputs_of p ++ locals_of p)

-- 6. clashes of kinds

dec_unfit : (declared : List Declaration) (wanted : Option Kind) (constant : Constant) → Dec (IsUnfit declared wanted constant)
dec_unfit declared wanted constant =
    dec_either (dec_none (kind_of_constant declared constant))
    (dec_some (λ (kind : Kind). kind_of_constant declared constant ≢ Some kind) wanted (λ kind. dec_not (dec_option dec_kind (kind_of_constant declared constant) (Some kind))))

decided_init : (declared : List Declaration) (kind : Option Kind) (init : Option Constant) → AreDecided (clash_of_init declared kind init)
decided_init declared kind None = tt
decided_init declared kind (Some init) = (dec_unfit declared (unary_kind delay_row kind) init, tt)

dec_refuses_one : (form : FormRow) (first : Option Kind) → Dec (RefusesOne form first)
dec_refuses_one form first = dec_some (λ (k : Kind). accepts form.operands k None ≡ false) first (λ k. dec_truth (accepts form.operands k None) false)

dec_refuses_two : (form : FormRow) (first second : Option Kind) → Dec (RefusesTwo form first second)
dec_refuses_two form first second = dec_two (λ k l. accepts form.operands k (Some l) ≡ false) first second (λ k l. dec_truth (accepts form.operands k (Some l)) false)

decided_expression : (declared : List Declaration) (e : Expression) → AreDecided (clashes_of_expression declared e)
decided_expression declared (Named name) = tt
decided_expression declared (Number value at) = tt
decided_expression declared (Truth truth at) = tt
decided_expression declared (Unary op operand at) = (dec_refuses_one (unary_row op) (kind_of declared operand), decided_expression declared operand)
decided_expression declared (Binary op left right at) = decided_append _ _ (decided_expression declared left)
    (dec_refuses_two (binary_row op) (kind_of declared left) (kind_of declared right), decided_expression declared right)
decided_expression declared (Delay operand init at) = decided_append _ _ (decided_expression declared operand) (decided_init declared (kind_of declared operand) init)
decided_expression declared (Cell operand held init at) = decided_append _ _ (decided_expression declared operand) (
  dec_refuses_two cell_row (kind_of declared operand) (kind_of declared held),
  decided_append _ _ (decided_expression declared held) (decided_init declared (kind_of declared operand) (Some init)),
)

dec_not_taken : (wanted given : Option Kind) → Dec (DoesNotTake wanted given)
dec_not_taken wanted given = dec_two (λ k l. Takes k l → ⊥) wanted given (λ k l. dec_not (dec_takes k l))

dec_left : (declared : List Declaration) (given : Option Kind) (name : Name) → Dec (clash_of_left declared given name).Holds
dec_left declared given name = dec_not_taken (kind_of_name declared name.text) given

decided_results : (declared : List Declaration) (names : List Name) (outputs : List Declaration) → AreDecided (clashes_of_results declared names outputs)
decided_results declared names outputs =
    decided_one (λ (both : Name × Declaration). clash_of_left declared (Some both.1.kind) both.0) (λ both. dec_left declared (Some both.1.kind) both.0) (zip names outputs)

dec_arguments : (declared : List Declaration) (name : Name) (arguments : List Expression) (inputs : List Declaration) → Dec (clash_of_arguments declared name arguments inputs).Holds
dec_arguments declared name arguments inputs =
    dec_any (λ (both : Expression × Declaration). DoesNotTake (Some both.1.kind) (kind_of declared both.0)) (λ both. dec_not_taken (Some both.1.kind) (kind_of declared both.0)) (zip arguments inputs)

decided_constants : (declared : List Declaration) (constants : List Constant) (params : List Declaration) → AreDecided (clashes_of_constants declared constants params)
decided_constants declared [] params = tt
decided_constants declared (constant ∷ constants) [] = (dec_unfit declared None constant, decided_constants declared constants [])
decided_constants declared (constant ∷ constants) (param ∷ params) = (dec_unfit declared (Some param.kind) constant, decided_constants declared constants params)

decided_call : (declared : List Declaration) (names : List Name) (name : Name) (constants : List Constant) (arguments : List Expression) (called : Option ProcessModel)
    → AreDecided (clashes_of_call declared names name constants arguments called)
decided_call declared names name constants arguments None = tt
decided_call declared names name constants arguments (Some called) = decided_append _ _ (decided_results declared names (outputs_of called)) (
  dec_arguments declared name arguments (inputs_of called),
  decided_append _ _ (decided_constants declared constants (params_of called)) (decided_each (clashes_of_expression declared) (decided_expression declared) arguments),
)

decided_equation : (all : List ProcessModel) (declared : List Declaration) (equation : Equations) → AreDecided (clashes_of_equation all declared equation)
decided_equation all declared (Together bodies) = tt
decided_equation all declared (Defines names (Computed e)) = decided_append _ _
    (decided_one (clash_of_left declared (kind_of declared e)) (dec_left declared (kind_of declared e)) names) (decided_expression declared e)
decided_equation all declared (Defines names (Called name constants arguments)) = decided_call declared names name constants arguments (process_of all name.text)
decided_equation all declared (Equal operands) = decided_each (clashes_of_expression declared) (decided_expression declared) operands

decided_inits : (declared those : List Declaration) → AreDecided (clashes_of_inits declared those)
decided_inits declared those = decided_each (λ (d : Declaration). clash_of_init declared (Some d.kind) d.init) (λ d. decided_init declared (Some d.kind) d.init) those

decided_clashes : (all : List ProcessModel) (p : ProcessModel) → AreDecided (clashes all p)
decided_clashes all p = decided_append _ _ (decided_inits (declarations p) (outputs_of p))
    (decided_append _ _ (decided_each (clashes_of_equation all (declarations p)) (decided_equation all (declarations p)) (equations_of_model p))
    (decided_inits (declarations p) (locals_of p)))

-- 7. bare constants

dec_first : (rule : ConstantRule) → Dec (MayNotBeFirst rule)
dec_first NoConstant = yes tt
dec_first OneConstant = no (λ none. none)
dec_first FirstConstant = no (λ none. none)

dec_second : (rule : ConstantRule) → Dec (MayNotBeSecond rule)
dec_second NoConstant = yes tt
dec_second OneConstant = no (λ none. none)
dec_second FirstConstant = yes tt

decided_operands : (form : FormRow) (declared : List Declaration) (left right : Expression) (at : Span) (before behind : List Candidate)
    → AreDecided before → AreDecided behind → AreDecided (bare_operands form declared left right at before behind)
decided_operands form declared left right at before behind first rest =
    let a = is_constant declared left in
    let b = is_constant declared right in
    decided_append _ _ first (
      dec_three (dec_first form.constants) (dec_truth a true) (dec_truth b false),
      (dec_both (dec_truth a true) (dec_truth b true), (dec_three (dec_second form.constants) (dec_truth a false) (dec_truth b true), rest)),
    )

decided_bare : (declared : List Declaration) (e : Expression) → AreDecided (bare_in_expression declared e)
decided_bare declared (Named name) = tt
decided_bare declared (Number value at) = tt
decided_bare declared (Truth truth at) = tt
decided_bare declared (Unary op operand at) = (dec_both (dec_truth (is_constant declared operand) true) (dec_truth (is_negative_number op operand) false), decided_bare declared operand)
decided_bare declared (Binary op left right at) =
    decided_operands (binary_row op) declared left right at (bare_in_expression declared left) (bare_in_expression declared right) (decided_bare declared left) (decided_bare declared right)
decided_bare declared (Delay operand init at) = decided_append _ _ (decided_bare declared operand) (dec_truth (is_constant declared operand) true, tt)
decided_bare declared (Cell operand held init at) =
    decided_operands cell_row declared operand held at (bare_in_expression declared operand) (bare_in_expression declared held) (decided_bare declared operand) (decided_bare declared held)

decided_alone : (declared : List Declaration) (e : Expression) → AreDecided (bare_alone declared e)
decided_alone declared e = (dec_truth (is_constant declared e) true, decided_bare declared e)

decided_bare_equation : (declared : List Declaration) (equation : Equations) → AreDecided (bare_in_equation declared equation)
decided_bare_equation declared (Together bodies) = tt
decided_bare_equation declared (Defines names (Computed e)) = decided_alone declared e
decided_bare_equation declared (Defines names (Called name constants arguments)) = decided_each (bare_alone declared) (decided_alone declared) arguments
decided_bare_equation declared (Equal operands) = decided_each (bare_alone declared) (decided_alone declared) operands

decided_bare_constants : (p : ProcessModel) → AreDecided (bare_constants p)
decided_bare_constants p = decided_each (bare_in_equation (declarations p)) (decided_bare_equation (declarations p)) (equations_of_model p)

-- 8. and 9. calls

dec_differs : (names : List Name) (constants : List Constant) (arguments : List Expression) (called : Option ProcessModel) → Dec (DiffersFrom names constants arguments called)
dec_differs names constants arguments None = no (λ none. none)
dec_differs names constants arguments (Some called) = dec_either (dec_not (dec_number (length constants) (length (params_of called))))
    (dec_either (dec_not (dec_number (length arguments) (length (inputs_of called)))) (dec_not (dec_number (length names) (length (outputs_of called)))))

decided_bad_call : (all : List ProcessModel) (equation : Equations) → AreDecided (bad_calls_of all equation)
decided_bad_call all (Together bodies) = tt
decided_bad_call all (Defines [] right) = tt
decided_bad_call all (Defines (first ∷ names) (Computed e)) = (dec_not (dec_empty names), tt)
decided_bad_call all (Defines (first ∷ names) (Called name constants arguments)) = (dec_differs (first ∷ names) constants arguments (process_of all name.text), tt)
decided_bad_call all (Equal operands) = tt

decided_bad_calls : (all before : List ProcessModel) (p : ProcessModel) → AreDecided (bad_calls all before p)
decided_bad_calls all before p = (dec_both (dec_empty before) (dec_not (dec_empty (params_of p))), decided_each (bad_calls_of all) (decided_bad_call all) (equations_of_model p))

decided_recursive : (all : List ProcessModel) (p : ProcessModel) → AreDecided (recursive_calls all p)
decided_recursive all p = decided_one (λ (name : Name). candidate (Recursive name) (Reaches all name.text (name_of p).text)) (λ name. dec_reaches all name.text (name_of p).text) (called_by p)

-- 10. pragmas

dec_signal_role : (role : Role) → Dec (role ≢ Parameter)
dec_signal_role Parameter = no (λ other. other refl)
dec_signal_role Input = yes (λ e. cc)
dec_signal_role Output = yes (λ e. cc)
dec_signal_role Local = yes (λ e. cc)

dec_signal : (found : Option Declaration) → Dec (IsSignal found)
dec_signal None = no (λ none. none)
dec_signal (Some d) = dec_signal_role d.role

dec_cluster : (label : List ℕ) → Dec (IsCluster label)
dec_cluster label =
    map_dec (λ parts. record { digits = parts.0.0; some = parts.0.1; few = parts.1.0; value = parts.1.1 }) (λ is. ((is.digits, is.some), (is.few, is.value)))
    (dec_both (dec_both (dec_all IsDigit (λ byte. dec_both (dec_most 48 byte) (dec_most byte 57)) label) (dec_most 1 (length label)))
    (dec_both (dec_most (length label) 9) (dec_most (number_of label) 63)))

decided_pragmas_of : (declared : List Declaration) (earlier : List Name) (pragmas : List Placement) → AreDecided (bad_pragmas_of declared earlier pragmas)
decided_pragmas_of declared earlier [] = tt
decided_pragmas_of declared earlier (pragma ∷ pragmas) = (
  dec_not (dec_cluster pragma.label),
  decided_append _ _
      (decided_one (λ (name : List Name × Name). candidate (BadPragma name.1.at) ((IsSignal (declaration_of declared name.1.text) → ⊥) ⊎ Contains (texts name.0) name.1.text))
      (λ name. dec_either (dec_not (dec_signal (declaration_of declared name.1.text))) (dec_among name.0 name.1.text)) (behind earlier pragma.names))
      (decided_pragmas_of declared (earlier ++ pragma.names) pragmas),
)

-- 11. inits

decided_missing : (init : Option Constant) (at : Span) (Holds : Type 0) → Dec Holds → AreDecided (missing_init init at Holds)
decided_missing None at Holds decide = (decide, tt)
decided_missing (Some init) at Holds decide = tt

decided_delays : (e : Expression) → AreDecided (missing_inits e)
decided_delays (Named name) = tt
decided_delays (Number value at) = tt
decided_delays (Truth truth at) = tt
decided_delays (Unary op operand at) = decided_delays operand
decided_delays (Binary op left right at) = decided_append _ _ (decided_delays left) (decided_delays right)
decided_delays (Delay operand init at) = decided_append _ _ (decided_delays operand) (decided_missing init at ⊤ (yes tt))
decided_delays (Cell operand held init at) = decided_append _ _ (decided_delays operand) (decided_delays held)

decided_right : (Lacks : Type 0) → Dec Lacks → (e : Expression) → AreDecided (missing_inits_of_right Lacks e)
decided_right Lacks decide (Named name) = decided_delays (Named name)
decided_right Lacks decide (Number value at) = decided_delays (Number value at)
decided_right Lacks decide (Truth truth at) = decided_delays (Truth truth at)
decided_right Lacks decide (Unary op operand at) = decided_delays (Unary op operand at)
decided_right Lacks decide (Binary op left right at) = decided_delays (Binary op left right at)
decided_right Lacks decide (Delay operand init at) = decided_append _ _ (decided_delays operand) (decided_missing init at Lacks decide)
decided_right Lacks decide (Cell operand held init at) = decided_delays (Cell operand held init at)

dec_has_init : (found : Option Declaration) → Dec (HasInit found)
dec_has_init None = no (λ none. none)
dec_has_init (Some d) = dec_truth (is_some d.init) true

decided_delay_equation : (declared : List Declaration) (equation : Equations) → AreDecided (missing_inits_of_equation declared equation)
decided_delay_equation declared (Together bodies) = tt
decided_delay_equation declared (Defines names (Computed e)) =
    decided_right (AllByRecursion (λ (name : Name). HasInit (declaration_of declared name.text)) names → ⊥)
    (dec_not (dec_all (λ (name : Name). HasInit (declaration_of declared name.text)) (λ name. dec_has_init (declaration_of declared name.text)) names)) e
decided_delay_equation declared (Defines names (Called name constants arguments)) = decided_each missing_inits decided_delays arguments
decided_delay_equation declared (Equal operands) = decided_each missing_inits decided_delays operands

decided_missing_inits : (p : ProcessModel) → AreDecided (missing_inits_in p)
decided_missing_inits p = decided_each (missing_inits_of_equation (declarations p)) (decided_delay_equation (declarations p)) (equations_of_model p)

-- all rules

decided_process : (all before : List ProcessModel) (p : ProcessModel) → AreDecided (rules_on all before p)
decided_process all before p =
    let with_pragmas = joined (bad_pragmas p, decided_pragmas_of (declarations p) [] (pragmas_of_model p)) (missing_inits_in p, decided_missing_inits p) in
    let with_recursive = joined (recursive_calls all p, decided_recursive all p) with_pragmas in
    let with_calls = joined (bad_calls all before p, decided_bad_calls all before p) with_recursive in
    let with_bare = joined (bare_constants p, decided_bare_constants p) with_calls in
    let with_clashes = joined (clashes all p, decided_clashes all p) with_bare in
    let with_undefined = joined (undefined p, decided_undefined p) with_clashes in
    let with_defined = joined (defined_twice p, decided_defined p) with_undefined in
    let with_inputs = joined (inputs_defined p, decided_inputs p) with_defined in
    let with_declared = joined (declared_twice before p, decided_declared before p) with_inputs in
    (joined (unknown_names all p, decided_names all p) with_declared).1

pub decided_rules : (all : List ProcessModel) → AreDecided (rules_of all)
decided_rules all = decided_each (λ (p : List ProcessModel × ProcessModel). rules_on all p.0 p.1) (λ p. decided_process all p.0 p.1) (with_earlier all)
