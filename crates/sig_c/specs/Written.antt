-- The tokens that a file of small C is written with.
use Rattle.std.specs.Prelude.{◌∷◌, ◌++◌, ◌+◌, ◌-◌, ◌^◌, ℕ, ℤ, pos, negsuc, List, [], Bool, true, false, length, map, nat_eq, nat_lt, slice_index_or, Option, None, Some, if◌then◌else◌, codes, decimal}
use Rattle.sig_c.specs.SmallC.{Name, Place, Variable, Field, Result, Operator, Plus, Minus, Times, Divide, Modulo, Less, LessEqual, Greater, GreaterEqual, Equal, NotEqual, And, Or, Expression, Number, Get, Not, Binary, Choose, Helper, Add, Subtract, Multiply, Quotient, Remainder, Ignored, TheVariable, TheState, TheContext, Statement, Set, When, Check, Ask, Give, Ignore, Return, Statements, none, more, Width, Truth, Wide, FieldOfState, Header, HelperDefinition, Declared, EndCause, Done, Exhausted, Overflow, DivisionByZero, EndRow, TranslationUnit}
use Rattle.sig_c.specs.Tokens.{Token, Word, Sign, Quoted, Directive}

-- ---- names

-- what identifiers stand for in a function: the step, or a helper, which has `*result` but neither `state` nor `context`
pub record Scope : Type 0 where
  pub in_helper : Bool
  pub variables : List Name
  pub fields : List Name
  pub inputs : List Name
  pub outputs : List Name

abbrev pub name_at : List Name → ℕ → Name
name_at names n = slice_index_or names n []

abbrev pub word : List ℕ → Token
word text = Word text

-- ---- numbers

-- -n for a negative one
abbrev pub signed : Bool → List Token → List Token
signed true tokens = Sign (codes "-") ∷ tokens
signed false tokens = tokens

-- decimal to 2147483647, and INT64_C(n) above (6.4.4.1, 7.20.4.1)
abbrev pub size_tokens : Bool → ℕ → List Token
size_tokens negative n =
    signed negative (if nat_lt n (2 ^ 31) then Word (decimal n) ∷ [] else Word (codes "INT64_C") ∷ Sign (codes "(") ∷ Word (decimal n) ∷ Sign (codes ")") ∷ [])

-- INT64_MIN and INT64_MAX for the ends of 64 bits (7.20.2.1)
abbrev pub number_tokens : ℤ → List Token
number_tokens (pos n) = if nat_eq n (2 ^ 63 - 1) then Word (codes "INT64_MAX") ∷ [] else size_tokens false n
number_tokens (negsuc n) = if nat_eq n (2 ^ 63 - 1) then Word (codes "INT64_MIN") ∷ [] else size_tokens true (n + 1)

-- ---- expressions

abbrev pub operator_text : Operator → List ℕ
operator_text Plus = codes "+"
operator_text Minus = codes "-"
operator_text Times = codes "*"
operator_text Divide = codes "/"
operator_text Modulo = codes "%"
operator_text Less = codes "<"
operator_text LessEqual = codes "<="
operator_text Greater = codes ">"
operator_text GreaterEqual = codes ">="
operator_text Equal = codes "=="
operator_text NotEqual = codes "!="
operator_text And = codes "&&"
operator_text Or = codes "||"

abbrev pub place_tokens : Scope → Place → List Token
place_tokens scope (Variable x) = Word (name_at scope.variables x) ∷ []
place_tokens scope (Field n) = Word (codes "state") ∷ Sign (codes "->") ∷ Word (name_at scope.fields n) ∷ []
place_tokens scope Result = Sign (codes "*") ∷ Word (codes "result") ∷ []

abbrev pub in_parentheses : List Token → List Token
in_parentheses tokens = Sign (codes "(") ∷ (tokens ++ Sign (codes ")") ∷ [])

-- an expression, and one as an operand: in parentheses, unless it is a number, a place or a denial
abbrev mutual
  pub expression_tokens : Scope → Expression → List Token
  expression_tokens scope (Number v) = number_tokens v
  expression_tokens scope (Get x) = place_tokens scope x
  expression_tokens scope (Not e) = Sign (codes "!") ∷ operand_tokens scope e
  expression_tokens scope (Binary op a b) = operand_tokens scope a ++ Sign (operator_text op) ∷ operand_tokens scope b
  expression_tokens scope (Choose t a b) = operand_tokens scope t ++ Sign (codes "?") ∷ (operand_tokens scope a ++ Sign (codes ":") ∷ operand_tokens scope b)

  pub operand_tokens : Scope → Expression → List Token
  operand_tokens scope (Number v) = number_tokens v
  operand_tokens scope (Get x) = place_tokens scope x
  operand_tokens scope (Not e) = Sign (codes "!") ∷ operand_tokens scope e
  operand_tokens scope (Binary op a b) = in_parentheses (operand_tokens scope a ++ Sign (operator_text op) ∷ operand_tokens scope b)
  operand_tokens scope (Choose t a b) =
      in_parentheses (operand_tokens scope t ++ Sign (codes "?") ∷ (operand_tokens scope a ++ Sign (codes ":") ∷ operand_tokens scope b))

-- ---- statements

abbrev pub helper_name : Helper → Name
helper_name Add = codes "add"
helper_name Subtract = codes "subtract"
helper_name Multiply = codes "multiply"
helper_name Quotient = codes "divide"
helper_name Remainder = codes "modulo"

-- { return k; }
abbrev pub return_tokens : ℕ → List Token
return_tokens code = Word (codes "return") ∷ Word (decimal code) ∷ Sign (codes ";") ∷ []

abbrev pub refusal_tokens : ℕ → List Token
refusal_tokens code = Sign (codes "{") ∷ (return_tokens code ++ Sign (codes "}") ∷ [])

-- , &x
abbrev pub address_tokens : Scope → ℕ → List Token
address_tokens scope x = Sign (codes ",") ∷ Sign (codes "&") ∷ Word (name_at scope.variables x) ∷ []

abbrev pub asked_tokens : Scope → Option ℕ → List Token
asked_tokens scope None = []
asked_tokens scope (Some x) = address_tokens scope x

abbrev pub given_tokens : Scope → Option Expression → List Token
given_tokens scope None = []
given_tokens scope (Some e) = Sign (codes ",") ∷ expression_tokens scope e

abbrev pub ignored_name : Scope → Ignored → Name
ignored_name scope (TheVariable x) = name_at scope.variables x
ignored_name scope TheState = codes "state"
ignored_name scope TheContext = codes "context"

abbrev mutual
  pub statement_tokens : Scope → Statement → List Token
  statement_tokens scope (Set x e) = place_tokens scope x ++ Sign (codes "=") ∷ (expression_tokens scope e ++ Sign (codes ";") ∷ [])
  statement_tokens scope (When e statements) =
      Word (codes "if") ∷ Sign (codes "(") ∷ (expression_tokens scope e ++ Sign (codes ")") ∷ Sign (codes "{") ∷ (statements_tokens scope statements ++ Sign (codes "}") ∷ []))
  statement_tokens scope (Check helper a b x code) =
      Word (codes "if") ∷ Sign (codes "(") ∷ Word (helper_name helper) ∷ Sign (codes "(") ∷ (expression_tokens scope a ++ Sign (codes ",") ∷ (expression_tokens scope b
      ++ (address_tokens scope x ++ Sign (codes ")") ∷ Sign (codes ")") ∷ refusal_tokens code)))
  statement_tokens scope (Ask input x code) =
      Word (codes "if") ∷ Sign (codes "(") ∷ Sign (codes "!") ∷ Word (name_at scope.inputs input) ∷ Sign (codes "(") ∷ Word (codes "context")
      ∷ (asked_tokens scope x ++ Sign (codes ")") ∷ Sign (codes ")") ∷ refusal_tokens code)
  statement_tokens scope (Give output e) =
      Word (name_at scope.outputs output) ∷ Sign (codes "(") ∷ Word (codes "context") ∷ (given_tokens scope e ++ Sign (codes ")") ∷ Sign (codes ";") ∷ [])
  statement_tokens scope (Ignore x) = Sign (codes "(") ∷ Word (codes "void") ∷ Sign (codes ")") ∷ Word (ignored_name scope x) ∷ Sign (codes ";") ∷ []
  statement_tokens scope (Return code) = return_tokens code

  pub statements_tokens : Scope → Statements → List Token
  statements_tokens scope none = []
  statements_tokens scope (more statement rest) = statement_tokens scope statement ++ statements_tokens scope rest

-- ---- functions and tables

-- the parameters of a helper are its variables
abbrev pub helper_scope : Scope
helper_scope = record { in_helper = true; variables = codes "a" ∷ codes "b" ∷ []; fields = []; inputs = []; outputs = [] }

-- static int add(int64_t a, int64_t b, int64_t *result) { .. }
abbrev pub helper_tokens : HelperDefinition → List Token
helper_tokens definition =
    Word (codes "static") ∷ Word (codes "int") ∷ Word (helper_name definition.helper) ∷ Sign (codes "(") ∷ Word (codes "int64_t") ∷ Word (codes "a") ∷ Sign (codes ",")
    ∷ Word (codes "int64_t") ∷ Word (codes "b") ∷ Sign (codes ",") ∷ Word (codes "int64_t") ∷ Sign (codes "*") ∷ Word (codes "result") ∷ Sign (codes ")")
    ∷ Sign (codes "{") ∷ (statements_tokens helper_scope definition.body ++ Sign (codes "}") ∷ [])

abbrev pub helpers_tokens : List HelperDefinition → List Token
helpers_tokens [] = []
helpers_tokens (definition ∷ others) = helper_tokens definition ++ helpers_tokens others

-- P_NAME
abbrev pub prefixed : Header → List ℕ → Token
prefixed header text = Word (header.prefix ++ (codes "_" ++ text))

abbrev pub cause_text : EndCause → List ℕ
cause_text Done = codes "DONE"
cause_text Exhausted = codes "EXHAUSTED"
cause_text Overflow = codes "OVERFLOW"
cause_text DivisionByZero = codes "DIVISION_BY_ZERO"

-- {P_OVERFLOW, 3, 23, "X"}
abbrev pub row_tokens : Header → EndRow → List Token
row_tokens header row =
    Sign (codes "{") ∷ prefixed header (cause_text row.cause) ∷ Sign (codes ",") ∷ Word (decimal row.line) ∷ Sign (codes ",") ∷ Word (decimal row.column) ∷ Sign (codes ",")
    ∷ Quoted row.name ∷ Sign (codes "}") ∷ []

-- a comma stands between rows
abbrev pub rows_tokens : Header → List EndRow → List Token
rows_tokens header [] = []
rows_tokens header (row ∷ []) = row_tokens header row
rows_tokens header (row ∷ rows) = row_tokens header row ++ Sign (codes ",") ∷ rows_tokens header rows

-- const P_end P_ends[K] = { .. };
abbrev pub ends_tokens : Header → List EndRow → List Token
ends_tokens header rows =
    Word (codes "const") ∷ prefixed header (codes "end") ∷ prefixed header (codes "ends") ∷ Sign (codes "[") ∷ Word (decimal (length rows)) ∷ Sign (codes "]") ∷ Sign (codes "=")
    ∷ Sign (codes "{") ∷ (rows_tokens header rows ++ Sign (codes "}") ∷ Sign (codes ";") ∷ [])

-- state->FIELD = number;
abbrev pub first_tokens : Name → ℤ → List Token
first_tokens field v = Word (codes "state") ∷ Sign (codes "->") ∷ Word field ∷ Sign (codes "=") ∷ (number_tokens v ++ Sign (codes ";") ∷ [])

abbrev pub firsts_tokens : List FieldOfState → List ℤ → List Token
firsts_tokens [] firsts = []
firsts_tokens (field ∷ fields) [] = []
firsts_tokens (field ∷ fields) (v ∷ firsts) = first_tokens field.name v ++ firsts_tokens fields firsts

-- (void)state; where there is no field
abbrev pub first_statements : List FieldOfState → List ℤ → List Token
first_statements [] firsts = Sign (codes "(") ∷ Word (codes "void") ∷ Sign (codes ")") ∷ Word (codes "state") ∷ Sign (codes ";") ∷ []
first_statements (field ∷ fields) firsts = firsts_tokens (field ∷ fields) firsts

-- void P_init(P_state *state) { .. }
abbrev pub init_tokens : Header → List ℤ → List Token
init_tokens header firsts =
    Word (codes "void") ∷ prefixed header (codes "init") ∷ Sign (codes "(") ∷ prefixed header (codes "state") ∷ Sign (codes "*") ∷ Word (codes "state") ∷ Sign (codes ")")
    ∷ Sign (codes "{") ∷ (first_statements header.fields firsts ++ Sign (codes "}") ∷ [])

abbrev pub width_text : Width → List ℕ
width_text Truth = codes "int"
width_text Wide = codes "int64_t"

abbrev pub first_value_tokens : Scope → Option ℕ → List Token
first_value_tokens scope None = Word (codes "0") ∷ []
first_value_tokens scope (Some n) = Word (codes "state") ∷ Sign (codes "->") ∷ Word (name_at scope.fields n) ∷ []

-- int64_t X = 0;
abbrev pub declared_tokens : Scope → Declared → List Token
declared_tokens scope declared =
    Word (width_text declared.width) ∷ Word declared.name ∷ Sign (codes "=") ∷ (first_value_tokens scope declared.first ++ Sign (codes ";") ∷ [])

abbrev pub variables_tokens : Scope → List Declared → List Token
variables_tokens scope [] = []
variables_tokens scope (declared ∷ variables) = declared_tokens scope declared ++ variables_tokens scope variables

abbrev pub scope_of : Header → List Declared → Scope
scope_of header variables = record {
  in_helper = false;
  variables = map (λ declared. declared.name) variables;
  fields = map (λ field. field.name) header.fields;
  inputs = map (λ prototype. prototype.name) header.inputs;
  outputs = map (λ prototype. prototype.name) header.outputs;
}

-- int P_step(P_state *state, P_context *context) { .. }
abbrev pub step_tokens : Header → List Declared → Statements → List Token
step_tokens header variables step =
    Word (codes "int") ∷ prefixed header (codes "step") ∷ Sign (codes "(") ∷ prefixed header (codes "state") ∷ Sign (codes "*") ∷ Word (codes "state") ∷ Sign (codes ",")
    ∷ prefixed header (codes "context") ∷ Sign (codes "*") ∷ Word (codes "context") ∷ Sign (codes ")") ∷ Sign (codes "{")
    ∷ (variables_tokens (scope_of header variables) variables ++ (statements_tokens (scope_of header variables) step ++ Sign (codes "}") ∷ []))

-- A whole file: #include "NAME", the helpers, the table of ends, and the two functions.
abbrev pub unit_tokens : (include : Name) → Header → TranslationUnit → List Token
unit_tokens include header unit =
    Directive (codes "include \"" ++ (include ++ codes "\"")) ∷ (helpers_tokens unit.helpers ++ (ends_tokens header unit.ends
    ++ (init_tokens header unit.firsts ++ step_tokens header unit.variables unit.step)))
