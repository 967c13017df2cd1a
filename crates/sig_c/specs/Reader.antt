-- How the tokens of a file are read: by what stands first, one token or two ahead. A number that bounds the depth counts down, from
-- as many tokens as there are. Each word of C is spelled here, apart from the text that is written (`Written`), so that a word which
-- is spelled in two ways is refused by the laws.
use Rattle.std.specs.Prelude.{◌∷◌, ◌++◌, ◌-◌, ◌^◌, ◌||◌, ℕ, zero, suc, ℤ, pos, negsuc, List, [], Bool, true, false, length, nat_lt, Option, None, Some, if◌then◌else◌, codes, decimal}
use Rattle.std.specs.Str.{bytes_eq}
use Rattle.std.specs.Str.Parse.{digits_value}
use Rattle.sig_c.specs.SmallC.{Name, Place, Variable, Field, Result, Operator, Plus, Minus, Times, Divide, Modulo, Less, LessEqual, Greater, GreaterEqual, Equal, NotEqual, And, Or, Expression, Number, Get, Not, Binary, Choose, Helper, Add, Subtract, Multiply, Quotient, Remainder, TheVariable, TheState, TheContext, Statement, Set, When, Check, Ask, Give, Ignore, Return, Statements, none, more, Width, Truth, Wide, FieldOfState, Header, HelperDefinition, Declared, EndCause, Done, Exhausted, Overflow, DivisionByZero, EndRow, TranslationUnit}
use Rattle.sig_c.specs.Tokens.{Token, Word, Sign, Quoted, Directive, is_digit}
use Rattle.sig_c.specs.Written.{Scope, scope_of}

-- ---- reading

-- what was read, and the tokens behind it
abbrev pub Read : Type 0 → Type 0
Read A = Option (A × List Token)

abbrev pub onward : {A B : Type 0} → Read A → (A → List Token → Read B) → Read B
onward None go = None
onward (Some (a, rest)) go = go a rest

abbrev pub is_token : Token → Token → Bool
is_token (Word a) (Word b) = bytes_eq a b
is_token (Sign a) (Sign b) = bytes_eq a b
is_token (Quoted a) (Quoted b) = bytes_eq a b
is_token (Directive a) (Directive b) = bytes_eq a b
is_token one other = false

-- these tokens stand first
abbrev pub behind : {B : Type 0} → List Token → List Token → (List Token → Read B) → Read B
behind [] tokens go = go tokens
behind (wanted ∷ others) [] go = None
behind (wanted ∷ others) (token ∷ tokens) go = if is_token wanted token then behind others tokens go else None

-- what was read before stays
abbrev pub past : {A : Type 0} → List Token → A → List Token → Read A
past wanted a tokens = behind wanted tokens (λ rest. Some (a, rest))

-- the place of a name
abbrev pub place_from : ℕ → Name → List Name → Option ℕ
place_from n name [] = None
place_from n name (other ∷ names) = if bytes_eq name other then Some n else place_from (suc n) name names

abbrev pub place_in : List Name → Name → Option ℕ
place_in names name = place_from 0 name names

abbrev pub with_rest : {A : Type 0} → List Token → Option A → Read A
with_rest tokens None = None
with_rest tokens (Some a) = Some (a, tokens)

-- ---- numbers

-- decimal digits, with no 0 before others (that would be octal, 6.4.4.1)
abbrev pub number_in : List ℕ → Option ℕ
number_in text = if bytes_eq (decimal (digits_value 10 text)) text then Some (digits_value 10 text) else None

abbrev pub a_number : List Token → Read ℕ
a_number (Word text ∷ tokens) = with_rest tokens (number_in text)
a_number other = None

-- a number that is written in decimal up to 2147483647, and else by INT64_C
abbrev pub a_size : List Token → Read ℕ
a_size (Word text ∷ tokens) =
    if bytes_eq text (codes "INT64_C")
    then behind (Sign (codes "(") ∷ []) tokens (λ rest. onward (a_number rest) (λ n end. if nat_lt n (2 ^ 63) then past (Sign (codes ")") ∷ []) n end else None))
    else onward (with_rest tokens (number_in text)) (λ n rest. if nat_lt n (2 ^ 31) then Some (n, rest) else None)
a_size other = None

-- ---- expressions

abbrev pub negative : ℕ → ℤ
negative zero = pos 0
negative (suc n) = negsuc n

abbrev pub known : {A B : Type 0} → Option A → (A → B) → List Token → Read B
known None make tokens = None
known (Some a) make tokens = Some (make a, tokens)

abbrev pub is_digit_first : List ℕ → Bool
is_digit_first [] = false
is_digit_first (byte ∷ bytes) = is_digit byte

-- the name of a field behind `state->`
abbrev pub a_field : Scope → List Token → Read Place
a_field scope (Word name ∷ tokens) = known (place_in scope.fields name) Field tokens
a_field scope other = None

-- an operand that begins with a word
abbrev pub word_operand : Scope → List ℕ → List Token → Read Expression
word_operand scope text tokens =
    if bytes_eq text (codes "INT64_MAX") then Some (Number (pos (2 ^ 63 - 1)), tokens)
    else (if bytes_eq text (codes "INT64_MIN") then Some (Number (negsuc (2 ^ 63 - 1)), tokens)
    else (if bytes_eq text (codes "INT64_C") || is_digit_first text then onward (a_size (Word text ∷ tokens)) (λ n rest. Some (Number (pos n), rest))
    else (if bytes_eq text (codes "state") then behind (Sign (codes "->") ∷ []) tokens (λ rest. onward (a_field scope rest) (λ x end. Some (Get x, end)))
    else known (place_in scope.variables text) (λ x. Get (Variable x)) tokens)))

abbrev pub operator_in : List ℕ → Option Operator
operator_in text =
    if bytes_eq text (codes "+") then Some Plus
    else (if bytes_eq text (codes "-") then Some Minus
    else (if bytes_eq text (codes "*") then Some Times
    else (if bytes_eq text (codes "/") then Some Divide
    else (if bytes_eq text (codes "%") then Some Modulo
    else (if bytes_eq text (codes "<") then Some Less
    else (if bytes_eq text (codes "<=") then Some LessEqual
    else (if bytes_eq text (codes ">") then Some Greater
    else (if bytes_eq text (codes ">=") then Some GreaterEqual
    else (if bytes_eq text (codes "==") then Some Equal
    else (if bytes_eq text (codes "!=") then Some NotEqual
    else (if bytes_eq text (codes "&&") then Some And
    else (if bytes_eq text (codes "||") then Some Or
    else None))))))))))))

abbrev pub binary_or_none : (List Token → Read Expression) → Expression → List Token → Option Operator → List Token → Read Expression
binary_or_none operand a tokens None rest = Some (a, tokens)
binary_or_none operand a tokens (Some op) rest = onward (operand rest) (λ b end. Some (Binary op a b, end))

-- what stands behind the first operand
abbrev pub then_operator : (List Token → Read Expression) → Expression → List Token → Read Expression
then_operator operand a (Sign text ∷ rest) =
    if bytes_eq text (codes "?")
    then onward (operand rest) (λ b middle. behind (Sign (codes ":") ∷ []) middle (λ later. onward (operand later) (λ c end. Some (Choose a b c, end))))
    else binary_or_none operand a (Sign text ∷ rest) (operator_in text) rest
then_operator operand a other = Some (a, other)

-- an operand, or two with an operator, or three with ? and :
abbrev pub expression_by : (List Token → Read Expression) → List Token → Read Expression
expression_by operand tokens = onward (operand tokens) (then_operator operand)

abbrev pub operand_by : Scope → (List Token → Read Expression) → List Token → Read Expression
operand_by scope operand (Word text ∷ rest) = word_operand scope text rest
operand_by scope operand (Sign text ∷ rest) =
    if bytes_eq text (codes "-") then onward (a_size rest) (λ n end. Some (Number (negative n), end))
    else (if bytes_eq text (codes "!") then onward (operand rest) (λ e end. Some (Not e, end))
    else (if bytes_eq text (codes "(") then onward (expression_by operand rest) (past (Sign (codes ")") ∷ []))
    else (if bytes_eq text (codes "*") then past (Word (codes "result") ∷ []) (Get Result) rest
    else None)))
operand_by scope operand other = None

abbrev pub read_operand : Scope → ℕ → List Token → Read Expression
read_operand scope zero tokens = None
read_operand scope (suc depth) tokens = operand_by scope (read_operand scope depth) tokens

abbrev pub read_expression : Scope → ℕ → List Token → Read Expression
read_expression scope depth tokens = expression_by (read_operand scope depth) tokens

-- ---- statements

abbrev pub helper_in : List ℕ → Option Helper
helper_in text =
    if bytes_eq text (codes "add") then Some Add
    else (if bytes_eq text (codes "subtract") then Some Subtract
    else (if bytes_eq text (codes "multiply") then Some Multiply
    else (if bytes_eq text (codes "divide") then Some Quotient
    else (if bytes_eq text (codes "modulo") then Some Remainder
    else None))))

-- { return k; }
abbrev pub a_refusal : List Token → Read ℕ
a_refusal tokens =
    behind (Sign (codes "{") ∷ Word (codes "return") ∷ []) tokens (λ rest. onward (a_number rest) (λ code end. past (Sign (codes ";") ∷ Sign (codes "}") ∷ []) code end))

abbrev pub a_variable : Scope → List Token → Read ℕ
a_variable scope (Word name ∷ tokens) = with_rest tokens (place_in scope.variables name)
a_variable scope other = None

-- )) { return k; }
abbrev pub refusal_of : {A : Type 0} → (ℕ → A) → List Token → Read A
refusal_of make tokens = behind (Sign (codes ")") ∷ Sign (codes ")") ∷ []) tokens (λ rest. onward (a_refusal rest) (λ code end. Some (make code, end)))

-- behind `if (add(`
abbrev pub a_check : Scope → (List Token → Read Expression) → Helper → List Token → Read Statement
a_check scope expression helper tokens =
    onward (expression tokens) (λ a rest. behind (Sign (codes ",") ∷ []) rest (λ others. onward (expression others) (λ b later.
    behind (Sign (codes ",") ∷ Sign (codes "&") ∷ []) later (λ more_tokens. onward (a_variable scope more_tokens) (λ x end. refusal_of (Check helper a b x) end)))))

-- behind `if (!r_P_X(`
abbrev pub an_ask : Scope → (input : ℕ) → List Token → Read Statement
an_ask scope input (Word text ∷ Sign sign ∷ rest) =
    if bytes_eq text (codes "context")
    then (if bytes_eq sign (codes ",")
    then behind (Sign (codes "&") ∷ []) rest (λ others. onward (a_variable scope others) (λ x end. refusal_of (Ask input (Some x)) end))
    else refusal_of (Ask input None) (Sign sign ∷ rest))
    else None
an_ask scope input other = None

-- the input that an `if (!r_P_X(` asks
abbrev pub input_in : Scope → List Token → Option ℕ
input_in scope (Word name ∷ rest) = place_in scope.inputs name
input_in scope other = None

-- an `if (e) { .. }`
abbrev pub a_block : (List Token → Read Expression) → (List Token → Read Statements) → List Token → Read Statement
a_block expression statements tokens =
    onward (expression tokens) (λ e rest. behind (Sign (codes ")") ∷ Sign (codes "{") ∷ []) rest (λ others.
    onward (statements others) (λ body end. past (Sign (codes "}") ∷ []) (When e body) end)))

abbrev pub check_or_block : Scope → (List Token → Read Expression) → (List Token → Read Statements) → List Token → Option Helper → List Token → Read Statement
check_or_block scope expression statements tokens None rest = a_block expression statements tokens
check_or_block scope expression statements tokens (Some helper) rest = behind (Sign (codes "(") ∷ []) rest (λ end. a_check scope expression helper end)

abbrev pub behind_name : (input : ℕ) → Scope → List Token → Read Statement
behind_name input scope (name ∷ rest) = behind (Sign (codes "(") ∷ []) rest (λ end. an_ask scope input end)
behind_name input scope [] = None

abbrev pub ask_or_block : Scope → (List Token → Read Expression) → (List Token → Read Statements) → List Token → Option ℕ → List Token → Read Statement
ask_or_block scope expression statements tokens None rest = a_block expression statements tokens
ask_or_block scope expression statements tokens (Some input) rest = behind_name input scope rest

-- behind `if (`
abbrev pub an_if : Scope → (List Token → Read Expression) → (List Token → Read Statements) → List Token → Read Statement
an_if scope expression statements (Word text ∷ rest) = check_or_block scope expression statements (Word text ∷ rest) (helper_in text) rest
an_if scope expression statements (Sign text ∷ rest) =
    if bytes_eq text (codes "!") then ask_or_block scope expression statements (Sign text ∷ rest) (input_in scope rest) rest
    else a_block expression statements (Sign text ∷ rest)
an_if scope expression statements other = None

-- behind w_P_Y(context
abbrev pub a_gift : (List Token → Read Expression) → (output : ℕ) → List Token → Read Statement
a_gift expression output (Sign text ∷ rest) =
    if bytes_eq text (codes ",") then onward (expression rest) (λ e end. past (Sign (codes ")") ∷ Sign (codes ";") ∷ []) (Give output (Some e)) end)
    else past (Sign (codes ")") ∷ Sign (codes ";") ∷ []) (Give output None) (Sign text ∷ rest)
a_gift expression output other = None

-- = e;
abbrev pub an_assignment : (List Token → Read Expression) → Place → List Token → Read Statement
an_assignment expression x tokens =
    behind (Sign (codes "=") ∷ []) tokens (λ rest. onward (expression rest) (λ e end. past (Sign (codes ";") ∷ []) (Set x e) end))

abbrev pub give_or_set : Scope → (List Token → Read Expression) → List ℕ → List Token → Option ℕ → Read Statement
give_or_set scope expression text rest (Some output) = behind (Sign (codes "(") ∷ Word (codes "context") ∷ []) rest (λ end. a_gift expression output end)
give_or_set scope expression text rest None = onward (known (place_in scope.variables text) Variable rest) (an_assignment expression)

-- a statement that begins with a word
abbrev pub word_statement : Scope → (List Token → Read Expression) → (List Token → Read Statements) → List ℕ → List Token → Read Statement
word_statement scope expression statements text rest =
    if bytes_eq text (codes "if") then behind (Sign (codes "(") ∷ []) rest (λ end. an_if scope expression statements end)
    else (if bytes_eq text (codes "return") then onward (a_number rest) (λ code end. past (Sign (codes ";") ∷ []) (Return code) end)
    else (if bytes_eq text (codes "state")
    then behind (Sign (codes "->") ∷ []) rest (λ others. onward (a_field scope others) (an_assignment expression))
    else give_or_set scope expression text rest (place_in scope.outputs text)))

-- what `(void)` names
abbrev pub an_ignored : Scope → List Token → Read Statement
an_ignored scope (Word text ∷ rest) =
    if bytes_eq text (codes "state") then Some (Ignore TheState, rest)
    else (if bytes_eq text (codes "context") then Some (Ignore TheContext, rest)
    else known (place_in scope.variables text) (λ x. Ignore (TheVariable x)) rest)
an_ignored scope other = None

abbrev pub one_statement : Scope → (List Token → Read Expression) → (List Token → Read Statements) → List Token → Read Statement
one_statement scope expression statements (Word text ∷ rest) = word_statement scope expression statements text rest
one_statement scope expression statements (Sign text ∷ rest) =
    if bytes_eq text (codes "(")
    then behind (Word (codes "void") ∷ Sign (codes ")") ∷ []) rest (λ others. onward (an_ignored scope others) (past (Sign (codes ";") ∷ [])))
    else (if bytes_eq text (codes "*") then onward (past (Word (codes "result") ∷ []) Result rest) (an_assignment expression) else None)
one_statement scope expression statements other = None

abbrev pub is_end : List Token → Bool
is_end [] = true
is_end (token ∷ tokens) = is_token (Sign (codes "}")) token

-- statements up to `}`, which is left
abbrev pub read_statements : Scope → ℕ → List Token → Read Statements
read_statements scope zero tokens = None
read_statements scope (suc depth) tokens =
    if is_end tokens then Some (none, tokens)
    else onward (one_statement scope (read_expression scope depth) (read_statements scope depth) tokens) (λ statement rest.
    onward (read_statements scope depth rest) (λ statements end. Some (more statement statements, end)))

-- ---- functions and tables

-- what the statements of a helper may name
abbrev pub parameters : Scope
parameters = record { in_helper = true; variables = codes "a" ∷ codes "b" ∷ []; fields = []; inputs = []; outputs = [] }

-- (int64_t a, int64_t b, int64_t *result) {
abbrev pub helper_opening : List Token
helper_opening =
    Sign (codes "(") ∷ Word (codes "int64_t") ∷ Word (codes "a") ∷ Sign (codes ",") ∷ Word (codes "int64_t") ∷ Word (codes "b") ∷ Sign (codes ",") ∷ Word (codes "int64_t") ∷ Sign (codes "*")
    ∷ Word (codes "result") ∷ Sign (codes ")") ∷ Sign (codes "{") ∷ []

abbrev pub a_helper : List Token → Read Helper
a_helper (Word text ∷ rest) = with_rest rest (helper_in text)
a_helper other = None

-- static int NAME(int64_t a, int64_t b, int64_t *result) { .. }
abbrev pub read_helper : ℕ → List Token → Read HelperDefinition
read_helper depth tokens =
    behind (Word (codes "static") ∷ Word (codes "int") ∷ []) tokens (λ t1. onward (a_helper t1) (λ helper t2. behind helper_opening t2 (λ t3.
    onward (read_statements parameters depth t3) (λ body t4. past (Sign (codes "}") ∷ []) (record { helper = helper; body = body }) t4))))

abbrev pub is_word : List ℕ → List Token → Bool
is_word text [] = false
is_word text (token ∷ tokens) = is_token (Word text) token

-- functions that begin with `static`, this many at most
abbrev pub read_helpers : (depth count : ℕ) → List Token → Read (List HelperDefinition)
read_helpers depth zero tokens = None
read_helpers depth (suc count) tokens =
    if is_word (codes "static") tokens
    then onward (read_helper depth tokens) (λ definition rest. onward (read_helpers depth count rest) (λ others end. Some (definition ∷ others, end)))
    else Some ([], tokens)

-- P_NAME
abbrev pub named : Header → List ℕ → Token
named header text = Word (header.prefix ++ (codes "_" ++ text))

abbrev pub cause_of : Header → List ℕ → Option EndCause
cause_of header text =
    if is_token (named header (codes "DONE")) (Word text) then Some Done
    else (if is_token (named header (codes "EXHAUSTED")) (Word text) then Some Exhausted
    else (if is_token (named header (codes "OVERFLOW")) (Word text) then Some Overflow
    else (if is_token (named header (codes "DIVISION_BY_ZERO")) (Word text) then Some DivisionByZero
    else None)))

abbrev pub a_cause : Header → List Token → Read EndCause
a_cause header (Word text ∷ rest) = with_rest rest (cause_of header text)
a_cause header other = None

abbrev pub a_string : List Token → Read (List ℕ)
a_string (Quoted text ∷ rest) = Some (text, rest)
a_string other = None

abbrev pub read_row : Header → List Token → Read EndRow
read_row header tokens =
    behind (Sign (codes "{") ∷ []) tokens (λ t1. onward (a_cause header t1) (λ cause t2. behind (Sign (codes ",") ∷ []) t2 (λ t3. onward (a_number t3) (λ line t4.
    behind (Sign (codes ",") ∷ []) t4 (λ t5. onward (a_number t5) (λ column t6. behind (Sign (codes ",") ∷ []) t6 (λ t7. onward (a_string t7) (λ name t8.
    past (Sign (codes "}") ∷ []) (record { cause = cause; line = line; column = column; name = name }) t8))))))))

-- so many rows, with commas between
abbrev pub read_rows : Header → ℕ → List Token → Read (List EndRow)
read_rows header zero tokens = Some ([], tokens)
read_rows header (suc zero) tokens = onward (read_row header tokens) (λ row rest. Some (row ∷ [], rest))
read_rows header (suc (suc count)) tokens =
    onward (read_row header tokens) (λ row rest. behind (Sign (codes ",") ∷ []) rest (λ others. onward (read_rows header (suc count) others) (λ rows end. Some (row ∷ rows, end))))

-- const P_end P_ends[K] = { .. };
abbrev pub read_ends : Header → List Token → Read (List EndRow)
read_ends header tokens =
    behind (Word (codes "const") ∷ named header (codes "end") ∷ named header (codes "ends") ∷ Sign (codes "[") ∷ []) tokens (λ t1. onward (a_number t1) (λ count t2.
    behind (Sign (codes "]") ∷ Sign (codes "=") ∷ Sign (codes "{") ∷ []) t2 (λ t3. onward (read_rows header count t3) (past (Sign (codes "}") ∷ Sign (codes ";") ∷ [])))))

abbrev pub value_of : Expression → Option ℤ
value_of (Number v) = Some v
value_of other = None

-- a number as an operand
abbrev pub a_value : Scope → List Token → Read ℤ
a_value scope tokens = onward (read_operand scope 1 tokens) (λ e rest. with_rest rest (value_of e))

-- state->FIELD = number;, for each field
abbrev pub read_firsts : Scope → List FieldOfState → List Token → Read (List ℤ)
read_firsts scope [] tokens = Some ([], tokens)
read_firsts scope (field ∷ fields) tokens =
    behind (Word (codes "state") ∷ Sign (codes "->") ∷ Word field.name ∷ Sign (codes "=") ∷ []) tokens (λ t1. onward (a_value scope t1) (λ v t2.
    behind (Sign (codes ";") ∷ []) t2 (λ t3. onward (read_firsts scope fields t3) (λ firsts end. Some (v ∷ firsts, end)))))

abbrev pub firsts_or_none : Scope → List FieldOfState → List Token → Read (List ℤ)
firsts_or_none scope [] tokens = past (Sign (codes "(") ∷ Word (codes "void") ∷ Sign (codes ")") ∷ Word (codes "state") ∷ Sign (codes ";") ∷ []) [] tokens
firsts_or_none scope (field ∷ fields) tokens = read_firsts scope (field ∷ fields) tokens

-- void P_init(P_state *state) { .. }
abbrev pub read_init : Header → List Token → Read (List ℤ)
read_init header tokens =
    behind (Word (codes "void") ∷ named header (codes "init") ∷ Sign (codes "(") ∷ named header (codes "state") ∷ Sign (codes "*") ∷ Word (codes "state") ∷ Sign (codes ")")
    ∷ Sign (codes "{") ∷ []) tokens (λ t1. onward (firsts_or_none (scope_of header []) header.fields t1) (past (Sign (codes "}") ∷ [])))

abbrev pub width_in : List Token → Option Width
width_in tokens = if is_word (codes "int") tokens then Some Truth else (if is_word (codes "int64_t") tokens then Some Wide else None)

abbrev pub field_number : Place → Option ℕ
field_number (Field n) = Some n
field_number other = None

-- 0, or state->FIELD
abbrev pub a_first : Scope → List Token → Read (Option ℕ)
a_first scope (Word text ∷ rest) =
    if bytes_eq text (codes "0") then Some (None, rest)
    else (if bytes_eq text (codes "state") then behind (Sign (codes "->") ∷ []) rest (λ others. onward (a_field scope others) (λ x end. Some (field_number x, end)))
    else None)
a_first scope other = None

-- behind the type
abbrev pub a_declaration : Scope → Width → List Token → Read Declared
a_declaration scope width (typed ∷ Word name ∷ rest) =
    behind (Sign (codes "=") ∷ []) rest (λ others. onward (a_first scope others) (λ first end.
    past (Sign (codes ";") ∷ []) (record { name = name; width = width; first = first }) end))
a_declaration scope width other = None

-- declarations as long as a type stands first
abbrev pub read_variables : Scope → ℕ → List Token → Read (List Declared)
read_variables scope zero tokens = None
read_variables scope (suc count) tokens =
    elim (width_in tokens) [
      | None ↦ Some ([], tokens)
      | Some width ↦ onward (a_declaration scope width tokens) (λ declared rest. onward (read_variables scope count rest) (λ variables end. Some (declared ∷ variables, end)))
    ]

-- int P_step(P_state *state, P_context *context) {
abbrev pub step_opening : Header → List Token
step_opening header =
    Word (codes "int") ∷ named header (codes "step") ∷ Sign (codes "(") ∷ named header (codes "state") ∷ Sign (codes "*") ∷ Word (codes "state") ∷ Sign (codes ",")
    ∷ named header (codes "context") ∷ Sign (codes "*") ∷ Word (codes "context") ∷ Sign (codes ")") ∷ Sign (codes "{") ∷ []

-- the variables and the statements of the step
abbrev pub read_step : Header → ℕ → List Token → Read (List Declared × Statements)
read_step header depth tokens =
    behind (step_opening header) tokens (λ t1. onward (read_variables (scope_of header []) depth t1) (λ variables t2.
    onward (read_statements (scope_of header variables) depth t2) (λ step t3. past (Sign (codes "}") ∷ []) (variables, step) t3)))

abbrev pub read_rest : Header → ℕ → List Token → Read TranslationUnit
read_rest header depth tokens =
    onward (read_helpers depth depth tokens) (λ helpers t1. onward (read_ends header t1) (λ ends t2. onward (read_init header t2) (λ firsts t3.
    onward (read_step header depth t3) (λ step end. Some (record { helpers = helpers; ends = ends; firsts = firsts; variables = step.0; step = step.1 }, end)))))

-- a whole file, which includes the header
abbrev pub read_unit : (include : Name) → Header → List Token → Read TranslationUnit
read_unit include header [] = None
read_unit include header (token ∷ tokens) =
    if is_token (Directive (codes "include \"" ++ (include ++ codes "\""))) token then read_rest header (suc (length tokens)) tokens else None
