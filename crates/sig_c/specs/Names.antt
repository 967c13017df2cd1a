-- Which units may be written: their names are identifiers that C11 tells apart and that stand for nothing else, what they name is
-- there and has the types that C11 wants, and their numbers are in range.
use Rattle.std.specs.Prelude.{◌≡◌, ◌<◌, ◌≤◌, ◌∷◌, ◌++◌, ◌^◌, ◌&&◌, ◌||◌, ℕ, ℤ, List, [], Bool, true, false, not, length, nat_eq, nat_le, drop, slice_get, Option, None, Some, codes, ⊤}
use Rattle.std.specs.List.{list_any, list_all, starts_with, ends_with}
use Rattle.std.specs.Str.{bytes_eq}
use Rattle.sig_base.specs.Traces.{has_64_bits}
use Rattle.sig_c.specs.SmallC.{Name, Place, Variable, Field, Result, Expression, Number, Get, Not, Binary, Choose, Ignored, TheVariable, TheState, TheContext, Statement, Set, When, Check, Ask, Give, Ignore, Return, Statements, none, more, Helper, Width, Wide, FieldOfState, Prototype, Header, HelperDefinition, Declared, EndRow, TranslationUnit}
use Rattle.sig_c.specs.Meaning.{may_hold, may_ask}
use Rattle.sig_c.specs.Calls.{is_helper, widths_in}
use Rattle.sig_c.specs.Helpers.{all_wide}
use Rattle.sig_c.specs.Tokens.{is_between, is_digit, is_letter, is_word_byte}
use Rattle.sig_c.specs.Written.{Scope, helper_scope, scope_of}

-- ---- names

-- keywords (6.4.1), what else the files use, and words that compilers add (J.5.9, J.5.10)
abbrev pub reserved : List Name
reserved =
    codes "if" ∷ codes "return" ∷ codes "static" ∷ codes "int" ∷ codes "const" ∷ codes "void" ∷ codes "int64_t" ∷ codes "INT64_C" ∷ codes "INT64_MIN" ∷ codes "INT64_MAX"
    ∷ codes "state" ∷ codes "context" ∷ codes "add" ∷ codes "subtract" ∷ codes "multiply" ∷ codes "divide" ∷ codes "modulo"
    ∷ codes "auto" ∷ codes "break" ∷ codes "case" ∷ codes "char" ∷ codes "continue" ∷ codes "default" ∷ codes "do" ∷ codes "double" ∷ codes "else" ∷ codes "enum"
    ∷ codes "extern" ∷ codes "float" ∷ codes "for" ∷ codes "goto" ∷ codes "inline" ∷ codes "long" ∷ codes "register" ∷ codes "restrict" ∷ codes "short" ∷ codes "signed"
    ∷ codes "sizeof" ∷ codes "struct" ∷ codes "switch" ∷ codes "typedef" ∷ codes "union" ∷ codes "unsigned" ∷ codes "volatile" ∷ codes "while"
    ∷ codes "result" ∷ codes "asm" ∷ codes "fortran" ∷ codes "typeof" ∷ codes "linux" ∷ codes "unix" ∷ codes "i386" ∷ []

abbrev pub begins_with_letter : Name → Bool
begins_with_letter [] = false
begins_with_letter (byte ∷ bytes) = is_letter byte && list_all is_word_byte bytes

-- an identifier that is told apart by its first 63 characters (5.2.4.1), and is not reserved
abbrev pub is_free : Name → Bool
is_free name = begins_with_letter name && (nat_le (length name) 63 && not (list_any (bytes_eq name) reserved))

abbrev pub AreFree : List Name → Type 0
AreFree [] = ⊤
AreFree (name ∷ names) = (is_free name ≡ true) × AreFree names

abbrev pub AreDistinct : List Name → Type 0
AreDistinct [] = ⊤
AreDistinct (name ∷ names) = (list_any (bytes_eq name) names ≡ false) × AreDistinct names

-- what <stdint.h> has, or may have later (7.20, 7.31.10): int64_t, INT64_MAX, SIZE_MAX, INT8_C and the like
abbrev pub is_large_byte : ℕ → Bool
is_large_byte byte = is_between 65 90 byte || (is_digit byte || nat_eq byte 95)

abbrev pub is_of_stdint : Name → Bool
is_of_stdint name =
    ends_with nat_eq name (codes "_t")
    || (list_all is_large_byte name && list_any (ends_with nat_eq name) (codes "_MIN" ∷ codes "_MAX" ∷ codes "_WIDTH" ∷ codes "_C" ∷ []))

-- Variables, and functions of inputs and outputs, are one name space, fields another (6.2.3).
pub record AreNames (scope : Scope) : Type 0 where
  pub identifiers : AreFree (scope.variables ++ (scope.inputs ++ scope.outputs))
  pub distinct : AreDistinct (scope.variables ++ (scope.inputs ++ scope.outputs))
  pub fields : AreFree scope.fields
  pub fields_distinct : AreDistinct scope.fields

-- r_P_ begins the names of functions of inputs, w_P_ those of outputs, and P_ all others that the header has
abbrev pub begins_with : Name → Name → Bool
begins_with beginning name = starts_with nat_eq name beginning

abbrev pub of_file : (prefix : Name) → Name
of_file prefix = prefix ++ codes "_"

abbrev pub of_input : (prefix : Name) → Name
of_input prefix = codes "r_" ++ of_file prefix

abbrev pub of_output : (prefix : Name) → Name
of_output prefix = codes "w_" ++ of_file prefix

abbrev pub is_of_program : (prefix : Name) → Name → Bool
is_of_program prefix name = begins_with (of_file prefix) name || (begins_with (of_input prefix) name || begins_with (of_output prefix) name)

-- the library keeps names of functions that begin with one of the first and a small letter, or with one of the second and `_`
-- (7.31.1 to 7.31.16)
abbrev pub is_small_letter : List ℕ → Bool
is_small_letter [] = false
is_small_letter (byte ∷ bytes) = is_between 97 122 byte

abbrev pub is_of_library : (prefix : Name) → Bool
is_of_library prefix =
    list_any (λ word. begins_with word prefix && is_small_letter (drop (length word) prefix)) (codes "str" ∷ codes "mem" ∷ codes "wcs" ∷ codes "is" ∷ codes "to" ∷ [])
    || list_any (bytes_eq prefix) (codes "atomic" ∷ codes "cnd" ∷ codes "mtx" ∷ codes "thrd" ∷ codes "tss" ∷ [])

-- P: with it P_DIVISION_BY_ZERO, the longest, has 63 characters at most
abbrev pub is_prefix : Name → Bool
is_prefix prefix = begins_with_letter prefix && (nat_le (length prefix) 46 && not (is_of_library prefix))

-- The names of a file are told apart, and none is one that the header or the library may have.
pub record HasNames (header : Header) (variables : List Declared) : Type 0 where
  pub prefix : is_prefix header.prefix ≡ true
  pub names : AreNames (scope_of header variables)
  pub stdint : list_any is_of_stdint ((scope_of header variables).variables ++ (scope_of header variables).fields) ≡ false
  pub program : list_any (is_of_program header.prefix) (scope_of header variables).variables ≡ false
  pub inputs : list_all (begins_with (of_input header.prefix)) (scope_of header variables).inputs ≡ true
  pub outputs : list_all (begins_with (of_output header.prefix)) (scope_of header variables).outputs ≡ true

-- letters, digits, `_` and `.` make the name of the file that is included
abbrev pub is_file_byte : ℕ → Bool
is_file_byte byte = is_word_byte byte || nat_eq byte 46

abbrev pub is_file_name : Name → Bool
is_file_name [] = false
is_file_name (byte ∷ bytes) = list_all is_file_byte (byte ∷ bytes)

-- ---- what is named is there

abbrev pub IsPlace : Scope → Place → Type 0
IsPlace scope (Variable x) = x < length scope.variables
IsPlace scope (Field n) = n < length scope.fields
IsPlace scope Result = scope.in_helper ≡ true

abbrev pub IsExpression : Scope → Expression → Type 0
IsExpression scope (Number v) = has_64_bits v ≡ true
IsExpression scope (Get x) = IsPlace scope x
IsExpression scope (Not e) = IsExpression scope e
IsExpression scope (Binary op a b) = IsExpression scope a × IsExpression scope b
IsExpression scope (Choose t a b) = IsExpression scope t × IsExpression scope a × IsExpression scope b

-- what a step answers is an `int` (5.2.4.2.1)
abbrev pub IsCode : ℕ → Type 0
IsCode code = code < 2 ^ 15

abbrev pub MayAsk : Scope → Option ℕ → Type 0
MayAsk scope None = ⊤
MayAsk scope (Some x) = x < length scope.variables

abbrev pub MayGive : Scope → Option Expression → Type 0
MayGive scope None = ⊤
MayGive scope (Some e) = IsExpression scope e

abbrev pub MayIgnore : Scope → Ignored → Type 0
MayIgnore scope (TheVariable x) = x < length scope.variables
MayIgnore scope TheState = scope.in_helper ≡ false
MayIgnore scope TheContext = scope.in_helper ≡ false

abbrev mutual
  pub IsStatement : Scope → Statement → Type 0
  IsStatement scope (Set x e) = IsPlace scope x × IsExpression scope e
  IsStatement scope (When e statements) = IsExpression scope e × AreStatements scope statements
  IsStatement scope (Check helper a b x code) = IsExpression scope a × IsExpression scope b × (x < length scope.variables) × IsCode code
  IsStatement scope (Ask input x code) = (input < length scope.inputs) × MayAsk scope x × IsCode code
  IsStatement scope (Give output e) = (output < length scope.outputs) × MayGive scope e
  IsStatement scope (Ignore x) = MayIgnore scope x
  IsStatement scope (Return code) = IsCode code

  pub AreStatements : Scope → Statements → Type 0
  AreStatements scope none = ⊤
  AreStatements scope (more statement rest) = IsStatement scope statement × AreStatements scope rest

-- ---- types

-- what statements may use: the types of variables and fields, the helpers before them, and the functions that the header declares
pub record Types : Type 0 where
  pub widths : Place → Width
  pub helpers : List HelperDefinition
  pub inputs : List Prototype
  pub outputs : List Prototype

-- a value is passed where the function has a parameter for it (6.5.2.2p2)
abbrev pub takes_value : Option Width → Option Expression → Bool
takes_value None None = true
takes_value (Some width) (Some e) = true
takes_value wanted e = false

abbrev pub may_give : Option Prototype → Option Expression → Bool
may_give None e = false
may_give (Some prototype) e = takes_value prototype.takes e

abbrev pub has_helper : List HelperDefinition → Helper → Bool
has_helper definitions helper = list_any (λ definition. is_helper helper definition.helper) definitions

-- functions are called as they are declared, and helpers only where they are
abbrev mutual
  pub IsTyped : Types → Statement → Type 0
  IsTyped types (When e statements) = AreTyped types statements
  IsTyped types (Check helper a b x code) = (has_helper types.helpers helper ≡ true) × (types.widths (Variable x) ≡ Wide)
  IsTyped types (Ask input x code) = may_ask types.widths (slice_get types.inputs input) x ≡ true
  IsTyped types (Give output e) = may_give (slice_get types.outputs output) e ≡ true
  IsTyped types other = ⊤

  pub AreTyped : Types → Statements → Type 0
  AreTyped types none = ⊤
  AreTyped types (more statement rest) = IsTyped types statement × AreTyped types rest

-- ---- whole units

abbrev pub helper_types : Types
helper_types = record { widths = all_wide; helpers = []; inputs = []; outputs = [] }

abbrev pub types_of : Header → TranslationUnit → Types
types_of header unit = record { widths = widths_in header unit; helpers = unit.helpers; inputs = header.inputs; outputs = header.outputs }

-- a helper stands once in a file, and its statements are those of a helper
abbrev pub AreHelpers : List HelperDefinition → Type 0
AreHelpers [] = ⊤
AreHelpers (definition ∷ others) =
    (has_helper others definition.helper ≡ false) × AreStatements helper_scope definition.body × AreTyped helper_types definition.body × AreHelpers others

-- places of a program have 32 bits
pub record IsRow (row : EndRow) : Type 0 where
  pub line : row.line < 2 ^ 32
  pub column : row.column < 2 ^ 32

abbrev pub AreRows : List EndRow → Type 0
AreRows [] = ⊤
AreRows (row ∷ rows) = IsRow row × AreRows rows

abbrev pub HaveBits : List ℤ → Type 0
HaveBits [] = ⊤
HaveBits (v ∷ values) = (has_64_bits v ≡ true) × HaveBits values

-- P_init gives each field a value that its type holds
abbrev pub AreHeld : List FieldOfState → List ℤ → Type 0
AreHeld [] firsts = ⊤
AreHeld (field ∷ fields) [] = ⊤
AreHeld (field ∷ fields) (v ∷ firsts) = (may_hold field.width v ≡ true) × AreHeld fields firsts

-- a variable begins with 0 or with a field
abbrev pub IsFirst : (fields : ℕ) → Option ℕ → Type 0
IsFirst fields None = ⊤
IsFirst fields (Some n) = n < fields

abbrev pub AreVariables : (fields : ℕ) → List Declared → Type 0
AreVariables fields [] = ⊤
AreVariables fields (declared ∷ variables) = IsFirst fields declared.first × AreVariables fields variables

-- A unit may be written under a header.
pub record IsUnit (header : Header) (unit : TranslationUnit) : Type 0 where
  pub names : HasNames header unit.variables
  pub helpers : AreHelpers unit.helpers
  pub rows : AreRows unit.ends
  pub some_rows : 0 < length unit.ends
  pub few_rows : length unit.ends ≤ 2 ^ 15
  pub firsts : length unit.firsts ≡ length header.fields
  pub bits : HaveBits unit.firsts
  pub held : AreHeld header.fields unit.firsts
  pub variables : AreVariables (length header.fields) unit.variables
  pub step : AreStatements (scope_of header unit.variables) unit.step
  pub types : AreTyped (types_of header unit) unit.step
