-- Calls of a step, one for each instant: what they answer, and what is in the state behind them.
use Rattle.std.specs.Prelude.{◌≡◌, ◌∷◌, ℕ, zero, suc, ℤ, pos, List, [], Bool, true, false, slice_get, Option, None, Some, if◌then◌else◌}
use Rattle.sig_c.specs.SmallC.{Place, Variable, Field, Result, Expression, Number, Get, Helper, Add, Subtract, Multiply, Quotient, Remainder, Set, Statements, more, Width, Truth, Wide, FieldOfState, Header, HelperDefinition, Declared, TranslationUnit}
use Rattle.sig_c.specs.Meaning.{Memory, Outcome, GoesOn, Returned, Undefined, Functions, answering, may_hold, run}
use Rattle.sig_c.specs.Helpers.{called}

-- ---- one call

abbrev pub width_of_variable : Option Declared → Width
width_of_variable None = Truth
width_of_variable (Some declared) = declared.width

abbrev pub width_of_field : Option FieldOfState → Width
width_of_field None = Truth
width_of_field (Some field) = field.width

-- the types of variables and fields
abbrev pub widths_in : Header → TranslationUnit → Place → Width
widths_in header unit (Variable x) = width_of_variable (slice_get unit.variables x)
widths_in header unit (Field n) = width_of_field (slice_get header.fields n)
widths_in header unit Result = Wide

abbrev pub is_helper : Helper → Helper → Bool
is_helper Add Add = true
is_helper Subtract Subtract = true
is_helper Multiply Multiply = true
is_helper Quotient Quotient = true
is_helper Remainder Remainder = true
is_helper one other = false

-- the statements of a helper that the file has
abbrev pub body_in : Helper → List HelperDefinition → Option Statements
body_in helper [] = None
body_in helper (definition ∷ others) = if is_helper helper definition.helper then Some definition.body else body_in helper others

abbrev pub call_of : Option Statements → ℤ → ℤ → Outcome
call_of None v w = Undefined
call_of (Some body) v w = called body v w

-- the helpers that the file has may be called, and the functions that the header declares
abbrev pub functions_in : Header → TranslationUnit → Functions
functions_in header unit = record { helper = λ helper. call_of (body_in helper unit.helpers); inputs = header.inputs; outputs = header.outputs }

abbrev pub fields_alone : Memory → Place → Option ℤ
fields_alone m (Field n) = m.values (Field n)
fields_alone m other = None

-- where the step is entered, no variable has a value but the fields of the state (6.2.4p6)
abbrev pub entered : Memory → Memory
entered m = record m { values = fields_alone m }

abbrev pub first_value : Option ℕ → Expression
first_value None = Number (pos 0)
first_value (Some n) = Get (Field n)

-- the declarations, from the variable of this number on
abbrev pub declare : ℕ → List Declared → Statements → Statements
declare x [] after = after
declare x (declared ∷ others) after = more (Set (Variable x) (first_value declared.first)) (declare (suc x) others after)

unfoldable pub step_of : Header → TranslationUnit → Memory → Outcome
step_of header unit m = answering (run (functions_in header unit) (widths_in header unit) (declare 0 unit.variables unit.step) (entered m))

-- what the fields of the header have, their types hold
abbrev pub AreFit : Header → Memory → Type 0
AreFit header m = (n : ℕ) (v : ℤ) → m.values (Field n) ≡ Some v → may_hold (width_of_field (slice_get header.fields n)) v ≡ true

-- ---- all calls

-- What calls of a step, up to a limit, come to: the limit is reached, or one answered a number that is not 0, or it is undefined
-- what one does.
pub data Called : Type 0 where
  Limit : Memory → Called
  Answered : (calls code : ℕ) → Memory → Called
  Stuck : Called

abbrev pub one_more : Called → Called
one_more (Limit m) = Limit m
one_more (Answered calls code m) = Answered (suc calls) code m
one_more Stuck = Stuck

-- a call that comes to the end of the step without `return` gives no number to look at (6.9.1p12)
abbrev pub go_on : Outcome → (Memory → Called) → Called
go_on (GoesOn m) go = Stuck
go_on (Returned zero m) go = one_more (go m)
go_on (Returned (suc code) m) go = Answered 0 (suc code) m
go_on Undefined go = Stuck

abbrev pub calls : (limit : ℕ) → (Memory → Outcome) → Memory → Called
calls zero step m = Limit m
calls (suc limit) step m = go_on (step m) (calls limit step)

-- ---- before the first call

-- what a field is given, where its type holds it
abbrev pub first_held : Option FieldOfState → Option ℤ → Option ℤ
first_held None v = None
first_held (Some field) None = None
first_held (Some field) (Some v) = if may_hold field.width v then Some v else None

-- what P_init gives the fields
abbrev pub first_values : List FieldOfState → List ℤ → Place → Option ℤ
first_values fields firsts (Field n) = first_held (slice_get fields n) (slice_get firsts n)
first_values fields firsts other = None

-- the state behind P_init, where the functions of inputs will give these flows
abbrev pub begun : Header → TranslationUnit → List (List ℤ) → Memory
begun header unit flows = record { values = first_values header.fields unit.firsts; flows = flows; given = [] }
