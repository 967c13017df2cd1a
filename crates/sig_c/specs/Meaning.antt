-- What statements of small C do, as C11 says it; numbers in brackets are its clauses. Where C11 leaves open what happens, or makes it
-- depend on the machine, the outcome is `Undefined`. An `int` has 16 bits here, the least that C11 allows (5.2.4.2.1), and takes
-- truths alone; `int64_t` has 64 (7.20.1.1).
use Rattle.std.specs.Prelude.{◌∷◌, ◌++◌, ◌^◌, ◌&&◌, ◌||◌, ◌+ℤ◌, ◌-ℤ◌, ◌*ℤ◌, ◌-◌, ℕ, zero, suc, ℤ, pos, negsuc, Bool, true, false, not, List, [], nat_eq, nat_lt, slice_get, slice_index_or, slice_set, Option, None, Some, if◌then◌else◌, int_lt, int_le}
use Rattle.sig_base.specs.Traces.{has_64_bits}
use Rattle.sig_base.specs.Functions.{quotient, remainder}
use Rattle.sig_c.specs.SmallC.{Place, Variable, Field, Result, Operator, Plus, Minus, Times, Divide, Modulo, Less, LessEqual, Greater, GreaterEqual, Equal, NotEqual, And, Or, Expression, Number, Get, Not, Binary, Choose, Helper, Statement, Set, When, Check, Ask, Give, Ignore, Return, Statements, none, more, Width, Truth, Wide, Prototype}

-- ---- memory

pub record Memory : Type 0 where
  -- None: no value yet; reading it is undefined (6.3.2.1p2)
  pub values : Place → Option ℤ
  -- what the functions of inputs will give
  pub flows : List (List ℤ)
  -- what the functions of outputs were given, with the numbers of the outputs
  pub given : List (ℕ × ℤ)

abbrev pub is_place : Place → Place → Bool
is_place (Variable x) (Variable y) = nat_eq x y
is_place (Field x) (Field y) = nat_eq x y
is_place Result Result = true
is_place x y = false

abbrev pub with_value : Place → ℤ → Memory → Memory
with_value x v m = record m { values = λ y. if is_place y x then Some v else m.values y }

-- ---- numbers

abbrev pub truth : Bool → ℤ
truth true = pos 1
truth false = pos 0

abbrev pub is_zero : ℤ → Bool
is_zero (pos n) = nat_eq n 0
is_zero (negsuc n) = false

abbrev pub int_same : ℤ → ℤ → Bool
int_same v w = int_le v w && int_le w v

-- every `int` has it (5.2.4.2.1)
abbrev pub is_int : ℤ → Bool
is_int (pos n) = nat_lt n (2 ^ 15)
is_int (negsuc n) = nat_lt n (2 ^ 15 - 1)

abbrev pub fitted : ℤ → Option ℤ
fitted v = if has_64_bits v then Some v else None

-- a result outside of its type is undefined (6.5p5)
abbrev pub within : Width → ℤ → Option ℤ
within Wide v = fitted v
within Truth v = if is_int v then Some v else None

-- ---- the types of expressions

-- int64_t where one operand is (6.3.1.8)
abbrev pub wider : Width → Width → Width
wider Wide w = Wide
wider Truth w = w

-- a decimal up to 2147483647 may be an int, and a greater number is written as one of 64 bits (6.4.4.1p5, 7.20.4.1)
abbrev pub width_of_number : ℤ → Width
width_of_number (pos n) = if nat_lt n (2 ^ 31) then Truth else Wide
width_of_number (negsuc n) = if nat_lt n (2 ^ 31 - 1) then Truth else Wide

-- comparisons and truths are of type int (6.5.8p6, 6.5.9p3, 6.5.13p3, 6.5.14p3)
abbrev pub width_of_operator : Operator → Width → Width → Width
width_of_operator Plus v w = wider v w
width_of_operator Minus v w = wider v w
width_of_operator Times v w = wider v w
width_of_operator Divide v w = wider v w
width_of_operator Modulo v w = wider v w
width_of_operator other v w = Truth

abbrev pub width_of : (Place → Width) → Expression → Width
width_of widths (Number v) = width_of_number v
width_of widths (Get x) = widths x
width_of widths (Not e) = Truth
width_of widths (Binary op a b) = width_of_operator op (width_of widths a) (width_of widths b)
width_of widths (Choose t a b) = wider (width_of widths a) (width_of widths b)

-- ---- expressions

-- where the divisor is 0, or the quotient is outside of the type, both / and % are undefined (6.5.5p5, p6)
abbrev pub where_there : Option ℤ → ℤ → Option ℤ
where_there None r = None
where_there (Some q) r = Some r

abbrev pub divided : Width → (ℤ → ℤ → ℤ) → ℤ → ℤ → Option ℤ
divided width f v w = if is_zero w then None else where_there (within width (quotient v w)) (f v w)

abbrev pub applied : Operator → Width → ℤ → ℤ → Option ℤ
applied Plus width v w = within width (v +ℤ w)
applied Minus width v w = within width (v -ℤ w)
applied Times width v w = within width (v *ℤ w)
applied Divide width v w = divided width quotient v w
applied Modulo width v w = divided width remainder v w
applied Less width v w = Some (truth (int_lt v w))
applied LessEqual width v w = Some (truth (int_le v w))
applied Greater width v w = Some (truth (int_lt w v))
applied GreaterEqual width v w = Some (truth (int_le w v))
applied Equal width v w = Some (truth (int_same v w))
applied NotEqual width v w = Some (truth (not (int_same v w)))
applied And width v w = Some (truth (not (is_zero v) && not (is_zero w)))
applied Or width v w = Some (truth (not (is_zero v) || not (is_zero w)))

abbrev pub both : (ℤ → ℤ → Option ℤ) → Option ℤ → Option ℤ → Option ℤ
both f None w = None
both f (Some v) None = None
both f (Some v) (Some w) = f v w

-- the first where the test is not 0, and else the second; the other one is not evaluated (6.5.15p4, 6.8.4.1p2)
abbrev pub chosen : {A : Type 0} → A → Option ℤ → A → A → A
chosen undefined None a b = undefined
chosen undefined (Some v) a b = if is_zero v then b else a

-- whether a value is not 0
abbrev pub tested : Option ℤ → Option ℤ
tested None = None
tested (Some v) = Some (truth (not (is_zero v)))

-- && and || evaluate the second operand only where the first does not decide (6.5.13p4, 6.5.14p4)
abbrev pub operated : Operator → Width → Option ℤ → Option ℤ → Option ℤ
operated And width v w = chosen None v (tested w) (Some (pos 0))
operated Or width v w = chosen None v (Some (pos 1)) (tested w)
operated op width v w = both (applied op width) v w

abbrev pub denied : Option ℤ → Option ℤ
denied None = None
denied (Some v) = Some (truth (is_zero v))

abbrev pub value : (Place → Width) → Expression → Memory → Option ℤ
value widths (Number v) m = fitted v
value widths (Get x) m = m.values x
value widths (Not e) m = denied (value widths e m)
value widths (Binary op a b) m = operated op (wider (width_of widths a) (width_of widths b)) (value widths a m) (value widths b m)
value widths (Choose t a b) m = chosen None (value widths t m) (value widths a m) (value widths b m)

-- ---- statements

pub data Outcome : Type 0 where
  GoesOn : Memory → Outcome
  Returned : (code : ℕ) → Memory → Outcome
  Undefined : Outcome

abbrev pub and_then : Outcome → (Memory → Outcome) → Outcome
and_then (GoesOn m) go = go m
and_then (Returned code m) go = Returned code m
and_then Undefined go = Undefined

abbrev pub with_result : Option ℤ → (ℤ → Outcome) → Outcome
with_result None go = Undefined
with_result (Some v) go = go v

-- 0 or 1
abbrev pub is_truth : ℤ → Bool
is_truth (pos n) = nat_lt n 2
is_truth (negsuc n) = false

abbrev pub may_hold : Width → ℤ → Bool
may_hold Wide v = has_64_bits v
may_hold Truth v = is_truth v

-- a place is given a value
abbrev pub set : (Place → Width) → Place → Memory → ℤ → Outcome
set widths x m v = if may_hold (widths x) v then GoesOn (with_value x v m) else Undefined

-- ---- functions of the program's own

abbrev pub is_width : Width → Width → Bool
is_width Wide Wide = true
is_width Truth Truth = true
is_width one other = false

-- what is passed beside the context is the address of a variable of the type that the prototype has, or nothing where it has none
-- (6.5.2.2p2, 6.5.16.1p1)
abbrev pub takes_address : (Place → Width) → Option Width → (variable : Option ℕ) → Bool
takes_address widths None None = true
takes_address widths (Some width) (Some x) = is_width width (widths (Variable x))
takes_address widths wanted variable = false

abbrev pub may_ask : (Place → Width) → Option Prototype → (variable : Option ℕ) → Bool
may_ask widths None variable = false
may_ask widths (Some prototype) variable = takes_address widths prototype.takes variable

-- a function of an input answers 0 where it has no further value, and else writes the next one
abbrev pub asked : (Place → Width) → (input : ℕ) → (variable : Option ℕ) → (code : ℕ) → Memory → List ℤ → Outcome
asked widths input variable code m [] = Returned code m
asked widths input None code m (v ∷ rest) = GoesOn (record m { flows = slice_set m.flows input rest })
asked widths input (Some x) code m (v ∷ rest) = set widths (Variable x) (record m { flows = slice_set m.flows input rest }) v

-- a function of an output is given a value, that of an event none, which counts as 1
abbrev pub given_to : (output : ℕ) → Memory → ℤ → Outcome
given_to output m v = GoesOn (record m { given = m.given ++ (output, v) ∷ [] })

-- a value is passed as a variable of the parameter's type would take it (6.5.2.2p7)
abbrev pub given_as : Width → (output : ℕ) → Memory → ℤ → Outcome
given_as width output m v = if may_hold width v then given_to output m v else Undefined

-- a value is passed where the prototype has a parameter for it
abbrev pub gives : (Place → Width) → (output : ℕ) → Memory → Option Width → Option Expression → Outcome
gives widths output m None None = given_to output m (pos 1)
gives widths output m (Some width) (Some e) = with_result (value widths e m) (given_as width output m)
gives widths output m wanted e = Undefined

abbrev pub run_gift : (Place → Width) → (output : ℕ) → Memory → Option Prototype → Option Expression → Outcome
run_gift widths output m None e = Undefined
run_gift widths output m (Some prototype) e = gives widths output m prototype.takes e

-- ---- helpers

-- what a variable has whose address was given to a helper: what the helper wrote to *result, if it did
abbrev pub received : (Place → Width) → ℕ → Memory → Option ℤ → (Memory → Outcome) → Outcome
received widths x m None go = go m
received widths x m (Some v) go = and_then (set widths (Variable x) m v) go

abbrev pub is_wide : Width → Bool
is_wide Wide = true
is_wide Truth = false

abbrev pub answered : (code : ℕ) → ℕ → Memory → Outcome
answered code zero m = GoesOn m
answered code (suc n) m = Returned code m

-- the call of a helper answered a number, or came to its end without a `return` (6.9.1p12)
abbrev pub helped : (Place → Width) → (variable : ℕ) → (code : ℕ) → Memory → Outcome → Outcome
helped widths x code m (GoesOn after) = Undefined
helped widths x code m (Returned answer after) = received widths x m (after.values Result) (answered code answer)
helped widths x code m Undefined = Undefined

-- what a helper does with two numbers
abbrev pub HelperCalls : Type 0
HelperCalls = Helper → ℤ → ℤ → Outcome

abbrev pub run_check : HelperCalls → (Place → Width) → Helper → (variable : ℕ) → (code : ℕ) → Memory → Option ℤ → Option ℤ → Outcome
run_check call widths helper x code m None w = Undefined
run_check call widths helper x code m (Some v) None = Undefined
run_check call widths helper x code m (Some v) (Some w) = if is_wide (widths (Variable x)) then helped widths x code m (call helper v w) else Undefined

-- ---- statements in order

-- what statements may call: the helpers of the file, and the functions that the header declares
pub record Functions : Type 0 where
  pub helper : HelperCalls
  pub inputs : List Prototype
  pub outputs : List Prototype

abbrev mutual
  pub run_one : Functions → (Place → Width) → Statement → Memory → Outcome
  run_one call widths (Set x e) m = with_result (value widths e m) (set widths x m)
  run_one call widths (When e statements) m = chosen Undefined (value widths e m) (run call widths statements m) (GoesOn m)
  run_one call widths (Check helper a b x code) m = run_check call.helper widths helper x code m (value widths a m) (value widths b m)
  run_one call widths (Ask input x code) m =
      if may_ask widths (slice_get call.inputs input) x then asked widths input x code m (slice_index_or m.flows input []) else Undefined
  run_one call widths (Give output e) m = run_gift widths output m (slice_get call.outputs output) e
  run_one call widths (Ignore x) m = GoesOn m
  run_one call widths (Return code) m = Returned code m

  pub run : Functions → (Place → Width) → Statements → Memory → Outcome
  run call widths none m = GoesOn m
  run call widths (more statement rest) m = and_then (run_one call widths statement m) (run call widths rest)

-- ---- a whole function

-- it answers an `int` (6.8.6.4p3)
abbrev pub answering : Outcome → Outcome
answering (GoesOn m) = GoesOn m
answering (Returned code m) = if is_int (pos code) then Returned code m else Undefined
answering Undefined = Undefined
