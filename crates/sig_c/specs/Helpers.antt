-- The helpers: functions of the file, static int add(int64_t a, int64_t b, int64_t *result) and the like. They answer 1 where the
-- result has more than 64 bits, and else write it and answer 0.
use Rattle.std.specs.Prelude.{◌∷◌, ◌^◌, ◌-◌, ℤ, pos, negsuc, [], slice_get, Option, None}
use Rattle.sig_c.specs.SmallC.{Place, Variable, Result, Plus, Minus, Times, Divide, Modulo, Less, Greater, Equal, NotEqual, And, Expression, Number, Get, Binary, Choose, Helper, Add, Subtract, Multiply, Quotient, Remainder, HelperDefinition, Set, When, Return, Statements, none, more, Width, Wide}
use Rattle.sig_c.specs.Meaning.{Memory, Outcome, Undefined, Functions, answering, run}

-- INT64_MIN and INT64_MAX (7.20.2.1)
abbrev pub least : ℤ
least = negsuc (2 ^ 63 - 1)

abbrev pub most : ℤ
most = pos (2 ^ 63 - 1)

-- the parameters
abbrev pub a : Expression
a = Get (Variable 0)

abbrev pub b : Expression
b = Get (Variable 1)

abbrev pub is_positive : Expression → Expression
is_positive e = Binary Greater e (Number (pos 0))

-- b > 0 ? a > INT64_MAX - b : a < INT64_MIN - b
abbrev pub sum_overflows : Expression
sum_overflows = Choose (is_positive b) (Binary Greater a (Binary Minus (Number most) b)) (Binary Less a (Binary Minus (Number least) b))

-- b > 0 ? a < INT64_MIN + b : a > INT64_MAX + b
abbrev pub difference_overflows : Expression
difference_overflows = Choose (is_positive b) (Binary Less a (Binary Plus (Number least) b)) (Binary Greater a (Binary Plus (Number most) b))

-- a > 0 ? (b > 0 ? a > INT64_MAX / b : b < INT64_MIN / a) : (b > 0 ? a < INT64_MIN / b : a != 0 && b < INT64_MAX / a)
abbrev pub product_overflows : Expression
product_overflows =
    Choose (is_positive a)
    (Choose (is_positive b) (Binary Greater a (Binary Divide (Number most) b)) (Binary Less b (Binary Divide (Number least) a)))
    (Choose (is_positive b) (Binary Less a (Binary Divide (Number least) b)) (Binary And (Binary NotEqual a (Number (pos 0))) (Binary Less b (Binary Divide (Number most) a))))

-- a == INT64_MIN && b == -1
abbrev pub quotient_overflows : Expression
quotient_overflows = Binary And (Binary Equal a (Number least)) (Binary Equal b (Number (negsuc 0)))

-- if (test) { return 1; } *result = e; return 0;
abbrev pub tested_first : (test e : Expression) → Statements
tested_first test e = more (When test (more (Return 1) none)) (more (Set Result e) (more (Return 0) none))

abbrev pub body_of : Helper → Statements
body_of Add = tested_first sum_overflows (Binary Plus a b)
body_of Subtract = tested_first difference_overflows (Binary Minus a b)
body_of Multiply = tested_first product_overflows (Binary Times a b)
body_of Quotient = tested_first quotient_overflows (Binary Divide a b)
-- if (b == -1) { *result = 0; return 0; } *result = a % b; return 0;
body_of Remainder =
    more (When (Binary Equal b (Number (negsuc 0))) (more (Set Result (Number (pos 0))) (more (Return 0) none)))
    (more (Set Result (Binary Modulo a b)) (more (Return 0) none))

-- the definition of one
abbrev pub definition_of : Helper → HelperDefinition
definition_of helper = record { helper = helper; body = body_of helper }

-- ---- what a call of a function with such a body does

-- it calls no other
abbrev pub no_functions : Functions
no_functions = record { helper = λ helper v w. Undefined; inputs = []; outputs = [] }

abbrev pub parameters : (v w : ℤ) → Place → Option ℤ
parameters v w (Variable x) = slice_get (v ∷ w ∷ []) x
parameters v w other = None

-- where a helper is entered, its parameters have values
abbrev pub entered_with : (v w : ℤ) → Memory
entered_with v w = record { values = parameters v w; flows = []; given = [] }

abbrev pub all_wide : Place → Width
all_wide x = Wide

unfoldable pub called : Statements → ℤ → ℤ → Outcome
called body v w = answering (run no_functions all_wide body (entered_with v w))
