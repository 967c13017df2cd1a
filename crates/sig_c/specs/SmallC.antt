-- Small C: the syntax of the files that hold the step of a program. Variables of the step, fields of the state and functions of the
-- program's own are told by their numbers; `Header` and `TranslationUnit` have their names.
use Rattle.std.specs.Prelude.{ℕ, ℤ, List, Option}

-- an identifier, by its bytes
abbrev pub Name : Type 0
Name = List ℕ

-- what may be assigned to
pub data Place : Type 0 where
  -- a variable of the step, or a parameter of a helper
  Variable : ℕ → Place
  -- state->NAME
  Field : ℕ → Place
  -- *result, in a helper
  Result : Place

-- the binary operators: + - * / % < <= > >= == != && ||
pub data Operator : Type 0 where
  Plus : Operator
  Minus : Operator
  Times : Operator
  Divide : Operator
  Modulo : Operator
  Less : Operator
  LessEqual : Operator
  Greater : Operator
  GreaterEqual : Operator
  Equal : Operator
  NotEqual : Operator
  And : Operator
  Or : Operator

pub data Expression : Type 0 where
  Number : ℤ → Expression
  Get : Place → Expression
  -- !e
  Not : Expression → Expression
  Binary : Operator → Expression → Expression → Expression
  -- t ? a : b
  Choose : (t a b : Expression) → Expression

-- the functions that stand in the file itself: add, subtract, multiply, divide, modulo
pub data Helper : Type 0 where
  Add : Helper
  Subtract : Helper
  Multiply : Helper
  Quotient : Helper
  Remainder : Helper

-- what `(void)x;` names
pub data Ignored : Type 0 where
  TheVariable : ℕ → Ignored
  TheState : Ignored
  TheContext : Ignored

mutual
  pub data Statement : Type 0 where
    -- x = e;
    Set : Place → Expression → Statement
    -- if (e) { .. }
    When : Expression → Statements → Statement
    -- if (add(a, b, &x)) { return k; }
    Check : Helper → (a b : Expression) → (variable : ℕ) → (code : ℕ) → Statement
    -- if (!r_P_X(context, &x)) { return k; }, or without &x
    Ask : (input : ℕ) → (variable : Option ℕ) → (code : ℕ) → Statement
    -- w_P_Y(context, e);, or without e
    Give : (output : ℕ) → Option Expression → Statement
    -- (void)x;
    Ignore : Ignored → Statement
    -- return k;
    Return : ℕ → Statement

  pub data Statements : Type 0 where
    none : Statements
    more : Statement → Statements → Statements

-- the types: `int` for truths, `int64_t` for numbers
pub data Width : Type 0 where
  Truth : Width
  Wide : Width

-- a field of the state
pub record FieldOfState : Type 0 where
  pub name : Name
  pub width : Width

-- A function of the program's own, as the header declares it: int r_P_X(P_context *context, T *x) gives an input its next value, and
-- void w_P_Y(P_context *context, T y) takes that of an output. The type T is given; that of an event has no x and no y.
pub record Prototype : Type 0 where
  pub name : Name
  pub takes : Option Width

-- what the header says, which the file includes: P, the functions r_P_X and w_P_Y, and the fields of P_state
pub record Header : Type 0 where
  pub prefix : Name
  pub inputs : List Prototype
  pub outputs : List Prototype
  pub fields : List FieldOfState

-- a variable of the step: its first value is 0, or that of a field
pub record Declared : Type 0 where
  pub name : Name
  pub width : Width
  pub first : Option ℕ

-- why a step answers a number: 0 is Done
pub data EndCause : Type 0 where
  Done : EndCause
  Exhausted : EndCause
  Overflow : EndCause
  DivisionByZero : EndCause

-- a row of P_ends: the cause, the place in the program, and the signal
pub record EndRow : Type 0 where
  pub cause : EndCause
  pub line : ℕ
  pub column : ℕ
  pub name : Name

-- a helper as the file has it, with its statements
pub record HelperDefinition : Type 0 where
  pub helper : Helper
  pub body : Statements

-- a file: the helpers that it has, P_ends, what P_init gives the fields, the variables of P_step, and its statements
pub record TranslationUnit : Type 0 where
  pub helpers : List HelperDefinition
  pub ends : List EndRow
  pub firsts : List ℤ
  pub variables : List Declared
  pub step : Statements
