-- How statements are laid out: the bytes of a line.
use Rattle.std.specs.Prelude.{◌<◌, ◌++◌, ◌+◌, ◌-◌, ◌^◌, ℕ, ℤ, pos, negsuc, List, [], nat_eq, nat_lt, Option, None, Some, if◌then◌else◌, codes, decimal, ⊤}
use Rattle.sig_c.specs.SmallC.{Place, Variable, Field, Result, Expression, Number, Get, Not, Binary, Choose, Statement, Set, When, Check, Ask, Give, Ignore, Return, Statements, none, more}
use Rattle.sig_c.specs.Written.{Scope, name_at, operator_text, helper_name, ignored_name}

-- ---- expressions

abbrev pub size_text : ℕ → List ℕ
size_text n = if nat_lt n (2 ^ 31) then decimal n else codes "INT64_C(" ++ (decimal n ++ codes ")")

abbrev pub number_text : ℤ → List ℕ
number_text (pos n) = if nat_eq n (2 ^ 63 - 1) then codes "INT64_MAX" else size_text n
number_text (negsuc n) = if nat_eq n (2 ^ 63 - 1) then codes "INT64_MIN" else codes "-" ++ size_text (n + 1)

abbrev pub place_text : Scope → Place → List ℕ
place_text scope (Variable x) = name_at scope.variables x
place_text scope (Field n) = codes "state->" ++ name_at scope.fields n
place_text scope Result = codes "*result"

abbrev mutual
  pub expression_text : Scope → Expression → List ℕ
  expression_text scope (Number v) = number_text v
  expression_text scope (Get x) = place_text scope x
  expression_text scope (Not e) = codes "!" ++ operand_bytes scope e
  expression_text scope (Binary op a b) = operand_bytes scope a ++ (codes " " ++ (operator_text op ++ (codes " " ++ operand_bytes scope b)))
  expression_text scope (Choose t a b) = operand_bytes scope t ++ (codes " ? " ++ (operand_bytes scope a ++ (codes " : " ++ operand_bytes scope b)))

  pub operand_bytes : Scope → Expression → List ℕ
  operand_bytes scope (Number v) = number_text v
  operand_bytes scope (Get x) = place_text scope x
  operand_bytes scope (Not e) = codes "!" ++ operand_bytes scope e
  operand_bytes scope (Binary op a b) = codes "(" ++ (operand_bytes scope a ++ (codes " " ++ (operator_text op ++ (codes " " ++ (operand_bytes scope b ++ codes ")")))))
  operand_bytes scope (Choose t a b) = codes "(" ++ (operand_bytes scope t ++ (codes " ? " ++ (operand_bytes scope a ++ (codes " : " ++ (operand_bytes scope b ++ codes ")")))))

-- ---- what is laid out so that its bytes make its tokens

-- `!` stands before names, and numbers that are written in decimal, alone
abbrev pub IsDenied : Expression → Type 0
IsDenied (Number (pos n)) = n < 2 ^ 31
IsDenied (Get (Variable x)) = ⊤
IsDenied other = ⊥

abbrev pub IsLaid : Expression → Type 0
IsLaid (Number v) = ⊤
IsLaid (Get x) = ⊤
IsLaid (Not e) = IsDenied e
IsLaid (Binary op a b) = IsLaid a × IsLaid b
IsLaid (Choose t a b) = IsLaid t × IsLaid a × IsLaid b

-- ---- statements, each on one line

-- what a refusal answers
abbrev pub refusal_text : ℕ → List ℕ
refusal_text code = codes ")) { return " ++ (decimal code ++ codes "; }")

abbrev pub address_text : Scope → Option ℕ → List ℕ
address_text scope None = []
address_text scope (Some x) = codes ", &" ++ name_at scope.variables x

abbrev pub gift_text : Scope → Option Expression → List ℕ
gift_text scope None = []
gift_text scope (Some e) = codes ", " ++ expression_text scope e

abbrev mutual
  pub statement_text : Scope → Statement → List ℕ
  statement_text scope (Set x e) = place_text scope x ++ (codes " = " ++ (expression_text scope e ++ codes ";"))
  statement_text scope (When e body) = codes "if (" ++ (expression_text scope e ++ (codes ") {" ++ (inner_text scope body ++ codes " }")))
  statement_text scope (Check helper a b x code) =
      codes "if (" ++ (helper_name helper ++ (codes "(" ++ (expression_text scope a ++ (codes ", " ++ (expression_text scope b ++ (address_text scope (Some x) ++ refusal_text code))))))
  statement_text scope (Ask input x code) = codes "if (!" ++ (name_at scope.inputs input ++ (codes "(context" ++ (address_text scope x ++ refusal_text code)))
  statement_text scope (Give output e) = name_at scope.outputs output ++ (codes "(context" ++ (gift_text scope e ++ codes ");"))
  statement_text scope (Ignore x) = codes "(void)" ++ (ignored_name scope x ++ codes ";")
  statement_text scope (Return code) = codes "return " ++ (decimal code ++ codes ";")

  -- the statements between the braces of an `if`
  pub inner_text : Scope → Statements → List ℕ
  inner_text scope none = []
  inner_text scope (more statement rest) = codes " " ++ (statement_text scope statement ++ inner_text scope rest)

-- statements, each on a line of its own behind these blanks
abbrev pub lines_text : (blanks : List ℕ) → Scope → Statements → List ℕ
lines_text blanks scope none = []
lines_text blanks scope (more statement rest) = blanks ++ (statement_text scope statement ++ (codes "\n" ++ lines_text blanks scope rest))

-- ---- statements that are laid out so

abbrev pub IsGiftLaid : Option Expression → Type 0
IsGiftLaid None = ⊤
IsGiftLaid (Some e) = IsLaid e

abbrev mutual
  pub IsStatementLaid : Statement → Type 0
  IsStatementLaid (Set x e) = IsLaid e
  IsStatementLaid (When e body) = IsLaid e × AreLaid body
  IsStatementLaid (Check helper a b x code) = IsLaid a × IsLaid b
  IsStatementLaid (Ask input x code) = ⊤
  IsStatementLaid (Give output e) = IsGiftLaid e
  IsStatementLaid (Ignore x) = ⊤
  IsStatementLaid (Return code) = ⊤

  pub AreLaid : Statements → Type 0
  AreLaid none = ⊤
  AreLaid (more statement rest) = IsStatementLaid statement × AreLaid rest
