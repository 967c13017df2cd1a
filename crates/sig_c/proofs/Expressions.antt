-- Expressions are read as they are written.
use Rattle.std.proofs.Common.{◌≡◌, ℕ, zero, suc, ◌<◌, ◌≤◌, max, List, [], ◌∷◌, ◌++◌, length, true, false, Some, refl, ap, ◌∙◌, arith, append_assoc}
use Rattle.std.specs.Prelude.{codes}
use Rattle.std.specs.Str.{bytes_eq}
use Rattle.sig_c.specs.SmallC.{Place, Variable, Field, Result, Operator, Plus, Minus, Times, Divide, Modulo, Less, LessEqual, Greater, GreaterEqual, Equal, NotEqual, And, Or, Expression, Number, Get, Not, Binary, Choose}
use Rattle.sig_c.specs.Tokens.{Token, Sign}
use Rattle.sig_c.specs.Written.{Scope, name_at, operator_text, place_tokens, in_parentheses, expression_tokens, operand_tokens}
use Rattle.sig_c.specs.Reader.{Read, onward, past, word_operand, operand_by, then_operator, expression_by, read_operand, read_expression, behind, place_in}
use Rattle.sig_c.specs.Names.{is_free, AreNames, IsPlace, IsExpression}
use Rattle.sig_c.proofs.Words.{found}
use Rattle.sig_c.proofs.FreeNames.{not_reserved, no_digit_first, free_at, free_first, distinct_first}
use Rattle.sig_c.proofs.Numbers.{value_back}

pub free_variable : (scope : Scope) → AreNames scope → (x : ℕ) → x < length scope.variables → is_free (name_at scope.variables x) ≡ true
free_variable scope names x within = free_at scope.variables (free_first scope.variables (scope.inputs ++ scope.outputs) names.identifiers) x within

pub variable_found : (scope : Scope) → AreNames scope → (x : ℕ) → x < length scope.variables → place_in scope.variables (name_at scope.variables x) ≡ Some x
variable_found scope names x within = found scope.variables x (distinct_first scope.variables (scope.inputs ++ scope.outputs) names.distinct) within

pub field_found : (scope : Scope) → AreNames scope → (n : ℕ) → n < length scope.fields → place_in scope.fields (name_at scope.fields n) ≡ Some n
field_found scope names n within = found scope.fields n names.fields_distinct within

-- ---- what ends an expression

-- no operator stands first
abbrev pub Stops : List Token → Type 0
Stops rest = (operand : List Token → Read Expression) (a : Expression) → then_operator operand a rest ≡ Some (a, rest)

abbrev pub operand_depth : Expression → ℕ
operand_depth (Number v) = 1
operand_depth (Get x) = 1
operand_depth (Not e) = suc (operand_depth e)
operand_depth (Binary op a b) = suc (max (operand_depth a) (operand_depth b))
operand_depth (Choose t a b) = suc (max (operand_depth t) (max (operand_depth a) (operand_depth b)))

module _ (scope : Scope) (names : AreNames scope) where
  variable_word : (x : ℕ) (rest : List Token) → x < length scope.variables → word_operand scope (name_at scope.variables x) rest ≡ Some (Get (Variable x), rest)
  variable_word x rest within =
      let name = name_at scope.variables x in
      let free = free_variable scope names x within in
      let most : bytes_eq name (codes "INT64_MAX") ≡ false = not_reserved name free 9 (omega arith) in
      let least : bytes_eq name (codes "INT64_MIN") ≡ false = not_reserved name free 8 (omega arith) in
      let macro : bytes_eq name (codes "INT64_C") ≡ false = not_reserved name free 7 (omega arith) in
      let state : bytes_eq name (codes "state") ≡ false = not_reserved name free 10 (omega arith) in
      rw most (rw least (rw macro (rw (no_digit_first name free) (rw state (rw (variable_found scope names x within) refl)))))

  place_back : (operand : List Token → Read Expression) (x : Place) (rest : List Token) → IsPlace scope x → operand_by scope operand (place_tokens scope x ++ rest) ≡ Some (Get x, rest)
  place_back operand (Variable x) rest within = variable_word x rest within
  place_back operand (Field n) rest within = rw (field_found scope names n within) refl
  place_back operand Result rest within = refl

  takes : (operand : List Token → Read Expression) (a : Expression) (op : Operator) (rest : List Token)
      → then_operator operand a (Sign (operator_text op) ∷ rest) ≡ onward (operand rest) (λ b end. Some (Binary op a b, end))
  takes operand a Plus rest = refl
  takes operand a Minus rest = refl
  takes operand a Times rest = refl
  takes operand a Divide rest = refl
  takes operand a Modulo rest = refl
  takes operand a Less rest = refl
  takes operand a LessEqual rest = refl
  takes operand a Greater rest = refl
  takes operand a GreaterEqual rest = refl
  takes operand a Equal rest = refl
  takes operand a NotEqual rest = refl
  takes operand a And rest = refl
  takes operand a Or rest = refl

  -- two operands with an operator, where operands are read back
  module _ (operand : List Token → Read Expression) where
    abbrev pub Back : Expression → Type 0
    Back e = (rest : List Token) → operand (operand_tokens scope e ++ rest) ≡ Some (e, rest)

    binary_back : (op : Operator) (a b : Expression) (rest : List Token) → Back a → Back b
        → expression_by operand ((operand_tokens scope a ++ Sign (operator_text op) ∷ operand_tokens scope b) ++ rest) ≡ Some (Binary op a b, rest)
    binary_back op a b rest first second =
        ap (expression_by operand) (append_assoc (operand_tokens scope a) (Sign (operator_text op) ∷ operand_tokens scope b) rest)
        ∙ ap (λ (r : Read Expression). onward r (then_operator operand)) (first (Sign (operator_text op) ∷ (operand_tokens scope b ++ rest)))
        ∙ takes operand a op (operand_tokens scope b ++ rest)
        ∙ ap (λ (r : Read Expression). onward r (λ c end. Some (Binary op a c, end))) (second rest)

    abbrev choice : (t a b : Expression) → List Token
    choice t a b = operand_tokens scope t ++ Sign (codes "?") ∷ (operand_tokens scope a ++ Sign (codes ":") ∷ operand_tokens scope b)

    choice_back : (t a b : Expression) (rest : List Token) → Back t → Back a → Back b → expression_by operand (choice t a b ++ rest) ≡ Some (Choose t a b, rest)
    choice_back t a b rest test first second =
        ap (expression_by operand) (append_assoc (operand_tokens scope t) _ rest
        ∙ ap (λ (l : List Token). operand_tokens scope t ++ Sign (codes "?") ∷ l) (append_assoc (operand_tokens scope a) (Sign (codes ":") ∷ operand_tokens scope b) rest))
        ∙ ap (λ (r : Read Expression). onward r (then_operator operand)) (test (Sign (codes "?") ∷ (operand_tokens scope a ++ Sign (codes ":") ∷ (operand_tokens scope b ++ rest))))
        ∙ ap (λ (r : Read Expression). onward r (λ c middle. behind (Sign (codes ":") ∷ []) middle (λ later. onward (operand later) (λ d end. Some (Choose t c d, end)))))
        (first (Sign (codes ":") ∷ (operand_tokens scope b ++ rest)))
        ∙ ap (λ (r : Read Expression). onward r (λ d end. Some (Choose t a d, end))) (second rest)

    in_parentheses_back : (e : Expression) (tokens rest : List Token) → ((after : List Token) → expression_by operand (tokens ++ after) ≡ Some (e, after))
        → operand_by scope operand (in_parentheses tokens ++ rest) ≡ Some (e, rest)
    in_parentheses_back e tokens rest back =
        ap (λ (l : List Token). onward (expression_by operand l) (past (Sign (codes ")") ∷ []))) (append_assoc tokens (Sign (codes ")") ∷ []) rest)
        ∙ ap (λ (r : Read Expression). onward r (past (Sign (codes ")") ∷ []))) (back (Sign (codes ")") ∷ rest))

  pub operand_back : (e : Expression) (depth : ℕ) → IsExpression scope e → operand_depth e ≤ depth → Back (read_operand scope depth) e
  operand_back (Number v) zero is deep rest = absurd (omega (arith, deep))
  operand_back (Number v) (suc depth) is deep rest = value_back scope (read_operand scope depth) rest v is
  operand_back (Get x) zero is deep rest = absurd (omega (arith, deep))
  operand_back (Get x) (suc depth) is deep rest = place_back (read_operand scope depth) x rest is
  operand_back (Not e) zero is deep rest = absurd (omega (arith, deep))
  operand_back (Not e) (suc depth) is deep rest = ap (λ (r : Read Expression). onward r (λ c end. Some (Not c, end))) (operand_back e depth is (omega (arith, deep)) rest)
  operand_back (Binary op a b) zero is deep rest = absurd (omega (arith, deep))
  operand_back (Binary op a b) (suc depth) is deep rest =
      in_parentheses_back (read_operand scope depth) (Binary op a b) _ rest
      (λ after. binary_back (read_operand scope depth) op a b after (operand_back a depth is.0 (omega (arith, deep))) (operand_back b depth is.1 (omega (arith, deep))))
  operand_back (Choose t a b) zero is deep rest = absurd (omega (arith, deep))
  operand_back (Choose t a b) (suc depth) is deep rest =
      in_parentheses_back (read_operand scope depth) (Choose t a b) _ rest
      (λ after. choice_back (read_operand scope depth) t a b after (operand_back t depth is.0 (omega (arith, deep))) (operand_back a depth is.1 (omega (arith, deep))) (operand_back b depth is.2 (omega (arith, deep))))

  -- an operand that stands by itself
  alone_back : (e : Expression) (depth : ℕ) (rest : List Token) → IsExpression scope e → operand_depth e ≤ depth → Stops rest
      → read_expression scope depth (operand_tokens scope e ++ rest) ≡ Some (e, rest)
  alone_back e depth rest is deep stops =
      ap (λ (r : Read Expression). onward r (then_operator (read_operand scope depth))) (operand_back e depth is deep rest) ∙ stops (read_operand scope depth) e

  pub expression_back : (e : Expression) (depth : ℕ) (rest : List Token) → IsExpression scope e → operand_depth e ≤ depth → Stops rest
      → read_expression scope depth (expression_tokens scope e ++ rest) ≡ Some (e, rest)
  expression_back (Number v) depth rest is deep stops = alone_back (Number v) depth rest is deep stops
  expression_back (Get x) depth rest is deep stops = alone_back (Get x) depth rest is deep stops
  expression_back (Not e) depth rest is deep stops = alone_back (Not e) depth rest is deep stops
  expression_back (Binary op a b) depth rest is deep stops =
      binary_back (read_operand scope depth) op a b rest (operand_back a depth is.0 (omega (arith, deep))) (operand_back b depth is.1 (omega (arith, deep)))
  expression_back (Choose t a b) depth rest is deep stops =
      choice_back (read_operand scope depth) t a b rest (operand_back t depth is.0 (omega (arith, deep))) (operand_back a depth is.1 (omega (arith, deep))) (operand_back b depth is.2 (omega (arith, deep)))
