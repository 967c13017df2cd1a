-- What is written has at least as many tokens as it is deep.
use Rattle.std.proofs.Common.{◌≡◌, ℕ, suc, ℤ, pos, ◌+◌, ◌-◌, ◌^◌, ◌≤◌, List, [], ◌∷◌, ◌++◌, length, Option, Some, None, Bool, true, false, refl, arith, length-append, nat_lt, nat_eq}
use Rattle.std.specs.Prelude.{codes, negsuc}
use Rattle.sig_c.specs.SmallC.{Place, Variable, Field, Result, Expression, Number, Get, Not, Binary, Choose, Statement, Set, When, Check, Ask, Give, Ignore, Return, Statements, none, more}
use Rattle.sig_c.specs.Tokens.{Token, Sign}
use Rattle.sig_c.specs.Written.{Scope, operator_text, number_tokens, size_tokens, place_tokens, expression_tokens, operand_tokens, address_tokens, refusal_tokens, given_tokens, statement_tokens, statements_tokens}
use Rattle.sig_c.proofs.Expressions.{operand_depth}
use Rattle.sig_c.proofs.Statements.{given_depth, statement_depth, statements_depth}

size_some : (negative : Bool) (n : ℕ) → 1 ≤ length (size_tokens negative n)
size_some negative n = by negative (nat_lt n (2 ^ 31)) refl
  where
    by : (s b : Bool) → nat_lt n (2 ^ 31) ≡ b → 1 ≤ length (size_tokens s n)
    by true true e = rw e (omega arith)
    by true false e = rw e (omega arith)
    by false true e = rw e (omega arith)
    by false false e = rw e (omega arith)

number_some : (v : ℤ) → 1 ≤ length (number_tokens v)
number_some (pos n) = by (nat_eq n (2 ^ 63 - 1)) refl
  where
    by : (b : Bool) → nat_eq n (2 ^ 63 - 1) ≡ b → 1 ≤ length (number_tokens (pos n))
    by true e = rw e (omega arith)
    by false e = rw e (size_some false n)
number_some (negsuc n) = by (nat_eq n (2 ^ 63 - 1)) refl
  where
    by : (b : Bool) → nat_eq n (2 ^ 63 - 1) ≡ b → 1 ≤ length (number_tokens (negsuc n))
    by true e = rw e (omega arith)
    by false e = rw e (size_some true (n + 1))

place_some : (scope : Scope) (x : Place) → 1 ≤ length (place_tokens scope x)
place_some scope (Variable x) = omega arith
place_some scope (Field n) = omega arith
place_some scope Result = omega arith

module _ (scope : Scope) where
  between_size : (op : List ℕ) (xs ys : List Token) → length (xs ++ Sign op ∷ ys) ≡ suc (length xs + length ys)
  between_size op xs ys = omega (arith, length-append xs (Sign op ∷ ys))

  operand_size : (e : Expression) → operand_depth e ≤ length (operand_tokens scope e)
  operand_size (Number v) = number_some v
  operand_size (Get x) = place_some scope x
  operand_size (Not e) = let n = operand_size e in omega (arith, n)
  operand_size (Binary op a b) =
      let m = operand_size a in
      let n = operand_size b in
      omega (
        arith,
        m,
        n,
        between_size (operator_text op) (operand_tokens scope a) (operand_tokens scope b),
        length-append (operand_tokens scope a ++ Sign (operator_text op) ∷ operand_tokens scope b) (Sign (codes ")") ∷ []),
      )
  operand_size (Choose t a b) =
      let l = operand_size t in
      let m = operand_size a in
      let n = operand_size b in
      omega (
        arith,
        l,
        m,
        n,
        between_size (codes ":") (operand_tokens scope a) (operand_tokens scope b),
        between_size (codes "?") (operand_tokens scope t) (operand_tokens scope a ++ Sign (codes ":") ∷ operand_tokens scope b),
        length-append (operand_tokens scope t ++ Sign (codes "?") ∷ (operand_tokens scope a ++ Sign (codes ":") ∷ operand_tokens scope b)) (Sign (codes ")") ∷ []),
      )

  expression_size : (e : Expression) → operand_depth e ≤ length (expression_tokens scope e)
  expression_size (Number v) = number_some v
  expression_size (Get x) = place_some scope x
  expression_size (Not e) = let n = operand_size e in omega (arith, n)
  expression_size (Binary op a b) =
      let m = operand_size a in
      let n = operand_size b in
      omega (arith, m, n, between_size (operator_text op) (operand_tokens scope a) (operand_tokens scope b))
  expression_size (Choose t a b) =
      let l = operand_size t in
      let m = operand_size a in
      let n = operand_size b in
      omega (
        arith,
        l,
        m,
        n,
        between_size (codes ":") (operand_tokens scope a) (operand_tokens scope b),
        between_size (codes "?") (operand_tokens scope t) (operand_tokens scope a ++ Sign (codes ":") ∷ operand_tokens scope b),
      )

  given_size : (e : Option Expression) → given_depth e ≤ length (given_tokens scope e)
  given_size None = omega arith
  given_size (Some e) = let n = expression_size e in omega (arith, n)

  mutual
    statement_size : (s : Statement) → suc (statement_depth s) ≤ length (statement_tokens scope s)
    statement_size (Set x e) =
        let n = expression_size e in
        omega (arith, n, length-append (place_tokens scope x) (Sign (codes "=") ∷ (expression_tokens scope e ++ Sign (codes ";") ∷ [])), length-append (expression_tokens scope e) (Sign (codes ";") ∷ []))
    statement_size (When e body) =
        let m = expression_size e in
        let n = statements_size body in
        omega (
          arith,
          m,
          n,
          length-append (expression_tokens scope e) (Sign (codes ")") ∷ Sign (codes "{") ∷ (statements_tokens scope body ++ Sign (codes "}") ∷ [])),
          length-append (statements_tokens scope body) (Sign (codes "}") ∷ []),
        )
    statement_size (Check helper a b x code) =
        let m = expression_size a in
        let n = expression_size b in
        let last : List Token = address_tokens scope x ++ Sign (codes ")") ∷ Sign (codes ")") ∷ refusal_tokens code in
        omega (arith, m, n, length-append (expression_tokens scope a) (Sign (codes ",") ∷ (expression_tokens scope b ++ last)), length-append (expression_tokens scope b) last)
    statement_size (Ask input x code) = omega arith
    statement_size (Give output e) = let n = given_size e in omega (arith, n, length-append (given_tokens scope e) (Sign (codes ")") ∷ Sign (codes ";") ∷ []))
    statement_size (Ignore x) = omega arith
    statement_size (Return code) = omega arith

    pub statements_size : (p : Statements) → statements_depth p ≤ suc (length (statements_tokens scope p))
    statements_size none = omega arith
    statements_size (more s p) =
        let m = statement_size s in
        let n = statements_size p in
        omega (arith, m, n, length-append (statement_tokens scope s) (statements_tokens scope p))
