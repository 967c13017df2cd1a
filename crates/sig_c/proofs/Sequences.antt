-- Statements in order are read as they are written.
use Rattle.std.proofs.Common.{◌≡◌, ℕ, zero, suc, ◌≤◌, List, ◌∷◌, ◌++◌, true, false, Some, refl, ap, ◌∙◌, arith, append_assoc}
use Rattle.std.specs.Prelude.{codes}
use Rattle.sig_c.specs.SmallC.{Variable, Field, Result, Statement, Set, When, Check, Ask, Give, Ignore, Return, Statements, none, more}
use Rattle.sig_c.specs.Tokens.{Token, Sign}
use Rattle.sig_c.specs.Written.{Scope, statement_tokens, statements_tokens}
use Rattle.sig_c.specs.Reader.{Read, onward, one_statement, is_end, read_expression, read_statements}
use Rattle.sig_c.specs.Names.{AreNames, IsStatement, AreStatements}
use Rattle.sig_c.proofs.Statements.{statement_depth, statements_depth, set_back, when_back, check_back, ask_back, give_back, ignore_back, return_back}

-- no statement begins with `}`
goes_on : (scope : Scope) (s : Statement) (rest : List Token) → is_end (statement_tokens scope s ++ rest) ≡ false
goes_on scope (Set (Variable x) e) rest = refl
goes_on scope (Set (Field n) e) rest = refl
goes_on scope (Set Result e) rest = refl
goes_on scope (When e body) rest = refl
goes_on scope (Check helper a b x code) rest = refl
goes_on scope (Ask input x code) rest = refl
goes_on scope (Give output e) rest = refl
goes_on scope (Ignore x) rest = refl
goes_on scope (Return code) rest = refl

module _ (scope : Scope) (names : AreNames scope) where
  abbrev and_others : ℕ → Statement → List Token → Read Statements
  and_others depth s rest = onward (read_statements scope depth rest) (λ statements end. Some (more s statements, end))

  mutual
    pub statements_back : (p : Statements) (depth : ℕ) (rest : List Token) → AreStatements scope p → statements_depth p ≤ depth → is_end rest ≡ true
        → read_statements scope depth (statements_tokens scope p ++ rest) ≡ Some (p, rest)
    statements_back none zero rest are deep ends = absurd (omega (arith, deep))
    statements_back none (suc depth) rest are deep ends = rw ends refl
    statements_back (more s p) zero rest are deep ends = absurd (omega (arith, deep))
    statements_back (more s p) (suc depth) rest are deep ends =
        ap (read_statements scope (suc depth)) (append_assoc (statement_tokens scope s) (statements_tokens scope p) rest)
        ∙ (rw (goes_on scope s (statements_tokens scope p ++ rest))
        (ap (λ (r : Read Statement). onward r (and_others depth)) (statement_back s depth (statements_tokens scope p ++ rest) are.0 (omega (arith, deep)))
        ∙ ap (λ (r : Read Statements). onward r (λ statements end. Some (more s statements, end))) (statements_back p depth rest are.1 (omega (arith, deep)) ends)))

    statement_back : (s : Statement) (depth : ℕ) (rest : List Token) → IsStatement scope s → statement_depth s ≤ depth
        → one_statement scope (read_expression scope depth) (read_statements scope depth) (statement_tokens scope s ++ rest) ≡ Some (s, rest)
    statement_back (Set x e) depth rest is deep = set_back scope names depth x e rest is.0 is.1 deep
    statement_back (When e body) depth rest is deep =
        when_back scope names depth e body rest is.0 (omega (arith, deep)) (statements_back body depth (Sign (codes "}") ∷ rest) is.1 (omega (arith, deep)) refl)
    statement_back (Check helper a b x code) depth rest is deep = check_back scope names depth helper a b x code rest is.0 is.1 is.2 is.3 (omega (arith, deep)) (omega (arith, deep))
    statement_back (Ask input x code) depth rest is deep = ask_back scope names depth input x code rest is.0 is.1 is.2
    statement_back (Give output e) depth rest is deep = give_back scope names depth output e rest is.0 is.1 deep
    statement_back (Ignore x) depth rest is deep = ignore_back scope names depth x rest is
    statement_back (Return code) depth rest is deep = return_back scope names depth code rest is
