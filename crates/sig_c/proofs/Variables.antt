-- First values and variables are read as they are written.
use Rattle.std.proofs.Common.{◌≡◌, ℕ, zero, suc, ℤ, ◌<◌, List, [], ◌∷◌, ◌++◌, length, true, false, Option, Some, None, refl, ap, ◌∙◌, arith, append_assoc}
use Rattle.std.specs.Prelude.{codes}
use Rattle.std.specs.Str.{bytes_eq}
use Rattle.sig_base.specs.Traces.{has_64_bits}
use Rattle.sig_c.specs.SmallC.{Name, Header, FieldOfState, Declared, Width, Truth, Wide, Field, Variable, Result, Expression, Statement, Set, When, Check, Ask, Give, Ignore, Return, Statements, none, more}
use Rattle.sig_c.specs.Tokens.{Token, Word, Sign}
use Rattle.sig_c.specs.Written.{Scope, name_at, number_tokens, prefixed, first_tokens, firsts_tokens, first_statements, init_tokens, width_text, first_value_tokens, declared_tokens, variables_tokens, statement_tokens, statements_tokens, expression_tokens, given_tokens, scope_of}
use Rattle.sig_c.specs.Reader.{Read, onward, behind, past, with_rest, a_value, value_of, read_firsts, firsts_or_none, read_init, width_in, a_first, a_declaration, read_variables, read_operand}
use Rattle.sig_c.specs.Names.{HaveBits, IsFirst, AreVariables, AreDistinct, AreNames, AreStatements, IsStatement, is_free}
use Rattle.sig_c.proofs.Words.{turned, same_bytes, passes, found}
use Rattle.sig_c.proofs.FreeNames.{not_reserved}
use Rattle.sig_c.proofs.Numbers.{value_back}
use Rattle.sig_c.proofs.Expressions.{free_variable}
use Rattle.sig_c.proofs.Statements.{output_free}

-- ---- first values

a_value_back : (scope : Scope) (v : ℤ) (rest : List Token) → has_64_bits v ≡ true → a_value scope (number_tokens v ++ rest) ≡ Some (v, rest)
a_value_back scope v rest small = ap (λ (r : Read Expression). onward r (λ e after. with_rest after (value_of e))) (value_back scope (read_operand scope 0) rest v small)

firsts_back : (scope : Scope) (fields : List FieldOfState) (firsts : List ℤ) (rest : List Token) → length firsts ≡ length fields → HaveBits firsts
    → read_firsts scope fields (firsts_tokens fields firsts ++ rest) ≡ Some (firsts, rest)
firsts_back scope [] [] rest same bits = refl
firsts_back scope [] (v ∷ firsts) rest same bits = absurd (omega (arith, same))
firsts_back scope (field ∷ fields) [] rest same bits = absurd (omega (arith, same))
firsts_back scope (field ∷ fields) (v ∷ firsts) rest same bits =
    ap (read_firsts scope (field ∷ fields)) (append_assoc (first_tokens field.name v) (firsts_tokens fields firsts) rest)
    ∙ rw (same_bytes field.name) (
    ap (λ (l : List Token). onward (a_value scope l) value_then) (append_assoc (number_tokens v) (Sign (codes ";") ∷ []) (firsts_tokens fields firsts ++ rest))
    ∙ ap (λ (r : Read ℤ). onward r value_then) (a_value_back scope v (Sign (codes ";") ∷ (firsts_tokens fields firsts ++ rest)) bits.0)
    ∙ ap (λ (r : Read (List ℤ)). onward r (λ others end. Some (v ∷ others, end))) (firsts_back scope fields firsts rest (omega (arith, same)) bits.1))
  where
    value_then : ℤ → List Token → Read (List ℤ)
    value_then w t2 = behind (Sign (codes ";") ∷ []) t2 (λ t3. onward (read_firsts scope fields t3) (λ others end. Some (w ∷ others, end)))

statements_of_firsts : (scope : Scope) (fields : List FieldOfState) (firsts : List ℤ) (rest : List Token) → length firsts ≡ length fields → HaveBits firsts
    → firsts_or_none scope fields (first_statements fields firsts ++ rest) ≡ Some (firsts, rest)
statements_of_firsts scope [] [] rest same bits = refl
statements_of_firsts scope [] (v ∷ firsts) rest same bits = absurd (omega (arith, same))
statements_of_firsts scope (field ∷ fields) firsts rest same bits = firsts_back scope (field ∷ fields) firsts rest same bits

pub init_back : (header : Header) (firsts : List ℤ) (rest : List Token) → length firsts ≡ length header.fields → HaveBits firsts → read_init header (init_tokens header firsts ++ rest) ≡ Some (firsts, rest)
init_back header firsts rest same bits =
    passes opening (((first_statements header.fields firsts) ++ Sign (codes "}") ∷ []) ++ rest) (λ t1. onward (firsts_or_none (scope_of header []) header.fields t1) closing)
    ∙ ap (λ (l : List Token). onward (firsts_or_none (scope_of header []) header.fields l) closing) (append_assoc (first_statements header.fields firsts) (Sign (codes "}") ∷ []) rest)
    ∙ ap (λ (r : Read (List ℤ)). onward r closing) (statements_of_firsts (scope_of header []) header.fields firsts (Sign (codes "}") ∷ rest) same bits)
  where
    opening : List Token
    opening = Word (codes "void") ∷ prefixed header (codes "init") ∷ Sign (codes "(") ∷ prefixed header (codes "state") ∷ Sign (codes "*") ∷ Word (codes "state") ∷ Sign (codes ")") ∷ Sign (codes "{") ∷ []

    closing : List ℤ → List Token → Read (List ℤ)
    closing = past (Sign (codes "}") ∷ [])

-- ---- variables

width_back : (width : Width) (rest : List Token) → width_in (Word (width_text width) ∷ rest) ≡ Some width
width_back Truth rest = refl
width_back Wide rest = refl

first_back : (scope : Scope) (first : Option ℕ) (rest : List Token) → AreDistinct scope.fields → IsFirst (length scope.fields) first
    → a_first scope (first_value_tokens scope first ++ rest) ≡ Some (first, rest)
first_back scope None rest distinct is = refl
first_back scope (Some n) rest distinct is = rw (found scope.fields n distinct is) refl

declaration_back : (scope : Scope) (declared : Declared) (rest : List Token) → AreDistinct scope.fields → IsFirst (length scope.fields) declared.first
    → a_declaration scope declared.width (declared_tokens scope declared ++ rest) ≡ Some (declared, rest)
declaration_back scope declared rest distinct is =
    ap (λ (l : List Token). onward (a_first scope l) closing) (append_assoc (first_value_tokens scope declared.first) (Sign (codes ";") ∷ []) rest)
    ∙ ap (λ (r : Read (Option ℕ)). onward r closing) (first_back scope declared.first (Sign (codes ";") ∷ rest) distinct is)
  where
    closing : Option ℕ → List Token → Read Declared
    closing first end = past (Sign (codes ";") ∷ []) (record { name = declared.name; width = declared.width; first = first }) end

read_more : (scope : Scope) (count : ℕ) (width : Width) (tokens : List Token) → width_in tokens ≡ Some width
    → read_variables scope (suc count) tokens ≡ onward (a_declaration scope width tokens) (λ it after. onward (read_variables scope count after) (λ its end. Some (it ∷ its, end)))
read_more scope count width tokens is = rw (is, read_variables) refl

pub variables_back : (scope : Scope) (variables : List Declared) (count : ℕ) (rest : List Token) → AreDistinct scope.fields → AreVariables (length scope.fields) variables → length variables < count
    → width_in rest ≡ None → read_variables scope count (variables_tokens scope variables ++ rest) ≡ Some (variables, rest)
variables_back scope variables zero rest distinct are deep ends = absurd (omega (arith, deep))
variables_back scope [] (suc count) rest distinct are deep ends = rw ends refl
variables_back scope (declared ∷ variables) (suc count) rest distinct are deep ends =
    ap (read_variables scope (suc count)) (append_assoc (declared_tokens scope declared) (variables_tokens scope variables) rest)
    ∙ (read_more scope count declared.width (declared_tokens scope declared ++ (variables_tokens scope variables ++ rest))
    (width_back declared.width (Word declared.name ∷ Sign (codes "=") ∷ ((first_value_tokens scope declared.first ++ Sign (codes ";") ∷ []) ++ (variables_tokens scope variables ++ rest))))
    ∙ ap (λ (r : Read Declared). onward r others) (declaration_back scope declared (variables_tokens scope variables ++ rest) distinct are.0)
    ∙ ap (λ (r : Read (List Declared)). onward r (λ its end. Some (declared ∷ its, end))) (variables_back scope variables count rest distinct are.1 (omega (arith, deep)) ends))
  where
    others : Declared → List Token → Read (List Declared)
    others it after = onward (read_variables scope count after) (λ its end. Some (it ∷ its, end))

-- ---- no statement begins with a type

free_no_type : (name : Name) (rest : List Token) → is_free name ≡ true → width_in (Word name ∷ rest) ≡ None
free_no_type name rest free =
    let one : bytes_eq (codes "int") name ≡ false = turned name (codes "int") (not_reserved name free 3 (omega arith)) in
    let two : bytes_eq (codes "int64_t") name ≡ false = turned name (codes "int64_t") (not_reserved name free 6 (omega arith)) in
    rw one (rw two refl)

module _ (scope : Scope) (names : AreNames scope) where
  statement_no_type : (s : Statement) (rest : List Token) → IsStatement scope s → width_in (statement_tokens scope s ++ rest) ≡ None
  statement_no_type (Set (Variable x) e) rest is = free_no_type (name_at scope.variables x) (Sign (codes "=") ∷ ((expression_tokens scope e ++ Sign (codes ";") ∷ []) ++ rest)) (free_variable scope names x is.0)
  statement_no_type (Set (Field n) e) rest is = refl
  statement_no_type (Set Result e) rest is = refl
  statement_no_type (When e body) rest is = refl
  statement_no_type (Check helper a b x code) rest is = refl
  statement_no_type (Ask input x code) rest is = refl
  statement_no_type (Give output e) rest is = free_no_type (name_at scope.outputs output) (Sign (codes "(") ∷ Word (codes "context") ∷ ((given_tokens scope e ++ Sign (codes ")") ∷ Sign (codes ";") ∷ []) ++ rest)) (output_free scope names output is.0)
  statement_no_type (Ignore x) rest is = refl
  statement_no_type (Return code) rest is = refl

  pub step_no_type : (step : Statements) (rest : List Token) → AreStatements scope step → width_in (statements_tokens scope step ++ Sign (codes "}") ∷ rest) ≡ None
  step_no_type none rest are = refl
  step_no_type (more s p) rest are =
      ap width_in (append_assoc (statement_tokens scope s) (statements_tokens scope p) (Sign (codes "}") ∷ rest)) ∙ statement_no_type s (statements_tokens scope p ++ Sign (codes "}") ∷ rest) are.0
