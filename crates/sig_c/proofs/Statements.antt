-- Statements are read as they are written.
use Rattle.std.proofs.Common.{◌≡◌, ℕ, suc, ◌<◌, ◌≤◌, max, List, [], ◌∷◌, ◌++◌, length, true, false, Option, Some, None, refl, ap, ◌∙◌, arith, append_assoc, decimal}
use Rattle.std.specs.Prelude.{codes}
use Rattle.std.specs.Str.{bytes_eq}
use Rattle.sig_c.specs.SmallC.{Place, Variable, Field, Result, Expression, Helper, Add, Subtract, Multiply, Quotient, Remainder, Ignored, TheVariable, TheState, TheContext, Statement, Set, When, Check, Ask, Give, Ignore, Return, Statements, none, more}
use Rattle.sig_c.specs.Tokens.{Token, Word, Sign}
use Rattle.sig_c.specs.Written.{Scope, name_at, helper_name, expression_tokens, refusal_tokens, address_tokens, given_tokens, statement_tokens, statements_tokens}
use Rattle.sig_c.specs.Reader.{Read, onward, behind, past, with_rest, place_in, a_number, helper_in, refusal_of, a_variable, a_check, an_if, a_gift, an_assignment, one_statement, read_expression, read_statements}
use Rattle.sig_c.specs.Names.{is_free, AreFree, AreNames, IsPlace, IsExpression, IsCode, MayAsk, MayGive, MayIgnore}
use Rattle.sig_c.proofs.Words.{not_found, found}
use Rattle.sig_c.proofs.FreeNames.{not_reserved, free_at, free_last, distinct_first, distinct_last, apart, any_last}
use Rattle.sig_c.proofs.Numbers.{number_back}
use Rattle.sig_c.proofs.Expressions.{Stops, operand_depth, free_variable, variable_found, field_found, expression_back}
use Rattle.sig_c.proofs.Blocks.{expression_block}

abbrev pub given_depth : Option Expression → ℕ
given_depth None = 0
given_depth (Some e) = operand_depth e

abbrev mutual
  pub statement_depth : Statement → ℕ
  statement_depth (Set x e) = operand_depth e
  statement_depth (When e statements) = max (operand_depth e) (statements_depth statements)
  statement_depth (Check helper a b x code) = max (operand_depth a) (operand_depth b)
  statement_depth (Ask input x code) = 0
  statement_depth (Give output e) = given_depth e
  statement_depth (Ignore x) = 0
  statement_depth (Return code) = 0

  pub statements_depth : Statements → ℕ
  statements_depth none = 1
  statements_depth (more statement rest) = suc (max (statement_depth statement) (statements_depth rest))

code_back : (code : ℕ) (rest : List Token) → IsCode code → a_number (Word (decimal code) ∷ rest) ≡ Some (code, rest)
code_back code rest small = rw (number_back code (omega (arith, small))) refl

refusal_back : {A : Type 0} (make : ℕ → A) (code : ℕ) (rest : List Token) → IsCode code
    → refusal_of make (Sign (codes ")") ∷ Sign (codes ")") ∷ (refusal_tokens code ++ rest)) ≡ Some (make code, rest)
refusal_back make code rest small = rw (number_back code (omega (arith, small))) refl

helper_back : (helper : Helper) → helper_in (helper_name helper) ≡ Some helper
helper_back Add = refl
helper_back Subtract = refl
helper_back Multiply = refl
helper_back Quotient = refl
helper_back Remainder = refl

module _ (scope : Scope) (names : AreNames scope) where
  functions_free : AreFree (scope.inputs ++ scope.outputs)
  functions_free = free_last scope.variables (scope.inputs ++ scope.outputs) names.identifiers

  input_found : (i : ℕ) → i < length scope.inputs → place_in scope.inputs (name_at scope.inputs i) ≡ Some i
  input_found i within = found scope.inputs i (distinct_first scope.inputs scope.outputs (distinct_last scope.variables (scope.inputs ++ scope.outputs) names.distinct)) within

  output_found : (j : ℕ) → j < length scope.outputs → place_in scope.outputs (name_at scope.outputs j) ≡ Some j
  output_found j within = found scope.outputs j (distinct_last scope.inputs scope.outputs (distinct_last scope.variables (scope.inputs ++ scope.outputs) names.distinct)) within

  pub output_free : (j : ℕ) → j < length scope.outputs → is_free (name_at scope.outputs j) ≡ true
  output_free j within = free_at scope.outputs (free_last scope.inputs scope.outputs functions_free) j within

  -- a variable is no function of an output
  no_output : (x : ℕ) → x < length scope.variables → place_in scope.outputs (name_at scope.variables x) ≡ None
  no_output x within =
      not_found scope.outputs 0 (name_at scope.variables x) (any_last (bytes_eq (name_at scope.variables x)) scope.inputs scope.outputs (apart scope.variables (scope.inputs ++ scope.outputs) names.distinct x within))

  module _ (depth : ℕ) where
    abbrev pub reads : List Token → Read Expression
    reads = read_expression scope depth

    abbrev pub inner : List Token → Read Statements
    inner = read_statements scope depth

    expression_first : (e : Expression) (last : List ℕ) (rest : List Token) → IsExpression scope e → operand_depth e ≤ depth → Stops (Sign last ∷ rest)
        → reads (expression_tokens scope e ++ Sign last ∷ rest) ≡ Some (e, Sign last ∷ rest)
    expression_first e last rest is deep stops = expression_back scope names e depth (Sign last ∷ rest) is deep stops

    assignment_back : (x : Place) (e : Expression) (rest : List Token) → IsExpression scope e → operand_depth e ≤ depth
        → an_assignment reads x (Sign (codes "=") ∷ ((expression_tokens scope e ++ Sign (codes ";") ∷ []) ++ rest)) ≡ Some (Set x e, rest)
    assignment_back x e rest is deep =
        ap (λ (l : List Token). onward (reads l) (λ c end. past (Sign (codes ";") ∷ []) (Set x c) end)) (append_assoc (expression_tokens scope e) (Sign (codes ";") ∷ []) rest)
        ∙ ap (λ (r : Read Expression). onward r (λ c end. past (Sign (codes ";") ∷ []) (Set x c) end)) (expression_first e (codes ";") rest is deep (λ operand a. refl))

    pub set_back : (x : Place) (e : Expression) (rest : List Token) → IsPlace scope x → IsExpression scope e → operand_depth e ≤ depth
        → one_statement scope reads inner (statement_tokens scope (Set x e) ++ rest) ≡ Some (Set x e, rest)
    set_back (Variable x) e rest place is deep =
        let name = name_at scope.variables x in
        let free = free_variable scope names x place in
        let one : bytes_eq name (codes "if") ≡ false = not_reserved name free 0 (omega arith) in
        let two : bytes_eq name (codes "return") ≡ false = not_reserved name free 1 (omega arith) in
        let three : bytes_eq name (codes "state") ≡ false = not_reserved name free 10 (omega arith) in
        rw one (rw two (rw three (rw (no_output x place) (rw (variable_found scope names x place) (assignment_back (Variable x) e rest is deep)))))
    set_back (Field n) e rest place is deep = rw (field_found scope names n place) (assignment_back (Field n) e rest is deep)
    set_back Result e rest place is deep = assignment_back Result e rest is deep

    -- an `if` with an expression
    pub when_back : (e : Expression) (body : Statements) (rest : List Token) → IsExpression scope e → operand_depth e ≤ depth
        → inner (statements_tokens scope body ++ Sign (codes "}") ∷ rest) ≡ Some (body, Sign (codes "}") ∷ rest)
        → one_statement scope reads inner (statement_tokens scope (When e body) ++ rest) ≡ Some (When e body, rest)
    when_back e body rest is deep body_back =
        ap (an_if scope reads inner) (append_assoc (expression_tokens scope e) (Sign (codes ")") ∷ Sign (codes "{") ∷ (statements_tokens scope body ++ Sign (codes "}") ∷ [])) rest
        ∙ ap (λ (l : List Token). expression_tokens scope e ++ Sign (codes ")") ∷ Sign (codes "{") ∷ l) (append_assoc (statements_tokens scope body) (Sign (codes "}") ∷ []) rest))
        ∙ expression_block scope names reads inner e (Sign (codes ")") ∷ Sign (codes "{") ∷ (statements_tokens scope body ++ Sign (codes "}") ∷ rest)) is
        ∙ ap (λ (r : Read Expression). onward r (λ c after. behind (Sign (codes ")") ∷ Sign (codes "{") ∷ []) after (λ others. onward (inner others) (λ b end. past (Sign (codes "}") ∷ []) (When c b) end))))
        (expression_first e (codes ")") (Sign (codes "{") ∷ (statements_tokens scope body ++ Sign (codes "}") ∷ rest)) is deep (λ operand a. refl))
        ∙ ap (λ (r : Read Statements). onward r (λ b end. past (Sign (codes "}") ∷ []) (When e b) end)) body_back

    variable_after : (x : ℕ) (rest : List Token) → x < length scope.variables → a_variable scope (Word (name_at scope.variables x) ∷ rest) ≡ Some (x, rest)
    variable_after x rest within = ap (with_rest rest) (variable_found scope names x within)

    -- the call of a helper
    pub check_back : (helper : Helper) (a b : Expression) (x code : ℕ) (rest : List Token) → IsExpression scope a → IsExpression scope b → x < length scope.variables → IsCode code
        → operand_depth a ≤ depth → operand_depth b ≤ depth
        → one_statement scope reads inner (statement_tokens scope (Check helper a b x code) ++ rest) ≡ Some (Check helper a b x code, rest)
    check_back helper a b x code rest is_a is_b within small deep_a deep_b =
        let closing : List Token = Sign (codes ")") ∷ Sign (codes ")") ∷ refusal_tokens code in
        let last : List Token = address_tokens scope x ++ closing in
        rw (helper_back helper) (
        ap (a_check scope reads helper) (append_assoc (expression_tokens scope a) (Sign (codes ",") ∷ (expression_tokens scope b ++ last)) rest
        ∙ ap (λ (l : List Token). expression_tokens scope a ++ Sign (codes ",") ∷ l) (append_assoc (expression_tokens scope b) last rest))
        ∙ ap (λ (r : Read Expression). onward r (λ c after. behind (Sign (codes ",") ∷ []) after (λ others. onward (reads others) (λ d later.
        behind (Sign (codes ",") ∷ Sign (codes "&") ∷ []) later (λ more_tokens. onward (a_variable scope more_tokens) (λ y end. refusal_of (Check helper c d y) end))))))
        (expression_first a (codes ",") (expression_tokens scope b ++ (last ++ rest)) is_a deep_a (λ operand e. refl))
        ∙ ap (λ (r : Read Expression). onward r (λ d later. behind (Sign (codes ",") ∷ Sign (codes "&") ∷ []) later (λ more_tokens. onward (a_variable scope more_tokens) (λ y end. refusal_of (Check helper a d y) end))))
        (expression_first b (codes ",") (Sign (codes "&") ∷ Word (name_at scope.variables x) ∷ (closing ++ rest)) is_b deep_b (λ operand e. refl))
        ∙ ap (λ (r : Read ℕ). onward r (λ y end. refusal_of (Check helper a b y) end)) (variable_after x (closing ++ rest) within)
        ∙ refusal_back (Check helper a b x) code rest small)

    -- the call of a function of an input
    pub ask_back : (input : ℕ) (x : Option ℕ) (code : ℕ) (rest : List Token) → input < length scope.inputs → MayAsk scope x → IsCode code
        → one_statement scope reads inner (statement_tokens scope (Ask input x code) ++ rest) ≡ Some (Ask input x code, rest)
    ask_back input None code rest there may small = rw (input_found input there) (refusal_back (Ask input None) code rest small)
    ask_back input (Some x) code rest there may small =
        rw (input_found input there) (
        ap (λ (r : Read ℕ). onward r (λ y end. refusal_of (Ask input (Some y)) end)) (variable_after x (Sign (codes ")") ∷ Sign (codes ")") ∷ (refusal_tokens code ++ rest)) may)
        ∙ refusal_back (Ask input (Some x)) code rest small)

    -- the call of a function of an output
    gift_back : (output : ℕ) (e : Option Expression) (rest : List Token) → MayGive scope e → given_depth e ≤ depth
        → a_gift reads output ((given_tokens scope e ++ Sign (codes ")") ∷ Sign (codes ";") ∷ []) ++ rest) ≡ Some (Give output e, rest)
    gift_back output None rest may deep = refl
    gift_back output (Some e) rest may deep =
        ap (λ (l : List Token). onward (reads l) (λ c end. past (Sign (codes ")") ∷ Sign (codes ";") ∷ []) (Give output (Some c)) end)) (append_assoc (expression_tokens scope e) (Sign (codes ")") ∷ Sign (codes ";") ∷ []) rest)
        ∙ ap (λ (r : Read Expression). onward r (λ c end. past (Sign (codes ")") ∷ Sign (codes ";") ∷ []) (Give output (Some c)) end))
        (expression_first e (codes ")") (Sign (codes ";") ∷ rest) may deep (λ operand a. refl))

    pub give_back : (output : ℕ) (e : Option Expression) (rest : List Token) → output < length scope.outputs → MayGive scope e → given_depth e ≤ depth
        → one_statement scope reads inner (statement_tokens scope (Give output e) ++ rest) ≡ Some (Give output e, rest)
    give_back output e rest there may deep =
        let name = name_at scope.outputs output in
        let free = output_free output there in
        let one : bytes_eq name (codes "if") ≡ false = not_reserved name free 0 (omega arith) in
        let two : bytes_eq name (codes "return") ≡ false = not_reserved name free 1 (omega arith) in
        let three : bytes_eq name (codes "state") ≡ false = not_reserved name free 10 (omega arith) in
        rw one (rw two (rw three (rw (output_found output there) (gift_back output e rest may deep))))

    pub ignore_back : (x : Ignored) (rest : List Token) → MayIgnore scope x → one_statement scope reads inner (statement_tokens scope (Ignore x) ++ rest) ≡ Some (Ignore x, rest)
    ignore_back (TheVariable x) rest within =
        let name = name_at scope.variables x in
        let free = free_variable scope names x within in
        let one : bytes_eq name (codes "state") ≡ false = not_reserved name free 10 (omega arith) in
        let two : bytes_eq name (codes "context") ≡ false = not_reserved name free 11 (omega arith) in
        rw one (rw two (rw (variable_found scope names x within) refl))
    ignore_back TheState rest within = refl
    ignore_back TheContext rest within = refl

    pub return_back : (code : ℕ) (rest : List Token) → IsCode code → one_statement scope reads inner (statement_tokens scope (Return code) ++ rest) ≡ Some (Return code, rest)
    return_back code rest small = ap (λ (r : Read ℕ). onward r (λ k end. past (Sign (codes ";") ∷ []) (Return k) end)) (code_back code (Sign (codes ";") ∷ rest) small)
