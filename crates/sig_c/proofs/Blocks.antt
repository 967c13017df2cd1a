-- An `if` with an expression is read as a block: no expression begins as a call of a helper or of a function of an input.
use Rattle.std.proofs.Common.{◌≡◌, inl, inr, ℕ, suc, ◌<◌, ◌^◌, ◌-◌, List, [], ◌∷◌, ◌++◌, length, true, false, Option, None, refl, sym, ap, arith, subst, append_assoc, decimal}
use Rattle.std.specs.Prelude.{codes, negsuc, pos, ℤ}
use Rattle.std.specs.Str.{bytes_eq}
use Rattle.std.proofs.lemmas.Bool.Decides.{eqb_tells}
use Rattle.std.proofs.lemmas.Bool.{cases_lt}
use Rattle.sig_base.specs.Traces.{has_64_bits}
use Rattle.sig_c.specs.SmallC.{Name, Variable, Field, Result, Expression, Number, Get, Not, Binary, Choose, Statements, Helper}
use Rattle.sig_c.specs.Tokens.{Token, Word, Sign}
use Rattle.sig_c.specs.Written.{Scope, name_at, number_tokens, operator_text, expression_tokens, operand_tokens}
use Rattle.sig_c.specs.Reader.{Read, place_from, place_in, helper_in, input_in, a_block, an_if, check_or_block, ask_or_block}
use Rattle.sig_c.specs.Names.{is_free, AreFree, AreNames, IsExpression}
use Rattle.sig_c.proofs.Words.{turned, not_found}
use Rattle.sig_c.proofs.FreeNames.{letter_high, letter_first, not_reserved, free_first, free_last, apart, any_first}
use Rattle.sig_c.proofs.Numbers.{decimal_is, not_word, small_of, large_of}
use Rattle.sig_c.proofs.Expressions.{free_variable}

-- a word that no free name is has no place among free names
pub no_place : (names : List Name) (start : ℕ) (word : Name) → AreFree names → ((name : Name) → is_free name ≡ true → bytes_eq word name ≡ false) → place_from start word names ≡ None
no_place [] start word free differs = refl
no_place (name ∷ names) start word free differs = rw (differs name free.0) (no_place names (suc start) word free.1 differs)

-- a decimal number is no free name
pub no_number : (n : ℕ) → n < 2 ^ 64 → (name : Name) → is_free name ≡ true → bytes_eq (decimal n) name ≡ false
no_number n small [] free = rw (decimal_is n small).is refl
no_number n small (letter ∷ letters) free = not_word n small letter letters (letter_high letter (letter_first letter letters free))

no_helper_number : (n : ℕ) → n < 2 ^ 64 → helper_in (decimal n) ≡ None
no_helper_number n small =
    let one : bytes_eq (decimal n) (codes "add") ≡ false = not_word n small 97 _ (omega arith) in
    let two : bytes_eq (decimal n) (codes "subtract") ≡ false = not_word n small 115 _ (omega arith) in
    let three : bytes_eq (decimal n) (codes "multiply") ≡ false = not_word n small 109 _ (omega arith) in
    let four : bytes_eq (decimal n) (codes "divide") ≡ false = not_word n small 100 _ (omega arith) in
    let five : bytes_eq (decimal n) (codes "modulo") ≡ false = not_word n small 109 _ (omega arith) in
    rw one (rw two (rw three (rw four (rw five refl))))

pub no_helper_name : (name : Name) → is_free name ≡ true → helper_in name ≡ None
no_helper_name name free =
    let one : bytes_eq name (codes "add") ≡ false = not_reserved name free 12 (omega arith) in
    let two : bytes_eq name (codes "subtract") ≡ false = not_reserved name free 13 (omega arith) in
    let three : bytes_eq name (codes "multiply") ≡ false = not_reserved name free 14 (omega arith) in
    let four : bytes_eq name (codes "divide") ≡ false = not_reserved name free 15 (omega arith) in
    let five : bytes_eq name (codes "modulo") ≡ false = not_reserved name free 16 (omega arith) in
    rw one (rw two (rw three (rw four (rw five refl))))

module _ (scope : Scope) (names : AreNames scope) where
  free_inputs : AreFree scope.inputs
  free_inputs = free_first scope.inputs scope.outputs (free_last scope.variables (scope.inputs ++ scope.outputs) names.identifiers)

  -- a variable is no function of an input
  no_input_variable : (x : ℕ) → x < length scope.variables → place_in scope.inputs (name_at scope.variables x) ≡ None
  no_input_variable x within =
      not_found scope.inputs 0 (name_at scope.variables x) (any_first (bytes_eq (name_at scope.variables x)) scope.inputs scope.outputs (apart scope.variables (scope.inputs ++ scope.outputs) names.distinct x within))

  no_input_word : (word : Name) → ((name : Name) → is_free name ≡ true → bytes_eq word name ≡ false) → place_in scope.inputs word ≡ None
  no_input_word word differs = no_place scope.inputs 0 word free_inputs differs

  -- the first word of an operand names no input
  no_input_number : (v : ℤ) (rest : List Token) → has_64_bits v ≡ true → input_in scope (number_tokens v ++ rest) ≡ None
  no_input_number (pos n) rest small = elim (eqb_tells n (2 ^ 63 - 1)) [
    | inl e ↦ rw e.0 (no_input_word (codes "INT64_MAX") (λ name free. turned name (codes "INT64_MAX") (not_reserved name free 9 (omega arith))))
    | inr e ↦ rw e.0 (elim (cases_lt n (2 ^ 31)) [
      | inl lt ↦ rw (small_of n lt) (no_input_word (decimal n) (no_number n (omega (arith, lt))))
      | inr past ↦ rw (large_of n past) (no_input_word (codes "INT64_C") (λ name free. turned name (codes "INT64_C") (not_reserved name free 7 (omega arith))))
    ])
  ]
  no_input_number (negsuc n) rest small = elim (eqb_tells n (2 ^ 63 - 1)) [
    | inl e ↦ rw e.0 (no_input_word (codes "INT64_MIN") (λ name free. turned name (codes "INT64_MIN") (not_reserved name free 8 (omega arith))))
    | inr e ↦ rw e.0 refl
  ]

  no_input : (e : Expression) (rest : List Token) → IsExpression scope e → input_in scope (operand_tokens scope e ++ rest) ≡ None
  no_input (Number v) rest is = no_input_number v rest is
  no_input (Get (Variable x)) rest is = no_input_variable x is
  no_input (Get (Field n)) rest is = no_input_word (codes "state") (λ name free. turned name (codes "state") (not_reserved name free 10 (omega arith)))
  no_input (Get Result) rest is = refl
  no_input (Not e) rest is = refl
  no_input (Binary op a b) rest is = refl
  no_input (Choose t a b) rest is = refl

  module _ (expression : List Token → Read Expression) (statements : List Token → Read Statements) where
    abbrev IsBlock : List Token → Type 0
    IsBlock tokens = an_if scope expression statements tokens ≡ a_block expression statements tokens

    number_block : (v : ℤ) (rest : List Token) → has_64_bits v ≡ true → IsBlock (number_tokens v ++ rest)
    number_block (pos n) rest small = elim (eqb_tells n (2 ^ 63 - 1)) [
      | inl e ↦ rw e.0 refl
      | inr e ↦ rw e.0 (elim (cases_lt n (2 ^ 31)) [
        | inl lt ↦ rw (small_of n lt) (ap (λ (h : Option Helper). check_or_block scope expression statements (Word (decimal n) ∷ rest) h rest) (no_helper_number n (omega (arith, lt))))
        | inr past ↦ rw (large_of n past) refl
      ])
    ]
    number_block (negsuc n) rest small = elim (eqb_tells n (2 ^ 63 - 1)) [
      | inl e ↦ rw e.0 refl
      | inr e ↦ rw e.0 refl
    ]

    operand_block : (e : Expression) (rest : List Token) → IsExpression scope e → IsBlock (operand_tokens scope e ++ rest)
    operand_block (Number v) rest is = number_block v rest is
    operand_block (Get (Variable x)) rest is = ap (λ (h : Option Helper). check_or_block scope expression statements (Word (name_at scope.variables x) ∷ rest) h rest) (no_helper_name (name_at scope.variables x) (free_variable scope names x is))
    operand_block (Get (Field n)) rest is = refl
    operand_block (Get Result) rest is = refl
    operand_block (Not e) rest is = ap (λ (i : Option ℕ). ask_or_block scope expression statements (Sign (codes "!") ∷ (operand_tokens scope e ++ rest)) i (operand_tokens scope e ++ rest)) (no_input e rest is)
    operand_block (Binary op a b) rest is = refl
    operand_block (Choose t a b) rest is = refl

    pub expression_block : (e : Expression) (rest : List Token) → IsExpression scope e → IsBlock (expression_tokens scope e ++ rest)
    expression_block (Number v) rest is = operand_block (Number v) rest is
    expression_block (Get x) rest is = operand_block (Get x) rest is
    expression_block (Not e) rest is = operand_block (Not e) rest is
    expression_block (Binary op a b) rest is =
        subst IsBlock (sym (append_assoc (operand_tokens scope a) (Sign (operator_text op) ∷ operand_tokens scope b) rest)) (operand_block a _ is.0)
    expression_block (Choose t a b) rest is = subst IsBlock (sym (append_assoc (operand_tokens scope t) _ rest)) (operand_block t _ is.0)
