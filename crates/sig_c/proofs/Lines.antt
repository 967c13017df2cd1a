-- Lines of statements have the tokens that statements are written with.
use Rattle.std.proofs.Common.{◌≡◌, ℕ, zero, suc, ◌<◌, List, [], ◌∷◌, ◌++◌, length, Option, None, Some, refl, sym, ap, ◌∙◌, append_assoc, append-nil, arith, decimal, true, replicate}
use Rattle.std.specs.Prelude.{codes}
use Rattle.sig_c.specs.SmallC.{Place, Expression, Helper, Add, Subtract, Multiply, Quotient, Remainder, Ignored, TheVariable, TheState, TheContext, Statement, Set, When, Check, Ask, Give, Ignore, Return, Statements, none, more}
use Rattle.sig_c.specs.Tokens.{Token, Word, Sign, Mode, Fresh, Between, Scanned, scan, scanned, HasTokens}
use Rattle.sig_c.specs.Written.{Scope, name_at, helper_name, place_tokens, expression_tokens, refusal_tokens, address_tokens, asked_tokens, given_tokens, ignored_name, statement_tokens, statements_tokens}
use Rattle.sig_c.specs.Names.{is_free, AreNames, IsPlace, IsExpression, IsCode, MayAsk, MayGive, MayIgnore, IsStatement, AreStatements}
use Rattle.sig_c.specs.Layout.{expression_text, place_text, refusal_text, address_text, gift_text, statement_text, inner_text, lines_text, IsLaid, IsGiftLaid, IsStatementLaid, AreLaid}
use Rattle.sig_c.proofs.FreeNames.{free_at, free_first, free_last}
use Rattle.sig_c.proofs.Expressions.{free_variable}
use Rattle.sig_c.proofs.Statements.{output_free}
use Rattle.sig_c.proofs.Scanning.{Makes}
use Rattle.sig_c.proofs.Layouts.{then_makes, Closes, blank, comma, semicolon, opening, closing, IsWordText, Piece, word_piece, decimal_word, name_word, behind_run, place_piece, expression_piece}

abbrev pub from_between : List ℕ → Option Scanned
from_between l = scan l (record { mode = Between; tokens = [] })

-- Bytes that end with a byte that ends what stands before it make these tokens, whatever comes behind them.
abbrev pub Whole : List ℕ → List Token → Type 0
Whole bytes tokens = (rest : List ℕ) (mode : Mode) (others : List Token) → Makes Between rest mode others → Makes Between (bytes ++ rest) mode (tokens ++ others)

decimal_piece : (n : ℕ) → IsCode n → Piece (decimal n) (Word (decimal n) ∷ [])
decimal_piece n small = word_piece (decimal n) (decimal_word n (omega (arith, small)))

-- ) { return k; }
refusal_behind : (code : ℕ) → IsCode code → Whole (codes ") { return " ++ (decimal code ++ codes "; }")) (Sign (codes ")") ∷ refusal_tokens code)
refusal_behind code small rest mode others makes =
    let last = then_makes (Sign (codes "}") ∷ []) Between rest mode others makes in
    let number = decimal_piece code small 59 (Sign (codes ";") ∷ []) semicolon (codes " }" ++ rest) mode (Sign (codes "}") ∷ others) last in
    then_makes (Sign (codes ")") ∷ Sign (codes "{") ∷ Word (codes "return") ∷ []) Between ((decimal code ++ codes "; }") ++ rest) mode
    (Word (decimal code) ∷ Sign (codes ";") ∷ Sign (codes "}") ∷ others)
    (ap from_between (append_assoc (decimal code) (codes "; }") rest) ∙ number)

pub helper_piece : (helper : Helper) → Piece (helper_name helper) (Word (helper_name helper) ∷ [])
helper_piece Add = word_piece (codes "add") refl
helper_piece Subtract = word_piece (codes "subtract") refl
helper_piece Multiply = word_piece (codes "multiply") refl
helper_piece Quotient = word_piece (codes "divide") refl
helper_piece Remainder = word_piece (codes "modulo") refl

module _ (scope : Scope) (names : AreNames scope) where
  input_free : (i : ℕ) → i < length scope.inputs → is_free (name_at scope.inputs i) ≡ true
  input_free i within = free_at scope.inputs (free_first scope.inputs scope.outputs (free_last scope.variables (scope.inputs ++ scope.outputs) names.identifiers)) i within

  -- an expression with a byte behind it
  expression_whole : (e : Expression) (byte : ℕ) (last : List Token) → Closes byte last → IsLaid e → IsExpression scope e → (rest : List ℕ) (mode : Mode) (others : List Token) → Makes Between rest mode others
      → Makes Between (expression_text scope e ++ byte ∷ rest) mode (expression_tokens scope e ++ (last ++ others))
  expression_whole e byte last closes laid is rest mode others makes = expression_piece scope names e laid is byte last closes rest mode others makes

  set_whole : (x : Place) (e : Expression) → IsLaid e → IsPlace scope x → IsExpression scope e → Whole (statement_text scope (Set x e)) (statement_tokens scope (Set x e))
  set_whole x e laid place is rest mode others makes =
      let value = expression_whole e 59 (Sign (codes ";") ∷ []) semicolon laid is rest mode others makes in
      let sign = then_makes (Sign (codes "=") ∷ []) Between (expression_text scope e ++ 59 ∷ rest) mode (expression_tokens scope e ++ Sign (codes ";") ∷ others) value in
      let all = place_piece scope names x place 32 [] blank (codes "= " ++ (expression_text scope e ++ 59 ∷ rest)) mode (Sign (codes "=") ∷ (expression_tokens scope e ++ Sign (codes ";") ∷ others)) sign in
      ap from_between (append_assoc (place_text scope x) (codes " = " ++ (expression_text scope e ++ codes ";")) rest
      ∙ ap (λ (l : List ℕ). place_text scope x ++ (codes " = " ++ l)) (append_assoc (expression_text scope e) (codes ";") rest))
      ∙ all ∙ ap (scanned mode) (sym (append_assoc (place_tokens scope x) (Sign (codes "=") ∷ (expression_tokens scope e ++ Sign (codes ";") ∷ [])) others
      ∙ ap (λ (l : List Token). place_tokens scope x ++ Sign (codes "=") ∷ l) (append_assoc (expression_tokens scope e) (Sign (codes ";") ∷ []) others)))

  when_whole : (e : Expression) (body : Statements) → IsLaid e → IsExpression scope e → Whole (inner_text scope body) (statements_tokens scope body)
      → Whole (statement_text scope (When e body)) (statement_tokens scope (When e body))
  when_whole e body laid is inner rest mode others makes =
      let last = then_makes (Sign (codes "}") ∷ []) Between rest mode others makes in
      let inside = inner (codes " }" ++ rest) mode (Sign (codes "}") ∷ others) last in
      let brace = then_makes (Sign (codes "{") ∷ []) Between (inner_text scope body ++ (codes " }" ++ rest)) mode (statements_tokens scope body ++ Sign (codes "}") ∷ others) inside in
      let value = expression_whole e 41 (Sign (codes ")") ∷ []) closing laid is (codes " {" ++ (inner_text scope body ++ (codes " }" ++ rest))) mode (Sign (codes "{") ∷ (statements_tokens scope body ++ Sign (codes "}") ∷ others)) brace in
      let all = then_makes (Word (codes "if") ∷ Sign (codes "(") ∷ []) Between (expression_text scope e ++ (codes ") {" ++ (inner_text scope body ++ (codes " }" ++ rest)))) mode
      (expression_tokens scope e ++ Sign (codes ")") ∷ Sign (codes "{") ∷ (statements_tokens scope body ++ Sign (codes "}") ∷ others)) value in
      ap (λ (l : List ℕ). from_between (codes "if (" ++ l)) (append_assoc (expression_text scope e) (codes ") {" ++ (inner_text scope body ++ codes " }")) rest
      ∙ ap (λ (l : List ℕ). expression_text scope e ++ (codes ") {" ++ l)) (append_assoc (inner_text scope body) (codes " }") rest))
      ∙ all ∙ ap (λ (l : List Token). scanned mode (Word (codes "if") ∷ Sign (codes "(") ∷ l))
      (sym (append_assoc (expression_tokens scope e) (Sign (codes ")") ∷ Sign (codes "{") ∷ (statements_tokens scope body ++ Sign (codes "}") ∷ [])) others
      ∙ ap (λ (l : List Token). expression_tokens scope e ++ Sign (codes ")") ∷ Sign (codes "{") ∷ l) (append_assoc (statements_tokens scope body) (Sign (codes "}") ∷ []) others)))

  check_whole : (helper : Helper) (a b : Expression) (x code : ℕ) → IsLaid a → IsLaid b → IsExpression scope a → IsExpression scope b → x < length scope.variables → IsCode code
      → Whole (statement_text scope (Check helper a b x code)) (statement_tokens scope (Check helper a b x code))
  check_whole helper a b x code laid_a laid_b is_a is_b within small rest mode others makes =
      let name = name_at scope.variables x in
      let closing_tokens : List Token = Sign (codes ")") ∷ Sign (codes ")") ∷ refusal_tokens code in
      let last_tokens : List Token = address_tokens scope x ++ closing_tokens in
      let refusal = refusal_behind code small rest mode others makes in
      let behind_b = behind_run (codes " &") (codes "&") [] name refl refl (name_word name (free_variable scope names x within)) 41 (Sign (codes ")") ∷ []) closing
      ((codes ") { return " ++ (decimal code ++ codes "; }")) ++ rest) mode (Sign (codes ")") ∷ (refusal_tokens code ++ others)) refusal in
      let second = expression_whole b 44 (Sign (codes ",") ∷ []) comma laid_b is_b (codes " &" ++ (name ++ (refusal_text code ++ rest))) mode
      (Sign (codes "&") ∷ Word name ∷ (closing_tokens ++ others)) behind_b in
      let between = then_makes [] Between (expression_text scope b ++ 44 ∷ (codes " &" ++ (name ++ (refusal_text code ++ rest)))) mode
      (expression_tokens scope b ++ Sign (codes ",") ∷ Sign (codes "&") ∷ Word name ∷ (closing_tokens ++ others)) second in
      let first = expression_whole a 44 (Sign (codes ",") ∷ []) comma laid_a is_a (codes " " ++ (expression_text scope b ++ 44 ∷ (codes " &" ++ (name ++ (refusal_text code ++ rest))))) mode
      (expression_tokens scope b ++ Sign (codes ",") ∷ Sign (codes "&") ∷ Word name ∷ (closing_tokens ++ others)) between in
      let called = helper_piece helper 40 (Sign (codes "(") ∷ []) opening (expression_text scope a ++ 44 ∷ (codes " " ++ (expression_text scope b ++ 44 ∷ (codes " &" ++ (name ++ (refusal_text code ++ rest)))))) mode
      (expression_tokens scope a ++ Sign (codes ",") ∷ (expression_tokens scope b ++ Sign (codes ",") ∷ Sign (codes "&") ∷ Word name ∷ (closing_tokens ++ others))) first in
      let all = then_makes (Word (codes "if") ∷ Sign (codes "(") ∷ []) Between
      (helper_name helper ++ 40 ∷ (expression_text scope a ++ 44 ∷ (codes " " ++ (expression_text scope b ++ 44 ∷ (codes " &" ++ (name ++ (refusal_text code ++ rest))))))) mode
      (Word (helper_name helper) ∷ Sign (codes "(") ∷ (expression_tokens scope a ++ Sign (codes ",") ∷ (expression_tokens scope b ++ Sign (codes ",") ∷ Sign (codes "&") ∷ Word name ∷ (closing_tokens ++ others)))) called in
      ap (λ (l : List ℕ). from_between (codes "if (" ++ l)) (
      append_assoc (helper_name helper) (codes "(" ++ (expression_text scope a ++ (codes ", " ++ (expression_text scope b ++ (address_text scope (Some x) ++ refusal_text code))))) rest
      ∙ ap (λ (l : List ℕ). helper_name helper ++ (codes "(" ++ l)) (
      append_assoc (expression_text scope a) (codes ", " ++ (expression_text scope b ++ (address_text scope (Some x) ++ refusal_text code))) rest
      ∙ ap (λ (l : List ℕ). expression_text scope a ++ (codes ", " ++ l)) (
      append_assoc (expression_text scope b) (address_text scope (Some x) ++ refusal_text code) rest
      ∙ ap (λ (l : List ℕ). expression_text scope b ++ (codes ", &" ++ l)) (append_assoc name (refusal_text code) rest))))
      ∙ all ∙ ap (λ (l : List Token). scanned mode (Word (codes "if") ∷ Sign (codes "(") ∷ Word (helper_name helper) ∷ Sign (codes "(") ∷ l))
      (sym (append_assoc (expression_tokens scope a) (Sign (codes ",") ∷ (expression_tokens scope b ++ last_tokens)) others
      ∙ ap (λ (l : List Token). expression_tokens scope a ++ Sign (codes ",") ∷ l) (append_assoc (expression_tokens scope b) last_tokens others)))

  -- `context` before a comma or a parenthesis
  context_asked : (x : Option ℕ) (code : ℕ) → MayAsk scope x → IsCode code → Whole (codes "context" ++ (address_text scope x ++ refusal_text code))
      (Word (codes "context") ∷ (asked_tokens scope x ++ Sign (codes ")") ∷ Sign (codes ")") ∷ refusal_tokens code))
  context_asked None code may small rest mode others makes =
      then_makes (Word (codes "context") ∷ Sign (codes ")") ∷ []) Between ((codes ") { return " ++ (decimal code ++ codes "; }")) ++ rest) mode (Sign (codes ")") ∷ (refusal_tokens code ++ others))
      (refusal_behind code small rest mode others makes)
  context_asked (Some x) code may small rest mode others makes =
      let name = name_at scope.variables x in
      ap (λ (l : List ℕ). from_between (codes "context, &" ++ l)) (append_assoc name (refusal_text code) rest)
      ∙ behind_run (codes "context, &") (codes "&") (Word (codes "context") ∷ Sign (codes ",") ∷ []) name refl refl (name_word name (free_variable scope names x may)) 41 (Sign (codes ")") ∷ []) closing
      ((codes ") { return " ++ (decimal code ++ codes "; }")) ++ rest) mode (Sign (codes ")") ∷ (refusal_tokens code ++ others)) (refusal_behind code small rest mode others makes)

  context_gift : (e : Option Expression) → MayGive scope e → IsGiftLaid e → Whole (codes "context" ++ (gift_text scope e ++ codes ");")) (Word (codes "context") ∷ (given_tokens scope e ++ Sign (codes ")") ∷ Sign (codes ";") ∷ []))
  context_gift None may laid rest mode others makes = then_makes (Word (codes "context") ∷ Sign (codes ")") ∷ Sign (codes ";") ∷ []) Between rest mode others makes
  context_gift (Some e) may laid rest mode others makes =
      let last = then_makes (Sign (codes ";") ∷ []) Between rest mode others makes in
      let value = expression_whole e 41 (Sign (codes ")") ∷ []) closing laid may (codes ";" ++ rest) mode (Sign (codes ";") ∷ others) last in
      then_makes (Word (codes "context") ∷ Sign (codes ",") ∷ []) Between ((expression_text scope e ++ codes ");") ++ rest) mode (expression_tokens scope e ++ Sign (codes ")") ∷ Sign (codes ";") ∷ others)
      (ap from_between (append_assoc (expression_text scope e) (codes ");") rest) ∙ value)
      ∙ ap (λ (l : List Token). scanned mode (Word (codes "context") ∷ Sign (codes ",") ∷ l)) (sym (append_assoc (expression_tokens scope e) (Sign (codes ")") ∷ Sign (codes ";") ∷ []) others))

  ignored_word : (x : Ignored) → MayIgnore scope x → IsWordText (ignored_name scope x)
  ignored_word (TheVariable x) within = name_word (name_at scope.variables x) (free_variable scope names x within)
  ignored_word TheState within = refl
  ignored_word TheContext within = refl

  ask_whole : (input : ℕ) (x : Option ℕ) (code : ℕ) → input < length scope.inputs → MayAsk scope x → IsCode code → Whole (statement_text scope (Ask input x code)) (statement_tokens scope (Ask input x code))
  ask_whole input x code there may small rest mode others makes =
      let name = name_at scope.inputs input in
      let tail : List ℕ = address_text scope x ++ refusal_text code in
      let tail_tokens : List Token = asked_tokens scope x ++ Sign (codes ")") ∷ Sign (codes ")") ∷ refusal_tokens code in
      let refusal = context_asked x code may small rest mode others makes in
      let all = behind_run (codes "if (!") (codes "!") (Word (codes "if") ∷ Sign (codes "(") ∷ []) name refl refl (name_word name (input_free input there)) 40 (Sign (codes "(") ∷ []) opening
      (codes "context" ++ (tail ++ rest)) mode (Word (codes "context") ∷ (tail_tokens ++ others)) refusal in
      ap (λ (l : List ℕ). from_between (codes "if (!" ++ l)) (append_assoc name (codes "(context" ++ tail) rest) ∙ all

  give_whole : (output : ℕ) (e : Option Expression) → output < length scope.outputs → MayGive scope e → IsGiftLaid e → Whole (statement_text scope (Give output e)) (statement_tokens scope (Give output e))
  give_whole output e there may laid rest mode others makes =
      let name = name_at scope.outputs output in
      let tail : List ℕ = gift_text scope e ++ codes ");" in
      let tail_tokens : List Token = given_tokens scope e ++ Sign (codes ")") ∷ Sign (codes ";") ∷ [] in
      let gift = context_gift e may laid rest mode others makes in
      let all = word_piece name (name_word name (output_free scope names output there)) 40 (Sign (codes "(") ∷ []) opening (codes "context" ++ (tail ++ rest)) mode
      (Word (codes "context") ∷ (tail_tokens ++ others)) gift in
      ap from_between (append_assoc name (codes "(context" ++ tail) rest) ∙ all

  ignore_whole : (x : Ignored) → MayIgnore scope x → Whole (statement_text scope (Ignore x)) (statement_tokens scope (Ignore x))
  ignore_whole x may rest mode others makes =
      let name = word_piece (ignored_name scope x) (ignored_word x may) 59 (Sign (codes ";") ∷ []) semicolon rest mode others makes in
      then_makes (Sign (codes "(") ∷ Word (codes "void") ∷ Sign (codes ")") ∷ []) Between ((ignored_name scope x ++ codes ";") ++ rest) mode (Word (ignored_name scope x) ∷ Sign (codes ";") ∷ others)
      (ap from_between (append_assoc (ignored_name scope x) (codes ";") rest) ∙ name)

  return_whole : (code : ℕ) → IsCode code → Whole (statement_text scope (Return code)) (statement_tokens scope (Return code))
  return_whole code small rest mode others makes =
      let number = decimal_piece code small 59 (Sign (codes ";") ∷ []) semicolon rest mode others makes in
      then_makes (Word (codes "return") ∷ []) Between ((decimal code ++ codes ";") ++ rest) mode (Word (decimal code) ∷ Sign (codes ";") ∷ others)
      (ap from_between (append_assoc (decimal code) (codes ";") rest) ∙ number)

  mutual
    pub statement_whole : (s : Statement) → IsStatementLaid s → IsStatement scope s → Whole (statement_text scope s) (statement_tokens scope s)
    statement_whole (Set x e) laid is = set_whole x e laid is.0 is.1
    statement_whole (When e body) laid is = when_whole e body laid.0 is.0 (inner_whole body laid.1 is.1)
    statement_whole (Check helper a b x code) laid is = check_whole helper a b x code laid.0 laid.1 is.0 is.1 is.2 is.3
    statement_whole (Ask input x code) laid is = ask_whole input x code is.0 is.1 is.2
    statement_whole (Give output e) laid is = give_whole output e is.0 is.1 laid
    statement_whole (Ignore x) laid is = ignore_whole x is
    statement_whole (Return code) laid is = return_whole code is

    pub inner_whole : (p : Statements) → AreLaid p → AreStatements scope p → Whole (inner_text scope p) (statements_tokens scope p)
    inner_whole none laid are rest mode others makes = makes
    inner_whole (more s p) laid are rest mode others makes =
        let later = inner_whole p laid.1 are.1 rest mode others makes in
        let all = statement_whole s laid.0 are.0 (inner_text scope p ++ rest) mode (statements_tokens scope p ++ others) later in
        ap from_between (append_assoc (statement_text scope s) (inner_text scope p) rest) ∙ all ∙ ap (scanned mode) (sym (append_assoc (statement_tokens scope s) (statements_tokens scope p) others))

  -- ---- lines

  -- blanks before what stands on a line
  blanks_pass : (n : ℕ) (rest : List ℕ) (mode : Mode) (others : List Token) → Makes Between rest mode others → Makes Between (replicate n 32 ++ rest) mode others
  blanks_pass zero rest mode others makes = makes
  blanks_pass (suc n) rest mode others makes = blanks_pass n rest mode others makes

  pub line_whole : (n : ℕ) (s : Statement) → IsStatementLaid s → IsStatement scope s → (rest : List ℕ) (mode : Mode) (others : List Token) → Makes Fresh rest mode others
      → Makes Fresh (replicate (suc n) 32 ++ (statement_text scope s ++ (codes "\n" ++ rest))) mode (statement_tokens scope s ++ others)
  line_whole n s laid is rest mode others makes =
      blanks_pass n (statement_text scope s ++ (codes "\n" ++ rest)) mode (statement_tokens scope s ++ others) (statement_whole s laid is (codes "\n" ++ rest) mode others makes)

  pub lines_whole : (n : ℕ) (p : Statements) → AreLaid p → AreStatements scope p → (rest : List ℕ) (mode : Mode) (others : List Token) → Makes Fresh rest mode others
      → Makes Fresh (lines_text (replicate (suc n) 32) scope p ++ rest) mode (statements_tokens scope p ++ others)
  lines_whole n none laid are rest mode others makes = makes
  lines_whole n (more s p) laid are rest mode others makes =
      let later = lines_whole n p laid.1 are.1 rest mode others makes in
      let blanks = replicate (suc n) 32 in
      ap (λ (l : List ℕ). scan l (record { mode = Fresh; tokens = [] }))
      (append_assoc blanks (statement_text scope s ++ (codes "\n" ++ lines_text blanks scope p)) rest
      ∙ ap (λ (l : List ℕ). blanks ++ l) (append_assoc (statement_text scope s) (codes "\n" ++ lines_text blanks scope p) rest))
      ∙ line_whole n s laid.0 are.0 (lines_text blanks scope p ++ rest) mode (statements_tokens scope p ++ others) later
      ∙ ap (scanned mode) (sym (append_assoc (statement_tokens scope s) (statements_tokens scope p) others))

  pub lines_have : (n : ℕ) (p : Statements) → AreLaid p → AreStatements scope p → HasTokens (lines_text (replicate (suc n) 32) scope p) (statements_tokens scope p)
  lines_have n p laid are =
      ap (λ (l : List ℕ). scan l (record { mode = Fresh; tokens = [] })) (sym (append-nil (lines_text (replicate (suc n) 32) scope p)))
      ∙ lines_whole n p laid are [] Fresh [] refl ∙ ap (scanned Fresh) (append-nil (statements_tokens scope p))
