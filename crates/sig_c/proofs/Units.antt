-- A unit is read as it is written.
use Rattle.std.proofs.Common.{◌≡◌, ℕ, zero, suc, ℤ, ◌<◌, ◌≤◌, List, [], ◌∷◌, ◌++◌, length, false, Some, refl, sym, ap, ◌∙◌, arith, append_assoc, length-append, max, subst, ◌+◌}
use Rattle.std.specs.Prelude.{codes}
use Rattle.std.proofs.lemmas.List.{length-map}
use Rattle.sig_c.specs.SmallC.{Name, Header, Helper, Add, Subtract, Multiply, Quotient, Remainder, HelperDefinition, Declared, Statements, EndRow, FieldOfState, TranslationUnit}
use Rattle.sig_c.specs.Tokens.{Token, Word, Sign, Directive}
use Rattle.sig_c.specs.Written.{Scope, helper_name, helper_scope, helper_tokens, helpers_tokens, ends_tokens, init_tokens, step_tokens, declared_tokens, variables_tokens, statements_tokens, scope_of, unit_tokens}
use Rattle.sig_c.specs.Reader.{Read, onward, past, behind, parameters, helper_opening, a_helper, read_helper, is_word, read_helpers, read_ends, read_init, step_opening, read_variables, read_statements, read_step, read_rest, read_unit}
use Rattle.sig_c.specs.Names.{AreNames, AreVariables, AreStatements, AreHelpers, IsUnit}
use Rattle.sig_c.proofs.Words.{same_token, passes}
use Rattle.sig_c.proofs.HelperBodies.{helper_names}
use Rattle.sig_c.proofs.Statements.{statements_depth}
use Rattle.sig_c.proofs.Sizes.{statements_size}
use Rattle.sig_c.proofs.Sequences.{statements_back}
use Rattle.sig_c.proofs.Tables.{ends_back}
use Rattle.sig_c.proofs.Variables.{init_back, variables_back, step_no_type}

name_back : (helper : Helper) (rest : List Token) → a_helper (Word (helper_name helper) ∷ rest) ≡ Some (helper, rest)
name_back Add rest = refl
name_back Subtract rest = refl
name_back Multiply rest = refl
name_back Quotient rest = refl
name_back Remainder rest = refl

-- what is deep in the helpers
abbrev helpers_depth : List HelperDefinition → ℕ
helpers_depth [] = 0
helpers_depth (definition ∷ others) = max (statements_depth definition.body) (helpers_depth others)

helper_back : (definition : HelperDefinition) (depth : ℕ) (rest : List Token) → AreStatements helper_scope definition.body → statements_depth definition.body ≤ depth
    → read_helper depth (helper_tokens definition ++ rest) ≡ Some (definition, rest)
helper_back definition depth rest right deep =
    ap (λ (r : Read Helper). onward r then_opening) (name_back definition.helper (helper_opening ++ ((body ++ Sign (codes "}") ∷ []) ++ rest)))
    ∙ passes helper_opening ((body ++ Sign (codes "}") ∷ []) ++ rest) (then_body definition.helper)
    ∙ ap (then_body definition.helper) (append_assoc body (Sign (codes "}") ∷ []) rest)
    ∙ ap (λ (r : Read Statements). onward r (closing definition.helper)) (statements_back helper_scope helper_names definition.body depth (Sign (codes "}") ∷ rest) right deep refl)
  where
    body : List Token
    body = statements_tokens helper_scope definition.body

    closing : Helper → Statements → List Token → Read HelperDefinition
    closing helper statements t4 = past (Sign (codes "}") ∷ []) (record { helper = helper; body = statements }) t4

    then_body : Helper → List Token → Read HelperDefinition
    then_body helper t3 = onward (read_statements parameters depth t3) (closing helper)

    then_opening : Helper → List Token → Read HelperDefinition
    then_opening helper t2 = behind helper_opening t2 (then_body helper)

helpers_back : (definitions : List HelperDefinition) (depth count : ℕ) (rest : List Token) → AreHelpers definitions → helpers_depth definitions ≤ depth → length definitions < count
    → is_word (codes "static") rest ≡ false → read_helpers depth count (helpers_tokens definitions ++ rest) ≡ Some (definitions, rest)
helpers_back definitions depth zero rest are deep many ends = absurd (omega (arith, many))
helpers_back [] depth (suc count) rest are deep many ends = rw ends refl
helpers_back (definition ∷ later) depth (suc count) rest are deep many ends =
    ap (read_helpers depth (suc count)) (append_assoc (helper_tokens definition) (helpers_tokens later) rest)
    ∙ ap (λ (r : Read HelperDefinition). onward r others) (helper_back definition depth (helpers_tokens later ++ rest) are.1 (omega (arith, deep)))
    ∙ ap (λ (r : Read (List HelperDefinition)). onward r (λ its end. Some (definition ∷ its, end))) (helpers_back later depth count rest are.3 (omega (arith, deep)) (omega (arith, many)) ends)
  where
    others : HelperDefinition → List Token → Read (List HelperDefinition)
    others it after = onward (read_helpers depth count after) (λ its end. Some (it ∷ its, end))

-- ---- the step

step_back : (header : Header) (variables : List Declared) (step : Statements) (depth : ℕ) → AreNames (scope_of header variables) → AreVariables (length header.fields) variables
    → AreStatements (scope_of header variables) step → length variables < depth → statements_depth step ≤ depth
    → read_step header depth (step_tokens header variables step) ≡ Some ((variables, step), [])
step_back header variables step depth names are right wide deep =
    passes (step_opening header) body (λ t1. onward (read_variables (scope_of header []) depth t1) then_statements)
    ∙ ap (λ (r : Read (List Declared)). onward r then_statements) (variables_back (scope_of header []) variables depth (statements_tokens scope step ++ Sign (codes "}") ∷ []) names.fields_distinct fields wide
    (step_no_type scope names step [] right))
    ∙ ap (λ (r : Read Statements). onward r (λ it t3. past (Sign (codes "}") ∷ []) (variables, it) t3)) (statements_back scope names step depth (Sign (codes "}") ∷ []) right deep refl)
  where
    scope : Scope
    scope = scope_of header variables

    body : List Token
    body = variables_tokens scope variables ++ (statements_tokens scope step ++ Sign (codes "}") ∷ [])

    then_statements : List Declared → List Token → Read (List Declared × Statements)
    then_statements its t2 = onward (read_statements (scope_of header its) depth t2) (λ it t3. past (Sign (codes "}") ∷ []) (its, it) t3)

    fields : AreVariables (length (scope_of header []).fields) variables
    fields = subst (λ (n : ℕ). AreVariables n variables) (sym (length-map header.fields (λ (field : FieldOfState). field.name))) are

-- ---- sizes

helper_size : (definition : HelperDefinition) → suc (statements_depth definition.body) ≤ length (helper_tokens definition)
helper_size definition = let n = statements_size helper_scope definition.body in omega (arith, n, length-append (statements_tokens helper_scope definition.body) (Sign (codes "}") ∷ []))

helpers_size : (definitions : List HelperDefinition) → (length definitions ≤ length (helpers_tokens definitions)) × (helpers_depth definitions ≤ length (helpers_tokens definitions))
helpers_size [] = (omega arith, omega arith)
helpers_size (definition ∷ others) =
    let n = helpers_size others in
    let m = helper_size definition in
    let l = n.0 in
    let k = n.1 in
    let e = length-append (helper_tokens definition) (helpers_tokens others) in
    (omega (arith, l, m, e), omega (arith, k, m, e))

variables_size : (scope : Scope) (variables : List Declared) → length variables ≤ length (variables_tokens scope variables)
variables_size scope [] = omega arith
variables_size scope (declared ∷ variables) = let n = variables_size scope variables in omega (arith, n, length-append (declared_tokens scope declared) (variables_tokens scope variables))

-- ---- the whole

abbrev pub body_tokens : Header → TranslationUnit → List Token
body_tokens header unit = helpers_tokens unit.helpers ++ (ends_tokens header unit.ends ++ (init_tokens header unit.firsts ++ step_tokens header unit.variables unit.step))

pub rest_back : (header : Header) (unit : TranslationUnit) → IsUnit header unit → read_rest header (suc (length (body_tokens header unit))) (body_tokens header unit) ≡ Some (unit, [])
rest_back header unit is =
    let sizes = helpers_size unit.helpers in
    let wide = sizes.0 in
    let deep = sizes.1 in
    ap (λ (r : Read (List HelperDefinition)). onward r with_helpers) (helpers_back unit.helpers depth depth after_helpers is.helpers (omega (arith, one, deep)) (omega (arith, one, wide)) refl)
    ∙ ap (λ (r : Read (List EndRow)). onward r (with_ends unit.helpers)) (ends_back header unit.ends after_ends is.rows is.few_rows)
    ∙ ap (λ (r : Read (List ℤ)). onward r (with_firsts unit.helpers unit.ends)) (init_back header unit.firsts after_init is.firsts is.bits)
    ∙ ap (λ (r : Read (List Declared × Statements)). onward r (with_step unit.helpers unit.ends unit.firsts))
    (step_back header unit.variables unit.step depth is.names.names is.variables is.step (omega (arith, all, variables_size scope unit.variables)) (omega (arith, all, statements_size scope unit.step)))
  where
    scope : Scope
    scope = scope_of header unit.variables

    depth : ℕ
    depth = suc (length (body_tokens header unit))

    after_init : List Token
    after_init = step_tokens header unit.variables unit.step

    after_ends : List Token
    after_ends = init_tokens header unit.firsts ++ after_init

    after_helpers : List Token
    after_helpers = ends_tokens header unit.ends ++ after_ends

    with_step : List HelperDefinition → List EndRow → List ℤ → List Declared × Statements → List Token → Read TranslationUnit
    with_step helpers ends firsts step end = Some (record { helpers = helpers; ends = ends; firsts = firsts; variables = step.0; step = step.1 }, end)

    with_firsts : List HelperDefinition → List EndRow → List ℤ → List Token → Read TranslationUnit
    with_firsts helpers ends firsts t3 = onward (read_step header depth t3) (with_step helpers ends firsts)

    with_ends : List HelperDefinition → List EndRow → List Token → Read TranslationUnit
    with_ends helpers ends t2 = onward (read_init header t2) (with_firsts helpers ends)

    with_helpers : List HelperDefinition → List Token → Read TranslationUnit
    with_helpers helpers t1 = onward (read_ends header t1) (with_ends helpers)

    one : length (body_tokens header unit) ≡ length (helpers_tokens unit.helpers) + length after_helpers
    one = length-append (helpers_tokens unit.helpers) after_helpers

    all : length (variables_tokens scope unit.variables) + length (statements_tokens scope unit.step) ≤ length (body_tokens header unit)
    all = omega (
      arith,
      one,
      length-append (ends_tokens header unit.ends) after_ends,
      length-append (init_tokens header unit.firsts) after_init,
      length-append (variables_tokens scope unit.variables) (statements_tokens scope unit.step ++ Sign (codes "}") ∷ []),
      length-append (statements_tokens scope unit.step) (Sign (codes "}") ∷ []),
    )

pub unit_back : (include : Name) (header : Header) (unit : TranslationUnit) → IsUnit header unit → read_unit include header (unit_tokens include header unit) ≡ Some (unit, [])
unit_back include header unit is = rw (same_token (Directive (codes "include \"" ++ (include ++ codes "\"")))) (rest_back header unit is)
