-- What is refused of definitions and clock equations, where the parser stands.
use Rattle.sig_parse.proofs.Common.{◌≡◌, ◌++◌, ◌+◌, ◌≤◌, ◌<◌, ℕ, List, [], ◌∷◌, length, codes, map, sum_by, inl, inr, refl, sym, ap, subst, arith, sum_by_push, Span, Name, Expression, Named, Computed, Terminal, Leaf, leaf, mark, default_level, Limits, both_limits, no_limits, MayHave, operators, Separated, IsExpression, IsLeft, IsClockEquation, StopsBefore, ContinuesNothing, ContinuesExpression, ContinuesDefinition, ContinuesClockEquation, no_place, left_unlimited, left_within, named_alone, left_once, Refusal, State, Covers, IsLeaf, Cause, Wrong, cause_of, Refuses, RefusedBy, Settles, InLeaf, counted, InLeft, InRight, InDefinition, InClockEquation, ReadsSeparated, RefusesSeparated}
use Rattle.sig_parse.proofs.PartRefusals.{refuses_first}
use Rattle.sig_parse.proofs.Lists.{separated_more}
use Rattle.sig_parse.proofs.RefusedConstants.{some_name, some_leaf}
use Rattle.sig_parse.proofs.RefusedLevels.{fewer}
use Rattle.sig_parse.proofs.RefusedSides.{counted_sum}
use Rattle.sig_parse.proofs.RefusedTokens.{leaf_missing}
use Rattle.sig_parse.proofs.RefusedEquations.{same_clock, some_expression, clock_sign, apart}
use Rattle.sig_parse.proofs.ExpressionRows.{ExpressionRead, ExpressionRefused, Expressions, expressions_refused}
use Rattle.sig_parse.proofs.PassedLanguages.{Leads, leads_refuses, refuses_where, apart_nothing, then_first, leads_alone, Leaf_of, leads_leaf}
use Rattle.sig_parse.proofs.SettledBodies.{Left_of, SignThen, Defining, defining, defined, definition_settles}

module _ (depth : ℕ) where
  -- left ":=" right
  as_definition : {cause : Cause} {here after : List Leaf} → Refuses (Defining depth) ContinuesDefinition cause here after → Refuses (InDefinition depth) ContinuesDefinition cause here after
  as_definition {here = here} r = refuses_where (Defining depth) (InDefinition depth) ContinuesDefinition ContinuesDefinition (defined depth) (λ back stops. stops) here (λ limits whole back is stops same. defining depth limits whole is) r

  some_right : (limits : Limits) → InRight depth 0 limits (some_leaf ∷ [])
  some_right limits = (Computed (Named some_name), named_alone limits depth some_name, λ kept. omega arith)

  some_sign : (limits : Limits) → SignThen depth limits (leaf (mark (codes ":=")) no_place ∷ some_leaf ∷ [])
  some_sign limits = (no_place, leaf (mark (codes ":=")) no_place ∷ [], some_leaf ∷ [], refl, refl, some_right limits)

  pub definition_left : {cause : Cause} {here after : List Leaf} → Refuses (InLeft depth) ContinuesNothing cause here after → Refuses (InDefinition depth) ContinuesDefinition cause here after
  definition_left r = as_definition (then_first (Left_of depth) ContinuesNothing (SignThen depth) ContinuesDefinition (apart_nothing (SignThen depth) ContinuesDefinition) (leaf (mark (codes ":=")) no_place ∷ some_leaf ∷ []) some_sign r)

  module _ (names : List Name) {s t : State} (c : Covers (IsLeft both_limits depth names) s t) where
    to_sign : Leads (Defining depth) ContinuesDefinition (SignThen depth) ContinuesDefinition s.leaves t.leaves
    to_sign = leads_alone (Left_of depth) (SignThen depth) ContinuesDefinition (left_once no_limits depth) (λ limits x leaves is. left_within limits depth x leaves is) (λ limits x leaves is. left_unlimited limits depth depth x leaves is) names c

    pub definition_define : {cause : Cause} {after : List Leaf} → Refuses (InLeaf (mark (codes ":="))) ContinuesNothing cause t.leaves after → Refuses (InDefinition depth) ContinuesDefinition cause s.leaves after
    definition_define r = as_definition (leads_refuses to_sign (then_first (Leaf_of (mark (codes ":="))) ContinuesNothing (InRight depth 0) ContinuesDefinition (apart_nothing (InRight depth 0) ContinuesDefinition) (some_leaf ∷ []) some_right r))

    -- where no operators were counted
    pub definition_right : (at : Span) (used : ℕ) {u : State} → Covers (IsLeaf (mark (codes ":=")) at) t u → used ≡ 0 → {cause : Cause} {after : List Leaf} → Refuses (InRight depth used) ContinuesDefinition cause u.leaves after
        → Refuses (InDefinition depth) ContinuesDefinition cause s.leaves after
    definition_right at used {u} d none {cause} {after} r = as_definition (leads_refuses to_sign (leads_refuses (leads_leaf (mark (codes ":=")) (InRight depth 0) ContinuesDefinition at d)
        (subst (λ (n : ℕ). Refuses (InRight depth n) ContinuesDefinition cause u.leaves after) none r)))

    pub definition_settled : (at : Span) (used : ℕ) {u : State} {after : List Leaf} → Covers (IsLeaf (mark (codes ":=")) at) t u → used ≡ 0 → Settles (InRight depth used) ContinuesDefinition u.leaves after
        → Settles (InDefinition depth) ContinuesDefinition s.leaves after
    definition_settled at used {u} {after} d none k = definition_settles depth names at c d (subst (λ (n : ℕ). Settles (InRight depth n) ContinuesDefinition u.leaves after) none k)

  -- expr "^=" expr { "^=" expr }: a list of expressions, that are more than one
  abbrev Operands : Limits → List Leaf → Type 0
  Operands limits leaves = Expressions (λ (e : Expression). e) depth (mark (codes "^=")) (apart depth) 0 limits leaves

  one_more : (limits : Limits) (leaves : List Leaf) (xs : List Expression) → Separated (IsExpression limits depth) (mark (codes "^=")) xs leaves → MayHave limits (0 + counted operators xs)
      → InClockEquation depth limits (leaves ++ same_clock depth no_place ∷ some_leaf ∷ [])
  one_more limits leaves xs are fits = (xs ++ Named some_name ∷ [], more xs are fits) where
    behind : (xs : List Expression) → Separated (IsExpression limits depth) (mark (codes "^=")) xs leaves → MayHave limits (0 + counted operators xs)
        → Separated (IsExpression limits depth) (mark (codes "^=")) (xs ++ Named some_name ∷ []) (leaves ++ same_clock depth no_place ∷ some_leaf ∷ []) × MayHave limits (sum_by operators (xs ++ Named some_name ∷ []))
    behind xs are fits = (
      separated_more (IsExpression limits depth) (mark (codes "^=")) xs (Named some_name) leaves (some_leaf ∷ []) no_place are (some_expression depth limits),
      fewer limits (sum_by operators (xs ++ Named some_name ∷ [])) (0 + counted operators xs) (omega (arith, sum_by_push operators xs (Named some_name), counted_sum xs)) fits,
    )

    more : (xs : List Expression) → Separated (IsExpression limits depth) (mark (codes "^=")) xs leaves → MayHave limits (0 + counted operators xs)
        → IsClockEquation limits depth (xs ++ Named some_name ∷ []) (leaves ++ same_clock depth no_place ∷ some_leaf ∷ [])
    more [] are fits = absurd are
    more (x ∷ []) are fits = behind (x ∷ []) are fits
    more (x ∷ y ∷ others) are fits = behind (x ∷ y ∷ others) are fits

  operands_of : (limits : Limits) (leaves : List Leaf) (xs : List Expression) → IsClockEquation limits depth xs leaves → Operands limits leaves
  operands_of limits leaves (x ∷ y ∷ others) (are, few) = (x ∷ y ∷ others, are, fewer limits (0 + counted operators (x ∷ y ∷ others)) (sum_by operators (x ∷ y ∷ others)) (omega (arith, counted_sum (x ∷ y ∷ others))) few)
  operands_of limits leaves _ is = absurd is

  pub clock_refused : {B : Type 0} (expression_of : B → Expression) (why : Refusal) (s t : State) → s.operators ≡ 0 → RefusesSeparated (ExpressionRead expression_of depth) (ExpressionRefused expression_of depth) (mark (codes "^=")) s t why → RefusedBy (InClockEquation depth) ContinuesClockEquation s t why
  clock_refused expression_of why s t none h text = refuses_first Operands (InClockEquation depth) (same_clock depth no_place ∷ some_leaf ∷ []) (λ limits leaves is. one_more limits leaves is.0 is.1 is.2)
      ContinuesClockEquation ContinuesClockEquation (cause_of why) s.leaves t.leaves (λ limits whole back is stops same. (whole, back, refl, operands_of limits whole is.0 is.1, stops))
      (subst (λ (n : ℕ). Refuses (Expressions expression_of depth (mark (codes "^=")) (apart depth) n) ContinuesClockEquation (cause_of why) s.leaves t.leaves) none (expressions_refused expression_of depth (mark (codes "^=")) (apart depth) why s t (omega arith) h text))

  -- one expression, and no "^=" behind it
  pub clock_alone : {B : Type 0} (expression_of : B → Expression) (es : List B) (s t : State) → s.operators ≡ 0 → length es < 2 → ReadsSeparated (ExpressionRead expression_of depth) (mark (codes "^=")) es s t → Refuses (InClockEquation depth) ContinuesClockEquation Wrong s.leaves t.leaves
  clock_alone expression_of [] s t none few (h, stops) = absurd h
  clock_alone expression_of (e ∷ f ∷ others) s t none few h = absurd (omega arith)
  clock_alone expression_of (e ∷ []) s t none few ((read, (r, stopped), same), stops) =
      let within : operators (expression_of e) ≤ 512 = omega (arith, none, r.counted, r.few (omega (arith, none))) in
      subst (λ (ls : List Leaf). Refuses (InClockEquation depth) ContinuesClockEquation Wrong ls t.leaves) (sym r.split)
      (clock_sign depth (expression_of e) r.front r.is within Wrong read.leaves t.leaves stopped (leaf_missing (mark (codes "^=")) (same, subst (λ (x : State). StopsBefore (λ u. u ≡ mark (codes "^=")) x.leaves) same stops) (λ memory. cc)))

  -- no further "^=" is next
  pub clock_stops : (here : List Leaf) → StopsBefore (ContinuesExpression default_level) here → StopsBefore (λ t. t ≡ mark (codes "^=")) here → StopsBefore ContinuesClockEquation here
  clock_stops [] stops no_sign = tt
  clock_stops (l ∷ here) stops no_sign = go where
    go : ContinuesClockEquation l.terminal → ⊥
    go (inl e) = no_sign e
    go (inr continues) = stops continues

-- the same before the equation was begun
pub fresh_refuses : {Is : Limits → List Leaf → Type 0} {Continues : Terminal → Type 0} {cause : Cause} {after : List Leaf} (begun : State) {s : State} → s ≡ record { leaves = begun.leaves; operators = 0 }
    → Refuses Is Continues cause s.leaves after → Refuses Is Continues cause begun.leaves after
fresh_refuses {Is} {Continues} {cause} {after} begun e r = subst (λ (ls : List Leaf). Refuses Is Continues cause ls after) (ap (λ (x : State). x.leaves) e) r

pub fresh_settles : {Is : Limits → List Leaf → Type 0} {Continues : Terminal → Type 0} {after : List Leaf} (begun : State) {s : State} → s ≡ record { leaves = begun.leaves; operators = 0 }
    → Settles Is Continues s.leaves after → Settles Is Continues begun.leaves after
fresh_settles {Is} {Continues} {after} begun e k = subst (λ (ls : List Leaf). Settles Is Continues ls after) (ap (λ (x : State). x.leaves) e) k

pub fresh_none : (begun : State) {s : State} → s ≡ record { leaves = begun.leaves; operators = 0 } → s.operators ≡ 0
fresh_none begun e = ap (λ (x : State). x.operators) e

pub two_mapped : {A B : Type 0} (f : B → A) (xs : List B) → 2 ≤ length xs → 2 ≤ length (map f xs)
two_mapped f (x ∷ y ∷ xs) two = omega arith
two_mapped f _ two = absurd (omega arith)
