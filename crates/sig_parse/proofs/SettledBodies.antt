-- Right sides, definitions, clock equations and bodies are read so far and no further, whatever stands
-- behind the next leaf.
use Rattle.sig_parse.proofs.Common.{◌≡◌, ◌++◌, ◌+◌, ℕ, suc, List, [], ◌∷◌, true, false, codes, inl, inr, refl, sym, ap, ◌∙◌, subst, arith, append_cancel_right, Span, Name, Constant, Not, Neg, When as UnaryWhen, Clock, Expression, Named, RightSide, Computed, Called, Equations, Together, Defines, Equal, Bodies, Terminal, Leaf, leaf, mark, name_leaf, default_level, Limits, both_limits, no_limits, right_operators, IsExpression, IsLeft, AreConstants, AreArguments, IsRight, IsDefinition, IsClockEquation, IsBody, AreBodies, StartsWith, BeginsName, BeginsExpression, BeginsBody, StopsBefore, ContinuesOptional, ContinuesExpression, ContinuesDefinition, ContinuesClockEquation, ContinuesBody, ContinuesBodies, stops_smaller, different, expression_unlimited, left_unlimited, left_within, right_unlimited, definition_unlimited, clock_equation_unlimited, body_unlimited, expression_once, clock_equation_begins, starts_longer, cons_same, append_to, part_at, starts_apart, between_at, mark_apart, stops_nothing, named_alone, Opens, opens_apart, call_opens, call_or_expression, constants_once, arguments_once, left_once, starts_conflict, together_apart, definition_starts, clock_equation_once, bodies_once, State, Covers, IsLeaf, BeginsCall, BeginsDefinition, Agrees, Settles, InRight, InDefinition, InClockEquation, InBody}
use Rattle.sig_parse.proofs.PartRefusals.{SameFirst, first_stops}
use Rattle.sig_parse.proofs.RefusedLevels.{fewer}
use Rattle.sig_parse.proofs.PassedLanguages.{Then, settles_on, settles_where, leads_alone, leads_leaf, Leaf_of, behind_agrees, settled_once, starts_same}
use Rattle.sig_parse.proofs.Enclosures.{both_begin}
use Rattle.sig_parse.proofs.AheadLemmas.{definition_ahead}
use Rattle.sig_parse.proofs.RefusedChoice.{clock_ahead}

module _ (depth used : ℕ) where
  -- an expression that is no call
  pub right_settles_expression : (x : Expression) {s t : State} → (BeginsCall s.leaves → ⊥) → Covers (IsExpression both_limits depth x) s t → StopsBefore (ContinuesExpression default_level) t.leaves
      → Settles (InRight depth used) ContinuesDefinition s.leaves t.leaves
  right_settles_expression x {s} {t} no_call c stopped = record {
    passed = c.front;
    split = c.split;
    alone = λ leaves front back agrees e is stops.
        let parts = behind_agrees c.front t.leaves leaves agrees in
        go front back parts.0 (sym parts.1 ∙ e) parts.2 is.0 is.1 stops;
  } where
    is_x : IsExpression no_limits depth x c.front
    is_x = expression_unlimited both_limits default_level depth depth x c.front c.is

    called : (text : List ℕ) (l : Leaf) (ls : List Leaf) → BeginsCall (l ∷ ls) → (m : Leaf) (ms : List Leaf) → SameFirst ls ms → l ≡ m → BeginsCall (m ∷ ms)
    called text l ls (named, opens) m ms same f = (subst (λ (n : Leaf). BeginsName n.terminal) f named, starts_same Opens ls ms same opens)

    go : (front back rest : List Leaf) → c.front ++ rest ≡ front ++ back → SameFirst t.leaves rest → (right : RightSide) → IsRight no_limits depth right front → StopsBefore ContinuesDefinition back → front ≡ c.front
    go front back rest e same (Computed y) is stops = sym (expression_once no_limits default_level depth x y c.front front rest back e is_x is (first_stops (ContinuesExpression default_level) t.leaves rest same stopped)
        (stops_smaller ContinuesDefinition (ContinuesExpression default_level) (λ t continues. inr continues) back stops)).1
    go front back rest e same (Called n constants arguments) (first, last, f, are_constants, are_arguments) stops =
        let opens : StartsWith Opens (first ++ last) = call_opens no_limits depth constants arguments first last are_constants are_arguments in
        let part = part_at (IsExpression no_limits depth) (ContinuesExpression default_level) (Named n) (expression_once no_limits default_level depth (Named n)) x (name_leaf n ∷ []) c.front ((first ++ last) ++ back) rest
        (sym (e ∙ ap (λ ls. ls ++ back) f)) (named_alone no_limits depth n) is_x
        (starts_apart Opens (ContinuesExpression default_level) (first ++ last) back opens_apart opens) (first_stops (ContinuesExpression default_level) t.leaves rest same stopped) in
        let next : StartsWith Opens t.leaves = backwards t.leaves rest same (subst (λ (ls : List Leaf). StartsWith Opens ls) part.2 (starts_longer Opens (first ++ last) back opens)) in
        absurd (no_call (subst BeginsCall (sym (c.split ∙ ap (λ ls. ls ++ t.leaves) (sym part.1))) ((n.text, refl), next)))
      where
        backwards : (ls ms : List Leaf) → SameFirst ls ms → StartsWith Opens ms → StartsWith Opens ls
        backwards [] [] same starts = starts
        backwards [] (m ∷ ms) same starts = absurd same
        backwards (l ∷ ls) [] same starts = absurd starts
        backwards (l ∷ ls) (m ∷ ms) same starts = subst (λ (k : Leaf). Opens k.terminal) (sym same) starts

  -- a call
  pub right_settles_call : (n : Name) (constants : List Constant) (arguments : List Expression) {s t : State} → Covers (IsRight both_limits depth (Called n constants arguments)) s t
      → Settles (InRight depth used) ContinuesDefinition s.leaves t.leaves
  right_settles_call n constants arguments {s} {t} c = record {
    passed = c.front;
    split = c.split;
    alone = λ leaves front back agrees e is stops.
        let parts = behind_agrees c.front t.leaves leaves agrees in
        go front back parts.0 (sym parts.1 ∙ e) is.0 is.1 stops (right_unlimited both_limits depth depth (Called n constants arguments) c.front c.is);
  } where
    arguments_stop : (arguments : List Expression) (rest back : List Leaf) → AreArguments no_limits depth arguments rest → StopsBefore (ContinuesOptional (mark (codes "{"))) (rest ++ back)
    arguments_stop arguments rest back (opened, closed, inside, h, are) =
        subst (λ (l : List Leaf). StopsBefore (ContinuesOptional (mark (codes "{"))) (l ++ back)) (sym h) (different (mark (codes "(")) (mark (codes "{")) refl refl)

    go : (front back rest : List Leaf) → c.front ++ rest ≡ front ++ back → (right : RightSide) → IsRight no_limits depth right front → StopsBefore ContinuesDefinition back → IsRight no_limits depth (Called n constants arguments) c.front → front ≡ c.front
    go front back rest e (Computed y) is stops (first, last, f, are_constants, are_arguments) =
        absurd (call_or_expression no_limits depth y n front back (first ++ last) rest (sym e ∙ ap (λ ls. ls ++ rest) f) is stops (call_opens no_limits depth constants arguments first last are_constants are_arguments))
    go front back rest e (Called m others other_arguments) (other_first, other_last, g, are_others, are_other_arguments) stops (first, last, f, are_constants, are_arguments) =
        let begin : name_leaf n ∷ (first ++ (last ++ rest)) ≡ name_leaf m ∷ (other_first ++ (other_last ++ back)) = sym (append_to c.front (name_leaf n ∷ first) last rest f) ∙ e ∙ append_to front (name_leaf m ∷ other_first) other_last back g in
        let heads = cons_same (name_leaf n) (name_leaf m) (first ++ (last ++ rest)) (other_first ++ (other_last ++ back)) begin in
        let part = part_at AreConstants (ContinuesOptional (mark (codes "{"))) constants (constants_once constants) others first other_first (last ++ rest) (other_last ++ back) heads.1 are_constants are_others
        (arguments_stop arguments last rest are_arguments) (arguments_stop other_arguments other_last back are_other_arguments) in
        let end = arguments_once no_limits depth arguments other_arguments last other_last rest back part.2 are_arguments are_other_arguments (stops_nothing rest) (stops_nothing back) in
        let whole : front ≡ c.front = cc (f, g, heads.0, part.1, end.1) in
        whole

-- "|)" continues no bodies
pub mark_no_body : (text : List ℕ) → (mark text ≡ mark (codes "^=") → ⊥) → (mark text ≡ mark (codes "(") → ⊥) → (mark text ≡ mark (codes "{") → ⊥) → (ContinuesExpression default_level (mark text) → ⊥) → ContinuesBody (mark text) → ⊥
mark_no_body text a b c d (inl e) = a e
mark_no_body text a b c d (inr (inl (inl e))) = b e
mark_no_body text a b c d (inr (inl (inr e))) = c e
mark_no_body text a b c d (inr (inr e)) = d e

pub ending_begins_none : BeginsBody (mark (codes "|)")) → ⊥
ending_begins_none (inl e) = different (mark (codes "|)")) (mark (codes "(|")) refl refl e
ending_begins_none (inr (inl (inl (Not, e, tight)))) = cc
ending_begins_none (inr (inl (inl (Neg, e, tight)))) = different (mark (codes "|)")) (mark (codes "-")) refl refl e
ending_begins_none (inr (inl (inl (UnaryWhen, e, tight)))) = cc
ending_begins_none (inr (inl (inl (Clock, e, tight)))) = different (mark (codes "|)")) (mark (codes "^")) refl refl e
ending_begins_none (inr (inl (inr e))) = different (mark (codes "|)")) (mark (codes "(")) refl refl e
ending_begins_none (inr (inr (inl (v, e)))) = cc
ending_begins_none (inr (inr (inr (inl (true, e))))) = cc
ending_begins_none (inr (inr (inr (inl (false, e))))) = cc
ending_begins_none (inr (inr (inr (inr (text, e))))) = cc

bodies_apart : ContinuesBodies (mark (codes "|)")) → ⊥
bodies_apart (inl begins) = ending_begins_none begins
bodies_apart (inr (inl e)) = different (mark (codes "|)")) (mark (codes "|")) refl refl e
bodies_apart (inr (inr continues)) = mark_no_body (codes "|)") (different (mark (codes "|)")) (mark (codes "^=")) refl refl) (different (mark (codes "|)")) (mark (codes "(")) refl refl) (different (mark (codes "|)")) (mark (codes "{")) refl refl)
    (mark_apart (codes "|)") refl default_level) continues

module _ (depth : ℕ) where
  -- a definition, from its right side
  abbrev pub Left_of : Limits → List Name → List Leaf → Type 0
  Left_of limits names leaves = IsLeft limits depth names leaves

  abbrev pub SignThen : Limits → List Leaf → Type 0
  SignThen limits leaves = Then (Leaf_of (mark (codes ":="))) (InRight depth 0) limits leaves

  abbrev pub Defining : Limits → List Leaf → Type 0
  Defining limits leaves = Then Left_of SignThen limits leaves

  pub defining : (limits : Limits) (leaves : List Leaf) → InDefinition depth limits leaves → Defining limits leaves
  defining limits leaves (names, right, (at, front, back, e, is_left, is_right, few)) =
      (names, front, leaf (mark (codes ":=")) at ∷ back, e, is_left, (at, leaf (mark (codes ":=")) at ∷ [], back, refl, refl, (right, is_right, fewer limits (0 + right_operators right) (right_operators right) (omega arith) few)))

  pub defined : (limits : Limits) (leaves : List Leaf) → Defining limits leaves → InDefinition depth limits leaves
  defined limits leaves (names, front, back, e, is_left, (at, sign, rest, f, g, (right, is_right, few))) =
      (names, right, (at, front, rest, e ∙ ap (λ ls. front ++ ls) (f ∙ ap (λ ls. ls ++ rest) g), is_left, is_right, fewer limits (right_operators right) (0 + right_operators right) (omega arith) few))

  pub definition_settles : (names : List Name) (at : Span) {s t u : State} {after : List Leaf} → Covers (IsLeft both_limits depth names) s t → Covers (IsLeaf (mark (codes ":=")) at) t u
      → Settles (InRight depth 0) ContinuesDefinition u.leaves after → Settles (InDefinition depth) ContinuesDefinition s.leaves after
  definition_settles names at {s = s} c d k = settles_where Defining (InDefinition depth) ContinuesDefinition ContinuesDefinition defined (λ back stops. stops) s.leaves (λ limits whole back is stops same. defining limits whole is)
      (settles_on (leads_alone Left_of SignThen ContinuesDefinition (left_once no_limits depth) (λ limits x leaves is. left_within limits depth x leaves is) (λ limits x leaves is. left_unlimited limits depth depth x leaves is) names c)
      (settles_on (leads_leaf (mark (codes ":=")) (InRight depth 0) ContinuesDefinition at d) k))

  pub clock_settles : (xs : List Expression) {s t : State} → Covers (IsClockEquation both_limits depth xs) s t → StopsBefore ContinuesClockEquation t.leaves → Settles (InClockEquation depth) ContinuesClockEquation s.leaves t.leaves
  clock_settles xs c stops = settled_once (λ limits xs leaves. IsClockEquation limits depth xs leaves) ContinuesClockEquation (clock_equation_once no_limits depth) (λ limits x leaves is. clock_equation_unlimited limits depth depth x leaves is) xs c stops

  opening_starts : (limits : Limits) (bodies : Bodies) (front : List Leaf) → IsBody limits (Together bodies) depth front → StartsWith (λ t. t ≡ mark (codes "(|")) front
  opening_starts limits bodies front (may, (opened, closed, inside, e, are)) = subst (λ (ls : List Leaf). StartsWith (λ t. t ≡ mark (codes "(|")) ls) (sym e) refl

  -- no two kinds of bodies begin alike
  together_or_definition : (bodies : Bodies) (names : List Name) (right : RightSide) (front other back rest : List Leaf) → front ++ back ≡ other ++ rest → IsBody no_limits (Together bodies) depth front → IsDefinition no_limits depth names right other → ⊥
  together_or_definition bodies names right front other back rest e is other_is =
      starts_conflict (λ t. t ≡ mark (codes "(|")) (BeginsExpression default_level) together_apart front other back rest e (opening_starts no_limits bodies front is) (definition_starts no_limits names right depth other other_is)

  together_or_clock : (bodies : Bodies) (xs : List Expression) (front other back rest : List Leaf) → front ++ back ≡ other ++ rest → IsBody no_limits (Together bodies) depth front → IsClockEquation no_limits depth xs other → ⊥
  together_or_clock bodies xs front other back rest e is other_is =
      starts_conflict (λ t. t ≡ mark (codes "(|")) (BeginsExpression default_level) together_apart front other back rest e (opening_starts no_limits bodies front is) (clock_equation_begins no_limits depth xs other other_is)

  definition_or_clock : (names : List Name) (right : RightSide) (xs : List Expression) (front other back rest : List Leaf) → front ++ back ≡ other ++ rest → IsDefinition no_limits depth names right front → IsClockEquation no_limits depth xs other → ⊥
  definition_or_clock names right xs front other back rest e is other_is = clock_ahead depth xs other rest other_is (subst BeginsDefinition e (definition_ahead no_limits depth names right front back is))

  -- What was passed, with what agrees with it.
  module _ {Is : Limits → List Leaf → Type 0} {Continues : Terminal → Type 0} {s t : State} {Was : List Leaf → Type 0} (c : Covers Was s t) (k : Settles Is Continues s.leaves t.leaves) where
    passed_same : k.passed ≡ c.front
    passed_same = append_cancel_right k.passed c.front t.leaves (sym k.split ∙ c.split)

    passed_begins : (leaves front back : List Leaf) → Agrees k.passed t.leaves leaves → leaves ≡ front ++ back → (rest : List Leaf) × (c.front ++ rest ≡ front ++ back)
    passed_begins leaves front back agrees e =
        let parts = behind_agrees k.passed t.leaves leaves agrees in
        (parts.0, ap (λ ls. ls ++ parts.0) (sym passed_same) ∙ sym parts.1 ∙ e)

  -- a body that is a definition
  pub body_settles_definition : (names : List Name) (right : RightSide) {s t : State} → Covers (IsBody both_limits (Defines names right) depth) s t → Settles (InDefinition depth) ContinuesDefinition s.leaves t.leaves
      → Settles (InBody depth) ContinuesBody s.leaves t.leaves
  body_settles_definition names right {s} {t} c k = record {
    passed = k.passed;
    split = k.split;
    alone = λ leaves front back agrees e is stops.
        let begin = passed_begins {s = s} {t = t} c k leaves front back agrees e in
        go leaves front back begin.0 agrees e begin.1 is.0 is.1 stops;
  } where
    is_free : IsDefinition no_limits depth names right c.front
    is_free = definition_unlimited both_limits depth depth names right c.front c.is

    go : (leaves front back rest : List Leaf) → Agrees k.passed t.leaves leaves → leaves ≡ front ++ back → c.front ++ rest ≡ front ++ back → (body : Equations) → IsBody no_limits body depth front → StopsBefore ContinuesBody back → front ≡ k.passed
    go leaves front back rest agrees e begin (Defines others other) is stops = k.alone leaves front back agrees e (others, other, is) (stops_smaller ContinuesBody ContinuesDefinition (λ t continues. inr continues) back stops)
    go leaves front back rest agrees e begin (Together bodies) is stops = absurd (together_or_definition bodies names right front c.front back rest (sym begin) is is_free)
    go leaves front back rest agrees e begin (Equal xs) is stops = absurd (definition_or_clock names right xs c.front front rest back begin is_free is)

  -- one that is a clock equation
  pub body_settles_clock_equation : (xs : List Expression) {s t : State} → Covers (IsBody both_limits (Equal xs) depth) s t → Settles (InClockEquation depth) ContinuesClockEquation s.leaves t.leaves
      → Settles (InBody depth) ContinuesBody s.leaves t.leaves
  body_settles_clock_equation xs {s} {t} c k = record {
    passed = k.passed;
    split = k.split;
    alone = λ leaves front back agrees e is stops.
        let begin = passed_begins {s = s} {t = t} c k leaves front back agrees e in
        go leaves front back begin.0 agrees e begin.1 is.0 is.1 stops;
  } where
    is_free : IsClockEquation no_limits depth xs c.front
    is_free = clock_equation_unlimited both_limits depth depth xs c.front c.is

    clock_body : (t : Terminal) → ContinuesClockEquation t → ContinuesBody t
    clock_body t (inl e) = inl e
    clock_body t (inr continues) = inr (inr continues)

    go : (leaves front back rest : List Leaf) → Agrees k.passed t.leaves leaves → leaves ≡ front ++ back → c.front ++ rest ≡ front ++ back → (body : Equations) → IsBody no_limits body depth front → StopsBefore ContinuesBody back → front ≡ k.passed
    go leaves front back rest agrees e begin (Equal ys) is stops = k.alone leaves front back agrees e (ys, is) (stops_smaller ContinuesBody ContinuesClockEquation clock_body back stops)
    go leaves front back rest agrees e begin (Together bodies) is stops = absurd (together_or_clock bodies xs front c.front back rest (sym begin) is is_free)
    go leaves front back rest agrees e begin (Defines names right) is stops = absurd (definition_or_clock names right xs front c.front back rest (sym begin) is is_free)

  -- bodies in brackets
  pub together_settles : (bodies : Bodies) {s t : State} → Covers (IsBody both_limits (Together bodies) depth) s t → Settles (InBody depth) ContinuesBody s.leaves t.leaves
  together_settles bodies {s} {t} c = record {
    passed = c.front;
    split = c.split;
    alone = λ leaves front back agrees e is stops.
        let parts = behind_agrees c.front t.leaves leaves agrees in
        go front back parts.0 (sym parts.1 ∙ e) is.0 is.1;
  } where
    is_free : IsBody no_limits (Together bodies) depth c.front
    is_free = body_unlimited both_limits (Together bodies) depth depth c.front c.is

    go : (front back rest : List Leaf) → c.front ++ rest ≡ front ++ back → (body : Equations) → IsBody no_limits body depth front → front ≡ c.front
    go front back rest e (Together others) is = sym (between_at (λ (b : Bodies) leaves. AreBodies no_limits b (suc depth) leaves) ContinuesBodies (mark (codes "(|")) (mark (codes "|)")) bodies_apart bodies (bodies_once no_limits (suc depth) bodies) others
        c.front front rest back e is_free.1 is.1 (stops_nothing rest) (stops_nothing back)).1
    go front back rest e (Defines names right) is = absurd (together_or_definition bodies names right c.front front rest back e is_free is)
    go front back rest e (Equal xs) is = absurd (together_or_clock bodies xs c.front front rest back e is_free is)

-- A body whose first leaves tell what it is.
module _ (depth : ℕ) where
  begins_with : {Was : List Leaf → Type 0} (Begins : List Leaf → Type 0) {s t : State} (c : Covers Was s t) → Begins s.leaves → Begins (c.front ++ t.leaves)
  begins_with Begins c begins = subst Begins c.split begins

  opening_no_definition : (leaves : List Leaf) → StartsWith (λ t. t ≡ mark (codes "(|")) leaves → BeginsDefinition leaves → ⊥
  opening_no_definition [] opens begins = opens
  opening_no_definition (l ∷ leaves) opens (inl ((text, named), behind)) = let both : mark (codes "(|") ≡ Rattle.sig_tree.specs.Terminals.name text = sym opens ∙ named in cc
  opening_no_definition (l ∷ leaves) opens (inr (parenthesis, behind)) = different (mark (codes "(|")) (mark (codes "(")) refl refl (sym opens ∙ parenthesis)

  pub body_defined : (body : Equations) {s t : State} → BeginsDefinition s.leaves → Covers (IsBody both_limits body depth) s t → Settles (InDefinition depth) ContinuesDefinition s.leaves t.leaves → Settles (InBody depth) ContinuesBody s.leaves t.leaves
  body_defined (Defines names right) begins c k = body_settles_definition depth names right c k
  body_defined (Together bodies) {s} {t} begins c k =
      absurd (opening_no_definition (c.front ++ t.leaves) (starts_longer (λ u. u ≡ mark (codes "(|")) c.front t.leaves (opening_starts depth both_limits bodies c.front c.is)) (begins_with BeginsDefinition {s = s} {t = t} c begins))
  body_defined (Equal xs) {s} {t} begins c k = absurd (clock_ahead depth xs c.front t.leaves (clock_equation_unlimited both_limits depth depth xs c.front c.is) (begins_with BeginsDefinition {s = s} {t = t} c begins))

  pub body_equated : (body : Equations) {s t : State} → (BeginsDefinition s.leaves → ⊥) → StopsBefore (λ u. u ≡ mark (codes "(|")) s.leaves → Covers (IsBody both_limits body depth) s t → Settles (InClockEquation depth) ContinuesClockEquation s.leaves t.leaves
      → Settles (InBody depth) ContinuesBody s.leaves t.leaves
  body_equated (Equal xs) begins stopped c k = body_settles_clock_equation depth xs c k
  body_equated (Defines names right) {s} {t} begins stopped c k = absurd (begins (subst BeginsDefinition (sym c.split) (definition_ahead both_limits depth names right c.front t.leaves c.is)))
  body_equated (Together bodies) {s} {t} begins stopped c k =
      absurd (both (c.front ++ t.leaves) (subst (λ (ls : List Leaf). StopsBefore (λ u. u ≡ mark (codes "(|")) ls) c.split stopped) (starts_longer (λ u. u ≡ mark (codes "(|")) c.front t.leaves (opening_starts depth both_limits bodies c.front c.is)))
    where
      both : (ls : List Leaf) → StopsBefore (λ u. u ≡ mark (codes "(|")) ls → StartsWith (λ u. u ≡ mark (codes "(|")) ls → ⊥
      both [] stops starts = starts
      both (l ∷ ls) stops starts = stops starts

  pub body_together : (body : Equations) {s t : State} → StartsWith (λ u. u ≡ mark (codes "(|")) s.leaves → Covers (IsBody both_limits body depth) s t → Settles (InBody depth) ContinuesBody s.leaves t.leaves
  body_together (Together bodies) opens c = together_settles depth bodies c
  body_together (Defines names right) {s} {t} opens c = absurd (opening_no_definition (c.front ++ t.leaves) (begins_with (StartsWith (λ u. u ≡ mark (codes "(|"))) {s = s} {t = t} c opens) (definition_ahead both_limits depth names right c.front t.leaves c.is))
  body_together (Equal xs) {s} {t} opens c =
      absurd (both_begin (λ u. u ≡ mark (codes "(|")) (BeginsExpression default_level) together_apart (c.front ++ t.leaves) (begins_with (StartsWith (λ u. u ≡ mark (codes "(|"))) {s = s} {t = t} c opens)
      (starts_longer (BeginsExpression default_level) c.front t.leaves (clock_equation_begins both_limits depth xs c.front c.is)))

  pub operands_settled : (operands : List Expression) {s t : State} → Covers (IsClockEquation both_limits depth operands) s t → StopsBefore ContinuesClockEquation t.leaves → Settles (InClockEquation depth) ContinuesClockEquation s.leaves t.leaves
  operands_settled operands c stops = clock_settles depth operands c stops
