-- What is refused of left and right sides, from what is refused of their parts.
use Rattle.sig_parse.proofs.Common.{◌≡◌, ◌++◌, ◌+◌, ◌≤◌, ◌<◌, ℕ, List, [], ◌∷◌, codes, inl, inr, refl, sym, ap, ◌∙◌, subst, append_assoc, arith, append-nil, sum_by-cons, sum_by, Span, Name, Constant, Expression, Named, RightSide, Computed, Called, Leaf, leaf, mark, name_leaf, default_level, Limits, nesting_limit, no_limits, MayStandInside, MayHave, operators, right_operators, Separated, Listed, IsConstant, IsExpression, IsName, IsLeft, AreConstants, IsRight, StopsBefore, BeginsLeft, ContinuesNothing, ContinuesOptional, ContinuesExpression, ContinuesDefinition, no_place, stops_smaller, left_begins, cons_same, append_to, starts_apart, stops_nothing, name_no_mark, call_opens, Opens, opens_apart, named_alone, Cause, Wrong, TooDeep, Refuses, InOne, counted, InLevel, InLeft, InConstants, InRight}
use Rattle.sig_parse.proofs.PartRefusals.{refuses_inside, refuses_first, refuses_at_once}
use Rattle.sig_parse.proofs.RefusedConstants.{some_name, some_leaf}
use Rattle.sig_parse.proofs.RefusedLevels.{fewer}
use Rattle.sig_parse.proofs.RefusedLists.{Closed, List_of, Any_of}
use Rattle.sig_parse.proofs.Rows.{none_of}

-- the sum of the grammar is that of the parser
pub counted_sum : (xs : List Expression) → sum_by operators xs ≡ counted operators xs
counted_sum [] = refl
counted_sum (x ∷ xs) = sum_by-cons operators x xs ∙ ap (λ n. operators x + n) (counted_sum xs)

-- names, whatever the limits
abbrev pub Name_of : Limits → Name → List Leaf → Type 0
Name_of limits n leaves = IsName n leaves

abbrev pub Constant_of : Limits → Constant → List Leaf → Type 0
Constant_of limits c leaves = IsConstant c leaves

module _ (depth : ℕ) where
  pub left_refused : (here : List Leaf) → StopsBefore BeginsLeft here → Refuses (InLeft depth) ContinuesNothing Wrong here here
  left_refused here stops =
      refuses_at_once (InLeft depth) ContinuesNothing BeginsLeft (some_leaf ∷ []) (some_name ∷ [], inl (some_name, refl, refl)) (λ leaves is. left_begins no_limits depth is.0 leaves is.1) here stops

  left_part : (opened : Span) (limits : Limits) (names : List Name) (rest whole back : List Leaf) → leaf (mark (codes "(")) opened ∷ rest ≡ whole ++ back → IsLeft limits depth names whole
      → (closed : Span) × (inside : List Leaf) × (rest ≡ inside ++ leaf (mark (codes ")")) closed ∷ back) × MayStandInside limits depth × Separated IsName (mark (codes ",")) names inside
  left_part opened limits names rest whole back e (inl (n, one, f)) = absurd (name_no_mark n (codes "(") opened back rest (sym (e ∙ ap (λ l. l ++ back) f)))
  left_part opened limits names rest whole back e (inr (may, (begun, closed, inside, f, are))) =
      let heads = cons_same (leaf (mark (codes "(")) opened) (leaf (mark (codes "(")) begun) rest (inside ++ leaf (mark (codes ")")) closed ∷ back)
      (e ∙ append_to whole (leaf (mark (codes "(")) begun ∷ inside) (leaf (mark (codes ")")) closed ∷ []) back f) in
      (closed, inside, heads.1, may, are)

  pub left_too_deep : 64 ≤ depth → (opened : Span) (more : List Leaf) → Refuses (InLeft depth) ContinuesNothing TooDeep (leaf (mark (codes "(")) opened ∷ more) (leaf (mark (codes "(")) opened ∷ more)
  left_too_deep deep opened more = record {
    passed = [];
    split = refl;
    viable = (some_leaf ∷ [], (some_name ∷ [], inl (some_name, refl, refl)));
    allowed = (some_leaf ∷ leaf (mark (codes ")")) no_place ∷ [], (some_name ∷ [], inr ((λ kept. cc), (opened, no_place, some_leaf ∷ [], refl, (some_leaf ∷ [], [], refl, refl, refl)))));
    excluded = λ leaves front back agrees e is stops.
        let part = left_part opened nesting_limit is.0 agrees.0 front back (sym agrees.1 ∙ e) is.1 in
        let shallow : depth < 64 = part.3 refl in
        omega arith;
  }

  pub left_from_names : depth < 64 → (opened : Span) (cause : Cause) (here after : List Leaf) → Refuses (InOne (Closed (List_of Name_of (mark (codes ","))) (mark (codes ")"))) (counted none_of) 0) ContinuesNothing cause here after
      → Refuses (InLeft depth) ContinuesNothing cause (leaf (mark (codes "(")) opened ∷ here) after
  left_from_names shallow opened cause here after r =
      refuses_inside (InOne (Closed (List_of Name_of (mark (codes ","))) (mark (codes ")"))) (counted none_of) 0) (InLeft depth) (leaf (mark (codes "(")) opened ∷ []) []
      (λ limits leaves is. (is.0, inr ((λ kept. shallow), (opened, is.1.0, is.1.1, ap (λ l. leaf (mark (codes "(")) opened ∷ l) (append-nil leaves ∙ is.1.2), is.1.3))))
      ContinuesNothing ContinuesNothing cause here after
      (λ limits rest whole back e is stops same.
      let part = left_part opened limits is.0 rest whole back e is.1 in (
        part.1 ++ leaf (mark (codes ")")) part.0 ∷ [],
        back,
        part.2 ∙ sym (append_assoc part.1 (leaf (mark (codes ")")) part.0 ∷ []) back),
        (is.0, (part.0, part.1, refl, part.4), λ kept. no_names is.0),
        stops_nothing back,
      )) r
    where
      no_names : (names : List Name) → 0 + counted none_of names ≤ 512
      no_names names = let e = zero_names names in omega arith
        where
          zero_names : (names : List Name) → counted {A = Name} none_of names ≡ 0
          zero_names [] = refl
          zero_names (n ∷ names) = omega (arith, zero_names names)

-- the constants of a call
constants_part : (opened : Span) (cs : List Constant) (rest whole back : List Leaf) → leaf (mark (codes "{")) opened ∷ rest ≡ whole ++ back → AreConstants cs whole → StopsBefore (ContinuesOptional (mark (codes "{"))) back
    → (closed : Span) × (inside : List Leaf) × (rest ≡ inside ++ leaf (mark (codes "}")) closed ∷ back) × Listed IsConstant (mark (codes ",")) cs inside
constants_part opened cs rest whole back e (inl (none, f)) stops =
    absurd ((subst (λ (l : List Leaf). StopsBefore (ContinuesOptional (mark (codes "{"))) l) (sym (e ∙ ap (λ l. l ++ back) f)) stops) refl)
constants_part opened cs rest whole back e (inr (begun, closed, inside, f, are)) stops =
    let heads = cons_same (leaf (mark (codes "{")) opened) (leaf (mark (codes "{")) begun) rest (inside ++ leaf (mark (codes "}")) closed ∷ back)
    (e ∙ append_to whole (leaf (mark (codes "{")) begun ∷ inside) (leaf (mark (codes "}")) closed ∷ []) back f) in
    (closed, inside, heads.1, are)

pub no_operators : {A : Type 0} (xs : List A) → counted {A = A} none_of xs ≡ 0
no_operators [] = refl
no_operators (x ∷ xs) = omega (arith, no_operators xs)

pub constants_from_list : (opened : Span) (cause : Cause) (here after : List Leaf) → Refuses (InOne (Closed (Any_of Constant_of (mark (codes ","))) (mark (codes "}"))) (counted none_of) 0) ContinuesNothing cause here after
    → Refuses InConstants (ContinuesOptional (mark (codes "{"))) cause (leaf (mark (codes "{")) opened ∷ here) after
constants_from_list opened cause here after r =
    refuses_inside (InOne (Closed (Any_of Constant_of (mark (codes ","))) (mark (codes "}"))) (counted none_of) 0) InConstants (leaf (mark (codes "{")) opened ∷ []) []
    (λ limits leaves is. (is.0, inr (opened, is.1.0, is.1.1, ap (λ l. leaf (mark (codes "{")) opened ∷ l) (append-nil leaves ∙ is.1.2), is.1.3)))
    ContinuesNothing (ContinuesOptional (mark (codes "{"))) cause here after
    (λ limits rest whole back e is stops same.
    let part = constants_part opened is.0 rest whole back e is.1 stops in (
      part.1 ++ leaf (mark (codes "}")) part.0 ∷ [],
      back,
      part.2 ∙ sym (append_assoc part.1 (leaf (mark (codes "}")) part.0 ∷ []) back),
      (is.0, (part.0, part.1, refl, part.3), λ kept. let e = no_operators is.0 in omega arith),
      stops_nothing back,
    )) r

module _ (depth used : ℕ) where
  -- an expression on the right
  pub right_from_expression : (cause : Cause) (here after : List Leaf) → Refuses (InLevel default_level depth used) (ContinuesExpression default_level) cause here after
      → Refuses (InRight depth used) ContinuesDefinition cause here after
  right_from_expression cause here after r =
      refuses_first (InLevel default_level depth used) (InRight depth used) []
      (λ limits leaves is. (Computed is.0, subst (λ (l : List Leaf). IsExpression limits depth is.0 l) (sym (append-nil leaves)) is.1, is.2))
      (ContinuesExpression default_level) ContinuesDefinition cause here after
      (λ limits whole back is stops same. go limits whole back is.0 is.1 is.2 stops) r
    where
      go : (limits : Limits) (whole back : List Leaf) (right : RightSide) → IsRight limits depth right whole → MayHave limits (used + right_operators right) → StopsBefore ContinuesDefinition back
          → (part other : List Leaf) × (whole ++ back ≡ part ++ other) × InLevel default_level depth used limits part × StopsBefore (ContinuesExpression default_level) other
      go limits whole back (Computed e) is fits stops = (whole, back, refl, (e, is, fits), stops_smaller ContinuesDefinition (ContinuesExpression default_level) (λ t continues. inr continues) back stops)
      go limits whole back (Called n constants arguments) (front, rest, f, are_constants, are_arguments) fits stops = (
        name_leaf n ∷ [],
        (front ++ rest) ++ back,
        ap (λ l. l ++ back) f,
        (Named n, named_alone limits depth n, fewer limits (used + 0) (used + sum_by operators arguments) (omega arith) fits),
        starts_apart Opens (ContinuesExpression default_level) (front ++ rest) back opens_apart (call_opens limits depth constants arguments front rest are_constants are_arguments),
      )
