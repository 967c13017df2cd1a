-- What is refused of bodies in brackets, from what is refused of their parts.
use Rattle.sig_parse.proofs.Common.{◌≡◌, ◌++◌, ◌≤◌, ◌<◌, ℕ, suc, List, [], ◌∷◌, codes, inl, refl, sym, ◌∙◌, arith, Span, Named, Computed, Equations, Together, Defines, Equal, Bodies, no_body, more_bodies, Leaf, leaf, mark, default_level, Limits, both_limits, nesting_limit, MayStandInside, Further, Listed, IsBody, AreBodies, AreFurtherBodies, StartsWith, BeginsExpression, ContinuesBody, no_place, clock_equation_begins, cons_same, append_to, starts_conflict, together_apart, definition_starts, TooDeep, Refuses, InBody}
use Rattle.sig_parse.proofs.RefusedConstants.{some_name, some_leaf}

abbrev pub Body_of : (depth : ℕ) → Limits → Equations → List Leaf → Type 0
Body_of depth limits body leaves = IsBody limits body depth leaves

-- bodies as a list
abbrev pub bodies_list : Bodies → List Equations
bodies_list no_body = []
bodies_list (more_bodies body rest) = body ∷ bodies_list rest

abbrev pub list_bodies : List Equations → Bodies
list_bodies [] = no_body
list_bodies (body ∷ rest) = more_bodies body (list_bodies rest)

module _ (limits : Limits) (depth : ℕ) where
  further_list : (bodies : Bodies) (leaves : List Leaf) → AreFurtherBodies limits bodies depth leaves → Further (Body_of depth limits) (mark (codes "|")) (bodies_list bodies) leaves
  further_list no_body leaves are = are
  further_list (more_bodies body rest) leaves (at, front, back, e, is, are) = (at, front, back, e, is, further_list rest back are)

  pub to_list : (bodies : Bodies) (leaves : List Leaf) → AreBodies limits bodies depth leaves → Listed (Body_of depth limits) (mark (codes "|")) (bodies_list bodies) leaves
  to_list no_body leaves are = are
  to_list (more_bodies body rest) leaves (front, back, e, is, are) = (front, back, e, is, further_list rest back are)

  further_bodies_of : (bodies : List Equations) (leaves : List Leaf) → Further (Body_of depth limits) (mark (codes "|")) bodies leaves → AreFurtherBodies limits (list_bodies bodies) depth leaves
  further_bodies_of [] leaves are = are
  further_bodies_of (body ∷ rest) leaves (at, front, back, e, is, are) = (at, front, back, e, is, further_bodies_of rest back are)

  pub from_list : (bodies : List Equations) (leaves : List Leaf) → Listed (Body_of depth limits) (mark (codes "|")) bodies leaves → AreBodies limits (list_bodies bodies) depth leaves
  from_list [] leaves are = are
  from_list (body ∷ rest) leaves (front, back, e, is, are) = (front, back, e, is, further_bodies_of rest back are)

module _ (depth : ℕ) where
  some_definition : (limits : Limits) → IsBody limits (Defines (some_name ∷ []) (Computed (Named some_name))) depth (some_leaf ∷ leaf (mark (codes ":=")) no_place ∷ some_leaf ∷ [])
  some_definition limits = (no_place, some_leaf ∷ [], some_leaf ∷ [], refl, inl (some_name, refl, refl), (0, (omega arith, refl)), λ kept. omega arith)

  other_starts : (limits : Limits) (opened : Span) (rest whole back : List Leaf) → leaf (mark (codes "(|")) opened ∷ rest ≡ whole ++ back → StartsWith (BeginsExpression default_level) whole → ⊥
  other_starts limits opened rest whole back e starts =
      starts_conflict (λ t. t ≡ mark (codes "(|")) (BeginsExpression default_level) together_apart (leaf (mark (codes "(|")) opened ∷ []) whole rest back e refl starts

  together_part : (limits : Limits) (opened : Span) (rest whole back : List Leaf) → leaf (mark (codes "(|")) opened ∷ rest ≡ whole ++ back → (body : Equations) → IsBody limits body depth whole
      → (bodies : Bodies) × (closed : Span) × (inside : List Leaf) × (rest ≡ inside ++ leaf (mark (codes "|)")) closed ∷ back) × MayStandInside limits depth × AreBodies limits bodies (suc depth) inside
  together_part limits opened rest whole back e (Together bodies) (may, (begun, closed, inside, f, are)) =
      let heads = cons_same (leaf (mark (codes "(|")) opened) (leaf (mark (codes "(|")) begun) rest (inside ++ leaf (mark (codes "|)")) closed ∷ back)
      (e ∙ append_to whole (leaf (mark (codes "(|")) begun ∷ inside) (leaf (mark (codes "|)")) closed ∷ []) back f) in
      (bodies, closed, inside, heads.1, may, are)
  together_part limits opened rest whole back e (Defines names right) is = absurd (other_starts limits opened rest whole back e (definition_starts limits names right depth whole is))
  together_part limits opened rest whole back e (Equal operands) is = absurd (other_starts limits opened rest whole back e (clock_equation_begins limits depth operands whole is))

  -- brackets that stand too deep
  pub together_too_deep : 64 ≤ depth → (opened : Span) (more : List Leaf) → Refuses (InBody depth) ContinuesBody TooDeep (leaf (mark (codes "(|")) opened ∷ more) (leaf (mark (codes "(|")) opened ∷ more)
  together_too_deep deep opened more = record {
    passed = [];
    split = refl;
    viable = (some_leaf ∷ leaf (mark (codes ":=")) no_place ∷ some_leaf ∷ [], (Defines (some_name ∷ []) (Computed (Named some_name)), some_definition both_limits));
    allowed = (leaf (mark (codes "|)")) no_place ∷ [], (Together no_body, ((λ kept. cc), (opened, no_place, [], refl, refl))));
    excluded = λ leaves front back agrees e is stops.
        let part = together_part nesting_limit opened agrees.0 front back (sym agrees.1 ∙ e) is.0 is.1 in
        let shallow : depth < 64 = part.4 refl in
        omega arith;
  }
