-- What is refused of definitions and clock equations, from what is refused of their parts.
use Rattle.sig_parse.proofs.Common.{◌≡◌, ◌++◌, ◌+◌, ◌≤◌, ℕ, List, [], ◌∷◌, codes, refl, sym, ap, ◌∙◌, subst, arith, sum_by, Span, Expression, Named, Leaf, leaf, mark, default_level, Limits, both_limits, no_limits, MayHave, operators, Further, IsExpression, IsClockEquation, StopsBefore, ContinuesNothing, ContinuesExpression, ContinuesClockEquation, expression_unlimited, expression_within, expression_once, append_to, part_at, mark_apart, stops_nothing, Cause, Refuses, InLeaf, counted, InClockEquation}
use Rattle.sig_parse.proofs.PartRefusals.{first_stops, refuses_inside}
use Rattle.sig_parse.proofs.RefusedConstants.{some_name, some_leaf}
use Rattle.sig_parse.proofs.RefusedLevels.{fewer}
use Rattle.sig_parse.proofs.RefusedSides.{counted_sum}

-- an expression, as an item of a list
abbrev pub Expression_of : (depth : ℕ) → Limits → Expression → List Leaf → Type 0
Expression_of depth limits e leaves = IsExpression limits depth e leaves

module _ (depth : ℕ) where
  pub some_expression : (limits : Limits) → IsExpression limits depth (Named some_name) (some_leaf ∷ [])
  some_expression limits = (0, (omega arith, refl))

  abbrev pub same_clock : Span → Leaf
  same_clock at = leaf (mark (codes "^=")) at

  pub apart : ContinuesExpression default_level (mark (codes "^=")) → ⊥
  apart continues = mark_apart (codes "^=") refl default_level continues

  pub fits_both : (limits : Limits) (x y : Expression) (others : List Expression) (count : ℕ) → counted operators (x ∷ y ∷ others) ≤ count → MayHave limits count → MayHave limits (sum_by operators (x ∷ y ∷ others))
  fits_both limits x y others count within fits = fewer limits (sum_by operators (x ∷ y ∷ others)) count (omega (arith, counted_sum (x ∷ y ∷ others))) fits

  -- What stands behind the first expression: "^=" and more.
  pub behind_first : (x : Expression) (front : List Leaf) → IsExpression both_limits depth x front → (limits : Limits) (rest whole back : List Leaf) → front ++ rest ≡ whole ++ back → StopsBefore (ContinuesExpression default_level) rest
      → (xs : List Expression) → IsClockEquation limits depth xs whole
      → (y : Expression) × (others : List Expression) × (at : Span) × (second last : List Leaf) × (rest ≡ same_clock at ∷ (second ++ (last ++ back))) × IsExpression limits depth y second
      × Further (IsExpression limits depth) (mark (codes "^=")) others last × MayHave limits (operators x + (operators y + counted operators others))
  behind_first x front is_x limits rest whole back e stopped (z ∷ y ∷ others) ((first, more, f, is, (at, second, last, g, is_y, are)), few) =
      let part = part_at (IsExpression no_limits depth) (ContinuesExpression default_level) x (expression_once no_limits default_level depth x) z front first rest (more ++ back) (e ∙ append_to whole first more back f)
      (expression_unlimited both_limits default_level depth depth x front is_x) (expression_unlimited limits default_level depth depth z first is) stopped
      (subst (λ (l : List Leaf). StopsBefore (ContinuesExpression default_level) (l ++ back)) (sym g) apart) in (
        y,
        others,
        at,
        second,
        last,
        part.2 ∙ append_to more (same_clock at ∷ second) last back g,
        is_y,
        are,
        fewer limits (operators x + (operators y + counted operators others)) (sum_by operators (z ∷ y ∷ others)) (omega (arith, counted_sum (z ∷ y ∷ others), ap operators part.0)) few,
      )
  behind_first x front is_x limits rest whole back e stopped _ is = absurd is

  -- "^=" behind it
  pub clock_sign : (x : Expression) (front : List Leaf) → IsExpression both_limits depth x front → operators x ≤ 512 → (cause : Cause) (here after : List Leaf) → StopsBefore (ContinuesExpression default_level) here
      → Refuses (InLeaf (mark (codes "^="))) ContinuesNothing cause here after → Refuses (InClockEquation depth) ContinuesClockEquation cause (front ++ here) after
  clock_sign x front is_x few cause here after stopped r =
      refuses_inside (InLeaf (mark (codes "^="))) (InClockEquation depth) front (some_leaf ∷ [])
      (λ limits leaves is. (
        x ∷ Named some_name ∷ [],
        (
          (front, leaves ++ some_leaf ∷ [], refl, expression_within limits default_level depth x front is_x, (is.0, some_leaf ∷ [], [], ap (λ l. l ++ some_leaf ∷ []) is.1, some_expression limits, refl)),
          fits_both limits x (Named some_name) [] (operators x) (omega arith) (λ kept. few),
        ),
      ))
      ContinuesNothing ContinuesClockEquation cause here after
      (λ limits rest whole back e is stops same.
      let b = behind_first x front is_x limits rest whole back e (first_stops (ContinuesExpression default_level) here rest same stopped) is.0 is.1 in
      (same_clock b.2 ∷ [], b.3 ++ (b.4 ++ back), b.5, (b.2, refl), stops_nothing (b.3 ++ (b.4 ++ back)))) r
