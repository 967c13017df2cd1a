-- What is refused of a body, where its first leaves tell whether it is a definition or a clock equation.
use Rattle.sig_parse.proofs.Common.{◌≡◌, ◌++◌, ◌⊎◌, ℕ, List, [], ◌∷◌, codes, None, Some, inl, inr, refl, sym, ap, ◌∙◌, subst, append_assoc, arith, append-nil, Span, Name, Expression, Named, Computed, Equations, Together, Defines, Equal, Terminal, Leaf, leaf, mark, name_leaf, default_level, Limits, both_limits, nesting_limit, no_limits, MayStandInside, IsExpression, IsClockEquation, IsBody, StartsWith, BeginsExpression, StopsBefore, ContinuesExpression, ContinuesDefinition, ContinuesClockEquation, ContinuesBody, no_place, stops_smaller, different, clock_equation_unlimited, expression_read, expression_once, ReadSettles, settles_once, From, run, clock_equation_begins, cons_same, append_to, part_at, mark_apart, named_alone, definition_starts, BeginsDefinition, Cause, Wrong, TooDeep, TooMany, refused_within, ReachesNext, IsAllowed, Agrees, Refuses, InDefinition, InClockEquation, InBody}
use Rattle.sig_parse.proofs.PartRefusals.{SameFirst, agrees_first}
use Rattle.sig_parse.proofs.RefusedConstants.{some_name, some_leaf}
use Rattle.sig_parse.proofs.RefusedSides.{counted_sum}
use Rattle.sig_parse.proofs.PassedLanguages.{starts_or_stops}
use Rattle.sig_parse.proofs.AheadLemmas.{names_read, name_of_leaf, leaf_is, clock_opens, definition_opens, definition_ahead}

-- A smaller language refuses, where the larger one has nothing else that the leaves could begin with.
module _ (Is Whole : Limits → List Leaf → Type 0) (Continues WholeContinues : Terminal → Type 0) (to : (limits : Limits) (leaves : List Leaf) → Is limits leaves → Whole limits leaves) where
  next_among : (limits : Limits) (passed after : List Leaf) → ReachesNext Is limits passed after → ReachesNext Whole limits passed after
  next_among limits passed [] none = none
  next_among limits passed (l ∷ after) (done, is) = (done, to limits ((passed ++ l ∷ []) ++ done) is)

  allowed_among : (cause : Cause) (passed after : List Leaf) → IsAllowed Is cause passed after → IsAllowed Whole cause passed after
  allowed_among Wrong passed after allowed = tt
  allowed_among TooDeep passed after allowed = next_among no_limits passed after allowed
  allowed_among TooMany passed after allowed = next_among nesting_limit passed after allowed

  refuses_among : (cause : Cause) (here after : List Leaf) (r : Refuses Is Continues cause here after)
      → ((whole back : List Leaf) → Agrees r.passed after (whole ++ back) → Whole (refused_within cause) whole → StopsBefore WholeContinues back
      → (front other : List Leaf) × Agrees r.passed after (front ++ other) × Is (refused_within cause) front × StopsBefore Continues other)
      → Refuses Whole WholeContinues cause here after
  refuses_among cause here after r has = record {
    passed = r.passed;
    split = r.split;
    viable = (r.viable.0, to both_limits (r.passed ++ r.viable.0) r.viable.1);
    allowed = allowed_among cause r.passed after r.allowed;
    excluded = λ leaves front back agrees e is stops.
        let other = has front back (subst (λ (ls : List Leaf). Agrees r.passed after ls) e agrees) is stops in
        r.excluded (other.0 ++ other.1) other.0 other.1 other.2 refl other.3 other.4;
  }

-- leaves that agree are the same, or have the leaves up to the refused one in common
abbrev Common : (passed after leaves : List Leaf) → Type 0
Common passed after leaves = (leaves ≡ passed ++ after)
    ⊎ ((a : Leaf) × (p t u : List Leaf) × (passed ++ after ≡ (a ∷ p) ++ t) × (leaves ≡ (a ∷ p) ++ u) × ((done : List Leaf) → Agrees passed after ((a ∷ p) ++ done)))

common : (passed after leaves : List Leaf) → Agrees passed after leaves → Common passed after leaves
common passed [] leaves e = inl (e ∙ sym (append-nil passed))
common [] (l ∷ after) leaves (more, e) = inr (l, [], after, more, refl, e, λ done. (done, refl))
common (q ∷ passed) (l ∷ after) leaves (more, e) = inr (
  q,
  passed ++ l ∷ [],
  after,
  more,
  ap (λ ls. q ∷ ls) (sym (append_assoc passed (l ∷ []) after)),
  e ∙ ap (λ ls. q ∷ ls) (sym (append_assoc passed (l ∷ []) more)),
  λ done. (done, ap (λ ls. q ∷ ls) (append_assoc passed (l ∷ []) done)),
)

abbrev open_at : Span → Leaf
open_at at = leaf (mark (codes "(")) at

abbrev close_at : Span → Leaf
close_at at = leaf (mark (codes ")")) at

-- leaves that may still become either: a name, or "(", or "(" and a name, or these and ")"
abbrev Undecided : List Leaf → Type 0
Undecided p = ((n : Name) × (p ≡ name_leaf n ∷ []))
    ⊎ ((opened : Span) × ((p ≡ open_at opened ∷ [])
    ⊎ ((n : Name) × ((p ≡ open_at opened ∷ name_leaf n ∷ []) ⊎ ((closed : Span) × (p ≡ open_at opened ∷ name_leaf n ∷ close_at closed ∷ []))))))

decided : (a : Leaf) (p t u : List Leaf) → BeginsDefinition ((a ∷ p) ++ t) → BeginsDefinition ((a ∷ p) ++ u) ⊎ Undecided (a ∷ p)
decided a [] t u (inl ((text, e), behind)) = inr (inl (name_of_leaf a text, ap (λ l. l ∷ []) (leaf_is a _ e)))
decided a (b ∷ p) t u (inl (begins, behind)) = inl (inl (begins, behind))
decided a [] t u (inr (opens, behind)) = inr (inr (a.at, inl (ap (λ l. l ∷ []) (leaf_is a _ opens))))
decided a (b ∷ []) t u (inr (opens, ((text, e), behind))) =
    inr (inr (a.at, inr (name_of_leaf b text, inl (ap (λ l. l ∷ b ∷ []) (leaf_is a _ opens) ∙ ap (λ l. open_at a.at ∷ l ∷ []) (leaf_is b _ e)))))
decided a (b ∷ c ∷ p) t u (inr (opens, (named, inl comma))) = inl (inr (opens, (named, inl comma)))
decided a (b ∷ c ∷ []) t u (inr (opens, ((text, e), inr (closes, behind)))) =
    inr (inr (
      a.at,
      inr (
        name_of_leaf b text,
        inr (
          c.at,
          ap (λ l. l ∷ b ∷ c ∷ []) (leaf_is a _ opens) ∙ ap (λ l. open_at a.at ∷ l ∷ c ∷ []) (leaf_is b _ e) ∙ ap (λ l. open_at a.at ∷ name_leaf (name_of_leaf b text) ∷ l ∷ []) (leaf_is c _ closes),
        ),
      ),
    ))
decided a (b ∷ c ∷ d ∷ p) t u (inr (opens, (named, inr (closes, defines)))) = inl (inr (opens, (named, inr (closes, defines))))

module _ (depth : ℕ) where
  abbrev defines_at : Leaf
  defines_at = leaf (mark (codes ":=")) no_place

  abbrev same_at : Leaf
  same_at = leaf (mark (codes "^=")) no_place

  named_definition : (limits : Limits) (n : Name) → InDefinition depth limits (name_leaf n ∷ defines_at ∷ some_leaf ∷ [])
  named_definition limits n = (n ∷ [], Computed (Named some_name), (no_place, name_leaf n ∷ [], some_leaf ∷ [], refl, inl (n, refl, refl), named_alone limits depth some_name, λ kept. omega arith))

  enclosed_definition : (limits : Limits) → MayStandInside limits depth → (opened closed : Span) (n : Name) → InDefinition depth limits (open_at opened ∷ name_leaf n ∷ close_at closed ∷ defines_at ∷ some_leaf ∷ [])
  enclosed_definition limits may opened closed n = (
    n ∷ [],
    Computed (Named some_name),
    (
      no_place,
      open_at opened ∷ name_leaf n ∷ close_at closed ∷ [],
      some_leaf ∷ [],
      refl,
      inr (may, (opened, closed, name_leaf n ∷ [], refl, (name_leaf n ∷ [], [], refl, refl, refl))),
      named_alone limits depth some_name,
      λ kept. omega arith,
    ),
  )

  still_definition : (limits : Limits) (p : List Leaf) → (StartsWith (λ t. t ≡ mark (codes "(")) p → MayStandInside limits depth) → Undecided p → (done : List Leaf) × InDefinition depth limits (p ++ done)
  still_definition limits p may (inl (n, e)) = (defines_at ∷ some_leaf ∷ [], subst (λ (ls : List Leaf). InDefinition depth limits (ls ++ defines_at ∷ some_leaf ∷ [])) (sym e) (named_definition limits n))
  still_definition limits p may (inr (opened, inl e)) =
      let here = may (subst (λ (ls : List Leaf). StartsWith (λ t. t ≡ mark (codes "(")) ls) (sym e) refl) in
      let done = some_leaf ∷ close_at no_place ∷ defines_at ∷ some_leaf ∷ [] in
      (done, subst (λ (ls : List Leaf). InDefinition depth limits (ls ++ done)) (sym e) (enclosed_definition limits here opened no_place some_name))
  still_definition limits p may (inr (opened, inr (n, inl e))) =
      let here = may (subst (λ (ls : List Leaf). StartsWith (λ t. t ≡ mark (codes "(")) ls) (sym e) refl) in
      let done = close_at no_place ∷ defines_at ∷ some_leaf ∷ [] in
      (done, subst (λ (ls : List Leaf). InDefinition depth limits (ls ++ done)) (sym e) (enclosed_definition limits here opened no_place n))
  still_definition limits p may (inr (opened, inr (n, inr (closed, e)))) =
      let here = may (subst (λ (ls : List Leaf). StartsWith (λ t. t ≡ mark (codes "(")) ls) (sym e) refl) in
      let done = defines_at ∷ some_leaf ∷ [] in
      (done, subst (λ (ls : List Leaf). InDefinition depth limits (ls ++ done)) (sym e) (enclosed_definition limits here opened closed n))

  both_named : (limits : Limits) (n : Name) (front : List Leaf) → IsExpression limits depth (Named n) front → InClockEquation depth limits (front ++ same_at ∷ some_leaf ∷ [])
  both_named limits n front is = (
    Named n ∷ Named some_name ∷ [],
    (
      (front, same_at ∷ some_leaf ∷ [], refl, is, (no_place, some_leaf ∷ [], [], refl, named_alone limits depth some_name, refl)),
      λ kept. omega (arith, counted_sum (Named n ∷ Named some_name ∷ [])),
    ),
  )

  enclosed_name : (limits : Limits) → MayStandInside limits depth → (opened closed : Span) (n : Name) → IsExpression limits depth (Named n) (open_at opened ∷ name_leaf n ∷ close_at closed ∷ [])
  enclosed_name limits may opened closed n = (1, (may, (opened, closed, name_leaf n ∷ [], refl, (omega arith, refl))))

  still_clock : (limits : Limits) (p : List Leaf) → (StartsWith (λ t. t ≡ mark (codes "(")) p → MayStandInside limits depth) → Undecided p → (done : List Leaf) × InClockEquation depth limits (p ++ done)
  still_clock limits p may (inl (n, e)) =
      (same_at ∷ some_leaf ∷ [], subst (λ (ls : List Leaf). InClockEquation depth limits (ls ++ same_at ∷ some_leaf ∷ [])) (sym e) (both_named limits n (name_leaf n ∷ []) (named_alone limits depth n)))
  still_clock limits p may (inr (opened, inl e)) =
      let here = may (subst (λ (ls : List Leaf). StartsWith (λ t. t ≡ mark (codes "(")) ls) (sym e) refl) in
      let done = some_leaf ∷ close_at no_place ∷ same_at ∷ some_leaf ∷ [] in
      (done, subst (λ (ls : List Leaf). InClockEquation depth limits (ls ++ done)) (sym e) (both_named limits some_name _ (enclosed_name limits here opened no_place some_name)))
  still_clock limits p may (inr (opened, inr (n, inl e))) =
      let here = may (subst (λ (ls : List Leaf). StartsWith (λ t. t ≡ mark (codes "(")) ls) (sym e) refl) in
      let done = close_at no_place ∷ same_at ∷ some_leaf ∷ [] in
      (done, subst (λ (ls : List Leaf). InClockEquation depth limits (ls ++ done)) (sym e) (both_named limits n _ (enclosed_name limits here opened no_place n)))
  still_clock limits p may (inr (opened, inr (n, inr (closed, e)))) =
      let here = may (subst (λ (ls : List Leaf). StartsWith (λ t. t ≡ mark (codes "(")) ls) (sym e) refl) in
      let done = same_at ∷ some_leaf ∷ [] in
      (done, subst (λ (ls : List Leaf). InClockEquation depth limits (ls ++ done)) (sym e) (both_named limits n _ (enclosed_name limits here opened closed n)))

  -- an expression with "^=" behind it begins no definition
  expression_or_name : (x : Expression) (n : Name) (first : List Leaf) (at : Span) (tail front rest : List Leaf) → front ++ rest ≡ first ++ leaf (mark (codes "^=")) at ∷ tail → IsExpression no_limits depth x first
      → IsExpression no_limits depth (Named n) front → StartsWith (λ t. t ≡ mark (codes ":=")) rest → ⊥
  expression_or_name x n first at tail front [] e is alone defines = defines
  expression_or_name x n first at tail front (m ∷ rest) e is alone defines =
      let part = part_at (IsExpression no_limits depth) (ContinuesExpression default_level) (Named n) (expression_once no_limits default_level depth (Named n)) x front first (m ∷ rest) (leaf (mark (codes "^=")) at ∷ tail) e alone is
      (λ continues. mark_apart (codes ":=") refl default_level (subst (ContinuesExpression default_level) defines continues)) (mark_apart (codes "^=") refl default_level) in
      let heads = cons_same m (leaf (mark (codes "^=")) at) rest tail part.2 in
      different (mark (codes ":=")) (mark (codes "^=")) refl refl (sym defines ∙ ap (λ l. l.terminal) heads.0)

  none_no_some : {A : Type 0} (x : A) → None ≡ Some x → ⊥
  none_no_some x e = cc

  expression_no_names : (x : Expression) (first : List Leaf) (at : Span) (tail : List Leaf) (opened comma : Span) (n : Name) (more : List Leaf)
      → first ++ leaf (mark (codes "^=")) at ∷ tail ≡ open_at opened ∷ name_leaf n ∷ leaf (mark (codes ",")) comma ∷ more → IsExpression no_limits depth x first → ⊥
  expression_no_names x first at tail opened comma n more e is =
      let some = expression_read no_limits x default_level depth first (leaf (mark (codes "^=")) at ∷ tail) is (mark_apart (codes "^=") refl default_level) in
      none_no_some (x, leaf (mark (codes "^=")) at ∷ tail)
      (settles_once (λ k. run k (From default_level) (first ++ leaf (mark (codes "^=")) at ∷ tail)) None (Some (x, leaf (mark (codes "^=")) at ∷ tail))
      (subst (λ (l : List Leaf). ReadSettles (λ k. run k (From default_level) l) None) (sym e) (names_read opened comma n more)) some)

  expression_ahead : (x : Expression) (first : List Leaf) (at : Span) (tail leaves : List Leaf) → leaves ≡ first ++ leaf (mark (codes "^=")) at ∷ tail → IsExpression no_limits depth x first → BeginsDefinition leaves → ⊥
  expression_ahead x first at tail [] e is (inl begins) = begins
  expression_ahead x first at tail [] e is (inr begins) = begins
  expression_ahead x first at tail (l ∷ leaves) e is (inl ((text, named), defines)) =
      expression_or_name x (name_of_leaf l text) first at tail (name_leaf (name_of_leaf l text) ∷ []) leaves (ap (λ m. m ∷ leaves) (sym (leaf_is l _ named)) ∙ e) is (named_alone no_limits depth (name_of_leaf l text)) defines
  expression_ahead x first at tail (l ∷ []) e is (inr (opens, named)) = named
  expression_ahead x first at tail (l ∷ m ∷ []) e is (inr (opens, (named, inl comma))) = comma
  expression_ahead x first at tail (l ∷ m ∷ []) e is (inr (opens, (named, inr closes))) = closes
  expression_ahead x first at tail (l ∷ m ∷ k ∷ leaves) e is (inr (opens, ((text, named), inl comma))) =
      expression_no_names x first at tail l.at k.at (name_of_leaf m text) leaves
      (sym e ∙ ap (λ n. n ∷ m ∷ k ∷ leaves) (leaf_is l _ opens) ∙ ap (λ n. open_at l.at ∷ n ∷ k ∷ leaves) (leaf_is m _ named) ∙ ap (λ n. open_at l.at ∷ name_leaf (name_of_leaf m text) ∷ n ∷ leaves) (leaf_is k _ comma)) is
  expression_ahead x first at tail (l ∷ m ∷ k ∷ leaves) e is (inr (opens, ((text, named), inr (closes, defines)))) =
      expression_or_name x (name_of_leaf m text) first at tail (open_at l.at ∷ name_leaf (name_of_leaf m text) ∷ close_at k.at ∷ []) leaves
      (sym (ap (λ n. n ∷ m ∷ k ∷ leaves) (leaf_is l _ opens) ∙ ap (λ n. open_at l.at ∷ n ∷ k ∷ leaves) (leaf_is m _ named) ∙ ap (λ n. open_at l.at ∷ name_leaf (name_of_leaf m text) ∷ n ∷ leaves) (leaf_is k _ closes)) ∙ e) is
      (enclosed_name no_limits (λ kept. cc) l.at k.at (name_of_leaf m text)) defines

  pub clock_ahead : (xs : List Expression) (front back : List Leaf) → IsClockEquation no_limits depth xs front → BeginsDefinition (front ++ back) → ⊥
  clock_ahead (x ∷ y ∷ others) front back ((first, rest, e, is_x, (at, second, further, f, is_y, are)), few) begins =
      expression_ahead x first at ((second ++ further) ++ back) (front ++ back) (append_to front first rest back e ∙ ap (λ ls. first ++ (ls ++ back)) f) is_x begins
  clock_ahead _ front back is begins = is

  -- a body in brackets begins neither
  opening_no_definition : (leaves : List Leaf) → StartsWith (λ t. t ≡ mark (codes "(|")) leaves → BeginsDefinition leaves → ⊥
  opening_no_definition [] opens begins = opens
  opening_no_definition (l ∷ leaves) opens (inl ((text, named), behind)) = let both : mark (codes "(|") ≡ Rattle.sig_tree.specs.Terminals.name text = sym opens ∙ named in cc
  opening_no_definition (l ∷ leaves) opens (inr (parenthesis, behind)) = different (mark (codes "(|")) (mark (codes "(")) refl refl (sym opens ∙ parenthesis)

  same_begins : (here other : List Leaf) → SameFirst here other → StartsWith (λ t. t ≡ mark (codes "(|")) other → BeginsDefinition here → ⊥
  same_begins [] [] same opens begins = opens
  same_begins (l ∷ here) (m ∷ other) same opens begins = opening_no_definition (l ∷ here) (sym_starts same opens) begins
    where
      sym_starts : l ≡ m → m.terminal ≡ mark (codes "(|") → l.terminal ≡ mark (codes "(|")
      sym_starts same opens = ap (λ n. n.terminal) same ∙ opens
  same_begins _ _ same opens begins = same

  together_starts : (limits : Limits) (whole back : List Leaf) (bodies : _) → IsBody limits (Together bodies) depth whole → StartsWith (λ t. t ≡ mark (codes "(|")) (whole ++ back)
  together_starts limits whole back bodies (may, (opened, closed, inside, e, are)) = subst (λ (ls : List Leaf). StartsWith (λ t. t ≡ mark (codes "(|")) (ls ++ back)) (sym e) refl

  -- a definition
  pub body_from_definition : {cause : Cause} {here after : List Leaf} → BeginsDefinition here → Refuses (InDefinition depth) ContinuesDefinition cause here after → Refuses (InBody depth) ContinuesBody cause here after
  body_from_definition {cause} {here} {after} begins r =
      refuses_among (InDefinition depth) (InBody depth) ContinuesDefinition ContinuesBody (λ limits leaves is. (Defines is.0 is.1, is.2)) cause here after r
      (λ whole back agrees is stops. go whole back agrees is.0 is.1 stops)
    where
      go : (whole back : List Leaf) → Agrees r.passed after (whole ++ back) → (body : Equations) → IsBody (refused_within cause) body depth whole → StopsBefore ContinuesBody back
          → (front other : List Leaf) × Agrees r.passed after (front ++ other) × InDefinition depth (refused_within cause) front × StopsBefore ContinuesDefinition other
      go whole back agrees (Together bodies) is stops =
          absurd (same_begins here (whole ++ back) (subst (λ (ls : List Leaf). SameFirst ls (whole ++ back)) (sym r.split) (agrees_first r.passed after (whole ++ back) agrees)) (together_starts (refused_within cause) whole back bodies is) begins)
      go whole back agrees (Defines names right) is stops = (whole, back, agrees, (names, right, is), stops_smaller ContinuesBody ContinuesDefinition (λ t continues. inr continues) back stops)
      go whole back agrees (Equal operands) is stops = clock (common r.passed after (whole ++ back) agrees)
        where
          never : BeginsDefinition (whole ++ back) → ⊥
          never same = clock_ahead operands whole back (clock_equation_unlimited (refused_within cause) depth depth operands whole is) same

          may_stand : (a : Leaf) (p u : List Leaf) → whole ++ back ≡ (a ∷ p) ++ u → StartsWith (λ t. t ≡ mark (codes "(")) (a ∷ p) → MayStandInside (refused_within cause) depth
          may_stand a p u e opens = opened whole (clock_equation_begins (refused_within cause) depth operands whole is) e (clock_opens (refused_within cause) depth operands whole is)
            where
              opened : (ls : List Leaf) → StartsWith (BeginsExpression default_level) ls → ls ++ back ≡ (a ∷ p) ++ u → (StartsWith (λ t. t ≡ mark (codes "(")) ls → MayStandInside (refused_within cause) depth) → MayStandInside (refused_within cause) depth
              opened [] starts f may = absurd starts
              opened (m ∷ ls) starts f may = may (ap (λ n. n.terminal) (cons_same m a (ls ++ back) (p ++ u) f).0 ∙ opens)

          clock : Common r.passed after (whole ++ back) → (front other : List Leaf) × Agrees r.passed after (front ++ other) × InDefinition depth (refused_within cause) front × StopsBefore ContinuesDefinition other
          clock (inl e) = absurd (never (subst BeginsDefinition (r.split ∙ sym e) begins))
          clock (inr (a, p, t, u, e, f, agreeing)) = choose (decided a p t u (subst BeginsDefinition (r.split ∙ e) begins))
            where
              choose : BeginsDefinition ((a ∷ p) ++ u) ⊎ Undecided (a ∷ p) → (front other : List Leaf) × Agrees r.passed after (front ++ other) × InDefinition depth (refused_within cause) front × StopsBefore ContinuesDefinition other
              choose (inl same) = absurd (never (subst BeginsDefinition (sym f) same))
              choose (inr undecided) =
                  let still = still_definition (refused_within cause) (a ∷ p) (may_stand a p u f) undecided in
                  ((a ∷ p) ++ still.0, [], subst (λ (ls : List Leaf). Agrees r.passed after ls) (sym (append-nil ((a ∷ p) ++ still.0))) (agreeing still.0), still.1, tt)

  -- a clock equation
  pub body_from_clock_equation : {cause : Cause} {here after : List Leaf} → (BeginsDefinition here → ⊥) → StopsBefore (λ t. t ≡ mark (codes "(|")) here
      → Refuses (InClockEquation depth) ContinuesClockEquation cause here after → Refuses (InBody depth) ContinuesBody cause here after
  body_from_clock_equation {cause} {here} {after} begins stopped r =
      refuses_among (InClockEquation depth) (InBody depth) ContinuesClockEquation ContinuesBody (λ limits leaves is. (Equal is.0, is.1)) cause here after r
      (λ whole back agrees is stops. go whole back agrees is.0 is.1 stops)
    where
      clock_body : (t : Terminal) → ContinuesClockEquation t → ContinuesBody t
      clock_body t (inl e) = inl e
      clock_body t (inr continues) = inr (inr continues)

      go : (whole back : List Leaf) → Agrees r.passed after (whole ++ back) → (body : Equations) → IsBody (refused_within cause) body depth whole → StopsBefore ContinuesBody back
          → (front other : List Leaf) × Agrees r.passed after (front ++ other) × InClockEquation depth (refused_within cause) front × StopsBefore ContinuesClockEquation other
      go whole back agrees (Together bodies) is stops =
          absurd (starts_or_stops (λ t. t ≡ mark (codes "(|")) here (whole ++ back) (subst (λ (ls : List Leaf). SameFirst ls (whole ++ back)) (sym r.split) (agrees_first r.passed after (whole ++ back) agrees)) stopped
          (together_starts (refused_within cause) whole back bodies is))
      go whole back agrees (Equal operands) is stops = (whole, back, agrees, (operands, is), stops_smaller ContinuesBody ContinuesClockEquation clock_body back stops)
      go whole back agrees (Defines names right) is stops = definition (common r.passed after (whole ++ back) agrees)
        where
          ahead : BeginsDefinition (whole ++ back)
          ahead = definition_ahead (refused_within cause) depth names right whole back is

          may_stand : (a : Leaf) (p u : List Leaf) → whole ++ back ≡ (a ∷ p) ++ u → StartsWith (λ t. t ≡ mark (codes "(")) (a ∷ p) → MayStandInside (refused_within cause) depth
          may_stand a p u e opens = opened whole (definition_starts (refused_within cause) names right depth whole is) e (definition_opens (refused_within cause) depth names right whole is)
            where
              opened : (ls : List Leaf) → StartsWith (BeginsExpression default_level) ls → ls ++ back ≡ (a ∷ p) ++ u → (StartsWith (λ t. t ≡ mark (codes "(")) ls → MayStandInside (refused_within cause) depth) → MayStandInside (refused_within cause) depth
              opened [] starts f may = absurd starts
              opened (m ∷ ls) starts f may = may (ap (λ n. n.terminal) (cons_same m a (ls ++ back) (p ++ u) f).0 ∙ opens)

          definition : Common r.passed after (whole ++ back) → (front other : List Leaf) × Agrees r.passed after (front ++ other) × InClockEquation depth (refused_within cause) front × StopsBefore ContinuesClockEquation other
          definition (inl e) = absurd (begins (subst BeginsDefinition (e ∙ sym r.split) ahead))
          definition (inr (a, p, t, u, e, f, agreeing)) = choose (decided a p u t (subst BeginsDefinition f ahead))
            where
              choose : BeginsDefinition ((a ∷ p) ++ t) ⊎ Undecided (a ∷ p) → (front other : List Leaf) × Agrees r.passed after (front ++ other) × InClockEquation depth (refused_within cause) front × StopsBefore ContinuesClockEquation other
              choose (inl same) = absurd (begins (subst BeginsDefinition (sym (r.split ∙ e)) same))
              choose (inr undecided) =
                  let still = still_clock (refused_within cause) (a ∷ p) (may_stand a p u f) undecided in
                  ((a ∷ p) ++ still.0, [], subst (λ (ls : List Leaf). Agrees r.passed after ls) (sym (append-nil ((a ∷ p) ++ still.0))) (agreeing still.0), still.1, tt)
