-- What the parts of the parser refuse: expressions of a level, from their first operand and the operators
-- behind it.
use Rattle.sig_parse.proofs.Common.{◌≡◌, ◌++◌, ◌+◌, ◌≤◌, ℕ, suc, List, [], ◌∷◌, length, codes, None, inl, inr, ◌⊎◌, refl, sym, ap, ◌∙◌, subst, arith, append-nil, Span, Param, BinOp, Expression, Named, Terminal, Leaf, leaf, word, primary_level, right_level, Limits, both_limits, nesting_limit, no_limits, MayHave, operators, Each, IsAtLevel, StopsBefore, ContinuesExpression, IsOperand, Step, WithOperand, WithCell, WithDelay, stepped, stepped_all, IsStep, AreSoMany, no_place, OfTwo, OfCell, OfDelay, infix_stands, Tighter, append_to, part_at, spine_of, spine_at, operand_at, operand_unlimited, operand_within, step_unlimited, step_within, infix_of_step, place_of_step, step_seen, operand_once, step_once, operand_stops, step_stops, Cause, Wrong, TooMany, Refuses, InLevel, InOperand, InStep, InSteps, step_operators, steps_operators}
use Rattle.sig_tree.proofs.Operators.{Infix, infix_terminal, infix_level}
use Rattle.sig_parse.proofs.PartRefusals.{SameFirst, agrees_first, first_stops, refuses_inside, refuses_first, refuses_second}
use Rattle.sig_parse.proofs.RefusedConstants.{some_name, some_leaf}

-- the operators of an expression are those of its first operand and of its steps
stepped_operators : (x : Expression) (s : Step) → operators (stepped x s) ≡ operators x + step_operators s
stepped_operators x (WithOperand op right at) = omega arith
stepped_operators x _ = omega arith

pub all_operators : (x : Expression) (steps : List Step) → operators (stepped_all x steps) ≡ operators x + steps_operators steps
all_operators x [] = omega arith
all_operators x (s ∷ steps) = omega (arith, all_operators (stepped x s) steps, stepped_operators x s)

-- fewer operators are few enough too
pub fewer : (limits : Limits) (few many : ℕ) → few ≤ many → MayHave limits many → MayHave limits few
fewer limits few many within may = λ kept. let at_most : many ≤ 512 = may kept in omega arith

module _ (level depth used : ℕ) (within : level ≤ primary_level) where
  -- the first operand is refused
  pub level_from_operand : (cause : Cause) (here after : List Leaf) → Refuses (InOperand level depth used) (ContinuesExpression (suc level)) cause here after
      → Refuses (InLevel level depth used) (ContinuesExpression level) cause here after
  level_from_operand cause here after r =
      refuses_first (InOperand level depth used) (InLevel level depth used) []
      (λ limits leaves is. (is.0, subst (λ (l : List Leaf). IsAtLevel limits level depth is.0 l) (sym (append-nil leaves)) (operand_at limits level depth is.0 leaves within is.1), is.2))
      (ContinuesExpression (suc level)) (ContinuesExpression level) cause here after
      (λ limits whole back is stops same.
      let (first, steps, front, rest, f, g, is_first, are, many) = spine_of limits level depth is.0 whole within is.1 in
      let count : operators is.0 ≡ operators first + steps_operators steps = ap operators g ∙ all_operators first steps in (
        front,
        rest ++ back,
        append_to whole front rest back f,
        (first, is_first, fewer limits (used + operators first) (used + operators is.0) (omega arith) is.2),
        operand_stops limits level depth steps rest back are stops,
      )) r

  -- what stands behind it is refused
  pub level_from_steps : (x : Expression) (front : List Leaf) → IsOperand both_limits level depth x front → (cause : Cause) (here after : List Leaf) → StopsBefore (ContinuesExpression (suc level)) here
      → Refuses (InSteps level depth 0 (used + operators x)) (ContinuesExpression level) cause here after → Refuses (InLevel level depth used) (ContinuesExpression level) cause (front ++ here) after
  level_from_steps x front is_x cause here after stopped r =
      refuses_second (IsOperand no_limits level depth) (ContinuesExpression (suc level)) (operand_once no_limits level depth) (InSteps level depth 0 (used + operators x)) (InLevel level depth used)
      x front (operand_unlimited both_limits level depth x front is_x)
      (λ limits leaves is. (
        stepped_all x is.0,
        spine_at limits level depth x is.0 front leaves within (operand_within limits level depth x front is_x) is.1 (λ relation. let many = is.2 relation in omega arith),
        fewer limits (used + operators (stepped_all x is.0)) (used + operators x + steps_operators is.0) (omega (arith, all_operators x is.0)) is.3,
      ))
      (ContinuesExpression level) (ContinuesExpression level) cause here after stopped
      (λ limits whole back is stops.
      let (first, steps, begin, rest, f, g, is_first, are, many) = spine_of limits level depth is.0 whole within is.1 in (
        first,
        begin,
        rest,
        f,
        operand_unlimited limits level depth first begin is_first,
        operand_stops limits level depth steps rest back are stops,
        (λ same. (
          steps,
          are,
          (λ relation. let count = many relation in omega arith),
          fewer limits (used + operators x + steps_operators steps) (used + operators is.0)
              (omega (arith, ap operators g, all_operators first steps, ap operators same)) is.2,
        )),
        stops,
      )) r

-- the terminal is an operator of this level, behind an operand
abbrev pub IsOfLevel : ℕ → Terminal → Type 0
IsOfLevel level t = (i : Infix) × (t ≡ infix_terminal i) × (infix_level i ≡ level)

of_level_continues : (level : ℕ) (t : Terminal) → IsOfLevel level t → ContinuesExpression level t
of_level_continues level t (i, e, own) = inl (infix_stands level t i e (omega arith))

-- leaves that go on with such an operator are no empty list of steps
some_step : (level : ℕ) (l : Leaf) (more back : List Leaf) → IsOfLevel level l.terminal → SameFirst (l ∷ more) back → StopsBefore (ContinuesExpression level) back → ⊥
some_step level l more [] is same stops = same
some_step level l more (m ∷ back) is same stops = stops (subst (λ (n : Leaf). ContinuesExpression level n.terminal) same (of_level_continues level l.terminal is))

module _ (level depth taken used : ℕ) where
  -- the next step is refused
  pub steps_from_step : (l : Leaf) (more : List Leaf) → IsOfLevel level l.terminal → AreSoMany level (suc taken) → (cause : Cause) (after : List Leaf)
      → Refuses (InStep level depth used) (Tighter level) cause (l ∷ more) after → Refuses (InSteps level depth taken used) (ContinuesExpression level) cause (l ∷ more) after
  steps_from_step l more of_level many cause after r =
      refuses_first (InStep level depth used) (InSteps level depth taken used) []
      (λ limits leaves is. (
        is.0 ∷ [],
        (leaves, [], refl, is.1, refl),
        (λ relation. let most = many relation in omega arith),
        fewer limits (used + steps_operators (is.0 ∷ [])) (used + step_operators is.0) (omega arith) is.2,
      ))
      (Tighter level) (ContinuesExpression level) cause (l ∷ more) after
      (λ limits whole back is stops same. go limits whole back is.0 is.1 is.3 stops same) r
    where
      go : (limits : Limits) (whole back : List Leaf) (steps : List Step) → Each (IsStep limits level depth) steps whole → MayHave limits (used + steps_operators steps) → StopsBefore (ContinuesExpression level) back
          → SameFirst (l ∷ more) (whole ++ back) → (part other : List Leaf) × (whole ++ back ≡ part ++ other) × InStep level depth used limits part × StopsBefore (Tighter level) other
      go limits whole back [] e fits stops same = absurd (some_step level l more back of_level (subst (λ (w : List Leaf). SameFirst (l ∷ more) (w ++ back)) e same) stops)
      go limits whole back (s ∷ steps) (first, rest, e, is, are) fits stops same =
          (first, rest ++ back, append_to whole first rest back e, (s, is, fewer limits (used + step_operators s) (used + steps_operators (s ∷ steps)) (omega arith) fits), step_stops limits level depth steps rest back are stops)

  -- what stands behind a step is refused
  pub steps_from_steps : (s : Step) (front : List Leaf) → IsStep both_limits level depth s front → (cause : Cause) (here after : List Leaf) → StopsBefore (Tighter level) here
      → Refuses (InSteps level depth (suc taken) (used + step_operators s)) (ContinuesExpression level) cause here after → Refuses (InSteps level depth taken used) (ContinuesExpression level) cause (front ++ here) after
  steps_from_steps s front is_s cause here after stopped r =
      refuses_inside (InSteps level depth (suc taken) (used + step_operators s)) (InSteps level depth taken used) front []
      (λ limits leaves is. (
        s ∷ is.0,
        (front, leaves ++ [], refl, step_within limits level depth s front is_s, subst (λ (l : List Leaf). Each (IsStep limits level depth) is.0 l) (sym (append-nil leaves)) is.1),
        (λ relation. let most = is.2 relation in omega arith),
        fewer limits (used + steps_operators (s ∷ is.0)) (used + step_operators s + steps_operators is.0) (omega arith) is.3,
      ))
      (ContinuesExpression level) (ContinuesExpression level) cause here after
      (λ limits rest whole back e is stops same. go limits rest whole back e is.0 is.1 is.2 is.3 stops same) r
    where
      go : (limits : Limits) (rest whole back : List Leaf) → front ++ rest ≡ whole ++ back → (steps : List Step) → Each (IsStep limits level depth) steps whole → AreSoMany level (taken + length steps) → MayHave limits (used + steps_operators steps)
          → StopsBefore (ContinuesExpression level) back → SameFirst here rest
          → (part other : List Leaf) × (rest ≡ part ++ other) × InSteps level depth (suc taken) (used + step_operators s) limits part × StopsBefore (ContinuesExpression level) other
      go limits rest whole back e [] f many fits stops same =
          let seen = step_seen both_limits level depth s front is_s in
          let begin : leaf (infix_terminal (infix_of_step s)) (place_of_step s) ∷ (seen.0 ++ rest) ≡ back = ap (λ l. l ++ rest) (sym seen.2) ∙ e ∙ ap (λ l. l ++ back) f in
          absurd (some_step level (leaf (infix_terminal (infix_of_step s)) (place_of_step s)) (seen.0 ++ rest) back (infix_of_step s, refl, seen.1)
          (subst (λ (l : List Leaf). SameFirst (leaf (infix_terminal (infix_of_step s)) (place_of_step s) ∷ (seen.0 ++ rest)) l) begin refl) stops)
      go limits rest whole back e (t ∷ steps) (first, others, f, is, are) many fits stops same =
          let part = part_at (IsStep no_limits level depth) (Tighter level) s (step_once no_limits level depth s) t front first rest (others ++ back) (e ∙ append_to whole first others back f)
          (step_unlimited both_limits level depth s front is_s) (step_unlimited limits level depth t first is) (first_stops (Tighter level) here rest same stopped) (step_stops limits level depth steps others back are stops) in
          let count : step_operators s ≡ step_operators t = ap step_operators part.0 in (
            others,
            back,
            part.2,
            (
              steps,
              are,
              (λ relation. let most = many relation in omega arith),
              fewer limits (used + step_operators s + steps_operators steps) (used + steps_operators (t ∷ steps)) (omega arith) fits,
            ),
            stops,
          )

  -- an operator that may not stand here
  pub steps_stop : used ≤ 512 → (l : Leaf) (more : List Leaf) → ContinuesExpression level l.terminal → ((IsOfLevel level l.terminal → ⊥) ⊎ (AreSoMany level (suc taken) → ⊥))
      → AreSoMany level taken → Refuses (InSteps level depth taken used) (ContinuesExpression level) Wrong (l ∷ more) (l ∷ more)
  steps_stop few l more continues wrong so_many = record {
    passed = [];
    split = refl;
    viable = ([], ([], refl, (λ relation. let most = so_many relation in omega arith), λ kept. omega arith));
    allowed = tt;
    excluded = λ leaves front back agrees e is stops.
        go front back is.0 is.1 is.2 stops (subst (λ (w : List Leaf). SameFirst (l ∷ more) w) e (agrees_first [] (l ∷ more) leaves agrees));
  } where
    first_of_back : (back : List Leaf) → SameFirst (l ∷ more) back → StopsBefore (ContinuesExpression level) back → ⊥
    first_of_back [] same stops = same
    first_of_back (m ∷ back) same stops = stops (subst (λ (n : Leaf). ContinuesExpression level n.terminal) same continues)

    go : (front back : List Leaf) (steps : List Step) → Each (IsStep no_limits level depth) steps front → AreSoMany level (taken + length steps) → StopsBefore (ContinuesExpression level) back → SameFirst (l ∷ more) (front ++ back) → ⊥
    go front back [] f many stops same = first_of_back back (subst (λ (w : List Leaf). SameFirst (l ∷ more) (w ++ back)) f same) stops
    go front back (s ∷ steps) (first, others, f, is, are) many stops same =
        let seen = step_seen no_limits level depth s first is in
        let heads : l ≡ leaf (infix_terminal (infix_of_step s)) (place_of_step s) =
        subst (λ (w : List Leaf). SameFirst (l ∷ more) w) (append_to front first others back f ∙ ap (λ l. l ++ (others ++ back)) seen.2) same in
        refused wrong (infix_of_step s, ap (λ l. l.terminal) heads, seen.1) (λ relation. let most = many relation in omega arith)
      where
        refused : (IsOfLevel level l.terminal → ⊥) ⊎ (AreSoMany level (suc taken) → ⊥) → IsOfLevel level l.terminal → AreSoMany level (suc taken) → ⊥
        refused (inl none) of_level so = none of_level
        refused (inr full) of_level so = full so

  -- an operator too many
  pub steps_too_many : used ≡ 512 → (i : Infix) (at : Span) (more : List Leaf) → infix_level i ≡ level → AreSoMany level (suc taken)
      → Refuses (InSteps level depth taken used) (ContinuesExpression level) TooMany (leaf (infix_terminal i) at ∷ more) (leaf (infix_terminal i) at ∷ more)
  steps_too_many full i at more own many = record {
    passed = [];
    split = refl;
    viable = ([], ([], refl, (λ relation. let most = many relation in omega arith), λ kept. omega arith));
    allowed = completed i own;
    excluded = λ leaves front back agrees e is stops.
        go front back is.0 is.1 is.3 stops (subst (λ (w : List Leaf). SameFirst (leaf (infix_terminal i) at ∷ more) w) e (agrees_first [] (leaf (infix_terminal i) at ∷ more) leaves agrees));
  } where
    go : (front back : List Leaf) (steps : List Step) → Each (IsStep both_limits level depth) steps front → MayHave both_limits (used + steps_operators steps) → StopsBefore (ContinuesExpression level) back
        → SameFirst (leaf (infix_terminal i) at ∷ more) (front ++ back) → ⊥
    go front back [] f fits stops same = some_step level (leaf (infix_terminal i) at) more back (i, refl, own) (subst (λ (w : List Leaf). SameFirst (leaf (infix_terminal i) at ∷ more) (w ++ back)) f same) stops
    go front back (s ∷ steps) are fits stops same =
        let some : 1 ≤ step_operators s = counted s in
        let most : used + steps_operators (s ∷ steps) ≤ 512 = fits refl in
        omega arith
      where
        counted : (s : Step) → 1 ≤ step_operators s
        counted (WithOperand op right at) = omega arith
        counted _ = omega arith

    named : (wanted : ℕ) → wanted ≤ primary_level → IsAtLevel nesting_limit wanted depth (Named some_name) (some_leaf ∷ [])
    named wanted low = (0, (low, refl))

    right_low : (op : BinOp) → right_level op ≤ primary_level
    right_low Rattle.sig_tree.specs.declared.expr.BinOp.TheVariants.Default = omega arith
    right_low _ = omega arith

    so : AreSoMany level (taken + 1)
    so = λ relation. let most = many relation in omega arith

    completed : (i : Infix) → infix_level i ≡ level → (done : List Leaf) × InSteps level depth taken used nesting_limit (leaf (infix_terminal i) at ∷ done)
    completed (OfTwo op) own = (some_leaf ∷ [], (WithOperand op (Named some_name) at ∷ [], (_, [], refl, (some_leaf ∷ [], own, refl, named (right_level op) (right_low op)), refl), so, λ kept. cc))
    completed OfCell own = (
      some_leaf ∷ leaf (word (codes "init")) no_place ∷ some_leaf ∷ [],
      (
        WithCell (Named some_name) (Param some_name) at ∷ [],
        (_, [], refl, (some_leaf ∷ [], leaf (word (codes "init")) no_place ∷ some_leaf ∷ [], own, refl, named primary_level (omega arith), (no_place, some_leaf ∷ [], refl, refl)), refl),
        so,
        λ kept. cc,
      ),
    )
    completed OfDelay own = ([], (WithDelay None at ∷ [], (_, [], refl, ([], [], own, refl, inl refl, refl), refl), so, λ kept. cc))
