-- What the parts of the parser refuse: what an operator behind an operand takes.
use Rattle.sig_parse.proofs.Common.{◌≡◌, ◌++◌, ◌+◌, ◌≤◌, ℕ, suc, List, [], ◌∷◌, codes, refl, sym, ap, ◌∙◌, subst, arith, append-nil, Span, Param, BinOp, Expression, Terminal, Leaf, leaf, word, binary_terminal, mixed_level, primary_level, binary_level, right_level, Limits, both_limits, no_limits, MayHave, operators, IsInit, IsAtLevel, StopsBefore, ContinuesNothing, ContinuesExpression, Step, WithOperand, WithCell, WithDelay, IsStep, no_place, stops_smaller, OfTwo, OfCell, OfDelay, Tighter, two_levels, continues_tighter, expression_unlimited, expression_within, expression_once, cons_same, append_to, part_at, stops_nothing, infix_same, infix_of_step, step_seen, primary_ends, Cause, Refuses, InInit, InLevel, InStep, step_operators}
use Rattle.sig_tree.proofs.Operators.{Infix, infix_terminal}
use Rattle.sig_parse.proofs.PartRefusals.{refuses_inside}
use Rattle.sig_parse.proofs.RefusedConstants.{some_name, some_leaf}
use Rattle.sig_parse.proofs.RefusedLevels.{fewer}

pub two_no_cell : (op : BinOp) → OfTwo op ≡ OfCell → ⊥
two_no_cell op e = cc

pub two_no_delay : (op : BinOp) → OfTwo op ≡ OfDelay → ⊥
two_no_delay op e = cc

pub cell_no_delay : OfCell ≡ OfDelay → ⊥
cell_no_delay e = cc

pub no_primary : (here : List Leaf) → StopsBefore (ContinuesExpression primary_level) here
no_primary [] = tt
no_primary (l ∷ here) = primary_ends l.terminal

module _ (level depth used : ℕ) where
  -- the operator of a step is the one that stands first
  pub step_operator : (i : Infix) (at : Span) (limits : Limits) (rest whole back : List Leaf) → leaf (infix_terminal i) at ∷ rest ≡ whole ++ back → (s : Step) → IsStep limits level depth s whole → i ≡ infix_of_step s
  step_operator i at limits rest whole back e s is =
      let seen = step_seen limits level depth s whole is in
      let heads = cons_same _ _ _ _ (e ∙ ap (λ l. l ++ back) seen.2) in
      infix_same i (infix_of_step s) (ap (λ l. l.terminal) heads.0)

  -- the right operand
  pub step_operand : (op : BinOp) (at : Span) → binary_level op ≡ level → (cause : Cause) (here after : List Leaf)
      → Refuses (InLevel (right_level op) depth (suc used)) (ContinuesExpression (right_level op)) cause here after
      → Refuses (InStep level depth used) (Tighter level) cause (leaf (binary_terminal op) at ∷ here) after
  step_operand op at own cause here after r =
      refuses_inside (InLevel (right_level op) depth (suc used)) (InStep level depth used) (leaf (binary_terminal op) at ∷ []) []
      (λ limits leaves is. (
        WithOperand op is.0 at,
        (leaves ++ [], own, refl, subst (λ (l : List Leaf). IsAtLevel limits (right_level op) depth is.0 l) (sym (append-nil leaves)) is.1),
        fewer limits (used + suc (operators is.0)) (suc used + operators is.0) (omega arith) is.2,
      ))
      (ContinuesExpression (right_level op)) (Tighter level) cause here after
      (λ limits rest whole back e is stops same. go limits rest whole back e is.0 is.1 is.2 stops) r
    where
      smaller : (t : Terminal) → ContinuesExpression (right_level op) t → Tighter level t
      smaller t continues = continues_tighter level (right_level op) (omega (arith, two_levels op)) t continues

      go : (limits : Limits) (rest whole back : List Leaf) → leaf (binary_terminal op) at ∷ rest ≡ whole ++ back → (s : Step) → IsStep limits level depth s whole → MayHave limits (used + step_operators s) → StopsBefore (Tighter level) back
          → (part other : List Leaf) × (rest ≡ part ++ other) × InLevel (right_level op) depth (suc used) limits part × StopsBefore (ContinuesExpression (right_level op)) other
      go limits rest whole back e (WithOperand other right place) (part, other_own, f, is) fits stops =
          let tags : OfTwo op ≡ OfTwo other = step_operator (OfTwo op) at limits rest whole back e (WithOperand other right place) (part, other_own, f, is) in
          let ops : op ≡ other = cc in
          let heads = cons_same _ _ _ _ (e ∙ ap (λ l. l ++ back) f) in (
            part,
            back,
            heads.1,
            (right, subst (λ (o : BinOp). IsAtLevel limits (right_level o) depth right part) (sym ops) is, fewer limits (suc used + operators right) (used + suc (operators right)) (omega arith) fits),
            stops_smaller (Tighter level) (ContinuesExpression (right_level op)) smaller back stops,
          )
      go limits rest whole back e (WithCell held init place) is fits stops = absurd (two_no_cell op (step_operator (OfTwo op) at limits rest whole back e (WithCell held init place) is))
      go limits rest whole back e (WithDelay init place) is fits stops = absurd (two_no_delay op (step_operator (OfTwo op) at limits rest whole back e (WithDelay init place) is))

  -- what holds a cell
  pub step_held : (at : Span) → mixed_level ≡ level → (cause : Cause) (here after : List Leaf) → Refuses (InLevel primary_level depth (suc used)) (ContinuesExpression primary_level) cause here after
      → Refuses (InStep level depth used) (Tighter level) cause (leaf (word (codes "cell")) at ∷ here) after
  step_held at own cause here after r =
      refuses_inside (InLevel primary_level depth (suc used)) (InStep level depth used) (leaf (word (codes "cell")) at ∷ []) (leaf (word (codes "init")) no_place ∷ some_leaf ∷ [])
      (λ limits leaves is. (
        WithCell is.0 (Param some_name) at,
        (leaves, leaf (word (codes "init")) no_place ∷ some_leaf ∷ [], own, refl, is.1, (no_place, some_leaf ∷ [], refl, refl)),
        fewer limits (used + suc (operators is.0)) (suc used + operators is.0) (omega arith) is.2,
      ))
      (ContinuesExpression primary_level) (Tighter level) cause here after
      (λ limits rest whole back e is stops same. go limits rest whole back e is.0 is.1 is.2) r
    where
      go : (limits : Limits) (rest whole back : List Leaf) → leaf (word (codes "cell")) at ∷ rest ≡ whole ++ back → (s : Step) → IsStep limits level depth s whole → MayHave limits (used + step_operators s)
          → (part other : List Leaf) × (rest ≡ part ++ other) × InLevel primary_level depth (suc used) limits part × StopsBefore (ContinuesExpression primary_level) other
      go limits rest whole back e (WithCell held init place) (middle, last, other_own, f, is, is_init) fits =
          let heads = cons_same (leaf (word (codes "cell")) at) (leaf (word (codes "cell")) place) rest (middle ++ (last ++ back)) (e ∙ append_to whole (leaf (word (codes "cell")) place ∷ middle) last back f) in
          (middle, last ++ back, heads.1, (held, is, fewer limits (suc used + operators held) (used + suc (operators held)) (omega arith) fits), no_primary (last ++ back))
      go limits rest whole back e (WithOperand other right place) is fits = absurd (two_no_cell other (sym (step_operator OfCell at limits rest whole back e (WithOperand other right place) is)))
      go limits rest whole back e (WithDelay init place) is fits = absurd (cell_no_delay (step_operator OfCell at limits rest whole back e (WithDelay init place) is))

  -- the init of a cell
  pub step_init : (at : Span) → mixed_level ≡ level → (held : Expression) (front : List Leaf) → IsAtLevel both_limits primary_level depth held front → suc used + operators held ≤ 512 → (cause : Cause) (here after : List Leaf)
      → Refuses InInit ContinuesNothing cause here after → Refuses (InStep level depth used) (Tighter level) cause ((leaf (word (codes "cell")) at ∷ front) ++ here) after
  step_init at own held front is_held few cause here after r =
      refuses_inside InInit (InStep level depth used) (leaf (word (codes "cell")) at ∷ front) []
      (λ limits leaves is. (
        WithCell held is.0 at,
        (front, leaves ++ [], own, refl, expression_within limits primary_level depth held front is_held, subst (λ (l : List Leaf). IsInit is.0 l) (sym (append-nil leaves)) is.1),
        λ kept. omega arith,
      ))
      ContinuesNothing (Tighter level) cause here after
      (λ limits rest whole back e is stops same. go limits rest whole back e is.0 is.1) r
    where
      go : (limits : Limits) (rest whole back : List Leaf) → (leaf (word (codes "cell")) at ∷ front) ++ rest ≡ whole ++ back → (s : Step) → IsStep limits level depth s whole
          → (part other : List Leaf) × (rest ≡ part ++ other) × InInit limits part × StopsBefore ContinuesNothing other
      go limits rest whole back e (WithCell other init place) (middle, last, other_own, f, is, is_init) =
          let heads = cons_same (leaf (word (codes "cell")) at) (leaf (word (codes "cell")) place) (front ++ rest) (middle ++ (last ++ back)) (e ∙ append_to whole (leaf (word (codes "cell")) place ∷ middle) last back f) in
          let part = part_at (IsAtLevel no_limits primary_level depth) (ContinuesExpression primary_level) held (expression_once no_limits primary_level depth held) other front middle rest (last ++ back) heads.1
          (expression_unlimited both_limits primary_level depth depth held front is_held) (expression_unlimited limits primary_level depth depth other middle is) (no_primary rest) (no_primary (last ++ back)) in
          (last, back, part.2, (init, is_init), stops_nothing back)
      go limits rest whole back e (WithOperand other right place) is = absurd (two_no_cell other (sym (step_operator OfCell at limits (front ++ rest) whole back e (WithOperand other right place) is)))
      go limits rest whole back e (WithDelay init place) is = absurd (cell_no_delay (step_operator OfCell at limits (front ++ rest) whole back e (WithDelay init place) is))
