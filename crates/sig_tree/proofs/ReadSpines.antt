-- One reading of operands and of the operators behind them.
use Rattle.sig_tree.proofs.Common.{◌≡◌, ℕ, suc, ◌≤◌, ◌++◌, List, [], ◌∷◌, Some, refl, sym, ap, ◌∙◌, subst, codes, inl, inr, arith, append_cancel_right, Span, UnOp, Not, BinOp, Expression, Named, Number, Truth, Unary, Binary, Delay, Cell, Terminal, Leaf, leaf, word, mark, unary_terminal, binary_terminal, delay_level, primary_level, unary_level, operand_level, binary_level, right_level, Limits, Each, IsAtLevel, StartsWith, BeginsExpression, StopsBefore, OneReading, ContinuesDelay, ContinuesExpression, IsAtom, IsInner, Step, WithOperand, WithCell, WithDelay, IsStep}
use Rattle.sig_tree.specs.Spines.{IsOperand}
use Rattle.sig_tree.proofs.ListsThatStop.{stops_smaller, pair_same}
use Rattle.sig_tree.proofs.Operators.{Infix, OfTwo, OfCell, OfDelay, infix_terminal, infix_level, infix_of, infix_found, infix_seen, Tighter, not_tighter, continues_tighter, tighter_continues, two_levels, operand_continues}
use Rattle.sig_tree.proofs.Reader.{AtName, AtNumber, AtTruth, AtOpening, AtPrefix, first_of, delay_read, optional_init_at, skip_one}
use Rattle.sig_tree.proofs.ReadExpressions.{prefix_first, truth_first, init_stops, init_looser, init_once, expression_once}
use Rattle.sig_tree.proofs.FirstLeaves.{expression_begins, starts_at}
use Rattle.sig_tree.proofs.CombinedReadings.{cons_same, append_to, part_at}
use Rattle.sig_tree.proofs.ReadEquations.{starts_conflict, stops_nothing}
use Rattle.sig_tree.proofs.Spines.{operand_at}

-- the operators before an operand are told apart by their terminals
pub unary_same : (op other : UnOp) → unary_terminal op ≡ unary_terminal other → op ≡ other
unary_same op other e = let same : AtPrefix op ≡ AtPrefix other = sym (prefix_first op) ∙ ap first_of e ∙ prefix_first other in cc

pub prefix_no_inner : (op : UnOp) (level : ℕ) → unary_level op ≡ level → (t : Terminal) → t ≡ unary_terminal op → BeginsExpression (suc level) t → ⊥
prefix_no_inner op level own t e (inl (inl (other, f, tight))) =
    let same : op ≡ other = unary_same op other (sym e ∙ f) in
    let levels : unary_level op ≡ unary_level other = ap unary_level same in
    let high : suc level ≤ unary_level other = tight in
    omega arith
prefix_no_inner op level own t e (inl (inr f)) = let same : AtPrefix op ≡ AtOpening = sym (prefix_first op) ∙ ap first_of (sym e ∙ f) in cc
prefix_no_inner op level own t e (inr (inl (v, f))) = let same : AtPrefix op ≡ AtNumber v = sym (prefix_first op) ∙ ap first_of (sym e ∙ f) in cc
prefix_no_inner op level own t e (inr (inr (inl (truth, f)))) = let same : AtPrefix op ≡ AtTruth truth = sym (prefix_first op) ∙ ap first_of (sym e ∙ f) ∙ truth_first truth in cc
prefix_no_inner op level own t e (inr (inr (inr (text, f)))) = let same : AtPrefix op ≡ AtName text = sym (prefix_first op) ∙ ap first_of (sym e ∙ f) in cc

not_before_delay : (op : UnOp) → unary_level op ≤ delay_level → suc (unary_level op) ≤ delay_level
not_before_delay Not low = omega arith
not_before_delay _ low = omega arith

pub operand_tighter : (op : UnOp) (level : ℕ) → unary_level op ≡ level → (t : Terminal) → ContinuesExpression (operand_level op) t → ContinuesExpression (suc level) t
operand_tighter op level own t continues = subst (λ (l : ℕ). ContinuesExpression (suc l) t) own (go (operand_continues op t continues)) where
  go : Tighter (unary_level op) t → ContinuesExpression (suc (unary_level op)) t
  go (inl is) = inl is
  go (inr (low, delays)) = inr (not_before_delay op low, delays)

infix_below : (i : Infix) → infix_level i ≤ delay_level
infix_below (OfTwo op) = binary_below op where
  binary_below : (op : BinOp) → binary_level op ≤ delay_level
  binary_below op = let levels = two_levels op in let most = right_below op in omega arith
    where
      right_below : (op : BinOp) → right_level op ≤ primary_level
      right_below Rattle.sig_tree.specs.declared.expr.BinOp.TheVariants.Default = omega arith
      right_below _ = omega arith
infix_below OfCell = omega arith
infix_below OfDelay = omega arith

-- nothing continues a primary
pub primary_ends : (t : Terminal) → ContinuesExpression primary_level t → ⊥
primary_ends t (inl is) =
    let seen = infix_seen primary_level t is in
    let high : primary_level ≤ infix_level seen.0 = seen.2 in
    let low = infix_below seen.0 in
    omega arith
primary_ends t (inr (low, delays)) = omega arith

module _ (limits : Limits) (level depth : ℕ) where
  atom_begins : (e : Expression) (leaves : List Leaf) → IsAtom e leaves → StartsWith (BeginsExpression (suc level)) leaves
  atom_begins (Named n) leaves is = starts_at (BeginsExpression (suc level)) leaves _ _ is (inr (inr (inr (n.text, refl))))
  atom_begins (Number v at) leaves is = starts_at (BeginsExpression (suc level)) leaves _ _ is (inr (inl (v, refl)))
  atom_begins (Truth truth at) leaves is = starts_at (BeginsExpression (suc level)) leaves _ _ is (inr (inr (inl (truth, refl))))
  atom_begins (Unary op operand at) leaves is = absurd is
  atom_begins (Binary op left right at) leaves is = absurd is
  atom_begins (Delay operand init at) leaves is = absurd is
  atom_begins (Cell operand held init at) leaves is = absurd is

  pub inner_begins : (e : Expression) (leaves : List Leaf) → IsInner limits level depth e leaves → StartsWith (BeginsExpression (suc level)) leaves
  inner_begins e leaves (inl (tighter, is)) = expression_begins limits (suc level) depth e leaves is
  inner_begins e leaves (inr (own, inl atom)) = atom_begins e leaves atom
  inner_begins e leaves (inr (own, inr (may, (opened, closed, inside, f, is)))) = starts_at (BeginsExpression (suc level)) leaves _ _ f (inl (inr refl))

  prefix_or_inner : (op : UnOp) (at : Span) (rest front back : List Leaf) (x : Expression) → unary_level op ≡ level → leaf (unary_terminal op) at ∷ rest ≡ front ++ back → IsInner limits level depth x front → ⊥
  prefix_or_inner op at rest front back x own e is =
      starts_conflict (λ t. t ≡ unary_terminal op) (BeginsExpression (suc level)) (prefix_no_inner op level own) (leaf (unary_terminal op) at ∷ []) front rest back e refl (inner_begins x front is)

  prefixed_same : (op other : UnOp) (at other_at : Span) (operand other_operand : Expression) (rest other_rest back other_back : List Leaf) → unary_level op ≡ level
      → leaf (unary_terminal op) at ∷ (rest ++ back) ≡ leaf (unary_terminal other) other_at ∷ (other_rest ++ other_back)
      → IsAtLevel limits (operand_level op) (suc depth) operand rest → IsAtLevel limits (operand_level other) (suc depth) other_operand other_rest
      → StopsBefore (ContinuesExpression (suc level)) back → StopsBefore (ContinuesExpression (suc level)) other_back
      → (Unary op operand at ≡ Unary other other_operand other_at) × (leaf (unary_terminal op) at ∷ rest ≡ leaf (unary_terminal other) other_at ∷ other_rest)
  prefixed_same op other at other_at operand other_operand rest other_rest back other_back own e is other_is stops other_stops =
      let heads = cons_same _ _ _ _ e in
      let ops : op ≡ other = unary_same op other (ap (λ l. l.terminal) heads.0) in
      let places : at ≡ other_at = ap (λ l. l.at) heads.0 in
      let part = expression_once limits (operand_level op) (suc depth) operand other_operand rest other_rest back other_back heads.1 is
      (subst (λ (o : UnOp). IsAtLevel limits (operand_level o) (suc depth) other_operand other_rest) (sym ops) other_is)
      (stops_smaller (ContinuesExpression (suc level)) (ContinuesExpression (operand_level op)) (operand_tighter op level own) back stops)
      (stops_smaller (ContinuesExpression (suc level)) (ContinuesExpression (operand_level op)) (operand_tighter op level own) other_back other_stops) in
      let trees : Unary op operand at ≡ Unary other other_operand other_at = cc (ops, places, part.0) in
      let whole : leaf (unary_terminal op) at ∷ rest ≡ leaf (unary_terminal other) other_at ∷ other_rest = cc (heads.0, part.1) in
      (trees, whole)

  pub operand_once : OneReading (IsOperand limits level depth) (ContinuesExpression (suc level))
  operand_once x y front other_front back other_back e (inl (op, operand, at, rest, own, same, f, may, is)) (inl (other, other_operand, other_at, other_rest, other_own, other_same, g, other_may, other_is)) stops other_stops =
      let part = prefixed_same op other at other_at operand other_operand rest other_rest back other_back own (ap (λ l. l ++ back) (sym f) ∙ e ∙ ap (λ l. l ++ other_back) g) is other_is stops other_stops in
      (same ∙ part.0 ∙ sym other_same, f ∙ part.1 ∙ sym g)
  operand_once x y front other_front back other_back e (inl (op, operand, at, rest, own, same, f, may, is)) (inr other_is) stops other_stops =
      absurd (prefix_or_inner op at (rest ++ back) other_front other_back y own (ap (λ l. l ++ back) (sym f) ∙ e) other_is)
  operand_once x y front other_front back other_back e (inr is) (inl (op, operand, at, rest, own, same, f, may, other_is)) stops other_stops =
      absurd (prefix_or_inner op at (rest ++ other_back) front back x own (ap (λ l. l ++ other_back) (sym f) ∙ sym e) is)
  operand_once x y front other_front back other_back e (inr (inl (tighter, is))) (inr (inl (other_tighter, other_is))) stops other_stops =
      expression_once limits (suc level) depth x y front other_front back other_back e is other_is stops other_stops
  operand_once x y front other_front back other_back e (inr (inl (tighter, is))) (inr (inr (own, other_is))) stops other_stops = absurd (omega arith)
  operand_once x y front other_front back other_back e (inr (inr (own, is))) (inr (inl (tighter, other_is))) stops other_stops = absurd (omega arith)
  operand_once x y front other_front back other_back e (inr (inr (own, is))) (inr (inr (other_own, other_is))) stops other_stops =
      expression_once limits primary_level depth x y front other_front back other_back e
      (operand_at limits primary_level depth x front (omega arith) (inr (inr (refl, is)))) (operand_at limits primary_level depth y other_front (omega arith) (inr (inr (refl, other_is))))
      (no_more back) (no_more other_back)
    where
      no_more : (back : List Leaf) → StopsBefore (ContinuesExpression primary_level) back
      no_more [] = tt
      no_more (l ∷ back) = primary_ends l.terminal

-- the operator of a step
abbrev pub infix_of_step : Step → Infix
infix_of_step (WithOperand op right at) = OfTwo op
infix_of_step (WithCell held init at) = OfCell
infix_of_step (WithDelay init at) = OfDelay

abbrev pub place_of_step : Step → Span
place_of_step (WithOperand op right at) = at
place_of_step (WithCell held init at) = at
place_of_step (WithDelay init at) = at

pub infix_same : (i j : Infix) → infix_terminal i ≡ infix_terminal j → i ≡ j
infix_same i j e = let same : Some i ≡ Some j = sym (infix_found i) ∙ ap infix_of e ∙ infix_found j in cc

module _ (limits : Limits) (level depth : ℕ) where
  pub step_seen : (s : Step) (leaves : List Leaf) → IsStep limits level depth s leaves
      → (rest : List Leaf) × (infix_level (infix_of_step s) ≡ level) × (leaves ≡ leaf (infix_terminal (infix_of_step s)) (place_of_step s) ∷ rest)
  step_seen (WithOperand op right at) leaves (rest, own, f, is) = (rest, own, f)
  step_seen (WithCell held init at) leaves (middle, back, own, f, is, is_init) = (middle ++ back, own, f)
  step_seen (WithDelay init at) leaves (one, back, own, f, is, is_init) = (one ++ back, own, f)

  step_heads : (s t : Step) (front other_front back other_back : List Leaf) → front ++ back ≡ other_front ++ other_back → IsStep limits level depth s front → IsStep limits level depth t other_front
      → (infix_of_step s ≡ infix_of_step t) × (place_of_step s ≡ place_of_step t)
  step_heads s t front other_front back other_back e is other_is =
      let seen = step_seen s front is in
      let other = step_seen t other_front other_is in
      let heads = cons_same _ _ _ _ (ap (λ l. l ++ back) (sym seen.2) ∙ e ∙ ap (λ l. l ++ other_back) other.2) in
      (infix_same (infix_of_step s) (infix_of_step t) (ap (λ l. l.terminal) heads.0), ap (λ l. l.at) heads.0)

  pub step_once : OneReading (IsStep limits level depth) (Tighter level)
  step_once (WithOperand op right at) (WithOperand other other_right other_at) front other_front back other_back e (rest, own, f, is) (other_rest, other_own, g, other_is) stops other_stops =
      let heads = step_heads (WithOperand op right at) (WithOperand other other_right other_at) front other_front back other_back e (rest, own, f, is) (other_rest, other_own, g, other_is) in
      let tagged : OfTwo op ≡ OfTwo other = heads.0 in
      let ops : op ≡ other = cc in
      let places : at ≡ other_at = heads.1 in
      let next = cons_same (leaf (binary_terminal op) at) (leaf (binary_terminal other) other_at) (rest ++ back) (other_rest ++ other_back) (ap (λ l. l ++ back) (sym f) ∙ e ∙ ap (λ l. l ++ other_back) g) in
      let smaller : (t : Terminal) → ContinuesExpression (right_level op) t → Tighter level t =
      λ t continues. continues_tighter level (right_level op) (let levels = two_levels op in omega arith) t continues in
      let part = expression_once limits (right_level op) depth right other_right rest other_rest back other_back next.1 is
      (subst (λ (o : BinOp). IsAtLevel limits (right_level o) depth other_right other_rest) (sym ops) other_is)
      (stops_smaller (Tighter level) (ContinuesExpression (right_level op)) smaller back stops) (stops_smaller (Tighter level) (ContinuesExpression (right_level op)) smaller other_back other_stops) in
      let trees : WithOperand op right at ≡ WithOperand other other_right other_at = cc (ops, places, part.0) in
      let whole : front ≡ other_front = cc (f, g, next.0, part.1) in
      (trees, whole)
  step_once (WithCell held init at) (WithCell other_held other_init other_at) front other_front back other_back e (middle, last, own, f, is, is_init) (other_middle, other_last, other_own, g, other_is, other_is_init) stops other_stops =
      let heads = step_heads (WithCell held init at) (WithCell other_held other_init other_at) front other_front back other_back e (middle, last, own, f, is, is_init) (other_middle, other_last, other_own, g, other_is, other_is_init) in
      let places : at ≡ other_at = heads.1 in
      let cell = leaf (word (codes "cell")) at in
      let other_cell = leaf (word (codes "cell")) other_at in
      let next = cons_same cell other_cell (middle ++ (last ++ back)) (other_middle ++ (other_last ++ other_back))
      (sym (append_to front (cell ∷ middle) last back f) ∙ e ∙ append_to other_front (other_cell ∷ other_middle) other_last other_back g) in
      let part = part_at (IsAtLevel limits primary_level depth) (ContinuesExpression primary_level) held (expression_once limits primary_level depth held) other_held middle other_middle (last ++ back) (other_last ++ other_back) next.1 is other_is
      (init_stops init last back is_init (ContinuesExpression primary_level) init_looser) (init_stops other_init other_last other_back other_is_init (ContinuesExpression primary_level) init_looser) in
      let inits = init_once init other_init last other_last back other_back part.2 is_init other_is_init (stops_nothing back) (stops_nothing other_back) in
      let trees : WithCell held init at ≡ WithCell other_held other_init other_at = cc (places, part.0, inits.0) in
      let whole : front ≡ other_front = cc (f, g, next.0, part.1, inits.1) in
      (trees, whole)
  step_once (WithDelay init at) (WithDelay other_init other_at) front other_front back other_back e (one, last, own, f, is_one, is_init) (other_one, other_last, other_own, g, other_is_one, other_is_init) stops other_stops =
      let heads = step_heads (WithDelay init at) (WithDelay other_init other_at) front other_front back other_back e (one, last, own, f, is_one, is_init) (other_one, other_last, other_own, g, other_is_one, other_is_init) in
      let places : at ≡ other_at = heads.1 in
      let sign = leaf (mark (codes "$")) at in
      let other_sign = leaf (mark (codes "$")) other_at in
      let next = cons_same sign other_sign ((one ++ last) ++ back) ((other_one ++ other_last) ++ other_back) (ap (λ l. l ++ back) (sym f) ∙ e ∙ ap (λ l. l ++ other_back) g) in
      let smaller : (t : Terminal) → ContinuesDelay t → Tighter level t = λ t continues. inr (omega arith, continues) in
      let same = pair_same init other_init back other_back
      (sym (delay_read init one last back is_one is_init (stops_smaller (Tighter level) ContinuesDelay smaller back stops))
      ∙ ap (λ l. optional_init_at (skip_one l)) next.1
      ∙ delay_read other_init other_one other_last other_back other_is_one other_is_init (stops_smaller (Tighter level) ContinuesDelay smaller other_back other_stops)) in
      let trees : WithDelay init at ≡ WithDelay other_init other_at = cc (places, same.0) in
      (trees, append_cancel_right front other_front back (e ∙ ap (λ l. other_front ++ l) (sym same.1)))
  step_once (WithOperand op right at) (WithCell held init place) front other_front back other_back e is other_is stops other_stops =
      absurd (apart (step_heads (WithOperand op right at) (WithCell held init place) front other_front back other_back e is other_is).0)
    where
      apart : OfTwo op ≡ OfCell → ⊥
      apart e = cc
  step_once (WithOperand op right at) (WithDelay init place) front other_front back other_back e is other_is stops other_stops =
      absurd (apart (step_heads (WithOperand op right at) (WithDelay init place) front other_front back other_back e is other_is).0)
    where
      apart : OfTwo op ≡ OfDelay → ⊥
      apart e = cc
  step_once (WithCell held init at) (WithOperand op right place) front other_front back other_back e is other_is stops other_stops =
      absurd (apart (step_heads (WithCell held init at) (WithOperand op right place) front other_front back other_back e is other_is).0)
    where
      apart : OfCell ≡ OfTwo op → ⊥
      apart e = cc
  step_once (WithCell held init at) (WithDelay other place) front other_front back other_back e is other_is stops other_stops =
      absurd (apart (step_heads (WithCell held init at) (WithDelay other place) front other_front back other_back e is other_is).0)
    where
      apart : OfCell ≡ OfDelay → ⊥
      apart e = cc
  step_once (WithDelay init at) (WithOperand op right place) front other_front back other_back e is other_is stops other_stops =
      absurd (apart (step_heads (WithDelay init at) (WithOperand op right place) front other_front back other_back e is other_is).0)
    where
      apart : OfDelay ≡ OfTwo op → ⊥
      apart e = cc
  step_once (WithDelay init at) (WithCell held other place) front other_front back other_back e is other_is stops other_stops =
      absurd (apart (step_heads (WithDelay init at) (WithCell held other place) front other_front back other_back e is other_is).0)
    where
      apart : OfDelay ≡ OfCell → ⊥
      apart e = cc

  -- behind an operand, and behind a step
  pub operand_stops : (steps : List Step) (front back : List Leaf) → Each (IsStep limits level depth) steps front → StopsBefore (ContinuesExpression level) back → StopsBefore (ContinuesExpression (suc level)) (front ++ back)
  operand_stops [] front back e stops =
      subst (λ (l : List Leaf). StopsBefore (ContinuesExpression (suc level)) (l ++ back)) (sym e)
      (stops_smaller (ContinuesExpression level) (ContinuesExpression (suc level)) (λ t continues. tighter_continues level t (continues_tighter level (suc level) (omega arith) t continues)) back stops)
  operand_stops (s ∷ steps) front back (first, rest, e, is, are) stops =
      let seen = step_seen s first is in
      subst (λ (l : List Leaf). StopsBefore (ContinuesExpression (suc level)) l) (sym (append_to front first rest back e ∙ ap (λ l. l ++ (rest ++ back)) seen.2))
      (λ continues. not_tighter (infix_of_step s) level (omega (arith, seen.1)) (continues_tighter level (suc level) (omega arith) _ continues))

  pub step_stops : (steps : List Step) (front back : List Leaf) → Each (IsStep limits level depth) steps front → StopsBefore (ContinuesExpression level) back → StopsBefore (Tighter level) (front ++ back)
  step_stops [] front back e stops =
      subst (λ (l : List Leaf). StopsBefore (Tighter level) (l ++ back)) (sym e) (stops_smaller (ContinuesExpression level) (Tighter level) (tighter_continues level) back stops)
  step_stops (s ∷ steps) front back (first, rest, e, is, are) stops =
      let seen = step_seen s first is in
      subst (λ (l : List Leaf). StopsBefore (Tighter level) l) (sym (append_to front first rest back e ∙ ap (λ l. l ++ (rest ++ back)) seen.2))
      (not_tighter (infix_of_step s) level (omega (arith, seen.1)))
