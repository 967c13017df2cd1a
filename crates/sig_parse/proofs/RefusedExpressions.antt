-- Refusals of the parts of expressions, where the parser stands.
use Rattle.sig_parse.proofs.Common.{◌≡◌, ◌++◌, ◌+◌, ◌≤◌, ◌<◌, ℕ, suc, List, [], ◌∷◌, codes, Option, inl, inr, ◌⊎◌, refl, sym, ap, ◌∙◌, subst, append_assoc, arith, append-nil, append_cancel_right, Span, Constant, UnOp, Clock as UnaryClock, BinOp, Default as OpDefault, Expression, Unary, Terminal, Leaf, leaf, number, word, mark, unary_terminal, default_level, mixed_level, relation_level, delay_level, primary_level, unary_level, operand_level, binary_level, right_level, Limits, both_limits, operators, IsInit, IsOptionalInit, IsOptionalOne, IsAtLevel, StopsBefore, StartsWith, BeginsExpression, ContinuesNothing, ContinuesInit, ContinuesExpression, IsAtom, IsOperand, WithOperand, WithCell, WithDelay, IsStep, AreSoMany, stops_smaller, tighter_continues, not_tighter, Refusal, Syntax, Nesting, Operators, Level, Relation, Primary, Infix, Binary, Cell, Delay as DelayOp, State, Reads, Shorter, IsLeaf, Cause, Wrong, TooDeep, TooMany, cause_of, Refuses, IsOfText, Settles, InLeaf, InInit, InOptionalInit, InOptionalOne, InLevel, InOperand, InStep, InSteps, level_number, first_level, infix_terminal, infix_level, IsOperatorOf, ContinuesStep, BeginsAtom, IsTighter, ReadsStep, Completes}
use Rattle.sig_tree.specs.Continuing.{IsInfix as StandsBehind}
use Rattle.sig_parse.proofs.Joins.{joined, viewed, after_leaf}
use Rattle.sig_parse.proofs.LiftedRefusals.{Lifts, leaf_split, wrong}
use Rattle.sig_parse.proofs.OperatorLemmas.{in_tree, same_terminal, same_level, of_level, one_level, operator_continues, operand_continues_more}
use Rattle.sig_parse.proofs.RefusedLevels.{level_from_steps, steps_from_step, steps_from_steps, steps_stop, steps_too_many}
use Rattle.sig_parse.proofs.RefusedOperands.{prefix_operand, prefix_too_deep, prefix_too_many, tighter_operand}
use Rattle.sig_parse.proofs.RefusedSteps.{step_operand, step_held, step_init}
use Rattle.sig_parse.proofs.RefusedDelays.{settled_wrong, cell_settles, delay_settles, delay_init_refused}
use Rattle.sig_parse.proofs.RefusedPrimaries.{atom_refused, parentheses_too_deep, parentheses_inside, parentheses_end}

-- What an operator takes.

right_above : (op : BinOp) → (right_level op ≡ suc (binary_level op)) × (right_level op ≤ delay_level)
right_above OpDefault = (refl, omega arith)
right_above _ = (refl, omega arith)

-- behind the right operand
pub binary_stops : (o : Infix) (op : BinOp) (n : ℕ) (leaves : List Leaf) → o ≡ Binary op → n ≡ right_level op → StopsBefore (ContinuesExpression n) leaves → StopsBefore (ContinuesStep (infix_level o)) leaves
binary_stops o op n leaves is_op is_level stops =
    rw is_op (stops_smaller (ContinuesExpression (right_level op)) (ContinuesStep (binary_level op)) go leaves (subst (λ (m : ℕ). StopsBefore (ContinuesExpression m) leaves) is_level stops))
  where
    go : (t : Terminal) → ContinuesStep (binary_level op) t → ContinuesExpression (right_level op) t
    go t (inl is) = inl (subst (λ (m : ℕ). StandsBehind m t) (sym (right_above op).0) is)
    go t (inr (within, continues)) = inr ((right_above op).1, continues)

pub binary_reads : (o : Infix) (op : BinOp) (at : Span) (n depth : ℕ) (right : Expression) {s t : State} → o ≡ Binary op → n ≡ right_level op → Reads (IsAtLevel both_limits n depth right) (operators right) s t → ReadsStep depth o at s t
binary_reads o op at n depth right {s} {t} is_op is_level r = subst (λ (p : Infix). ReadsStep depth p at s t) (sym is_op) (record {
  step = WithOperand op right at;
  back = r.front;
  split = r.split;
  is = (r.front, refl, refl, subst (λ (m : ℕ). IsAtLevel both_limits m depth right r.front) is_level r.is);
  counted = omega (arith, r.counted);
})

pub cell_reads : (o : Infix) (at : Span) (depth : ℕ) (held : Expression) (init : Constant) {s t u : State} → o ≡ Cell → Reads (IsAtLevel both_limits primary_level depth held) (operators held) s t → Reads (IsInit init) 0 t u → ReadsStep depth o at s u
cell_reads o at depth held init {s} {t} {u} is_op r q = subst (λ (p : Infix). ReadsStep depth p at s u) (sym is_op) (record {
  step = WithCell held init at;
  back = r.front ++ q.front;
  split = r.split ∙ ap (λ ls. r.front ++ ls) q.split ∙ sym (append_assoc r.front q.front u.leaves);
  is = (r.front, q.front, refl, refl, r.is, q.is);
  counted = omega (arith, r.counted, q.counted);
})

pub delay_reads : (o : Infix) (at : Span) (depth : ℕ) (init : Option Constant) {s t u : State} → o ≡ DelayOp → Reads IsOptionalOne 0 s t → Reads (IsOptionalInit init) 0 t u → ReadsStep depth o at s u
delay_reads o at depth init {s} {t} {u} is_op r q = subst (λ (p : Infix). ReadsStep depth p at s u) (sym is_op) (record {
  step = WithDelay init at;
  back = r.front ++ q.front;
  split = r.split ∙ ap (λ ls. r.front ++ ls) q.split ∙ sym (append_assoc r.front q.front u.leaves);
  is = (r.front, q.front, refl, refl, r.is, q.is);
  counted = omega (arith, r.counted, q.counted);
})

-- what is refused of it
abbrev pub StepLifts : (Part : Limits → List Leaf → Type 0) (PartContinues : Terminal → Type 0) (here : List Leaf) (o : Infix) (at : Span) (depth used : ℕ) (behind : List Leaf) → Type 0
StepLifts Part PartContinues here o at depth used behind = Lifts Part PartContinues here (InStep (infix_level o) depth used) (ContinuesStep (infix_level o)) (leaf (infix_terminal o) at ∷ behind)

pub binary_lifts : (o : Infix) (op : BinOp) (at : Span) (n depth used count : ℕ) (here : List Leaf) → o ≡ Binary op → n ≡ right_level op → count ≡ suc used
    → StepLifts (InLevel n depth count) (ContinuesExpression n) here o at depth used here
binary_lifts o op at n depth used count here is_op is_level is_count = subst (λ (p : Infix). StepLifts (InLevel n depth count) (ContinuesExpression n) here p at depth used here) (sym is_op)
    (λ cause after r. step_operand (binary_level op) depth used op at refl cause here after
    (subst (λ (m : ℕ). Refuses (InLevel m depth (suc used)) (ContinuesExpression m) cause here after) is_level (subst (λ (m : ℕ). Refuses (InLevel n depth m) (ContinuesExpression n) cause here after) is_count r)))

pub held_lifts : (o : Infix) (at : Span) (depth used count : ℕ) (here : List Leaf) → o ≡ Cell → count ≡ suc used → StepLifts (InLevel primary_level depth count) (ContinuesExpression primary_level) here o at depth used here
held_lifts o at depth used count here is_op is_count = subst (λ (p : Infix). StepLifts (InLevel primary_level depth count) (ContinuesExpression primary_level) here p at depth used here) (sym is_op)
    (λ cause after r. step_held mixed_level depth used at refl cause here after (subst (λ (m : ℕ). Refuses (InLevel primary_level depth m) (ContinuesExpression primary_level) cause here after) is_count r))

pub init_lifts : (o : Infix) (at : Span) (depth used : ℕ) (held : Expression) {s t : State} → o ≡ Cell → s.operators ≡ suc used → s.operators ≤ 512 → Reads (IsAtLevel both_limits primary_level depth held) (operators held) s t
    → StepLifts InInit ContinuesNothing t.leaves o at depth used s.leaves
init_lifts o at depth used held {s} {t} is_op is_count few r = subst (λ (p : Infix). StepLifts InInit ContinuesNothing t.leaves p at depth used s.leaves) (sym is_op)
    (λ cause after q. subst (λ (b : List Leaf). Refuses (InStep mixed_level depth used) (ContinuesStep mixed_level) cause (leaf (word (codes "cell")) at ∷ b) after) (sym r.split)
    (step_init mixed_level depth used at refl held r.front r.is (let most = r.few few in omega (arith, r.counted)) cause t.leaves after q))

pub cell_wrong : (o : Infix) (at : Span) (depth used : ℕ) (held : Expression) (init : Constant) {s t u : State} → o ≡ Cell → s.operators ≡ suc used → s.operators ≤ 512
    → Reads (IsAtLevel both_limits primary_level depth held) (operators held) s t → Reads (IsInit init) 0 t u → StartsWith (ContinuesStep mixed_level) u.leaves
    → Refuses (InStep (infix_level o) depth used) (ContinuesStep (infix_level o)) Wrong (leaf (infix_terminal o) at ∷ s.leaves) u.leaves
cell_wrong o at depth used held init {s} {t} {u} is_op is_count few r q starts =
    let split : s.leaves ≡ (r.front ++ q.front) ++ u.leaves = r.split ∙ ap (λ ls. r.front ++ ls) q.split ∙ sym (append_assoc r.front q.front u.leaves) in
    let k = cell_settles mixed_level depth used at held r.front init q.front (leaf (word (codes "cell")) at ∷ s.leaves) u.leaves r.is q.is (ap (λ ls. leaf (word (codes "cell")) at ∷ ls) split) in
    let same = append_cancel_right (leaf (word (codes "cell")) at ∷ (r.front ++ q.front)) k.passed u.leaves (sym (ap (λ ls. leaf (word (codes "cell")) at ∷ ls) split) ∙ k.split) in
    let most = r.few few in
    let step : InStep mixed_level depth used both_limits (leaf (word (codes "cell")) at ∷ (r.front ++ q.front)) = (WithCell held init at, (r.front, q.front, refl, refl, r.is, q.is), λ kept. omega (arith, r.counted)) in
    subst (λ (p : Infix). Refuses (InStep (infix_level p) depth used) (ContinuesStep (infix_level p)) Wrong (leaf (infix_terminal p) at ∷ s.leaves) u.leaves) (sym is_op)
    (settled_wrong (InStep mixed_level depth used) (ContinuesStep mixed_level) (leaf (word (codes "cell")) at ∷ s.leaves) u.leaves k
    ([], subst (λ (l : List Leaf). InStep mixed_level depth used both_limits l) (same ∙ sym (append-nil k.passed)) step) starts)

pub cell_refuses : (o : Infix) (at : Span) (depth used : ℕ) (held : Expression) {s t u : State} → o ≡ Cell → s.operators ≡ suc used → s.operators ≤ 512 → Reads (IsAtLevel both_limits primary_level depth held) (operators held) s t
    → (why : Refusal) → Refuses InInit ContinuesNothing (cause_of why) t.leaves u.leaves ⊎ ((init : Constant) × Reads (IsInit init) 0 t u × (why ≡ Syntax) × StartsWith (ContinuesStep mixed_level) u.leaves)
    → Refuses (InStep (infix_level o) depth used) (ContinuesStep (infix_level o)) (cause_of why) (leaf (infix_terminal o) at ∷ s.leaves) u.leaves
cell_refuses o at depth used held {u = u} is_op is_count few r why (inl refused) = init_lifts o at depth used held is_op is_count few r (cause_of why) u.leaves refused
cell_refuses o at depth used held is_op is_count few r why (inr (init, q, is_syntax, starts)) = wrong why is_syntax (cell_wrong o at depth used held init is_op is_count few r q starts)

pub delay_lifts : (o : Infix) (at : Span) (depth used : ℕ) {s t : State} → o ≡ DelayOp → s.operators ≡ suc used → s.operators ≤ 512 → Reads IsOptionalOne 0 s t → Settles InOptionalOne (λ u. u ≡ number 1) s.leaves t.leaves
    → StepLifts InOptionalInit ContinuesInit t.leaves o at depth used s.leaves
delay_lifts o at depth used {s} {t} is_op is_count few r k = subst (λ (p : Infix). StepLifts InOptionalInit ContinuesInit t.leaves p at depth used s.leaves) (sym is_op)
    (delay_init_refused delay_level depth used at s.leaves t.leaves (leaf (mark (codes "$")) at ∷ s.leaves) k
    (subst (λ (l : List Leaf). IsOptionalOne l) (append_cancel_right r.front k.passed t.leaves (sym r.split ∙ k.split)) r.is) refl (omega arith) refl)

pub delay_wrong : (o : Infix) (at : Span) (depth used : ℕ) (init : Option Constant) {s t u : State} → o ≡ DelayOp → s.operators ≡ suc used → s.operators ≤ 512
    → Reads IsOptionalOne 0 s t → Settles InOptionalOne (λ v. v ≡ number 1) s.leaves t.leaves → Reads (IsOptionalInit init) 0 t u → Settles InOptionalInit ContinuesInit t.leaves u.leaves → StartsWith (ContinuesStep delay_level) u.leaves
    → Refuses (InStep (infix_level o) depth used) (ContinuesStep (infix_level o)) Wrong (leaf (infix_terminal o) at ∷ s.leaves) u.leaves
delay_wrong o at depth used init {s} {t} {u} is_op is_count few r k q j starts =
    let one : IsOptionalOne k.passed = subst (λ (l : List Leaf). IsOptionalOne l) (append_cancel_right r.front k.passed t.leaves (sym r.split ∙ k.split)) r.is in
    let last : IsOptionalInit init j.passed = subst (λ (l : List Leaf). IsOptionalInit init l) (append_cancel_right q.front j.passed u.leaves (sym q.split ∙ j.split)) q.is in
    let settled = delay_settles delay_level depth used at s.leaves t.leaves u.leaves (leaf (mark (codes "$")) at ∷ s.leaves) k j refl refl in
    let split : s.leaves ≡ (k.passed ++ j.passed) ++ u.leaves = k.split ∙ ap (λ ls. k.passed ++ ls) j.split ∙ sym (append_assoc k.passed j.passed u.leaves) in
    let same = append_cancel_right (leaf (mark (codes "$")) at ∷ (k.passed ++ j.passed)) settled.passed u.leaves (sym (ap (λ ls. leaf (mark (codes "$")) at ∷ ls) split) ∙ settled.split) in
    let step : InStep delay_level depth used both_limits (leaf (mark (codes "$")) at ∷ (k.passed ++ j.passed)) = (WithDelay init at, (k.passed, j.passed, refl, refl, one, last), λ kept. omega arith) in
    subst (λ (p : Infix). Refuses (InStep (infix_level p) depth used) (ContinuesStep (infix_level p)) Wrong (leaf (infix_terminal p) at ∷ s.leaves) u.leaves) (sym is_op)
    (settled_wrong (InStep delay_level depth used) (ContinuesStep delay_level) (leaf (mark (codes "$")) at ∷ s.leaves) u.leaves settled
    ([], subst (λ (l : List Leaf). InStep delay_level depth used both_limits l) (same ∙ sym (append-nil settled.passed)) step) starts)

-- behind a cell, and behind a delay
pub step_stops : (o other : Infix) (n : ℕ) (leaves : List Leaf) → o ≡ other → infix_level other ≡ n → StopsBefore (ContinuesStep n) leaves → StopsBefore (ContinuesStep (infix_level o)) leaves
step_stops o other n leaves is_op is_level stops = subst (λ (m : ℕ). StopsBefore (ContinuesStep m) leaves) (sym (ap infix_level is_op ∙ is_level)) stops

-- what is said of an equal expression, and of an equal operator
pub completes_as : (depth : ℕ) (left : Expression) (o : Infix) (at : Span) (x e : Expression) {s t : State} → e ≡ x → Completes depth left o at x s t → Completes depth left o at e s t
completes_as depth left o at x e {s} {t} same c = subst (λ (y : Expression). Completes depth left o at y s t) (sym same) c

pub completes_at : (depth : ℕ) (left : Expression) (o other : Infix) (at : Span) (e : Expression) {s t : State} → o ≡ other → Completes depth left other at e s t → Completes depth left o at e s t
completes_at depth left o other at e {s} {t} same c = subst (λ (p : Infix). Completes depth left p at e s t) (sym same) c

pub step_at : (depth : ℕ) (o other : Infix) (at : Span) {s t : State} → o ≡ other → ReadsStep depth other at s t → ReadsStep depth o at s t
step_at depth o other at {s} {t} same r = subst (λ (p : Infix). ReadsStep depth p at s t) (sym same) r

pub delay_refuses : (o : Infix) (at : Span) (depth used : ℕ) {cause : Cause} {here after : List Leaf} → o ≡ DelayOp → Refuses (InStep delay_level depth used) (ContinuesStep delay_level) cause (leaf (infix_terminal DelayOp) at ∷ here) after
    → Refuses (InStep (infix_level o) depth used) (ContinuesStep (infix_level o)) cause (leaf (infix_terminal o) at ∷ here) after
delay_refuses o at depth used {cause} {here} {after} same r = subst (λ (p : Infix). Refuses (InStep (infix_level p) depth used) (ContinuesStep (infix_level p)) cause (leaf (infix_terminal p) at ∷ here) after) (sym same) r

-- Operands.

-- an operator before its operand that is refused where it stands
pub prefix_here : (level depth used : ℕ) (here : List Leaf) (why : Refusal) → used ≤ 512
    → (op : UnOp) × (unary_level op ≡ level) × StartsWith (λ t. t ≡ unary_terminal op) here × (((why ≡ Nesting) × (64 ≤ depth)) ⊎ ((why ≡ Operators) × (depth < 64) × (512 ≤ used)))
    → Refuses (InOperand level depth used) (ContinuesExpression (suc level)) (cause_of why) here here
prefix_here level depth used [] why few (op, own, starts, how) = absurd starts
prefix_here level depth used (l ∷ more) why few (op, own, starts, how) = go how where
  whole : leaf (unary_terminal op) l.at ≡ l
  whole = ap (λ t. leaf t l.at) (sym starts)

  at_cause : (w : Refusal) → why ≡ w → Refuses (InOperand level depth used) (ContinuesExpression (suc level)) (cause_of w) (leaf (unary_terminal op) l.at ∷ more) (leaf (unary_terminal op) l.at ∷ more)
      → Refuses (InOperand level depth used) (ContinuesExpression (suc level)) (cause_of why) (l ∷ more) (l ∷ more)
  at_cause w is r = subst (λ (v : Refusal). Refuses (InOperand level depth used) (ContinuesExpression (suc level)) (cause_of v) (l ∷ more) (l ∷ more)) (sym is)
      (subst (λ (m : Leaf). Refuses (InOperand level depth used) (ContinuesExpression (suc level)) (cause_of w) (m ∷ more) (m ∷ more)) whole r)

  go : ((why ≡ Nesting) × (64 ≤ depth)) ⊎ ((why ≡ Operators) × (depth < 64) × (512 ≤ used)) → Refuses (InOperand level depth used) (ContinuesExpression (suc level)) (cause_of why) (l ∷ more) (l ∷ more)
  go (inl (is, deep)) = at_cause Nesting is (prefix_too_deep level depth used op l.at more own deep few)
  go (inr (is, shallow, full)) = at_cause Operators is (prefix_too_many level depth used op l.at more own shallow (omega arith))

-- what is refused of its operand
pub prefix_lifts : (op : UnOp) (at : Span) (n level depth inner : ℕ) {s t : State} → unary_level op ≡ level → depth < 64 → inner ≡ suc depth → n ≡ operand_level op → Reads (IsLeaf (unary_terminal op) at) 1 s t
    → Lifts (InLevel n inner t.operators) (ContinuesExpression n) t.leaves (InOperand level depth s.operators) (ContinuesExpression (suc level)) s.leaves
prefix_lifts op at n level depth inner {s} {t} own shallow is_inner is_level r = λ cause after q.
    subst (λ (b : List Leaf). Refuses (InOperand level depth s.operators) (ContinuesExpression (suc level)) cause b after) (sym (leaf_split r))
    (prefix_operand level depth s.operators op at own shallow cause t.leaves after
    (subst (λ (m : ℕ). Refuses (InLevel m (suc depth) (suc s.operators)) (ContinuesExpression m) cause t.leaves after) is_level
    (subst (λ (d : ℕ). Refuses (InLevel n d (suc s.operators)) (ContinuesExpression n) cause t.leaves after) is_inner
    (subst (λ (count : ℕ). Refuses (InLevel n inner count) (ContinuesExpression n) cause t.leaves after) (omega (arith, r.counted)) q))))

pub prefix_stops : (op : UnOp) (n level : ℕ) (leaves : List Leaf) → unary_level op ≡ level → n ≡ operand_level op → StopsBefore (ContinuesExpression n) leaves → StopsBefore (ContinuesExpression (suc level)) leaves
prefix_stops op n level leaves own is_level stops = stops_smaller (ContinuesExpression (operand_level op)) (ContinuesExpression (suc level)) (operand_continues_more op level own) leaves
    (subst (λ (m : ℕ). StopsBefore (ContinuesExpression m) leaves) is_level stops)

pub prefixed_operand : (op : UnOp) (level : ℕ) (e x : Expression) (at : Span) (n depth inner : ℕ) {s t u : State}
    → unary_level op ≡ level → depth < 64 → inner ≡ suc depth → x ≡ e → n ≡ operand_level op
    → Reads (IsLeaf (unary_terminal op) at) 1 s t → Reads (IsAtLevel both_limits n inner e) (operators e) t u
    → Reads (IsOperand both_limits level depth (Unary op x at)) (1 + operators x) s u
prefixed_operand op level e x at n depth inner own shallow is_inner same is_level q r =
    rw same (after_leaf (IsOperand both_limits level depth (Unary op e at)) (1 + operators e) refl
    (λ back is. inl (
      op,
      e,
      at,
      back,
      own,
      refl,
      refl,
      (λ kept. shallow),
      subst (λ (d : ℕ). IsAtLevel both_limits (operand_level op) d e back) is_inner (subst (λ (m : ℕ). IsAtLevel both_limits m inner e back) is_level is),
    ))
    q r)

-- an operand that is an expression of the next level
pub tighter_reads : (level next : Level) (depth : ℕ) (e : Expression) {s t : State} → IsTighter next level
    → Reads (IsAtLevel both_limits (level_number next) depth e) (operators e) s t → Reads (IsOperand both_limits (level_number level) depth e) (operators e) s t
tighter_reads level next depth e tight r = viewed (IsOperand both_limits (level_number level) depth e)
    (λ front is. inr (inl (omega (arith, tight.next_is, tight.within), subst (λ (n : ℕ). IsAtLevel both_limits n depth e front) tight.next_is is))) r

pub tighter_lifts : (level next : Level) (depth used : ℕ) (here : List Leaf) → IsTighter next level → ((op : UnOp) → unary_level op ≡ level_number level → StopsBefore (λ t. t ≡ unary_terminal op) here)
    → Lifts (InLevel (level_number next) depth used) (ContinuesExpression (level_number next)) here (InOperand (level_number level) depth used) (ContinuesExpression (suc (level_number level))) here
tighter_lifts level next depth used here tight no_prefix = λ cause after r. tighter_operand (level_number level) depth used (omega (arith, tight.next_is, tight.within)) cause here after no_prefix
    (subst (λ (n : ℕ). Refuses (InLevel n depth used) (ContinuesExpression n) cause here after) tight.next_is r)

-- the same where the parser stands
pub tighter_refuses : (level next : Level) (depth : ℕ) (after : List Leaf) (why : Refusal) {s t : State} → t ≡ s → IsTighter next level → ((op : UnOp) → unary_level op ≡ level_number level → StopsBefore (λ u. u ≡ unary_terminal op) s.leaves)
    → (t.operators ≤ 512 → IsOfText why → Refuses (InLevel (level_number next) depth t.operators) (ContinuesExpression (level_number next)) (cause_of why) t.leaves after)
    → s.operators ≤ 512 → IsOfText why → Refuses (InOperand (level_number level) depth s.operators) (ContinuesExpression (suc (level_number level))) (cause_of why) s.leaves after
tighter_refuses level next depth after why {s} {t} same tight no_prefix refuses few text =
    let there = subst (λ (x : State). x.operators ≤ 512 → IsOfText why → Refuses (InLevel (level_number next) depth x.operators) (ContinuesExpression (level_number next)) (cause_of why) x.leaves after) same refuses in
    tighter_lifts level next depth s.operators s.leaves tight no_prefix (cause_of why) after (there few text)

pub primary_refuses : (level : Level) (depth : ℕ) (after : List Leaf) (why : Refusal) {s t : State} → t ≡ s → level ≡ Primary → ((op : UnOp) → unary_level op ≡ level_number level → StopsBefore (λ u. u ≡ unary_terminal op) s.leaves)
    → (t.operators ≤ 512 → StopsBefore (λ u. u ≡ mark (codes "^")) t.leaves → IsOfText why → Refuses (InOperand primary_level depth t.operators) (ContinuesExpression (suc primary_level)) (cause_of why) t.leaves after)
    → s.operators ≤ 512 → IsOfText why → Refuses (InOperand (level_number level) depth s.operators) (ContinuesExpression (suc (level_number level))) (cause_of why) s.leaves after
primary_refuses level depth after why {s} {t} same is_primary no_prefix refuses few text =
    let there = subst (λ (x : State). x.operators ≤ 512 → StopsBefore (λ u. u ≡ mark (codes "^")) x.leaves → IsOfText why
    → Refuses (InOperand primary_level depth x.operators) (ContinuesExpression (suc primary_level)) (cause_of why) x.leaves after) same refuses in
    let number : primary_level ≡ level_number level = ap level_number (sym is_primary) in
    subst (λ (n : ℕ). Refuses (InOperand n depth s.operators) (ContinuesExpression (suc n)) (cause_of why) s.leaves after) number (there few (no_prefix UnaryClock number) text)

-- Names, numbers, truths and parentheses.

no_beginning : (here : List Leaf) → StopsBefore (λ t. t ≡ mark (codes "^")) here → StopsBefore (λ t. t ≡ mark (codes "(")) here → StopsBefore BeginsAtom here → StopsBefore (BeginsExpression primary_level) here
no_beginning [] no_clock no_opening no_atom = tt
no_beginning (l ∷ here) no_clock no_opening no_atom = go where
  prefix : (op : UnOp) → l.terminal ≡ unary_terminal op → primary_level ≤ unary_level op → ⊥
  prefix UnaryClock e within = no_clock e
  prefix _ e within = omega arith

  go : BeginsExpression primary_level l.terminal → ⊥
  go (inl (inl (op, e, within))) = prefix op e within
  go (inl (inr e)) = no_opening e
  go (inr atom) = no_atom atom

pub no_atom_here : (depth used : ℕ) (here : List Leaf) → used ≤ 512 → StopsBefore (λ t. t ≡ mark (codes "^")) here → StopsBefore (λ t. t ≡ mark (codes "(")) here → StopsBefore BeginsAtom here
    → Refuses (InOperand primary_level depth used) (ContinuesExpression (suc primary_level)) Wrong here here
no_atom_here depth used here few no_clock no_opening no_atom = atom_refused depth used few here (no_beginning here no_clock no_opening no_atom)

pub opening_too_deep : (depth used : ℕ) (here : List Leaf) → 64 ≤ depth → used ≤ 512 → StartsWith (λ t. t ≡ mark (codes "(")) here
    → Refuses (InOperand primary_level depth used) (ContinuesExpression (suc primary_level)) TooDeep here here
opening_too_deep depth used [] deep few starts = absurd starts
opening_too_deep depth used (l ∷ more) deep few starts =
    subst (λ (m : Leaf). Refuses (InOperand primary_level depth used) (ContinuesExpression (suc primary_level)) TooDeep (m ∷ more) (m ∷ more)) (ap (λ t. leaf t l.at) (sym starts))
    (parentheses_too_deep depth used deep few l.at more)

pub starts_and_stops : (Begins : Terminal → Type 0) (leaves : List Leaf) → StartsWith Begins leaves → StopsBefore Begins leaves → ⊥
starts_and_stops Begins [] starts stops = starts
starts_and_stops Begins (l ∷ leaves) starts stops = stops starts

pub inside_lifts : (depth inner : ℕ) (opened : Span) {s t : State} → depth < 64 → inner ≡ suc depth → Reads (IsLeaf (mark (codes "(")) opened) 0 s t
    → Lifts (InLevel default_level inner t.operators) (ContinuesExpression default_level) t.leaves (InOperand primary_level depth s.operators) (ContinuesExpression (suc primary_level)) s.leaves
inside_lifts depth inner opened {s} {t} shallow is_inner r = λ cause after q.
    subst (λ (b : List Leaf). Refuses (InOperand primary_level depth s.operators) (ContinuesExpression (suc primary_level)) cause b after) (sym (leaf_split r))
    (parentheses_inside depth s.operators shallow opened cause t.leaves after
    (subst (λ (d : ℕ). Refuses (InLevel default_level d s.operators) (ContinuesExpression default_level) cause t.leaves after) is_inner
    (subst (λ (count : ℕ). Refuses (InLevel default_level inner count) (ContinuesExpression default_level) cause t.leaves after) (omega (arith, r.counted)) q)))

pub closing_lifts : (depth inner : ℕ) (opened : Span) (e : Expression) {s t u : State} → depth < 64 → inner ≡ suc depth → s.operators ≤ 512 → Reads (IsLeaf (mark (codes "(")) opened) 0 s t
    → Reads (IsAtLevel both_limits default_level inner e) (operators e) t u → StopsBefore (ContinuesExpression default_level) u.leaves
    → Lifts (InLeaf (mark (codes ")"))) ContinuesNothing u.leaves (InOperand primary_level depth s.operators) (ContinuesExpression (suc primary_level)) s.leaves
closing_lifts depth inner opened e {s} {t} {u} shallow is_inner few r q stops = λ cause after p.
    subst (λ (b : List Leaf). Refuses (InOperand primary_level depth s.operators) (ContinuesExpression (suc primary_level)) cause b after)
    (sym (leaf_split r ∙ ap (λ ls. leaf (mark (codes "(")) opened ∷ ls) q.split))
    (parentheses_end depth s.operators shallow opened e q.front (subst (λ (d : ℕ). IsAtLevel both_limits default_level d e q.front) is_inner q.is) (let most = q.few (r.few few) in omega (arith, q.counted, r.counted)) cause u.leaves after stops p)

pub parenthesised_operand : (e : Expression) (depth inner n : ℕ) (opened closed : Span) {s t u v : State} → depth < 64 → inner ≡ suc depth
    → Reads (IsLeaf (mark (codes "(")) opened) 0 s t → Reads (IsAtLevel both_limits default_level inner e) n t u
    → Reads (IsLeaf (mark (codes ")")) closed) 0 u v → Reads (IsOperand both_limits primary_level depth e) n s v
parenthesised_operand e depth inner n opened closed shallow is_inner before re behind =
    let Inside : List Leaf → Type 0 = λ ls. (inside : List Leaf) × (ls ≡ inside ++ leaf (mark (codes ")")) closed ∷ []) × IsAtLevel both_limits default_level (suc depth) e inside in
    after_leaf (IsOperand both_limits primary_level depth e) n (omega arith)
    (λ back d. inr (inr (refl, inr ((λ kept. shallow), (opened, closed, d.0, ap (λ ls. leaf (mark (codes "(")) opened ∷ ls) d.1, d.2)))))
    before
    (joined Inside n (omega arith)
    (λ front back is one. (front, ap (λ b. front ++ b) one, subst (λ (d : ℕ). IsAtLevel both_limits default_level d e front) is_inner is)) re behind)

pub atom_operand : (depth : ℕ) (e : Expression) {s t : State} → Reads (IsAtom e) (operators e) s t → Reads (IsOperand both_limits primary_level depth e) (operators e) s t
atom_operand depth e r = viewed (IsOperand both_limits primary_level depth e) (λ front is. inr (inr (refl, inl is))) r

-- An expression of a level: its operand, and its operators with what they take.

-- what is refused behind so many operators, with so many in the equation, is refused of the expression
abbrev pub BehindSteps : (level depth used taken count : ℕ) (here before : List Leaf) → Type 0
BehindSteps level depth used taken count here before = Lifts (InSteps level depth taken count) (ContinuesExpression level) here (InLevel level depth used) (ContinuesExpression level) before

pub behind_operand : (level depth : ℕ) (x : Expression) {s t : State} → level ≤ primary_level → Reads (IsOperand both_limits level depth x) (operators x) s t → StopsBefore (ContinuesExpression (suc level)) t.leaves
    → BehindSteps level depth s.operators 0 t.operators t.leaves s.leaves
behind_operand level depth x {s} {t} within r stops = λ cause after q.
    subst (λ (b : List Leaf). Refuses (InLevel level depth s.operators) (ContinuesExpression level) cause b after) (sym r.split)
    (level_from_steps level depth s.operators within x r.front r.is cause t.leaves after stops
    (subst (λ (n : ℕ). Refuses (InSteps level depth 0 n) (ContinuesExpression level) cause t.leaves after) r.counted q))

pub behind_more : (level depth used taken : ℕ) (op : Infix) (at : Span) (before : List Leaf) {t u v : State} → infix_level op ≡ level → BehindSteps level depth used taken t.operators t.leaves before
    → Reads (IsLeaf (infix_terminal op) at) 1 t u → ReadsStep depth op at u v → StopsBefore (ContinuesStep (infix_level op)) v.leaves
    → BehindSteps level depth used (suc taken) v.operators v.leaves before
behind_more level depth used taken op at before {t} {u} {v} own lift r d stops = λ cause after q.
    lift cause after (subst (λ (b : List Leaf). Refuses (InSteps level depth taken t.operators) (ContinuesExpression level) cause b after)
    (sym (leaf_split r ∙ ap (λ ls. leaf (infix_terminal op) at ∷ ls) d.split))
    (steps_from_steps level depth taken t.operators d.step (leaf (infix_terminal op) at ∷ d.back) (subst (λ (n : ℕ). IsStep both_limits n depth d.step (leaf (infix_terminal op) at ∷ d.back)) own d.is)
    cause v.leaves after (subst (λ (n : ℕ). StopsBefore (ContinuesStep n) v.leaves) own stops)
    (subst (λ (n : ℕ). Refuses (InSteps level depth (suc taken) n) (ContinuesExpression level) cause v.leaves after) (omega (arith, r.counted, d.counted)) q)))

pub behind_operator : (level depth used taken : ℕ) (op : Infix) (at : Span) (before : List Leaf) {t u : State} → infix_level op ≡ level → AreSoMany level (suc taken) → BehindSteps level depth used taken t.operators t.leaves before
    → Reads (IsLeaf (infix_terminal op) at) 1 t u
    → Lifts (InStep (infix_level op) depth t.operators) (ContinuesStep (infix_level op)) (leaf (infix_terminal op) at ∷ u.leaves) (InLevel level depth used) (ContinuesExpression level) before
behind_operator level depth used taken op at before {t} {u} own many lift r = λ cause after q.
    lift cause after (subst (λ (b : List Leaf). Refuses (InSteps level depth taken t.operators) (ContinuesExpression level) cause b after) (sym (leaf_split r))
    (steps_from_step level depth taken t.operators (leaf (infix_terminal op) at) u.leaves (of_level level (infix_terminal op) (op, refl, own)) many cause after
    (subst (λ (n : ℕ). Refuses (InStep n depth t.operators) (ContinuesStep n) cause (leaf (infix_terminal op) at ∷ u.leaves) after) own q)))

-- refusals of the next token there
pub tighter_wrong : (level depth taken used : ℕ) (here : List Leaf) → used ≤ 512 → AreSoMany level (suc taken) → StartsWith (ContinuesStep level) here
    → Refuses (InSteps level depth taken used) (ContinuesExpression level) Wrong here here
tighter_wrong level depth taken used [] few many starts = absurd starts
tighter_wrong level depth taken used (l ∷ more) few many starts =
    steps_stop level depth taken used few l more (tighter_continues level l.terminal starts)
    (inl (λ (i, e, own). not_tighter i level (omega arith) (subst (λ (t : Terminal). ContinuesStep level t) e starts))) (λ relation. let most = many relation in omega arith)

pub relation_wrong : (level depth taken used : ℕ) (here : List Leaf) → level ≡ relation_level → used ≤ 512 → AreSoMany level (suc taken) → StartsWith (IsOperatorOf relation_level) here
    → Refuses (InSteps level depth (suc taken) used) (ContinuesExpression level) Wrong here here
relation_wrong level depth taken used [] relation few many starts = absurd starts
relation_wrong level depth taken used (l ∷ more) relation few many starts =
    steps_stop level depth (suc taken) used few l more (operator_continues level l.terminal (subst (λ (n : ℕ). IsOperatorOf n l.terminal) (sym relation) starts))
    (inr (λ so. let most : suc (suc taken) ≤ 1 = so relation in omega arith)) many

pub too_many_here : (level depth taken used : ℕ) (here : List Leaf) → used ≤ 512 → 512 ≤ used → AreSoMany level (suc taken) → StartsWith (IsOperatorOf level) here
    → Refuses (InSteps level depth taken used) (ContinuesExpression level) TooMany here here
too_many_here level depth taken used [] few full many starts = absurd starts
too_many_here level depth taken used (l ∷ more) few full many (op, e, own) =
    subst (λ (m : Leaf). Refuses (InSteps level depth taken used) (ContinuesExpression level) TooMany (m ∷ more) (m ∷ more)) (ap (λ t. leaf t l.at) (sym (e ∙ same_terminal op)))
    (steps_too_many level depth taken used (omega arith) (in_tree op) l.at more (sym (same_level op) ∙ own) many)

-- of the relations there is at most one, and of other operators any number
pub relation_number : (level : Level) → level_number level ≡ relation_level → level ≡ Relation
relation_number level e = one_level level Relation e

pub any_number : (level : Level) (taken : ℕ) → (level ≡ Relation → ⊥) → AreSoMany (level_number level) taken
any_number level taken other relation = absurd (other (relation_number level relation))

pub at_most_one : (level : ℕ) → AreSoMany level 1
at_most_one level relation = omega arith

pub within_levels : (level : Level) → level_number level ≤ primary_level
within_levels Relation = omega arith
within_levels _ = omega arith

-- Where the parser stands behind an operand and some operators of its level.
pub record Climbs (level : Level) (depth : ℕ) (left : Expression) (before now : State) : Type 0 where
  pub reads : Reads (IsAtLevel both_limits (first_level level) depth left) (operators left) before now
  pub shorter : Shorter before now
  pub taken : ℕ
  pub many : AreSoMany (level_number level) (suc taken)
  pub lifts : BehindSteps (level_number level) depth before.operators taken now.operators now.leaves before.leaves
  pub stops : StopsBefore (ContinuesStep (level_number level)) now.leaves
