-- Expressions are read, or refuse a token, at each level and inside however many constructs: by how many leaves
-- are left, and by the level.
use Rattle.sig_parse.proofs.Common.{◌≡◌, ◌+◌, ◌<◌, ◌≤◌, ◌⊎◌, ℕ, zero, suc, List, [], ◌∷◌, length, length-append, codes, true, false, arith, inl, inr, refl, sym, ap, ◌∙◌, subst, Span, UnOp, Clock, BinOp, Expression, Named, Number, Truth, Unary, Leaf, leaf, word, number, mark, unary_terminal, unary_level, operand_level, right_level, default_level, mixed_level, relation_level, delay_level, primary_level, both_limits, operators, IsAtLevel, IsAtom, IsOperand, StartsWith, StopsBefore, BeginsName, ContinuesExpression, stops_smaller, State, Reads, Shorter, IsLeaf, Wrong, TooDeep, TooMany, InLevel, InOperand, InStep, Level, Relation, Primary, Infix, Binary as BinaryOp, Cell as CellOp, Delay as DelayOp, Nesting, Operators, level_number, first_level, infix_terminal, infix_level, IsTighter, IsOperatorOf, ContinuesStep, BeginsAtom, ReadsStep, Completes, cases_lt}
use Rattle.sig_tree.specs.Syntax.{Binary, Delay, Cell}
use Rattle.sig_parse.proofs.NextLeaf.{Taken, taken, missing, take, TakenOne, taken_one, missing_one, take_one_of, TakenName, taken_name, missing_name, take_name, dec_digits, starts_or_not}
use Rattle.sig_parse.proofs.NextOperators.{dec_prefix, dec_operator, dec_step, infix_at, next_level, right_is, operand_is, dec_relation}
use Rattle.sig_parse.proofs.Verdicts.{Verdict, read, refused, behind, seen}
use Rattle.sig_parse.proofs.VerdictsOfLeaves.{expected, init_verdict, optional_init_verdict, OneRead, one_read, take_optional_one}
use Rattle.sig_parse.proofs.AheadLemmas.{leaf_is}
use Rattle.sig_parse.proofs.Joins.{viewed}
use Rattle.sig_parse.proofs.OperatorLemmas.{level_from, level_ends, continues_falls}
use Rattle.sig_parse.proofs.RefusedSteps.{no_primary}
use Rattle.sig_parse.proofs.Steps.{whole, step, again, step_shorter, at_binary, at_cell, at_delay, enclosed, prefixed, of_tighter}
use Rattle.sig_parse.proofs.LiftedRefusals.{leaf_split}
use Rattle.sig_parse.proofs.RefusedLevels.{level_from_operand}
use Rattle.sig_parse.proofs.RefusedExpressions.{binary_stops, binary_reads, cell_reads, delay_reads, binary_lifts, held_lifts, init_lifts, cell_wrong, delay_lifts, delay_wrong, prefix_here, prefix_lifts, prefix_stops, prefixed_operand, tighter_reads, tighter_lifts, no_atom_here, opening_too_deep, inside_lifts, closing_lifts, parenthesised_operand, atom_operand, behind_operand, behind_more, behind_operator, tighter_wrong, relation_wrong, too_many_here, any_number, at_most_one, within_levels, Climbs}

-- ---- what is read

abbrev pub LevelRead : Level → ℕ → State → Expression → State → Type 0
LevelRead level depth s e t = Reads (IsAtLevel both_limits (level_number level) depth e) (operators e) s t × Shorter s t × StopsBefore (ContinuesExpression (level_number level)) t.leaves

abbrev pub LevelVerdict : Level → ℕ → State → Type 0
LevelVerdict level depth s = Verdict (LevelRead level depth s) (InLevel (level_number level) depth s.operators) (ContinuesExpression (level_number level)) s.leaves

-- where fewer leaves are left than so many
abbrev pub Levels : ℕ → Type 0
Levels n = (level : Level) (depth : ℕ) (s : State) → length s.leaves < n → s.operators ≤ 512 → LevelVerdict level depth s

abbrev OperandRead : Level → ℕ → State → Expression → State → Type 0
OperandRead level depth s e t = Reads (IsAtLevel both_limits (first_level level) depth e) (operators e) s t × Shorter s t × Reads (IsOperand both_limits (level_number level) depth e) (operators e) s t
    × StopsBefore (ContinuesExpression (suc (level_number level))) t.leaves

abbrev OperandVerdict : Level → ℕ → State → Type 0
OperandVerdict level depth s = Verdict (OperandRead level depth s) (InOperand (level_number level) depth s.operators) (ContinuesExpression (suc (level_number level))) s.leaves

abbrev StepRead : ℕ → Expression → Infix → Span → State → Expression → State → Type 0
StepRead depth left op at s e t = Completes depth left op at e s t × ReadsStep depth op at s t × StopsBefore (ContinuesStep (infix_level op)) t.leaves

abbrev StepVerdict : ℕ → ℕ → Expression → Infix → Span → State → Type 0
StepVerdict depth used left op at s = Verdict (StepRead depth left op at s) (InStep (infix_level op) depth used) (ContinuesStep (infix_level op)) (leaf (infix_terminal op) at ∷ s.leaves)

-- ---- names, numbers, truths

nothing_follows : (leaves : List Leaf) → StopsBefore (ContinuesExpression (suc primary_level)) leaves
nothing_follows leaves = stops_smaller (ContinuesExpression primary_level) (ContinuesExpression (suc primary_level)) (continues_falls primary_level (suc primary_level) (omega arith)) leaves (no_primary leaves)

module _ (depth : ℕ) (s : State) (few : s.operators ≤ 512) (no_clock : StopsBefore (λ t. t ≡ mark (codes "^")) s.leaves) where
  atom_read : (e : Expression) (t : State) → ((leaves : List Leaf) → IsAtom e leaves → IsAtLevel both_limits primary_level depth e leaves) → Reads (IsAtom e) (operators e) s t → Shorter s t → OperandVerdict Primary depth s
  atom_read e t stands r shorter = read e t (viewed (IsAtLevel both_limits primary_level depth e) stands r, shorter, atom_operand depth e r, nothing_follows t.leaves)

  no_atom : (leaves : List Leaf) → StopsBefore (λ t. (n : ℕ) × (t ≡ number n)) leaves → StopsBefore (λ t. t ≡ word (codes "true")) leaves → StopsBefore (λ t. t ≡ word (codes "false")) leaves → StopsBefore BeginsName leaves → StopsBefore BeginsAtom leaves
  no_atom [] no_number no_true no_false no_name = tt
  no_atom (l ∷ leaves) no_number no_true no_false no_name = go where
    go : BeginsAtom l.terminal → ⊥
    go (inl digits) = no_number digits
    go (inr (inl (true, e))) = no_true e
    go (inr (inl (false, e))) = no_false e
    go (inr (inr is_name)) = no_name is_name

  module _ (no_opening : StopsBefore (λ t. t ≡ mark (codes "(")) s.leaves) where
    with_name : StopsBefore (λ t. (n : ℕ) × (t ≡ number n)) s.leaves → StopsBefore (λ t. t ≡ word (codes "true")) s.leaves → StopsBefore (λ t. t ≡ word (codes "false")) s.leaves → TakenName s → OperandVerdict Primary depth s
    with_name no_number no_true no_false (taken_name n u r shorter) = atom_read (Named n) u (λ leaves is. (zero, (omega arith, is))) r shorter
    with_name no_number no_true no_false (missing_name no_name) = refused Wrong s.leaves (no_atom_here depth s.operators s.leaves few no_clock no_opening (no_atom s.leaves no_number no_true no_false no_name))

    with_false : StopsBefore (λ t. (n : ℕ) × (t ≡ number n)) s.leaves → StopsBefore (λ t. t ≡ word (codes "true")) s.leaves → Taken (word (codes "false")) s → OperandVerdict Primary depth s
    with_false no_number no_true (taken at u r shorter) = atom_read (Truth false at) u (λ leaves is. (zero, (omega arith, is))) r shorter
    with_false no_number no_true (missing no_false) = with_name no_number no_true no_false (take_name s)

    with_true : StopsBefore (λ t. (n : ℕ) × (t ≡ number n)) s.leaves → Taken (word (codes "true")) s → OperandVerdict Primary depth s
    with_true no_number (taken at u r shorter) = atom_read (Truth true at) u (λ leaves is. (zero, (omega arith, is))) r shorter
    with_true no_number (missing no_true) = with_false no_number no_true (take (word (codes "false")) s)

    with_number : TakenOne number s → OperandVerdict Primary depth s
    with_number (taken_one n at u r shorter) = atom_read (Number n at) u (λ leaves is. (zero, (omega arith, is))) r shorter
    with_number (missing_one no_number) = with_true no_number (take (word (codes "true")) s)

    atom : OperandVerdict Primary depth s
    atom = with_number (take_one_of number dec_digits s)

-- ---- where shorter leaves have a verdict

module _ (n : ℕ) (rec : Levels n) where
  -- in parentheses
  parenthesised : (depth : ℕ) (s t : State) (opened : Span) → length s.leaves < suc n → s.operators ≤ 512 → depth < 64 → Reads (IsLeaf (mark (codes "(")) opened) 0 s t → Shorter s t → OperandVerdict Primary depth s
  parenthesised depth s t opened within few shallow q short =
      behind (rec level_default (suc depth) t (omega (arith, within, short)) (q.few few)) (λ cause after r. inside_lifts depth (suc depth) opened shallow refl q cause after r) (λ e u r.
      seen (expected (mark (codes ")")) u) (λ cause after p. closing_lifts depth (suc depth) opened e shallow refl few q r.0 r.2 cause after p) (λ closed. e) (λ closed v p. (
        enclosed e primary_level depth (suc depth) (operators e) opened closed shallow refl q r.0 p.0,
        omega (arith, short, r.1, p.1),
        parenthesised_operand e depth (suc depth) (operators e) opened closed shallow refl q r.0 p.0,
        nothing_follows v.leaves,
      )))
    where
      level_default : Level
      level_default = level_from default_level

  primary : (depth : ℕ) (s : State) → length s.leaves < suc n → s.operators ≤ 512 → StopsBefore (λ t. t ≡ mark (codes "^")) s.leaves → OperandVerdict Primary depth s
  primary depth s within few no_clock = at (take (mark (codes "(")) s) (cases_lt depth 64) where
    at : Taken (mark (codes "(")) s → (depth < 64) ⊎ (64 ≤ depth) → OperandVerdict Primary depth s
    at (missing no_opening) shallow = atom depth s few no_clock no_opening
    at (taken opened t q short) (inl shallow) = parenthesised depth s t opened within few shallow q short
    at (taken opened t q short) (inr deep) = refused TooDeep s.leaves (opening_too_deep depth s.operators s.leaves deep few
        (subst (λ (ls : List Leaf). StartsWith (λ v. v ≡ mark (codes "(")) ls) (sym (leaf_split q)) refl))

  -- an operator before its operand
  behind_prefix : (level : Level) (depth : ℕ) (s : State) → length s.leaves < suc n → s.operators ≤ 512 → (op : UnOp) → unary_level op ≡ level_number level → (l : Leaf) (rest : List Leaf) → s.leaves ≡ l ∷ rest → l.terminal ≡ unary_terminal op
      → (depth < 64) ⊎ (64 ≤ depth) → (s.operators < 512) ⊎ (512 ≤ s.operators) → OperandVerdict level depth s
  behind_prefix level depth s within few op own l rest e same shallow space = at shallow space where
    starts : StartsWith (λ t. t ≡ unary_terminal op) s.leaves
    starts = subst (λ (ls : List Leaf). StartsWith (λ t. t ≡ unary_terminal op) ls) (sym e) same

    begun : State
    begun = record { leaves = rest; operators = suc s.operators }

    go : depth < 64 → s.operators < 512 → (begun : State) → Reads (IsLeaf (unary_terminal op) l.at) 1 s begun → Shorter s begun → OperandVerdict level depth s
    go less more begun q short = seen (rec (level_from (operand_level op)) (suc depth) begun (omega (arith, within, short)) (omega (arith, more, q.counted)))
        (λ cause after r. prefix_lifts op l.at (level_number (level_from (operand_level op))) (level_number level) depth (suc depth) own less refl (operand_is op) q cause after r) (λ x. Unary op x l.at) (λ x t r. (
          prefixed op level x x l.at (level_number (level_from (operand_level op))) depth (suc depth) own less refl refl (operand_is op) q r.0,
          omega (arith, short, r.1),
          prefixed_operand op (level_number level) x x l.at (level_number (level_from (operand_level op))) depth (suc depth) own less refl refl (operand_is op) q r.0,
          prefix_stops op (level_number (level_from (operand_level op))) (level_number level) t.leaves own (operand_is op) r.2,
        ))

    at : (depth < 64) ⊎ (64 ≤ depth) → (s.operators < 512) ⊎ (512 ≤ s.operators) → OperandVerdict level depth s
    at (inr deep) space = refused TooDeep s.leaves (prefix_here (level_number level) depth s.operators s.leaves Nesting few (op, own, starts, inl (refl, deep)))
    at (inl less) (inr full) = refused TooMany s.leaves (prefix_here (level_number level) depth s.operators s.leaves Operators few (op, own, starts, inr (refl, less, full)))
    at (inl less) (inl more) = go less more (record { leaves = rest; operators = suc s.operators })
        (record { front = leaf (unary_terminal op) l.at ∷ []; split = e ∙ ap (λ (m : Leaf). m ∷ rest) (leaf_is l (unary_terminal op) same); is = refl; counted = omega arith; few = λ h. omega (arith, more) })
        (omega (arith, ap length e))

  -- ---- what an operator takes

  module _ (depth used : ℕ) (left : Expression) (at : Span) (s : State) (counts : s.operators ≡ suc used) (few : s.operators ≤ 512) (within : length s.leaves < n) where
    with_operand : (op : BinOp) → StepVerdict depth used left (BinaryOp op) at s
    with_operand op =
        let level = level_number (level_from (right_level op)) in
        seen (rec (level_from (right_level op)) depth s within few) (λ cause after r. binary_lifts (BinaryOp op) op at level depth used s.operators s.leaves refl (right_is op) counts cause after r) (λ right. Binary op left right at) (λ right t r. (
          at_binary (BinaryOp op) op left left right right at level depth refl refl refl (right_is op) r.0,
          binary_reads (BinaryOp op) op at level depth right refl (right_is op) r.0,
          binary_stops (BinaryOp op) op level t.leaves refl (right_is op) r.2,
        ))

    with_cell : StepVerdict depth used left CellOp at s
    with_cell =
        behind (rec Primary depth s within few) (λ cause after r. held_lifts CellOp at depth used s.operators s.leaves refl counts cause after r) (λ held t r.
        behind (init_verdict t) (λ cause after q. init_lifts CellOp at depth used held refl counts few r.0 cause after q) (λ init u q.
        elim (starts_or_not (ContinuesStep mixed_level) (dec_step mixed_level) u.leaves) [
          | inl starts ↦ refused Wrong u.leaves (cell_wrong CellOp at depth used held init refl counts few r.0 q.0 starts)
          | inr stops ↦ read (Cell left held init at) u (at_cell CellOp left left held held init at depth refl refl refl r.0 q.0, cell_reads CellOp at depth held init refl r.0 q.0, stops)
        ]))

    with_delay : StepVerdict depth used left DelayOp at s
    with_delay = go (take_optional_one s) where
      go : OneRead s → StepVerdict depth used left DelayOp at s
      go (one_read t r k) =
          behind (optional_init_verdict t) (λ cause after q. delay_lifts DelayOp at depth used refl counts few r k cause after q) (λ init u q.
          elim (starts_or_not (ContinuesStep delay_level) (dec_step delay_level) u.leaves) [
            | inl starts ↦ refused Wrong u.leaves (delay_wrong DelayOp at depth used init refl counts few r k q.0 q.1 starts)
            | inr stops ↦ read (Delay left init at) u (at_delay DelayOp left left init at depth refl refl r q.0, delay_reads DelayOp at depth init refl r q.0, stops)
          ])

    completed : (op : Infix) → StepVerdict depth used left op at s
    completed (BinaryOp op) = with_operand op
    completed CellOp = with_cell
    completed DelayOp = with_delay

  -- ---- an expression of a level

  module _ (level : Level) (depth : ℕ) (s : State) (few : s.operators ≤ 512) where
    ended : (left : Expression) (now : State) → Climbs level depth left s now → StopsBefore (IsOperatorOf (level_number level)) now.leaves → LevelVerdict level depth s
    ended left now c none = read left now (whole level depth left c.reads, c.shorter, level_ends (level_number level) now.leaves c.stops none)

    module _ (left : Expression) (now : State) (c : Climbs level depth left s now) (op : Infix) (own : infix_level op ≡ level_number level) (l : Leaf) (rest : List Leaf) (e : now.leaves ≡ l ∷ rest) (same : l.terminal ≡ infix_terminal op) where
      full : 512 ≤ now.operators → LevelVerdict level depth s
      full most = refused TooMany now.leaves (c.lifts TooMany now.leaves (too_many_here (level_number level) depth c.taken now.operators now.leaves (c.reads.few few) most c.many
          (subst (λ (ls : List Leaf). StartsWith (IsOperatorOf (level_number level)) ls) (sym e) (op, same, own))))

      module _ (begun : State) (q : Reads (IsLeaf (infix_terminal op) l.at) 1 now begun) (x : Expression) (u : State) (r : StepRead depth left op l.at begun x u) where
        step_read : Reads (IsAtLevel both_limits (level_number level) depth x) (operators x) s u
        step_read = step level depth left op l.at x c.reads (infix_at level op own) q r.0

        step_short : Shorter s u
        step_short = step_shorter s c.shorter q r.0

        stopped : StopsBefore (ContinuesStep (level_number level)) u.leaves
        stopped = subst (λ (m : ℕ). StopsBefore (ContinuesStep m) u.leaves) own r.2

        climbed : (level ≡ Relation → ⊥) → Climbs level depth x s u
        climbed other = record {
          reads = again level depth x other step_read;
          shorter = step_short;
          taken = suc c.taken;
          many = any_number level (suc (suc c.taken)) other;
          lifts = behind_more (level_number level) depth s.operators c.taken op l.at s.leaves own c.lifts q r.1 r.2;
          stops = stopped;
        }

        -- behind a relation stands no relation
        related : level ≡ Relation → StartsWith (IsOperatorOf relation_level) u.leaves ⊎ StopsBefore (IsOperatorOf relation_level) u.leaves → LevelVerdict level depth s
        related is (inl starts) = refused Wrong u.leaves (behind_more (level_number level) depth s.operators c.taken op l.at s.leaves own c.lifts q r.1 r.2 Wrong u.leaves
            (relation_wrong (level_number level) depth c.taken u.operators u.leaves (ap level_number is) (r.0.few (q.few (c.reads.few few))) c.many starts))
        related is (inr stops) = read x u (
          step_read,
          step_short,
          level_ends (level_number level) u.leaves stopped
              (subst (λ (m : ℕ). StopsBefore (IsOperatorOf m) u.leaves) (sym (ap level_number is)) stops),
        )

      further : length now.leaves < suc n → now.operators < 512 → ((x : Expression) (u : State) → length u.leaves < length now.leaves → Climbs level depth x s u → LevelVerdict level depth s) → LevelVerdict level depth s
      further within more next = go (record { leaves = rest; operators = suc now.operators })
          (record { front = leaf (infix_terminal op) l.at ∷ []; split = e ∙ ap (λ (m : Leaf). m ∷ rest) (leaf_is l (infix_terminal op) same); is = refl; counted = omega arith; few = λ h. omega (arith, more) })
          (omega (arith, ap length e)) (omega arith) (omega (arith, more))
        where
          go : (begun : State) → Reads (IsLeaf (infix_terminal op) l.at) 1 now begun → Shorter now begun → begun.operators ≡ suc now.operators → begun.operators ≤ 512 → LevelVerdict level depth s
          go begun q short counts fits =
              behind (completed depth now.operators left l.at begun counts fits (omega (arith, within, short)) op)
              (λ cause after r. behind_operator (level_number level) depth s.operators c.taken op l.at s.leaves own c.many c.lifts q cause after r)
              (λ x u r. elim (dec_relation level) [
                | yes is ↦ related begun q x u r is (starts_or_not (IsOperatorOf relation_level) (dec_operator relation_level) u.leaves)
                | no other ↦ next x u (omega (arith, short, ap length r.0.split, length-append r.0.back u.leaves)) (climbed begun q x u r other)
              ])

    loop : (m : ℕ) (left : Expression) (now : State) → length now.leaves < m → length now.leaves < suc n → Climbs level depth left s now → LevelVerdict level depth s
    loop zero left now less within c = absurd (omega (arith, less))
    loop (suc m) left now less within c = at now.leaves refl (λ x u shorter climbs. loop m x u (omega (arith, shorter, less)) (omega (arith, shorter, within)) climbs) where
      by : (l : Leaf) (rest : List Leaf) → now.leaves ≡ l ∷ rest → (op : Infix) → l.terminal ≡ infix_terminal op → infix_level op ≡ level_number level
          → ((x : Expression) (u : State) → length u.leaves < length now.leaves → Climbs level depth x s u → LevelVerdict level depth s) → (now.operators < 512) ⊎ (512 ≤ now.operators) → LevelVerdict level depth s
      by l rest e op same own next (inl more) = further left now c op own l rest e same within more next
      by l rest e op same own next (inr most) = full left now c op own l rest e same most

      at : (leaves : List Leaf) → now.leaves ≡ leaves → ((x : Expression) (u : State) → length u.leaves < length now.leaves → Climbs level depth x s u → LevelVerdict level depth s) → LevelVerdict level depth s
      at [] e next = ended left now c (subst (λ (ls : List Leaf). StopsBefore (IsOperatorOf (level_number level)) ls) (sym e) tt)
      at (l ∷ rest) e next = elim (dec_operator (level_number level) l.terminal) [
        | yes found ↦ by l rest e found.0 found.1 found.2 next (cases_lt now.operators 512)
        | no none ↦ ended left now c (subst (λ (ls : List Leaf). StopsBefore (IsOperatorOf (level_number level)) ls) (sym e) none)
      ]

    -- from the operand on
    from_operand : length s.leaves < suc n → OperandVerdict level depth s → LevelVerdict level depth s
    from_operand within v =
        behind v (λ cause after r. level_from_operand (level_number level) depth s.operators (within_levels level) cause s.leaves after r) (λ x t r.
        elim (starts_or_not (ContinuesStep (level_number level)) (dec_step (level_number level)) t.leaves) [
          | inl starts ↦ refused Wrong t.leaves (behind_operand (level_number level) depth x (within_levels level) r.2 r.3 Wrong t.leaves
              (tighter_wrong (level_number level) depth 0 t.operators t.leaves (r.2.few few) (at_most_one (level_number level)) starts))
          | inr stops ↦ loop (suc n) x t (omega (arith, within, r.1)) (omega (arith, within, r.1)) (record {
            reads = r.0;
            shorter = r.1;
            taken = 0;
            many = at_most_one (level_number level);
            lifts = behind_operand (level_number level) depth x (within_levels level) r.2 r.3;
            stops = stops;
          })
        ])

    -- the operand, where the next tighter level has a verdict
    tighter : (next : Level) → IsTighter next level → ((op : UnOp) → unary_level op ≡ level_number level → StopsBefore (λ t. t ≡ unary_terminal op) s.leaves) → LevelVerdict next depth s → OperandVerdict level depth s
    tighter next tight no_prefix v = seen v (λ cause after r. tighter_lifts level next depth s.operators s.leaves tight no_prefix cause after r) (λ e. e) (λ e t r. (
      of_tighter level next depth e tight r.0,
      r.1,
      tighter_reads level next depth e tight r.0,
      subst (λ (m : ℕ). StopsBefore (ContinuesExpression m) t.leaves) tight.next_is r.2,
    ))

  -- ---- all levels, from the tightest on

  operand_at : (level : Level) (depth : ℕ) (s : State) → length s.leaves < suc n → s.operators ≤ 512
      → (((op : UnOp) → unary_level op ≡ level_number level → StopsBefore (λ t. t ≡ unary_terminal op) s.leaves) → OperandVerdict level depth s) → OperandVerdict level depth s
  operand_at level depth s within few inner = at s.leaves refl where
    at : (leaves : List Leaf) → s.leaves ≡ leaves → OperandVerdict level depth s
    at [] e = inner (λ op own. subst (λ (ls : List Leaf). StopsBefore (λ t. t ≡ unary_terminal op) ls) (sym e) tt)
    at (l ∷ rest) e = elim (dec_prefix (level_number level) l.terminal) [
      | yes found ↦ behind_prefix level depth s within few found.0 found.1.0 l rest e found.1.1 (cases_lt depth 64) (cases_lt s.operators 512)
      | no none ↦ inner (λ op own. subst (λ (ls : List Leaf). StopsBefore (λ t. t ≡ unary_terminal op) ls) (sym e) (λ same. none (op, (own, same))))
    ]

  at_primary : (level : Level) (depth : ℕ) (s : State) → level ≡ Primary → length s.leaves < suc n → s.operators ≤ 512 → LevelVerdict level depth s
  at_primary level depth s is within few = from_operand level depth s few within (operand_at level depth s within few (λ no_prefix.
      subst (λ (l : Level). OperandVerdict l depth s) (sym is) (primary depth s within few (no_prefix Clock (ap level_number (sym is))))))

  at_levels : (k : ℕ) (level : Level) (depth : ℕ) (s : State) → primary_level ≤ level_number level + k → length s.leaves < suc n → s.operators ≤ 512 → LevelVerdict level depth s
  at_levels zero level depth s up within few = at (next_level level) where
    at : (level ≡ Primary) ⊎ ((next : Level) × IsTighter next level) → LevelVerdict level depth s
    at (inl is) = at_primary level depth s is within few
    at (inr (next, tight)) = absurd (omega (arith, up, tight.next_is, tight.within))
  at_levels (suc k) level depth s up within few = at (next_level level) (λ next tight. at_levels k next depth s (omega (arith, up, tight.next_is)) within few) where
    at : (level ≡ Primary) ⊎ ((next : Level) × IsTighter next level) → ((next : Level) → IsTighter next level → LevelVerdict next depth s) → LevelVerdict level depth s
    at (inl is) rest = at_primary level depth s is within few
    at (inr (next, tight)) rest = from_operand level depth s few within (operand_at level depth s within few (λ no_prefix. tighter level depth s few next tight no_prefix (rest next tight)))

pub levels : (n : ℕ) → Levels n
levels zero level depth s within few = absurd (omega (arith, within))
levels (suc n) level depth s within few = at_levels n (levels n) 11 level depth s (omega arith) within few

pub level_verdict : (level : Level) (depth : ℕ) (s : State) → s.operators ≤ 512 → LevelVerdict level depth s
level_verdict level depth s few = levels (suc (length s.leaves)) level depth s (omega arith) few
