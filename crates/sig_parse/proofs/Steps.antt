-- The steps of reading an expression.
use Rattle.sig_parse.proofs.Common.{◌≡◌, ◌++◌, ◌+◌, ◌≤◌, ◌<◌, ℕ, suc, List, [], ◌∷◌, codes, length, length-append, Option, refl, sym, ap, subst, arith, Span, Constant, UnOp, Not, BinOp, Expression, Unary, Leaf, leaf, mark, unary_terminal, default_level, primary_level, unary_level, operand_level, right_level, both_limits, operators, IsInit, IsOptionalInit, IsOptionalOne, IsAtLevel, Level, Relation, Infix, Binary as BinaryOp, Cell as CellOp, Delay as DelayOp, State, Reads, Shorter, IsLeaf, level_number, first_level, infix_terminal, IsTighter, IsInfix, Completes}
use Rattle.sig_tree.specs.Syntax.{Binary, Delay, Cell}
use Rattle.sig_parse.proofs.Joins.{joined, viewed, after_leaf, no_longer}
use Rattle.sig_parse.proofs.ExpressionParts.{looser, parenthesised, unary, completes_binary, completes_cell, completes_delay, completed}

pub below_first : (level : Level) → level_number level ≤ first_level level
below_first Relation = omega arith
below_first level = omega arith

pub first_below : (level : Level) → first_level level ≤ suc (level_number level)
first_below Relation = omega arith
first_below level = omega arith

pub same_first : (level : Level) → (level ≡ Relation → ⊥) → first_level level ≡ level_number level
same_first Relation other = absurd (other refl)
same_first level other = refl

not_relation : (op : UnOp) → unary_level op ≡ level_number Relation → ⊥
not_relation Not e = omega arith
not_relation _ e = omega arith

pub prefix_first : (op : UnOp) (level : Level) → unary_level op ≡ level_number level → first_level level ≡ unary_level op
prefix_first op Relation e = absurd (not_relation op e)
prefix_first op level e = sym e

-- the same, of a state that is the same
pub ends_at : {A : List Leaf → Type 0} {n : ℕ} {s t u : State} → u ≡ t → Reads A n s t → Reads A n s u
ends_at {A} {n} {s} e r = subst (λ (x : State). Reads A n s x) (sym e) r

pub begins_at : {A : List Leaf → Type 0} {n : ℕ} {s t u : State} → t ≡ s → Reads A n t u → Reads A n s u
begins_at {A} {n} {u = u} e r = subst (λ (x : State). Reads A n x u) e r

-- operands and operators of a level
pub whole : (level : Level) (depth : ℕ) (e : Expression) {s t : State}
    → Reads (IsAtLevel both_limits (first_level level) depth e) (operators e) s t → Reads (IsAtLevel both_limits (level_number level) depth e) (operators e) s t
whole level depth e r = viewed (IsAtLevel both_limits (level_number level) depth e)
    (λ front is. looser e (level_number level) (first_level level) depth front (below_first level) is) r

pub step : (level : Level) (depth : ℕ) (left : Expression) (op : Infix) (at : Span) (e : Expression) {s t u v : State}
    → Reads (IsAtLevel both_limits (first_level level) depth left) (operators left) s t
    → IsInfix op level (infix_terminal op) → Reads (IsLeaf (infix_terminal op) at) 1 t u → Completes depth left op at e u v
    → Reads (IsAtLevel both_limits (level_number level) depth e) (operators e) s v
step level depth left op at e {s} {t} {u} {v} r found q c =
    subst (λ (n : ℕ). Reads (IsAtLevel both_limits n depth e) (operators e) s v) found.level_is
    (completed depth left op at e (subst (λ (n : ℕ). Reads (IsAtLevel both_limits n depth left) (operators left) s t) (sym found.left_is) r) q c)

pub again : (level : Level) (depth : ℕ) (e : Expression) {s t : State} → (level ≡ Relation → ⊥)
    → Reads (IsAtLevel both_limits (level_number level) depth e) (operators e) s t → Reads (IsAtLevel both_limits (first_level level) depth e) (operators e) s t
again level depth e {s} {t} other r = subst (λ (n : ℕ). Reads (IsAtLevel both_limits n depth e) (operators e) s t) (sym (same_first level other)) r

pub step_shorter : {A : List Leaf → Type 0} {n depth : ℕ} {left e : Expression} {op : Infix} {at : Span} (s : State) {t u v : State}
    → Shorter s t → Reads A n t u → Completes depth left op at e u v → Shorter s v
step_shorter s {v = v} short r c = omega (arith, no_longer r, ap length c.split, length-append c.back v.leaves)

-- what completes an expression, where its parts are those that were read
pub at_binary : (o : Infix) (op : BinOp) (left l right r : Expression) (at : Span) (n depth : ℕ) {s t : State}
    → o ≡ BinaryOp op → l ≡ left → r ≡ right → n ≡ right_level op
    → Reads (IsAtLevel both_limits n depth right) (operators right) s t → Completes depth left o at (Binary op l r at) s t
at_binary o op left l right r at n depth {s} {t} eo el er en h =
    rw (eo, el, er) (completes_binary op left right at depth (subst (λ (m : ℕ). Reads (IsAtLevel both_limits m depth right) (operators right) s t) en h))

pub at_cell : (o : Infix) (left l held h : Expression) (init : Constant) (at : Span) (depth : ℕ) {s t u : State}
    → o ≡ CellOp → l ≡ left → h ≡ held
    → Reads (IsAtLevel both_limits primary_level depth held) (operators held) s t → Reads (IsInit init) 0 t u
    → Completes depth left o at (Cell l h init at) s u
at_cell o left l held h init at depth eo el eh r q = rw (eo, el, eh) (completes_cell left held init at depth r q)

pub at_delay : (o : Infix) (left l : Expression) (init : Option Constant) (at : Span) (depth : ℕ) {s t u : State}
    → o ≡ DelayOp → l ≡ left → Reads IsOptionalOne 0 s t → Reads (IsOptionalInit init) 0 t u
    → Completes depth left o at (Delay l init at) s u
at_delay o left l init at depth eo el r q = rw (eo, el) (completes_delay left init at depth r q)

-- an expression in parentheses
pub enclosed : (e : Expression) (w depth inner n : ℕ) (opened closed : Span) {s t u v : State} → depth < 64 → inner ≡ suc depth
    → Reads (IsLeaf (mark (codes "(")) opened) 0 s t → Reads (IsAtLevel both_limits default_level inner e) n t u
    → Reads (IsLeaf (mark (codes ")")) closed) 0 u v → Reads (IsAtLevel both_limits w depth e) n s v
enclosed e w depth inner n opened closed lt is_inner before re behind =
    let Inside : List Leaf → Type 0 = λ ls. (inside : List Leaf) × (ls ≡ inside ++ leaf (mark (codes ")")) closed ∷ []) × IsAtLevel both_limits default_level (suc depth) e inside in
    after_leaf (IsAtLevel both_limits w depth e) n (omega arith)
    (λ back d. subst (λ (ls : List Leaf). IsAtLevel both_limits w depth e (leaf (mark (codes "(")) opened ∷ ls)) (sym d.1) (parenthesised e w depth d.0 opened closed lt d.2))
    before
    (joined Inside n (omega arith)
    (λ front back is one. (front, ap (λ b. front ++ b) one, subst (λ (d : ℕ). IsAtLevel both_limits default_level d e front) is_inner is)) re behind)

-- an operator before its operand
pub prefixed : (op : UnOp) (level : Level) (e x : Expression) (at : Span) (n depth inner : ℕ) {s t u : State}
    → unary_level op ≡ level_number level → depth < 64 → inner ≡ suc depth → x ≡ e → n ≡ operand_level op
    → Reads (IsLeaf (unary_terminal op) at) 1 s t → Reads (IsAtLevel both_limits n inner e) (operators e) t u
    → Reads (IsAtLevel both_limits (first_level level) depth (Unary op x at)) (1 + operators x) s u
prefixed op level e x at n depth inner el lt is_inner ex en q r =
    rw (ex, prefix_first op level el) (after_leaf (IsAtLevel both_limits (unary_level op) depth (Unary op e at)) (1 + operators e) refl
    (λ back is. unary op e at depth back lt
    (subst (λ (d : ℕ). IsAtLevel both_limits (operand_level op) d e back) is_inner (subst (λ (m : ℕ). IsAtLevel both_limits m inner e back) en is)))
    q r)

-- an expression of the next level
pub of_tighter : (level next : Level) (depth : ℕ) (e : Expression) {s t : State} → IsTighter next level
    → Reads (IsAtLevel both_limits (level_number next) depth e) (operators e) s t → Reads (IsAtLevel both_limits (first_level level) depth e) (operators e) s t
of_tighter level next depth e tight r = viewed (IsAtLevel both_limits (first_level level) depth e)
    (λ front is. looser e (first_level level) (level_number next) depth front (omega (arith, tight.next_is, first_below level)) is) r
