-- The reader gives an expression from its leaves, whatever stands behind them, as long as that does not
-- continue it.
use Rattle.sig_tree.proofs.Common.{◌≡◌, ℕ, zero, suc, ◌≤◌, ◌++◌, List, [], ◌∷◌, Bool, true, false, refl, sym, ap, ◌∙◌, subst, codes, Option, None, Some, inl, inr, cond, arith, append_assoc, le-leb, lt-leb, Span, Constant, UnOp, Not, Expression, Named, Number, Truth, Unary, Binary, Delay, Cell, Terminal, Leaf, leaf, word, number, mark, truth_word, unary_terminal, default_level, mixed_level, delay_level, primary_level, unary_level, operand_level, binary_level, left_level, right_level, level_of, Limits, IsConstant, IsInit, IsOptionalInit, Enclosed, Stands, IsBare, IsAtLevel, StopsBefore, OneReading, ContinuesNothing, ContinuesInit, ContinuesDelay, ContinuesExpression}
use Rattle.sig_tree.proofs.SettledFunctions.{◌>>=◌, Settles, settles_now, settles_next, settles_bind, settles_once}
use Rattle.sig_tree.proofs.ListsThatStop.{stops_smaller, one_by_reader}
use Rattle.sig_tree.proofs.Operators.{Infix, OfTwo, OfCell, OfDelay, infix_terminal, infix_level, infix_of, infix_is, infix_found, infix_stands, no_infix, Tighter, not_tighter, tighter_grows, continues_tighter, tighter_continues, two_levels, one_level, operand_continues}
use Rattle.sig_tree.proofs.Reader.{Found, Task, From, Behind, AtPrefix, AtTruth, first_of, begun, completed, continued, step, run, closed, init_at, constant_at, optional_init_at, constant_read, init_read, optional_read, delay_read}

-- the reader stops where no operator of its level follows
stopped_at : (self : Task → List Leaf → Found Expression) (e : Expression) (level : ℕ) (l : Leaf) (rest : List Leaf) → (ContinuesExpression level l.terminal → ⊥)
    → (found : Option Infix) → infix_of l.terminal ≡ found → continued self level e found l rest ≡ Some (e, l ∷ rest)
stopped_at self e level l rest stops None none = refl
stopped_at self e level l rest stops (Some i) some =
    let looser : level ≤ infix_level i → ⊥ = λ tight. stops (inl (infix_stands level l.terminal i (infix_is l.terminal i some) tight)) in
    ap (λ b. cond b (completed self level e i l.at rest) (Some (e, l ∷ rest))) (lt-leb level (infix_level i) (omega arith))

pub stopped : (e : Expression) (level : ℕ) (back : List Leaf) → StopsBefore (ContinuesExpression level) back → Settles (λ n. run n (Behind level e) back) (Some (e, back))
stopped e level [] stops = settles_next (λ n. Some (e, [])) (λ n. run n (Behind level e) []) (Some (e, [])) (λ n. refl) (settles_now (Some (e, [])))
stopped e level (l ∷ rest) stops =
    settles_next (λ n. Some (e, l ∷ rest)) (λ n. run n (Behind level e) (l ∷ rest)) (Some (e, l ∷ rest))
    (λ n. stopped_at (run n) e level l rest stops (infix_of l.terminal) refl) (settles_now (Some (e, l ∷ rest)))

-- it takes an operator of its level or a tighter one
taken : (self : Task → List Leaf → Found Expression) (e : Expression) (level : ℕ) (i : Infix) (at : Span) (rest : List Leaf) → level ≤ infix_level i
    → step self (Behind level e) (leaf (infix_terminal i) at ∷ rest) ≡ completed self level e i at rest
taken self e level i at rest within =
    ap (λ o. continued self level e o (leaf (infix_terminal i) at) rest) (infix_found i)
    ∙ ap (λ b. cond b (completed self level e i at rest) (Some (e, leaf (infix_terminal i) at ∷ rest))) (le-leb level (infix_level i) within)

pub prefix_first : (op : UnOp) → first_of (unary_terminal op) ≡ AtPrefix op
prefix_first Not = refl
prefix_first _ = refl

pub truth_first : (truth : Bool) → first_of (truth_word truth) ≡ AtTruth truth
truth_first true = refl
truth_first false = refl

-- What the reader does with these leaves of an expression of a level: whatever stands behind, if nothing
-- there is tighter, it goes on behind the expression.
abbrev GoesOn : ℕ → Expression → List Leaf → Type 0
GoesOn own e front = (level : ℕ) → level ≤ own → (back : List Leaf) → StopsBefore (Tighter own) back
    → (value : Found Expression) → Settles (λ n. run n (Behind level e) back) value → Settles (λ n. run n (From level) (front ++ back)) value

-- a closing parenthesis continues nothing
closing_stops : (level : ℕ) (t : Terminal) → t ≡ mark (codes ")") → ContinuesExpression level t → ⊥
closing_stops level t e (inl is) = no_infix t (ap infix_of e) level is
closing_stops level t e (inr (low, inl f)) = let same : mark (codes ")") ≡ number 1 = sym e ∙ f in cc
closing_stops level t e (inr (low, inr f)) = let same : mark (codes ")") ≡ word (codes "init") = sym e ∙ f in cc

closing_looser : (level : ℕ) (t : Terminal) → t ≡ mark (codes ")") → Tighter level t → ⊥
closing_looser level t e is = closing_stops level t e (tighter_continues level t is)

-- nor does the `init` of a cell behind what holds it
pub init_looser : (t : Terminal) → t ≡ word (codes "init") → ContinuesExpression primary_level t → ⊥
init_looser t e (inl is) = no_infix t (ap infix_of e) primary_level is
init_looser t e (inr (low, delays)) = omega arith

pub init_stops : (c : Constant) (front back : List Leaf) → IsInit c front → (Continues : Terminal → Type 0) → ((t : Terminal) → t ≡ word (codes "init") → Continues t → ⊥) → StopsBefore Continues (front ++ back)
init_stops c front back (at, rest, e, is) Continues looser = subst (λ (l : List Leaf). StopsBefore Continues (l ++ back)) (sym e) (looser (word (codes "init")) refl)

module _ (limits : Limits) where
  enclosed_on : (e : Expression) → ((depth : ℕ) (front : List Leaf) → IsBare limits e depth front → GoesOn (level_of e) e front)
      → (parentheses wanted depth : ℕ) (front : List Leaf) → Enclosed limits (level_of e) (IsBare limits e) parentheses wanted depth front → GoesOn wanted e front
  enclosed_on e bare zero wanted depth front (tight, is) level within back stops value rest =
      bare depth front is level (omega arith) back (stops_smaller (Tighter wanted) (Tighter (level_of e)) (tighter_grows wanted (level_of e) tight) back stops) value rest
  enclosed_on e bare (suc parentheses) wanted depth front (may, (opened, closing, inside, same, is)) level within back stops value rest =
      let close = leaf (mark (codes ")")) closing in
      let open_leaf = leaf (mark (codes "(")) opened in
      let inner : Settles (λ n. run n (From default_level) (inside ++ close ∷ back)) (Some (e, close ∷ back)) =
      enclosed_on e bare parentheses default_level (suc depth) inside is default_level (omega arith) (close ∷ back) (closing_looser default_level close.terminal refl)
      (Some (e, close ∷ back)) (stopped e default_level (close ∷ back) (closing_stops default_level close.terminal refl)) in
      let whole : Settles (λ n. run n (From level) (open_leaf ∷ (inside ++ close ∷ back))) value =
      settles_next (λ n. run n (From default_level) (inside ++ close ∷ back) >>= λ r. closed r.1 >>= λ behind. run n (Behind level r.0) behind)
      (λ n. run n (From level) (open_leaf ∷ (inside ++ close ∷ back))) value (λ n. refl)
      (settles_bind (λ n. run n (From default_level) (inside ++ close ∷ back)) (λ n r. closed r.1 >>= λ behind. run n (Behind level r.0) behind) (e, close ∷ back) value inner rest) in
      subst (λ (l : List Leaf). Settles (λ n. run n (From level) l) value)
      (sym (ap (λ l. l ++ back) same ∙ ap (λ l. open_leaf ∷ l) (append_assoc inside (close ∷ []) back))) whole

  -- it reads an expression where one of a level is asked for
  stands_on : (e : Expression) → ((depth : ℕ) (front : List Leaf) → IsBare limits e depth front → GoesOn (level_of e) e front)
      → (wanted depth : ℕ) (front : List Leaf) → Stands limits (level_of e) (IsBare limits e) wanted depth front → GoesOn wanted e front
  stands_on e bare wanted depth front (parentheses, is) = enclosed_on e bare parentheses wanted depth front is

  -- from an operator on
  from_infix : (i : Infix) (at : Span) (left : Expression) (wanted level : ℕ) (front more back : List Leaf) → GoesOn wanted left front → infix_level i ≤ wanted → level ≤ infix_level i
      → (value : Found Expression) → Settles (λ n. completed (run n) level left i at (more ++ back)) value
      → Settles (λ n. run n (From level) ((front ++ leaf (infix_terminal i) at ∷ more) ++ back)) value
  from_infix i at left wanted level front more back goes tight within value rest =
      subst (λ (l : List Leaf). Settles (λ n. run n (From level) l) value) (sym (append_assoc front (leaf (infix_terminal i) at ∷ more) back))
      (goes level (omega arith) (leaf (infix_terminal i) at ∷ (more ++ back)) (not_tighter i wanted tight) value
      (settles_next (λ n. completed (run n) level left i at (more ++ back)) (λ n. run n (Behind level left) (leaf (infix_terminal i) at ∷ (more ++ back))) value
      (λ n. taken (run n) left level i at (more ++ back) within) rest))

  bare_on : (e : Expression) (depth : ℕ) (front : List Leaf) → IsBare limits e depth front → GoesOn (level_of e) e front
  bare_on (Named n) depth front is level within back stops value rest =
      subst (λ (l : List Leaf). Settles (λ n. run n (From level) (l ++ back)) value) (sym is)
      (settles_next (λ m. run m (Behind level (Named n)) back) (λ m. run m (From level) (leaf (Rattle.sig_tree.specs.Terminals.name n.text) n.at ∷ back)) value (λ m. refl) rest)
  bare_on (Number v at) depth front is level within back stops value rest =
      subst (λ (l : List Leaf). Settles (λ n. run n (From level) (l ++ back)) value) (sym is)
      (settles_next (λ m. run m (Behind level (Number v at)) back) (λ m. run m (From level) (leaf (number v) at ∷ back)) value (λ m. refl) rest)
  bare_on (Truth truth at) depth front is level within back stops value rest =
      subst (λ (l : List Leaf). Settles (λ n. run n (From level) (l ++ back)) value) (sym is)
      (settles_next (λ m. run m (Behind level (Truth truth at)) back) (λ m. run m (From level) (leaf (truth_word truth) at ∷ back)) value
      (λ m. ap (λ f. begun (run m) level f at back) (truth_first truth)) rest)
  bare_on (Unary op operand at) depth front (may, more, same, is) level within back stops value rest =
      let first : Settles (λ n. run n (From (operand_level op)) (more ++ back)) (Some (operand, back)) =
      stands_on operand (bare_on operand) (operand_level op) (suc depth) more is (operand_level op) (omega arith) back
      (stops_smaller (Tighter (unary_level op)) (Tighter (operand_level op)) (tighter_grows (unary_level op) (operand_level op) (one_level op)) back stops)
      (Some (operand, back))
      (stopped operand (operand_level op) back (stops_smaller (Tighter (unary_level op)) (ContinuesExpression (operand_level op)) (operand_continues op) back stops)) in
      subst (λ (l : List Leaf). Settles (λ n. run n (From level) (l ++ back)) value) (sym same)
      (settles_next (λ n. run n (From (operand_level op)) (more ++ back) >>= λ r. run n (Behind level (Unary op r.0 at)) r.1)
      (λ n. run n (From level) (leaf (unary_terminal op) at ∷ (more ++ back))) value
      (λ n. ap (λ f. begun (run n) level f at (more ++ back)) (prefix_first op))
      (settles_bind (λ n. run n (From (operand_level op)) (more ++ back)) (λ n r. run n (Behind level (Unary op r.0 at)) r.1) (operand, back) value first rest))
  bare_on (Binary op left right at) depth front (before, after, same, is_left, is_right) level within back stops value rest =
      let levels = two_levels op in
      let second : Settles (λ n. run n (From (right_level op)) (after ++ back)) (Some (right, back)) =
      stands_on right (bare_on right) (right_level op) depth after is_right (right_level op) (omega arith) back
      (stops_smaller (Tighter (binary_level op)) (Tighter (right_level op)) (tighter_grows (binary_level op) (right_level op) (omega (arith, levels.1))) back stops)
      (Some (right, back))
      (stopped right (right_level op) back (stops_smaller (Tighter (binary_level op)) (ContinuesExpression (right_level op)) (continues_tighter (binary_level op) (right_level op) levels.1) back stops)) in
      subst (λ (l : List Leaf). Settles (λ n. run n (From level) (l ++ back)) value) (sym same)
      (from_infix (OfTwo op) at left (left_level op) level before after back (stands_on left (bare_on left) (left_level op) depth before is_left) levels.0 within value
      (settles_bind (λ n. run n (From (right_level op)) (after ++ back)) (λ n r. run n (Behind level (Binary op left r.0 at)) r.1) (right, back) value second rest))
  bare_on (Delay operand init at) depth front (before, one, after, same, is_operand, is_one, is_init) level within back stops value rest =
      subst (λ (l : List Leaf). Settles (λ n. run n (From level) (l ++ back)) value) (sym same)
      (from_infix OfDelay at operand delay_level level before (one ++ after) back (stands_on operand (bare_on operand) delay_level depth before is_operand) (omega arith) within value
      (subst (λ (o : Found (Option Constant)). Settles (λ n. o >>= λ i. run n (Behind level (Delay operand i.0 at)) i.1) value)
      (sym (delay_read init one after back is_one is_init (stops_smaller (Tighter delay_level) ContinuesDelay (λ t is. inr (omega arith, is)) back stops))) rest))
  bare_on (Cell operand held init at) depth front (before, middle, after, same, is_operand, is_held, is_init) level within back stops value rest =
      let second : Settles (λ n. run n (From primary_level) ((middle ++ after) ++ back)) (Some (held, after ++ back)) =
      subst (λ (l : List Leaf). Settles (λ n. run n (From primary_level) l) (Some (held, after ++ back))) (sym (append_assoc middle after back))
      (stands_on held (bare_on held) primary_level depth middle is_held primary_level (omega arith) (after ++ back)
      (init_stops init after back is_init (Tighter primary_level) (λ t e is. init_looser t e (tighter_continues primary_level t is)))
      (Some (held, after ++ back))
      (stopped held primary_level (after ++ back) (init_stops init after back is_init (ContinuesExpression primary_level) init_looser))) in
      let third : Settles (λ n. init_at (after ++ back) >>= λ i. run n (Behind level (Cell operand held i.0 at)) i.1) value =
      subst (λ (o : Found Constant). Settles (λ n. o >>= λ i. run n (Behind level (Cell operand held i.0 at)) i.1) value) (sym (init_read init after back is_init)) rest in
      subst (λ (l : List Leaf). Settles (λ n. run n (From level) (l ++ back)) value) (sym same)
      (from_infix OfCell at operand mixed_level level before (middle ++ after) back (stands_on operand (bare_on operand) mixed_level depth before is_operand) (omega arith) within value
      (settles_bind (λ n. run n (From primary_level) ((middle ++ after) ++ back)) (λ n r. init_at r.1 >>= λ i. run n (Behind level (Cell operand r.0 i.0 at)) i.1) (held, after ++ back) value second third))

  -- an expression of a level
  pub expression_read : (e : Expression) (level depth : ℕ) (front back : List Leaf) → IsAtLevel limits level depth e front → StopsBefore (ContinuesExpression level) back
      → Settles (λ n. run n (From level) (front ++ back)) (Some (e, back))
  expression_read e level depth front back is stops =
      stands_on e (bare_on e) level depth front is level (omega arith) back (stops_smaller (ContinuesExpression level) (Tighter level) (tighter_continues level) back stops)
      (Some (e, back)) (stopped e level back stops)

  pub expression_once : (level depth : ℕ) → OneReading (IsAtLevel limits level depth) (ContinuesExpression level)
  expression_once level depth =
      one_by_reader (IsAtLevel limits level depth) (ContinuesExpression level) (λ leaves found. Settles (λ n. run n (From level) leaves) found)
      (λ leaves a b. settles_once (λ n. run n (From level) leaves) a b)
      (λ e front back is stops. expression_read e level depth front back is stops)

-- a reader that gives one thing
module _ {A : Type 0} (reader : List Leaf → Found A) (Is : A → List Leaf → Type 0) (Continues : Terminal → Type 0)
    (reads : (x : A) (front back : List Leaf) → Is x front → StopsBefore Continues back → reader (front ++ back) ≡ Some (x, back)) where
  read_once : OneReading Is Continues
  read_once = one_by_reader Is Continues (λ leaves found. reader leaves ≡ found) (λ leaves a b first second. sym first ∙ second) reads

pub constant_once : OneReading IsConstant ContinuesNothing
constant_once = read_once constant_at IsConstant ContinuesNothing (λ c front back is stops. constant_read c front back is)

pub init_once : OneReading IsInit ContinuesNothing
init_once = read_once init_at IsInit ContinuesNothing (λ c front back is stops. init_read c front back is)

pub optional_init_once : OneReading IsOptionalInit ContinuesInit
optional_init_once = read_once optional_init_at IsOptionalInit ContinuesInit optional_read
