-- A reader of constants and expressions. It reads what the grammar's expressions stand as, and more,
-- and goes down no deeper than a bound. It serves to show that they have one reading.
use Rattle.sig_tree.proofs.Common.{◌≡◌, ℕ, zero, suc, ◌++◌, List, [], ◌∷◌, Bool, true, false, leb, refl, sym, ap, ◌∙◌, codes, Option, None, Some, inl, inr, cond, pos, neg_ℤ, Span, Constant, Int, BoolConstant, Param, UnOp, Not, Neg, When as UnaryWhen, Clock, Expression, Named, Number, Truth, Unary, Binary, Delay, Cell, Terminal, Leaf, name, word, number, label, mark, truth_word, unary_terminal, default_level, primary_level, operand_level, right_level, IsConstant, IsInit, IsOptionalOne, IsOptionalInit, StopsBefore, ContinuesDelay, ContinuesInit}
use Rattle.sig_tree.proofs.ListsThatStop.{stops_smaller}
use Rattle.sig_tree.proofs.SettledFunctions.{◌>>=◌}
use Rattle.sig_tree.proofs.Operators.{is_terminal, terminal_same, Infix, OfTwo, OfCell, OfDelay, infix_level, infix_of}

-- what is read, and the leaves behind it
abbrev pub Found : Type 0 → Type 0
Found A = Option (A × List Leaf)

abbrev negative_by : Terminal → Span → List Leaf → Found Constant
negative_by (number n) at rest = Some (Int (neg_ℤ (pos n)) at, rest)
negative_by _ at rest = None

abbrev negative_at : Span → List Leaf → Found Constant
negative_at at [] = None
negative_at at (l ∷ rest) = negative_by l.terminal at rest

abbrev constant_by : Terminal → Span → List Leaf → Found Constant
constant_by (name text) at rest = Some (Param (record { text = text; at = at }), rest)
constant_by (word text) at rest = Some (BoolConstant (is_terminal (word (codes "true")) (word text)) at, rest)
constant_by (number n) at rest = Some (Int (pos n) at, rest)
constant_by (label text) at rest = None
constant_by (mark text) at rest = negative_at at rest

abbrev pub constant_at : List Leaf → Found Constant
constant_at [] = None
constant_at (l ∷ rest) = constant_by l.terminal l.at rest

-- behind one leaf
abbrev pub init_at : List Leaf → Found Constant
init_at [] = None
init_at (l ∷ rest) = constant_at rest

abbrev pub optional_init_at : List Leaf → Found (Option Constant)
optional_init_at [] = Some (None, [])
optional_init_at (l ∷ rest) = cond (is_terminal (word (codes "init")) l.terminal) (constant_at rest >>= λ r. Some (Some r.0, r.1)) (Some (None, l ∷ rest))

abbrev without_one : Terminal → List Leaf → List Leaf → List Leaf
without_one (number (suc zero)) all rest = rest
without_one _ all rest = all

abbrev pub skip_one : List Leaf → List Leaf
skip_one [] = []
skip_one (l ∷ rest) = without_one l.terminal (l ∷ rest) rest

abbrev pub closed : List Leaf → Option (List Leaf)
closed [] = None
closed (l ∷ rest) = cond (is_terminal (mark (codes ")")) l.terminal) (Some rest) None

-- what an expression begins with
pub data First : Type 0 where
  AtName : List ℕ → First
  AtNumber : ℕ → First
  AtTruth : Bool → First
  AtOpening : First
  AtPrefix : UnOp → First
  AtOther : First

abbrev first_among : List (Terminal × First) → Terminal → First
first_among [] t = AtOther
first_among (x ∷ xs) t = cond (is_terminal x.0 t) x.1 (first_among xs t)

abbrev firsts : List (Terminal × First)
firsts = (truth_word true, AtTruth true) ∷ (truth_word false, AtTruth false) ∷ (mark (codes "("), AtOpening)
    ∷ (unary_terminal Not, AtPrefix Not) ∷ (unary_terminal Neg, AtPrefix Neg) ∷ (unary_terminal UnaryWhen, AtPrefix UnaryWhen) ∷ (unary_terminal Clock, AtPrefix Clock) ∷ []

abbrev pub first_of : Terminal → First
first_of (name text) = AtName text
first_of (number n) = AtNumber n
first_of t = first_among firsts t

-- An expression whose operators behind an operand are of a level or tighter, from its first leaf or
-- from behind an expression on.
pub data Task : Type 0 where
  From : ℕ → Task
  Behind : ℕ → Expression → Task

module _ (go : Task → List Leaf → Found Expression) where
  abbrev pub begun : ℕ → First → Span → List Leaf → Found Expression
  begun level (AtName text) at rest = go (Behind level (Named (record { text = text; at = at }))) rest
  begun level (AtNumber n) at rest = go (Behind level (Number n at)) rest
  begun level (AtTruth truth) at rest = go (Behind level (Truth truth at)) rest
  begun level AtOpening at rest = go (From default_level) rest >>= λ r. closed r.1 >>= λ behind. go (Behind level r.0) behind
  begun level (AtPrefix op) at rest = go (From (operand_level op)) rest >>= λ r. go (Behind level (Unary op r.0 at)) r.1
  begun level AtOther at rest = None

  abbrev pub completed : ℕ → Expression → Infix → Span → List Leaf → Found Expression
  completed level e (OfTwo op) at rest = go (From (right_level op)) rest >>= λ r. go (Behind level (Binary op e r.0 at)) r.1
  completed level e OfCell at rest = go (From primary_level) rest >>= λ r. init_at r.1 >>= λ i. go (Behind level (Cell e r.0 i.0 at)) i.1
  completed level e OfDelay at rest = optional_init_at (skip_one rest) >>= λ i. go (Behind level (Delay e i.0 at)) i.1

  abbrev pub continued : ℕ → Expression → Option Infix → Leaf → List Leaf → Found Expression
  continued level e None l rest = Some (e, l ∷ rest)
  continued level e (Some i) l rest = cond (leb level (infix_level i)) (completed level e i l.at rest) (Some (e, l ∷ rest))

  abbrev pub step : Task → List Leaf → Found Expression
  step (From level) [] = None
  step (From level) (l ∷ rest) = begun level (first_of l.terminal) l.at rest
  step (Behind level e) [] = Some (e, [])
  step (Behind level e) (l ∷ rest) = continued level e (infix_of l.terminal) l rest

abbrev pub run : ℕ → Task → List Leaf → Found Expression
run zero task leaves = None
run (suc n) task leaves = step (run n) task leaves

-- constants
pub constant_read : (c : Constant) (front back : List Leaf) → IsConstant c front → constant_at (front ++ back) ≡ Some (c, back)
constant_read (Int value at) front back (inl (n, v, e)) = ap (λ l. constant_at (l ++ back)) e ∙ ap (λ v. Some (Int v at, back)) (sym v)
constant_read (Int value at) front back (inr (n, digits, v, e)) = ap (λ l. constant_at (l ++ back)) e ∙ ap (λ v. Some (Int v at, back)) (sym v)
constant_read (BoolConstant true at) front back e = ap (λ l. constant_at (l ++ back)) e
constant_read (BoolConstant false at) front back e = ap (λ l. constant_at (l ++ back)) e
constant_read (Param n) front back e = ap (λ l. constant_at (l ++ back)) e

pub init_read : (c : Constant) (front back : List Leaf) → IsInit c front → init_at (front ++ back) ≡ Some (c, back)
init_read c front back (at, rest, e, is) = ap (λ l. init_at (l ++ back)) e ∙ constant_read c rest back is

no_init_by : (l : Leaf) (back : List Leaf) (with_init : Found (Option Constant)) → (l.terminal ≡ word (codes "init") → ⊥)
    → (b : Bool) → is_terminal (word (codes "init")) l.terminal ≡ b → cond b with_init (Some (None, l ∷ back)) ≡ Some (None, l ∷ back)
no_init_by l back with_init stops true same = absurd (stops (sym (terminal_same (word (codes "init")) l.terminal same)))
no_init_by l back with_init stops false same = refl

pub no_init_read : (back : List Leaf) → StopsBefore ContinuesInit back → optional_init_at back ≡ Some (None, back)
no_init_read [] stops = refl
no_init_read (l ∷ back) stops = no_init_by l back (constant_at back >>= λ r. Some (Some r.0, r.1)) stops (is_terminal (word (codes "init")) l.terminal) refl

pub optional_read : (c : Option Constant) (front back : List Leaf) → IsOptionalInit c front → StopsBefore ContinuesInit back → optional_init_at (front ++ back) ≡ Some (c, back)
optional_read None front back e stops = ap (λ l. optional_init_at (l ++ back)) e ∙ no_init_read back stops
optional_read (Some c) front back (at, rest, e, is) stops =
    ap (λ l. optional_init_at (l ++ back)) e ∙ ap (λ o. o >>= λ r. Some (Some r.0, r.1)) (constant_read c rest back is)

no_one_by : (t : Terminal) (all rest : List Leaf) → (t ≡ number 1 → ⊥) → without_one t all rest ≡ all
no_one_by (name text) all rest stops = refl
no_one_by (word text) all rest stops = refl
no_one_by (number zero) all rest stops = refl
no_one_by (number (suc zero)) all rest stops = absurd (stops refl)
no_one_by (number (suc (suc n))) all rest stops = refl
no_one_by (label text) all rest stops = refl
no_one_by (mark text) all rest stops = refl

skip_none : (back : List Leaf) → StopsBefore ContinuesDelay back → skip_one back ≡ back
skip_none [] stops = refl
skip_none (l ∷ back) stops = no_one_by l.terminal (l ∷ back) back (λ e. stops (inl e))

-- what stands behind "$"
pub delay_read : (init : Option Constant) (one front back : List Leaf) → IsOptionalOne one → IsOptionalInit init front → StopsBefore ContinuesDelay back
    → optional_init_at (skip_one ((one ++ front) ++ back)) ≡ Some (init, back)
delay_read init one front back (inr (at, e)) is stops =
    ap (λ l. optional_init_at (skip_one ((l ++ front) ++ back))) e ∙ optional_read init front back is (stops_smaller ContinuesDelay ContinuesInit (λ t same. inr same) back stops)
delay_read None one front back (inl e) is stops =
    ap (λ l. optional_init_at (skip_one ((l ++ front) ++ back))) e ∙ ap (λ l. optional_init_at (skip_one (l ++ back))) is
    ∙ ap optional_init_at (skip_none back stops) ∙ no_init_read back (stops_smaller ContinuesDelay ContinuesInit (λ t same. inr same) back stops)
delay_read (Some c) one front back (inl e) (at, rest, f, is) stops =
    ap (λ l. optional_init_at (skip_one ((l ++ front) ++ back))) e ∙ ap (λ l. optional_init_at (skip_one (l ++ back))) f
    ∙ ap (λ o. o >>= λ r. Some (Some r.0, r.1)) (constant_read c rest back is)
