-- The operators of the parser as those of the grammar, and what stands behind them.
use Rattle.sig_parse.proofs.Common.{◌≡◌, ◌≤◌, ℕ, suc, List, [], ◌∷◌, cond, eqb, inl, inr, ◌⊎◌, refl, sym, ap, ◌∙◌, subst, arith, BinOp, Default as OpDefault, OpWhen, OpPlus, Meet as OpMeet, OpLess, OpOr, OpXor, OpAnd, Eq, Ne, Lt, Le, Gt, Ge, Add, Sub, Mul, Div, Mod, UnOp, Not as UnaryNot, Neg, When as UnaryWhen, Clock as UnaryClock, Terminal, Leaf, unary_terminal, delay_level, unary_level, operand_level, StopsBefore, StartsWith, ContinuesDelay, ContinuesExpression, TreeInfix, OfTwo, OfCell, OfDelay, tree_terminal, tree_level, infix_seen, infix_stands, not_tighter, infix_same, Keyword, Level, Mixed, Relation, Sum, Product, Primary, Infix, Binary, Cell, Delay as DelayOp, terminal_of, IsKeyword, level_number, infix_terminal, infix_level, IsOperator, IsOperatorOf, ContinuesStep}
use Rattle.sig_parse.specs.declared.keyword.Keyword.TheVariants as K
use Rattle.sig_parse.specs.declared.operator.Level.TheVariants.{Default, Clock, Or, And, Not, Minus, Delay}
use Rattle.sig_parse.proofs.RefusedLevels.{IsOfLevel}

-- the operator as the grammar's lemmas have it
abbrev pub in_tree : Infix → TreeInfix
in_tree (Binary op) = OfTwo op
in_tree Cell = OfCell
in_tree DelayOp = OfDelay

pub same_terminal : (op : Infix) → infix_terminal op ≡ tree_terminal (in_tree op)
same_terminal (Binary op) = refl
same_terminal _ = refl

pub same_level : (op : Infix) → infix_level op ≡ tree_level (in_tree op)
same_level (Binary op) = refl
same_level _ = refl

abbrev from_tree : TreeInfix → Infix
from_tree (OfTwo op) = Binary op
from_tree OfCell = Cell
from_tree OfDelay = DelayOp

there_and_back : (op : Infix) → from_tree (in_tree op) ≡ op
there_and_back (Binary op) = refl
there_and_back _ = refl

-- operators of one terminal are the same
pub one_operator : (op other : Infix) → infix_terminal op ≡ infix_terminal other → op ≡ other
one_operator op other e = sym (there_and_back op) ∙ ap from_tree (infix_same (in_tree op) (in_tree other) (sym (same_terminal op) ∙ e ∙ same_terminal other)) ∙ there_and_back other

pub of_level : (level : ℕ) (t : Terminal) → IsOperatorOf level t → IsOfLevel level t
of_level level t (op, e, own) = (in_tree op, e ∙ same_terminal op, sym (same_level op) ∙ own)

pub from_level : (level : ℕ) (t : Terminal) (i : TreeInfix) → t ≡ tree_terminal i → tree_level i ≡ level → IsOperatorOf level t
from_level level t (OfTwo op) e own = (Binary op, e, own)
from_level level t OfCell e own = (Cell, e, own)
from_level level t OfDelay e own = (DelayOp, e, own)

pub an_operator : (t : Terminal) (i : TreeInfix) → t ≡ tree_terminal i → IsOperator t
an_operator t i e = let one = from_level (tree_level i) t i e refl in (one.0, one.1)

-- each is a keyword
binary_keyword : (op : BinOp) → IsKeyword (infix_terminal (Binary op))
binary_keyword OpDefault = (K.Default, refl)
binary_keyword OpWhen = (K.When, refl)
binary_keyword OpPlus = (K.ClockPlus, refl)
binary_keyword OpMeet = (K.ClockMeet, refl)
binary_keyword OpLess = (K.ClockLess, refl)
binary_keyword OpOr = (K.Or, refl)
binary_keyword OpXor = (K.Xor, refl)
binary_keyword OpAnd = (K.And, refl)
binary_keyword Eq = (K.Equal, refl)
binary_keyword Ne = (K.NotEqual, refl)
binary_keyword Lt = (K.Less, refl)
binary_keyword Le = (K.LessEqual, refl)
binary_keyword Gt = (K.Greater, refl)
binary_keyword Ge = (K.GreaterEqual, refl)
binary_keyword Add = (K.Plus, refl)
binary_keyword Sub = (K.Minus, refl)
binary_keyword Mul = (K.Times, refl)
binary_keyword Div = (K.Divide, refl)
binary_keyword Mod = (K.Modulo, refl)

operator_keyword : (op : Infix) → IsKeyword (infix_terminal op)
operator_keyword (Binary op) = binary_keyword op
operator_keyword Cell = (K.Cell, refl)
operator_keyword DelayOp = (K.Dollar, refl)

-- what is no keyword is no operator
pub no_operator : (leaves : List Leaf) → StopsBefore IsKeyword leaves → StopsBefore IsOperator leaves
no_operator [] stops = tt
no_operator (l ∷ leaves) stops = λ (op, e). let one = operator_keyword op in stops (one.0, e ∙ one.1)

-- the same of operators before an operand
prefix_keyword : (op : UnOp) → IsKeyword (unary_terminal op)
prefix_keyword UnaryWhen = (K.When, refl)
prefix_keyword UnaryNot = (K.Not, refl)
prefix_keyword Neg = (K.Minus, refl)
prefix_keyword UnaryClock = (K.Clock, refl)

pub no_prefix : (op : UnOp) (leaves : List Leaf) → StopsBefore IsKeyword leaves → StopsBefore (λ t. t ≡ unary_terminal op) leaves
no_prefix op [] stops = tt
no_prefix op (l ∷ leaves) stops = λ e. let one = prefix_keyword op in stops (one.0, e ∙ one.1)

pub not_prefix : (op : UnOp) (k : Keyword) (leaves : List Leaf) → StartsWith (λ t. t ≡ terminal_of k) leaves → (unary_terminal op ≡ terminal_of k → ⊥) → StopsBefore (λ t. t ≡ unary_terminal op) leaves
not_prefix op k [] starts none = tt
not_prefix op k (l ∷ leaves) starts none = λ e. none (sym e ∙ starts)

pub starts_operator : (k : Keyword) (op : Infix) (leaves : List Leaf) → StartsWith (λ t. t ≡ terminal_of k) leaves → infix_terminal op ≡ terminal_of k → StartsWith (λ t. t ≡ infix_terminal op) leaves
starts_operator k op [] starts is = starts
starts_operator k op (l ∷ leaves) starts is = starts ∙ sym is

pub none_of_level : (level : ℕ) (leaves : List Leaf) → StopsBefore IsOperator leaves → StopsBefore (IsOperatorOf level) leaves
none_of_level level [] stops = tt
none_of_level level (l ∷ leaves) stops = λ (op, e, own). stops (op, e)

pub other_level : (op : Infix) (level : ℕ) (leaves : List Leaf) → StartsWith (λ t. t ≡ infix_terminal op) leaves → (infix_level op ≡ level → ⊥) → StopsBefore (IsOperatorOf level) leaves
other_level op level [] starts other = tt
other_level op level (l ∷ leaves) starts other = λ (found, e, own). other (ap infix_level (one_operator op found (sym starts ∙ e)) ∙ own)

-- the level of a number
abbrev pub level_from : ℕ → Level
level_from n = cond (eqb n 0) Default (cond (eqb n 1) Mixed (cond (eqb n 2) Clock (cond (eqb n 3) Or (cond (eqb n 4) And (cond (eqb n 5) Not
    (cond (eqb n 6) Relation (cond (eqb n 7) Sum (cond (eqb n 8) Product (cond (eqb n 9) Minus (cond (eqb n 10) Delay Primary))))))))))

number_from : (level : Level) → level_from (level_number level) ≡ level
number_from Default = refl
number_from _ = refl

pub one_level : (a b : Level) → level_number a ≡ level_number b → a ≡ b
one_level a b e = sym (number_from a) ∙ ap level_from e ∙ number_from b

-- What stands behind an operand of a level: nothing tighter, where no operator is next, or one that is not.
pub nothing_behind : (level : ℕ) (leaves : List Leaf) → StopsBefore IsOperator leaves → (level ≤ delay_level → StopsBefore ContinuesDelay leaves) → StopsBefore (ContinuesStep level) leaves
nothing_behind level [] none no_delay = tt
nothing_behind level (l ∷ leaves) none no_delay = go where
  go : ContinuesStep level l.terminal → ⊥
  go (inl is) = let seen = infix_seen (suc level) l.terminal is in none (an_operator l.terminal seen.0 seen.1)
  go (inr (within, continues)) = no_delay within continues

pub looser_behind : (op : Infix) (level : ℕ) (leaves : List Leaf) → StartsWith (λ t. t ≡ infix_terminal op) leaves → infix_level op ≤ level → StopsBefore (ContinuesStep level) leaves
looser_behind op level [] starts within = tt
looser_behind op level (l ∷ leaves) starts within = λ continues.
    not_tighter (in_tree op) level (let e = same_level op in omega arith) (subst (λ (t : Terminal). ContinuesStep level t) (starts ∙ same_terminal op) continues)

-- Behind an expression of a level stands nothing that goes on with it, where nothing tighter stands there, and
-- no operator of the level.
pub level_ends : (level : ℕ) (leaves : List Leaf) → StopsBefore (ContinuesStep level) leaves → StopsBefore (IsOperatorOf level) leaves → StopsBefore (ContinuesExpression level) leaves
level_ends level [] no_step none = tt
level_ends level (l ∷ leaves) no_step none = go where
  same_or_more : (n : ℕ) → level ≤ n → (n ≡ level) ⊎ (suc level ≤ n)
  same_or_more n within = grind arith

  at : (i : TreeInfix) → l.terminal ≡ tree_terminal i → (tree_level i ≡ level) ⊎ (suc level ≤ tree_level i) → ⊥
  at i e (inl own) = none (from_level level l.terminal i e own)
  at i e (inr more) = no_step (inl (infix_stands (suc level) l.terminal i e more))

  go : ContinuesExpression level l.terminal → ⊥
  go (inl is) = let seen = infix_seen level l.terminal is in at seen.0 seen.1 (same_or_more (tree_level seen.0) seen.2)
  go (inr both) = no_step (inr both)

pub operator_continues : (level : ℕ) (t : Terminal) → IsOperatorOf level t → ContinuesExpression level t
operator_continues level t (op, e, own) = inl (infix_stands level t (in_tree op) (e ∙ same_terminal op) (let same = same_level op in omega arith))

-- the set grows as the level falls
pub continues_falls : (low high : ℕ) → low ≤ high → (t : Terminal) → ContinuesExpression high t → ContinuesExpression low t
continues_falls low high within t (inl is) =
    let seen = infix_seen high t is in
    let more : high ≤ tree_level seen.0 = seen.2 in
    inl (infix_stands low t seen.0 seen.1 (omega arith))
continues_falls low high within t (inr (small, continues)) = inr (omega arith, continues)

operand_below : (op : UnOp) → operand_level op ≤ suc (unary_level op)
operand_below UnaryNot = omega arith
operand_below _ = omega arith

pub operand_continues_more : (op : UnOp) (level : ℕ) → unary_level op ≡ level → (t : Terminal) → ContinuesExpression (suc level) t → ContinuesExpression (operand_level op) t
operand_continues_more op level own t continues = continues_falls (operand_level op) (suc level) (let low = operand_below op in omega arith) t continues
