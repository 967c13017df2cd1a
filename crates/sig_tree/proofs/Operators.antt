-- The operators that stand behind an operand, and the terminals that begin an expression, as tables.
use Rattle.sig_tree.proofs.Common.{◌≡◌, ℕ, suc, ◌≤◌, List, [], ◌∷◌, Bool, true, false, refl, sym, ap, ◌∙◌, codes, Option, None, Some, inl, inr, ◌⊎◌, cond, arith, bytes_eq, UnOp, Not, Neg, When as UnaryWhen, Clock, BinOp, Default, Plus, Meet, Less, Or, Xor, And, Eq, Ne, Lt, Le, Gt, Ge, Add, Sub, Mul, Div, Mod, Terminal, word, mark, binary_terminal, mixed_level, delay_level, unary_level, operand_level, binary_level, left_level, right_level, IsInfix, ContinuesDelay, ContinuesExpression, same_bytes, none-some, same_Some}
use Rattle.sig_tree.specs.declared.expr.BinOp.TheVariants.{When}

-- whether two terminals are the same reserved word or mark
abbrev pub is_terminal : Terminal → Terminal → Bool
is_terminal (word a) (word b) = bytes_eq a b
is_terminal (mark a) (mark b) = bytes_eq a b
is_terminal _ _ = false

pub terminal_same : (a b : Terminal) → is_terminal a b ≡ true → a ≡ b
terminal_same (word a) (word b) e = ap word (same_bytes a b e)
terminal_same (mark a) (mark b) e = ap mark (same_bytes a b e)
terminal_same _ _ e = cc

-- terminals that the test tells apart
pub different : (t u : Terminal) → is_terminal t u ≡ false → is_terminal u u ≡ true → t ≡ u → ⊥
different t u apart self e = let both : false ≡ true = sym apart ∙ ap (λ s. is_terminal s u) e ∙ self in cc

-- an operator behind its left operand
pub data Infix : Type 0 where
  OfTwo : BinOp → Infix
  OfCell : Infix
  OfDelay : Infix

abbrev pub infix_terminal : Infix → Terminal
infix_terminal (OfTwo op) = binary_terminal op
infix_terminal OfCell = word (codes "cell")
infix_terminal OfDelay = mark (codes "$")

abbrev pub infix_level : Infix → ℕ
infix_level (OfTwo op) = binary_level op
infix_level OfCell = mixed_level
infix_level OfDelay = delay_level

abbrev infixes : List Infix
infixes = OfTwo Default ∷ OfTwo When ∷ OfTwo Plus ∷ OfTwo Meet ∷ OfTwo Less ∷ OfTwo Or ∷ OfTwo Xor ∷ OfTwo And ∷ OfTwo Eq ∷ OfTwo Ne
    ∷ OfTwo Lt ∷ OfTwo Le ∷ OfTwo Gt ∷ OfTwo Ge ∷ OfTwo Add ∷ OfTwo Sub ∷ OfTwo Mul ∷ OfTwo Div ∷ OfTwo Mod ∷ OfCell ∷ OfDelay ∷ []

abbrev found : {A : Type 0} → (A → Terminal) → List A → Terminal → Option A
found spelled [] t = None
found spelled (x ∷ xs) t = cond (is_terminal (spelled x) t) (Some x) (found spelled xs t)

found_at : {A : Type 0} (spelled : A → Terminal) (y : A) (t : Terminal) (x : A) (rest : Option A) → (rest ≡ Some x → t ≡ spelled x)
    → (b : Bool) → is_terminal (spelled y) t ≡ b → cond b (Some y) rest ≡ Some x → t ≡ spelled x
found_at spelled y t x rest further true same here = sym (terminal_same (spelled y) t same) ∙ ap spelled (same_Some y x here)
found_at spelled y t x rest further false same here = further here

found_is : {A : Type 0} (spelled : A → Terminal) (xs : List A) (t : Terminal) (x : A) → found spelled xs t ≡ Some x → t ≡ spelled x
found_is spelled [] t x e = absurd (none-some x e)
found_is spelled (y ∷ ys) t x e = found_at spelled y t x (found spelled ys t) (found_is spelled ys t x) (is_terminal (spelled y) t) refl e

-- the operator that a terminal is, behind an operand
abbrev pub infix_of : Terminal → Option Infix
infix_of t = found infix_terminal infixes t

pub infix_is : (t : Terminal) (i : Infix) → infix_of t ≡ Some i → t ≡ infix_terminal i
infix_is t i e = found_is infix_terminal infixes t i e

pub infix_found : (i : Infix) → infix_of (infix_terminal i) ≡ Some i
infix_found (OfTwo Default) = refl
infix_found (OfTwo _) = refl
infix_found OfCell = refl
infix_found OfDelay = refl

-- an operator as the grammar's table has it
pub infix_seen : (level : ℕ) (t : Terminal) → IsInfix level t → (i : Infix) × (t ≡ infix_terminal i) × (level ≤ infix_level i)
infix_seen level t (inl (op, e, within)) = (OfTwo op, e, within)
infix_seen level t (inr (inl (e, within))) = (OfCell, e, within)
infix_seen level t (inr (inr (e, within))) = (OfDelay, e, within)

pub infix_stands : (level : ℕ) (t : Terminal) (i : Infix) → t ≡ infix_terminal i → level ≤ infix_level i → IsInfix level t
infix_stands level t (OfTwo op) e within = inl (op, e, within)
infix_stands level t OfCell e within = inr (inl (e, within))
infix_stands level t OfDelay e within = inr (inr (e, within))

-- another terminal is none
pub no_infix : (t : Terminal) → infix_of t ≡ None → (level : ℕ) → IsInfix level t → ⊥
no_infix t none level is =
    let seen = infix_seen level t is in
    let same : None ≡ Some seen.0 = sym none ∙ ap infix_of seen.1 ∙ infix_found seen.0 in
    cc

-- What may not stand behind an expression whose outermost operator has this level.
abbrev pub Tighter : ℕ → Terminal → Type 0
Tighter level t = IsInfix (suc level) t ⊎ ((level ≤ delay_level) × ContinuesDelay t)

-- an operator is not tighter than its own level
pub not_tighter : (i : Infix) (level : ℕ) → infix_level i ≤ level → Tighter level (infix_terminal i) → ⊥
not_tighter i level within (inl is) =
    let seen = infix_seen (suc level) (infix_terminal i) is in
    let same : i ≡ seen.0 = let e : Some i ≡ Some seen.0 = sym (infix_found i) ∙ ap infix_of seen.1 ∙ infix_found seen.0 in cc in
    let level_same : infix_level i ≡ infix_level seen.0 = ap infix_level same in
    let more : suc level ≤ infix_level seen.0 = seen.2 in
    omega arith
not_tighter i level within (inr (low, inl e)) = let same : Some i ≡ None = sym (infix_found i) ∙ ap infix_of e in cc
not_tighter i level within (inr (low, inr e)) = let same : Some i ≡ None = sym (infix_found i) ∙ ap infix_of e in cc

-- the set grows as the level falls
pub tighter_grows : (low high : ℕ) → low ≤ high → (t : Terminal) → Tighter high t → Tighter low t
tighter_grows low high within t (inl is) =
    let seen = infix_seen (suc high) t is in
    let more : suc high ≤ infix_level seen.0 = seen.2 in
    inl (infix_stands (suc low) t seen.0 seen.1 (omega arith))
tighter_grows low high within t (inr (small, continues)) = inr (omega arith, continues)

-- what continues an expression of a level is tighter than any looser level
pub continues_tighter : (low high : ℕ) → suc low ≤ high → (t : Terminal) → ContinuesExpression high t → Tighter low t
continues_tighter low high within t (inl is) =
    let seen = infix_seen high t is in
    let more : high ≤ infix_level seen.0 = seen.2 in
    inl (infix_stands (suc low) t seen.0 seen.1 (omega arith))
continues_tighter low high within t (inr (small, continues)) = inr (omega arith, continues)

-- and what is tighter continues an expression of the level
pub tighter_continues : (level : ℕ) → (t : Terminal) → Tighter level t → ContinuesExpression level t
tighter_continues level t (inl is) =
    let seen = infix_seen (suc level) t is in
    let more : suc level ≤ infix_level seen.0 = seen.2 in
    inl (infix_stands level t seen.0 seen.1 (omega arith))
tighter_continues level t (inr both) = inr both

-- the levels of the operands
pub two_levels : (op : BinOp) → (binary_level op ≤ left_level op) × (suc (binary_level op) ≤ right_level op)
two_levels Default = (omega arith, omega arith)
two_levels _ = (omega arith, omega arith)

-- no operator stands behind an operand at the levels of the operators before one, but at that of `when`
binary_gap : (op : BinOp) (level : ℕ) → binary_level op ≡ level → (5 ≤ level → 6 ≤ level) × (9 ≤ level → 10 ≤ level) × (11 ≤ level → 12 ≤ level)
binary_gap Default level e = (omega arith, omega arith, omega arith)
binary_gap _ level e = (omega arith, omega arith, omega arith)

infix_gap : (i : Infix) (level : ℕ) → infix_level i ≡ level → (5 ≤ level → 6 ≤ level) × (9 ≤ level → 10 ≤ level) × (11 ≤ level → 12 ≤ level)
infix_gap (OfTwo op) level e = binary_gap op level e
infix_gap OfCell level e = (omega arith, omega arith, omega arith)
infix_gap OfDelay level e = (omega arith, omega arith, omega arith)

prefix_gap : (op : UnOp) (i : Infix) → operand_level op ≤ infix_level i → suc (unary_level op) ≤ infix_level i
prefix_gap UnaryWhen i within = within
prefix_gap Not i within = (infix_gap i (infix_level i) refl).0 within
prefix_gap Neg i within = (infix_gap i (infix_level i) refl).1 within
prefix_gap Clock i within = (infix_gap i (infix_level i) refl).2 within

pub one_level : (op : UnOp) → unary_level op ≤ operand_level op
one_level Not = omega arith
one_level _ = omega arith

-- what continues the operand of an operator before it is tighter than the operator
pub operand_continues : (op : UnOp) (t : Terminal) → ContinuesExpression (operand_level op) t → Tighter (unary_level op) t
operand_continues op t (inl is) =
    let seen = infix_seen (operand_level op) t is in
    inl (infix_stands (suc (unary_level op)) t seen.0 seen.1 (prefix_gap op seen.0 seen.2))
operand_continues op t (inr (small, continues)) = inr (let e = one_level op in omega arith, continues)
