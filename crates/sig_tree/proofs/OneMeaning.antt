-- An expression means at most one thing at an instant.
use Rattle.sig_tree.proofs.Common.{◌≡◌, ◌<◌, ◌≤◌, ℕ, zero, suc, ℤ, pos, List, [], ◌∷◌, None, Some, sym, ap, subst, ◌∙◌, arith, inl, inr, ⊎_elim, ◌⊎◌, cases_order, Seen, Trace, Range, Bounded, Function, Negative, FunctionNot, FunctionAnd, FunctionOr, FunctionXor, NotEqual, FunctionLess, LessEqual, Greater, GreaterEqual, Sum, Difference, Product, Quotient, Remainder, Gives, UnOp, Not, Neg, When as UnaryWhen, Clock, BinOp, Default, Plus, Meet, Less, Or, Xor, And, Eq, Ne, Lt, Le, Gt, Ge, Add, Sub, Mul, Div, Mod, FlatExpression, Sig, Const, Operand, Signal, Yields, AppliesToOne, AppliesToBoth, OfOne, OfBoth, Samples, Changes, Combines, sampled, merged, clock_of, either_of, both_of, without, delayed, held, IsPrevious, IsDelayed, IsHeld, IsCell, IsOperand}
use Rattle.sig_base.specs.Functions.{Equal}
use Rattle.sig_tree.specs.declared.expr.BinOp.TheVariants.{When}
use Rattle.sig_tree.specs.FlatSyntax.{Unary, Binary, Delay, Cell}
use Rattle.sig_tree.specs.Operators.{Constant}

-- a function gives of operands at most one value
abbrev pub OneValue : Type 0
OneValue = (range : Range) (function : Function) (operands : List ℤ) (v w : ℤ) → Gives range function operands v → Gives range function operands w → v ≡ w

yields_one : OneValue → (f : Function) (xs : List ℤ) (v w : Seen) → Yields f xs v → Yields f xs w → v ≡ w
yields_one one f xs v w a b = a.1 ∙ ap Some (one Bounded f xs a.0 b.0 a.2 b.2) ∙ sym b.1

applies_one : OneValue → (f : Function) (x : Operand) (v w : Seen) → AppliesToOne f x v → AppliesToOne f x w → v ≡ w
applies_one one f (Signal None) v w a b = a ∙ sym b
applies_one one f (Signal (Some x)) v w a b = yields_one one f (x ∷ []) v w a b
applies_one one f (Constant c) v w a b = absurd a

applies_both : OneValue → (f : Function) (x y : Operand) (v w : Seen) → AppliesToBoth f x y v → AppliesToBoth f x y w → v ≡ w
applies_both one f (Signal None) (Signal None) v w a b = a ∙ sym b
applies_both one f (Signal None) (Signal (Some y)) v w a b = absurd a
applies_both one f (Signal None) (Constant d) v w a b = a ∙ sym b
applies_both one f (Signal (Some x)) (Signal None) v w a b = absurd a
applies_both one f (Signal (Some x)) (Signal (Some y)) v w a b = yields_one one f (x ∷ y ∷ []) v w a b
applies_both one f (Signal (Some x)) (Constant d) v w a b = yields_one one f (x ∷ d ∷ []) v w a b
applies_both one f (Constant c) (Signal None) v w a b = a ∙ sym b
applies_both one f (Constant c) (Signal (Some y)) v w a b = yields_one one f (c ∷ y ∷ []) v w a b
applies_both one f (Constant c) (Constant d) v w a b = absurd a

of_one : (f : Seen → Seen) (x : Operand) (v w : Seen) → OfOne f x v → OfOne f x w → v ≡ w
of_one f (Signal x) v w a b = a ∙ sym b
of_one f (Constant c) v w a b = absurd a

of_both : (f : Seen → Seen → Seen) (x y : Operand) (v w : Seen) → OfBoth f x y v → OfBoth f x y w → v ≡ w
of_both f (Signal x) (Signal y) v w a b = a ∙ sym b
of_both f (Signal x) (Constant d) v w a b = absurd a
of_both f (Constant c) y v w a b = absurd a

samples_one : (x y : Operand) (v w : Seen) → Samples x y v → Samples x y w → v ≡ w
samples_one (Signal x) (Signal y) v w a b = a ∙ sym b
samples_one (Constant c) (Signal y) v w a b = a ∙ sym b
samples_one (Signal x) (Constant d) v w a b = absurd a
samples_one (Constant c) (Constant d) v w a b = absurd a

pub changes_one : OneValue → (op : UnOp) (x : Operand) (v w : Seen) → Changes op x v → Changes op x w → v ≡ w
changes_one one Not x v w a b = applies_one one FunctionNot x v w a b
changes_one one Neg x v w a b = applies_one one Negative x v w a b
changes_one one UnaryWhen x v w a b = of_one (sampled (Some (pos 1))) x v w a b
changes_one one Clock x v w a b = of_one clock_of x v w a b

pub combines_one : OneValue → (op : BinOp) (x y : Operand) (v w : Seen) → Combines op x y v → Combines op x y w → v ≡ w
combines_one one Default x y v w a b = of_both merged x y v w a b
combines_one one When x y v w a b = samples_one x y v w a b
combines_one one Plus x y v w a b = of_both either_of x y v w a b
combines_one one Meet x y v w a b = of_both both_of x y v w a b
combines_one one Less x y v w a b = of_both without x y v w a b
combines_one one Or x y v w a b = applies_both one FunctionOr x y v w a b
combines_one one Xor x y v w a b = applies_both one FunctionXor x y v w a b
combines_one one And x y v w a b = applies_both one FunctionAnd x y v w a b
combines_one one Eq x y v w a b = applies_both one Equal x y v w a b
combines_one one Ne x y v w a b = applies_both one NotEqual x y v w a b
combines_one one Lt x y v w a b = applies_both one FunctionLess x y v w a b
combines_one one Le x y v w a b = applies_both one LessEqual x y v w a b
combines_one one Gt x y v w a b = applies_both one Greater x y v w a b
combines_one one Ge x y v w a b = applies_both one GreaterEqual x y v w a b
combines_one one Add x y v w a b = applies_both one Sum x y v w a b
combines_one one Sub x y v w a b = applies_both one Difference x y v w a b
combines_one one Mul x y v w a b = applies_both one Product x y v w a b
combines_one one Div x y v w a b = applies_both one Quotient x y v w a b
combines_one one Mod x y v w a b = applies_both one Remainder x y v w a b

-- what is one thing at each instant
abbrev pub IsOne : (ℕ → Operand → Type 0) → Type 0
IsOne IsAt = (i : ℕ) (o p : Operand) → IsAt i o → IsAt i p → o ≡ p

pub same_signal : (x y : Seen) → Signal x ≡ Signal y → x ≡ y
same_signal x y e = cc

pub same_some : (v w : ℤ) → Signal (Some v) ≡ Signal (Some w) → v ≡ w
same_some v w e = cc

pub not_both : (v : ℤ) → Signal None ≡ Signal (Some v) → ⊥
not_both v e = cc

-- what two meanings, one of which is one thing, agree on before an instant gives the same value there
pub previous_one : (IsAt : ℕ → Operand → Type 0) → IsOne IsAt → (init : ℤ) (i : ℕ) (v w : ℤ) → IsPrevious IsAt init i v → IsPrevious IsAt init i w → v ≡ w
previous_one IsAt one init i v w (inl a) (inl b) = a.1 ∙ sym b.1
previous_one IsAt one init i v w (inl a) (inr b) = absurd (not_both w (one b.0 _ _ (a.0 b.0 b.1) b.2))
previous_one IsAt one init i v w (inr a) (inl b) = absurd (not_both v (one a.0 _ _ (b.0 a.0 a.1) a.2))
previous_one IsAt one init i v w (inr a) (inr b) = ⊎_elim
    (λ (e : a.0 ≡ b.0). same_some v w (one b.0 _ _ (subst (λ (k : ℕ). IsAt k (Signal (Some v))) e a.2) b.2))
    (λ (h : (a.0 < b.0) ⊎ (b.0 < a.0)). ⊎_elim
    (λ (lt : a.0 < b.0). absurd (not_both w (one b.0 _ _ (a.3 b.0 lt b.1) b.2)))
    (λ (lt : b.0 < a.0). absurd (not_both v (one a.0 _ _ (b.3 a.0 lt a.1) a.2))) h)
    (cases_order a.0 b.0)

delayed_one : (IsAt : ℕ → Operand → Type 0) → IsOne IsAt → (init : ℤ) (i : ℕ) (v w : Seen) → IsDelayed IsAt init i v → IsDelayed IsAt init i w → v ≡ w
delayed_one IsAt one init i v w a b =
    let x : a.0 ≡ b.0 = same_signal a.0 b.0 (one i _ _ a.1 b.1) in
    let p : a.2 ≡ b.2 = previous_one IsAt one init i a.2 b.2 a.3 b.3 in
    a.4 ∙ ap (delayed a.2) x ∙ ap (λ q. delayed q b.0) p ∙ sym b.4

-- two histories that agree before an instant have the same value before it
moved : (f g : ℕ → Seen) (init : ℤ) (i : ℕ) (v : ℤ) → ((k : ℕ) → k < i → f k ≡ g k) → IsPrevious (λ k o. o ≡ Signal (f k)) init i v → IsPrevious (λ k o. o ≡ Signal (g k)) init i v
moved f g init i v same (inl a) = inl (λ k lt. a.0 k lt ∙ ap Signal (same k lt), a.1)
moved f g init i v same (inr a) = inr (a.0, a.1, a.2 ∙ ap Signal (same a.0 a.1), λ k above below. a.3 k above below ∙ ap Signal (same k below))

held_one : (IsAt IsHeldAt : ℕ → Operand → Type 0) → IsOne IsAt → IsOne IsHeldAt → (init : ℤ) (f g : ℕ → Seen) (i : ℕ)
    → ((k : ℕ) → k < i → f k ≡ g k) → IsHeld IsAt IsHeldAt init f i → IsHeld IsAt IsHeldAt init g i → f i ≡ g i
held_one IsAt IsHeldAt one held_is_one init f g i same a b =
    let x : a.0 ≡ b.0 = same_signal a.0 b.0 (one i _ _ a.2 b.2) in
    let t : a.1 ≡ b.1 = same_signal a.1 b.1 (held_is_one i _ _ a.3 b.3) in
    let p : a.4 ≡ b.4 = previous_one (λ k o. o ≡ Signal (g k)) (λ k o q e d. e ∙ sym d) init i a.4 b.4 (moved f g init i a.4 same a.5) b.5 in
    a.6 ∙ ap (λ q. held q a.0 a.1) p ∙ ap (λ q. held b.4 q a.1) x ∙ ap (held b.4 b.0) t ∙ sym b.6

-- by induction on a bound of the instants
held_below : (IsAt IsHeldAt : ℕ → Operand → Type 0) → IsOne IsAt → IsOne IsHeldAt → (init : ℤ) (f g : ℕ → Seen) (i n : ℕ)
    → ((k : ℕ) → k ≤ i → IsHeld IsAt IsHeldAt init f k) → ((k : ℕ) → k ≤ i → IsHeld IsAt IsHeldAt init g k)
    → (k : ℕ) → k ≤ i → k < n → f k ≡ g k
held_below IsAt IsHeldAt one held_is_one init f g i zero a b k le lt = absurd (omega arith)
held_below IsAt IsHeldAt one held_is_one init f g i (suc n) a b k le lt =
    held_one IsAt IsHeldAt one held_is_one init f g k
    (λ j below. held_below IsAt IsHeldAt one held_is_one init f g i n a b j (omega arith) (omega arith))
    (a k le) (b k le)

cell_one : (IsAt IsHeldAt : ℕ → Operand → Type 0) → IsOne IsAt → IsOne IsHeldAt → (init : ℤ) (i : ℕ) (v w : Seen) → IsCell IsAt IsHeldAt init i v → IsCell IsAt IsHeldAt init i w → v ≡ w
cell_one IsAt IsHeldAt one held_is_one init i v w a b =
    a.2 ∙ held_below IsAt IsHeldAt one held_is_one init a.0 b.0 i (suc i) a.1 b.1 i (omega arith) (omega arith) ∙ sym b.2

pub operand_one : OneValue → (trace : Trace) (e : FlatExpression) → IsOne (IsOperand trace e)
operand_one one trace (Sig signal at) i o p a b = a ∙ sym b
operand_one one trace (Const value kind at) i o p a b = a ∙ sym b
operand_one one trace (Unary op operand at) i o p a b =
    let x : a.0 ≡ b.0 = operand_one one trace operand i _ _ a.1 b.1 in
    a.4 ∙ ap Signal (changes_one one op b.0 a.2 b.2 (subst (λ y. Changes op y a.2) x a.3) b.3) ∙ sym b.4
operand_one one trace (Binary op left right at) i o p a b =
    let x : a.0 ≡ b.0 = operand_one one trace left i _ _ a.2 b.2 in
    let y : a.1 ≡ b.1 = operand_one one trace right i _ _ a.3 b.3 in
    a.6 ∙ ap Signal (combines_one one op b.0 b.1 a.4 b.4 (subst (λ z. Combines op b.0 z a.4) y (subst (λ z. Combines op z a.1 a.4) x a.5)) b.5) ∙ sym b.6
operand_one one trace (Delay operand init at) i o p a b =
    a.2 ∙ ap Signal (delayed_one (IsOperand trace operand) (operand_one one trace operand) init i a.0 b.0 a.1 b.1) ∙ sym b.2
operand_one one trace (Cell operand held init at) i o p a b =
    a.2 ∙ ap Signal (cell_one (IsOperand trace operand) (IsOperand trace held) (operand_one one trace operand) (operand_one one trace held) init i a.0 b.0 a.1 b.1) ∙ sym b.2
