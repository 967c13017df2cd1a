-- Expressions read one instant at a time mean what they mean over a trace.
use Rattle.sig_tree.proofs.Common.{◌≡◌, ◌≤◌, ℕ, zero, suc, ◌∷◌, refl, sym, ap, subst, ◌∙◌, arith, Seen, Instant, Trace, FlatExpression, Sig, Const, Operand, Signal, delayed, held, IsHeld, IsOperand, kept, Steps}
use Rattle.sig_tree.specs.FlatSyntax.{Unary, Binary, Delay, Cell}
use Rattle.sig_tree.proofs.OneMeaning.{OneValue, operand_one, same_signal}
use Rattle.sig_tree.proofs.Previous.{at_first, first_is_init, from_zero, previous_after, previous_before}

-- what an expression is at the first instant, it steps to there
pub first_step : (t : Trace) (now : Instant) (e : FlatExpression) (o : Operand) → IsOperand (now ∷ t) e zero o → (next : FlatExpression) × Steps e now o next
first_step t now (Sig signal at) o a = (Sig signal at, (a, refl))
first_step t now (Const value kind at) o a = (Const value kind at, (a, refl))
first_step t now (Unary op operand at) o a =
    let r = first_step t now operand a.0 a.1 in
    (Unary op r.0 at, (a.0, r.0, r.1, a.2, a.3, a.4, refl))
first_step t now (Binary op left right at) o a =
    let l = first_step t now left a.0 a.2 in
    let r = first_step t now right a.1 a.3 in
    (Binary op l.0 r.0 at, (a.0, a.1, l.0, r.0, l.1, r.1, a.4, a.5, a.6, refl))
first_step t now (Delay operand init at) o a =
    let d = a.1 in
    let r = first_step t now operand (Signal d.0) d.1 in
    let p : d.2 ≡ init = at_first (IsOperand (now ∷ t) operand) init d.2 d.3 in
    (Delay r.0 (kept init d.0) at, (d.0, r.0, r.1, a.2 ∙ ap Signal (d.4 ∙ ap (λ q. delayed q d.0) p), refl))
first_step t now (Cell operand truth init at) o a =
    let c = a.1 in
    let h = c.1 zero (omega arith) in
    let l = first_step t now operand (Signal h.0) h.2 in
    let r = first_step t now truth (Signal h.1) h.3 in
    let p : h.4 ≡ init = at_first (λ k q. q ≡ Signal (c.0 k)) init h.4 h.5 in (
      Cell l.0 r.0 (kept init (held init h.0 h.1)) at,
      (h.0, h.1, l.0, r.0, l.1, r.1, a.2 ∙ ap Signal (c.2 ∙ h.6 ∙ ap (λ q. held q h.0 h.1) p), refl),
    )

only_zero : (P : ℕ → Type 0) → P zero → (k : ℕ) → k ≤ zero → P k
only_zero P first zero le = first
only_zero P first (suc k) le = absurd (omega arith)

pub step_first : (t : Trace) (now : Instant) (e : FlatExpression) (o : Operand) (next : FlatExpression) → Steps e now o next → IsOperand (now ∷ t) e zero o
step_first t now (Sig signal at) o next a = a.0
step_first t now (Const value kind at) o next a = a.0
step_first t now (Unary op operand at) o next a = (a.0, step_first t now operand a.0 a.1 a.2, a.3, a.4, a.5)
step_first t now (Binary op left right at) o next a =
    (a.0, a.1, step_first t now left a.0 a.2 a.4, step_first t now right a.1 a.3 a.5, a.6, a.7, a.8)
step_first t now (Delay operand init at) o next a =
    (delayed init a.0, (a.0, step_first t now operand (Signal a.0) a.1 a.2, init, first_is_init (IsOperand (now ∷ t) operand) init, refl), a.3)
step_first t now (Cell operand truth init at) o next a =
    let y = held init a.0 a.1 in (
      y,
      (
        (λ k. y),
        only_zero (IsHeld (IsOperand (now ∷ t) operand) (IsOperand (now ∷ t) truth) init (λ k. y))
            (a.0, a.1, step_first t now operand (Signal a.0) a.2 a.4, step_first t now truth (Signal a.1) a.3 a.5, init, first_is_init (λ k q. q ≡ Signal y) init, refl),
        refl,
      ),
      a.6,
    )

-- what an expression is at the first instant is what it steps to there
pub first_is : OneValue → (t : Trace) (now : Instant) (e : FlatExpression) (x : Operand) (next : FlatExpression) → Steps e now x next → (o : Operand) → IsOperand (now ∷ t) e zero o → o ≡ x
first_is one t now e x next a o b = operand_one one (now ∷ t) e zero o x b (step_first t now e x next a)

-- behind the first instant
pub next_after : OneValue → (t : Trace) (now : Instant) (e : FlatExpression) (o : Operand) (next : FlatExpression) → Steps e now o next
    → (i : ℕ) (p : Operand) → IsOperand (now ∷ t) e (suc i) p → IsOperand t next i p
next_after one t now (Sig signal at) o next a i p b = subst (λ n. IsOperand t n i p) (sym a.1) b
next_after one t now (Const value kind at) o next a i p b = subst (λ n. IsOperand t n i p) (sym a.1) b
next_after one t now (Unary op operand at) o next a i p b =
    subst (λ n. IsOperand t n i p) (sym a.6) (b.0, next_after one t now operand a.0 a.1 a.2 i b.0 b.1, b.2, b.3, b.4)
next_after one t now (Binary op left right at) o next a i p b =
    subst (λ n. IsOperand t n i p) (sym a.9) (b.0, b.1, next_after one t now left a.0 a.2 a.4 i b.0 b.2, next_after one t now right a.1 a.3 a.5 i b.1 b.3, b.4, b.5, b.6)
next_after one t now (Delay operand init at) o next a i p b =
    let d = b.1 in
    subst (λ n. IsOperand t n i p) (sym a.4) (
      b.0,
      (
        d.0,
        next_after one t now operand (Signal a.0) a.1 a.2 i (Signal d.0) d.1,
        d.2,
        previous_after (IsOperand (now ∷ t) operand) (IsOperand t a.1) (λ k q. next_after one t now operand (Signal a.0) a.1 a.2 k q) a.0
            (first_is one t now operand (Signal a.0) a.1 a.2) init i d.2 d.3,
        d.4,
      ),
      b.2,
    )
next_after one t now (Cell operand truth init at) o next a i p b =
    let c = b.1 in
    let y = held init a.0 a.1 in
    let h = c.1 zero (omega arith) in
    let first : c.0 zero ≡ y =
    h.6 ∙ ap (λ q. held q h.0 h.1) (at_first (λ k q. q ≡ Signal (c.0 k)) init h.4 h.5)
    ∙ ap (λ q. held init q h.1) (same_signal h.0 a.0 (first_is one t now operand (Signal a.0) a.2 a.4 (Signal h.0) h.2))
    ∙ ap (held init a.0) (same_signal h.1 a.1 (first_is one t now truth (Signal a.1) a.3 a.5 (Signal h.1) h.3)) in
    subst (λ n. IsOperand t n i p) (sym a.7) (
      b.0,
      (
        (λ k. c.0 (suc k)),
        (λ k le. let g = c.1 (suc k) (omega arith) in (
          g.0,
          g.1,
          next_after one t now operand (Signal a.0) a.2 a.4 k (Signal g.0) g.2,
          next_after one t now truth (Signal a.1) a.3 a.5 k (Signal g.1) g.3,
          g.4,
          previous_after (λ j q. q ≡ Signal (c.0 j)) (λ j q. q ≡ Signal (c.0 (suc j))) (λ j q e. e) y
              (λ q e. e ∙ ap Signal first) init k g.4 g.5,
          g.6,
        )),
        c.2,
      ),
      b.2,
    )

-- a value, and then a history
abbrev begun : Seen → (ℕ → Seen) → ℕ → Seen
begun first later zero = first
begun first later (suc k) = later k

pub next_before : OneValue → (t : Trace) (now : Instant) (e : FlatExpression) (o : Operand) (next : FlatExpression) → Steps e now o next
    → (i : ℕ) (p : Operand) → IsOperand t next i p → IsOperand (now ∷ t) e (suc i) p
next_before one t now (Sig signal at) o next a i p b = subst (λ n. IsOperand t n i p) a.1 b
next_before one t now (Const value kind at) o next a i p b = subst (λ n. IsOperand t n i p) a.1 b
next_before one t now (Unary op operand at) o next a i p b =
    let s : IsOperand t (Unary op a.1 at) i p = subst (λ n. IsOperand t n i p) a.6 b in
    (s.0, next_before one t now operand a.0 a.1 a.2 i s.0 s.1, s.2, s.3, s.4)
next_before one t now (Binary op left right at) o next a i p b =
    let s : IsOperand t (Binary op a.2 a.3 at) i p = subst (λ n. IsOperand t n i p) a.9 b in
    (s.0, s.1, next_before one t now left a.0 a.2 a.4 i s.0 s.2, next_before one t now right a.1 a.3 a.5 i s.1 s.3, s.4, s.5, s.6)
next_before one t now (Delay operand init at) o next a i p b =
    let s : IsOperand t (Delay a.1 (kept init a.0) at) i p = subst (λ n. IsOperand t n i p) a.4 b in
    let d = s.1 in (
      s.0,
      (
        d.0,
        next_before one t now operand (Signal a.0) a.1 a.2 i (Signal d.0) d.1,
        d.2,
        previous_before (IsOperand (now ∷ t) operand) (IsOperand t a.1) (λ k q. next_before one t now operand (Signal a.0) a.1 a.2 k q) a.0
            (step_first t now operand (Signal a.0) a.1 a.2) init i d.2 d.3,
        d.4,
      ),
      s.2,
    )
next_before one t now (Cell operand truth init at) o next a i p b =
    let y = held init a.0 a.1 in
    let s : IsOperand t (Cell a.2 a.3 (kept init y) at) i p = subst (λ n. IsOperand t n i p) a.7 b in
    let c = s.1 in (
      s.0,
      (
        begun y c.0,
        (λ k le. from_zero (IsHeld (IsOperand (now ∷ t) operand) (IsOperand (now ∷ t) truth) init (begun y c.0)) (suc i)
            (a.0, a.1, step_first t now operand (Signal a.0) a.2 a.4, step_first t now truth (Signal a.1) a.3 a.5, init, first_is_init (λ j q. q ≡ Signal (begun y c.0 j)) init, refl)
            (λ j lt. let g = c.1 j (omega arith) in (
              g.0,
              g.1,
              next_before one t now operand (Signal a.0) a.2 a.4 j (Signal g.0) g.2,
              next_before one t now truth (Signal a.1) a.3 a.5 j (Signal g.1) g.3,
              g.4,
              previous_before (λ m q. q ≡ Signal (begun y c.0 m)) (λ m q. q ≡ Signal (c.0 m)) (λ m q e. e) y refl init j g.4 g.5,
              g.6,
            )) k (omega arith)),
        c.2,
      ),
      s.2,
    )
