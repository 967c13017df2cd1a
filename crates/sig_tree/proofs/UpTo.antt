-- What an expression means at an instant depends only on the trace up to there.
use Rattle.sig_tree.proofs.Common.{◌≡◌, ◌<◌, ◌≤◌, ◌++◌, ℕ, zero, suc, ℤ, List, [], ◌∷◌, length, None, Some, refl, ap, subst, ◌∙◌, arith, inl, inr, AllByRecursion, Instant, Trace, seen_at, FlatExpression, Sig, Const, FlatEquation, Defines, Equal, Operand, Signal, IsPrevious, IsOperand, instant_at, HoldsAt}
use Rattle.sig_tree.specs.FlatSyntax.{Unary, Binary, Delay, Cell}

-- two traces are the same up to an instant
abbrev pub SameUpTo : Trace → Trace → ℕ → Type 0
SameUpTo t u i = (k : ℕ) → k ≤ i → instant_at t k ≡ instant_at u k

previous_up_to : (M N : ℕ → Operand → Type 0) (init : ℤ) (i : ℕ) (v : ℤ) → ((k : ℕ) → k < i → (o : Operand) → M k o → N k o) → IsPrevious M init i v → IsPrevious N init i v
previous_up_to M N init i v f (inl a) = inl (λ k lt. f k lt (Signal None) (a.0 k lt), a.1)
previous_up_to M N init i v f (inr a) = inr (a.0, a.1, f a.0 a.1 (Signal (Some v)) a.2, λ k above below. f k below (Signal None) (a.3 k above below))

pub operand_up_to : (t u : Trace) (e : FlatExpression) (i : ℕ) → SameUpTo t u i → (o : Operand) → IsOperand t e i o → IsOperand u e i o
operand_up_to t u (Sig signal at) i same o a = a ∙ ap (λ (now : Instant). Signal (seen_at now signal)) (same i (omega arith))
operand_up_to t u (Const value kind at) i same o a = a
operand_up_to t u (Unary op operand at) i same o a = (a.0, operand_up_to t u operand i same a.0 a.1, a.2, a.3, a.4)
operand_up_to t u (Binary op left right at) i same o a =
    (a.0, a.1, operand_up_to t u left i same a.0 a.2, operand_up_to t u right i same a.1 a.3, a.4, a.5, a.6)
operand_up_to t u (Delay operand init at) i same o a =
    let d = a.1 in (
      a.0,
      (
        d.0,
        operand_up_to t u operand i same (Signal d.0) d.1,
        d.2,
        previous_up_to (IsOperand t operand) (IsOperand u operand) init i d.2 (λ k lt q. operand_up_to t u operand k (λ j le. same j (omega arith)) q) d.3,
        d.4,
      ),
      a.2,
    )
operand_up_to t u (Cell operand truth init at) i same o a =
    let c = a.1 in (
      a.0,
      (
        c.0,
        (λ k le. let h = c.1 k le in (
          h.0,
          h.1,
          operand_up_to t u operand k (λ j lower. same j (omega arith)) (Signal h.0) h.2,
          operand_up_to t u truth k (λ j lower. same j (omega arith)) (Signal h.1) h.3,
          h.4,
          h.5,
          h.6,
        )),
        c.2,
      ),
      a.2,
    )

each_up_to : (P Q : FlatExpression → Type 0) → ((e : FlatExpression) → P e → Q e) → (es : List FlatExpression) → AllByRecursion P es → AllByRecursion Q es
each_up_to P Q f [] h = tt
each_up_to P Q f (e ∷ es) h = (f e h.0, each_up_to P Q f es h.1)

pub holds_up_to : (t u : Trace) (q : FlatEquation) (i : ℕ) → SameUpTo t u i → HoldsAt t i q → HoldsAt u i q
holds_up_to t u (Defines signal e prefix) i same a =
    subst (λ (now : Instant). IsOperand u e i (Signal (seen_at now signal))) (same i (omega arith))
    (operand_up_to t u e i same (Signal (seen_at (instant_at t i) signal)) a)
holds_up_to t u (Equal es prefix) i same (inl a) =
    inl (each_up_to (λ e. IsOperand t e i (Signal None)) (λ e. IsOperand u e i (Signal None)) (λ e. operand_up_to t u e i same (Signal None)) es a)
holds_up_to t u (Equal es prefix) i same (inr a) =
    inr (each_up_to (λ e. (v : ℤ) × IsOperand t e i (Signal (Some v))) (λ e. (v : ℤ) × IsOperand u e i (Signal (Some v))) (λ e h. (h.0, operand_up_to t u e i same (Signal (Some h.0)) h.1)) es a)

-- a trace and what follows it
pub same_in_front : (t u : Trace) (i : ℕ) → i < length t → SameUpTo (t ++ u) t i
same_in_front [] u i lt k le = absurd (omega arith)
same_in_front (now ∷ t) u i lt zero le = refl
same_in_front (now ∷ t) u zero lt (suc k) le = absurd (omega arith)
same_in_front (now ∷ t) u (suc i) lt (suc k) le = same_in_front t u i (omega arith) k (omega arith)
