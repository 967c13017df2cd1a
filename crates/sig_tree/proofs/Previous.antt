-- The previous value, where a trace is read from its first instant on.
use Rattle.sig_tree.proofs.Common.{◌≡◌, ◌<◌, ℕ, zero, suc, ℤ, None, Some, refl, sym, ap, subst, ◌∙◌, arith, inl, inr, Seen, Operand, Signal, IsPrevious, kept}
use Rattle.sig_tree.proofs.OneMeaning.{same_signal}

-- at the first instant it is the init
pub at_first : (IsAt : ℕ → Operand → Type 0) (init v : ℤ) → IsPrevious IsAt init zero v → v ≡ init
at_first IsAt init v (inl a) = a.1
at_first IsAt init v (inr a) = absurd (omega (arith, a.1))

pub first_is_init : (IsAt : ℕ → Operand → Type 0) (init : ℤ) → IsPrevious IsAt init zero init
first_is_init IsAt init = inl (λ k lt. absurd (omega arith), refl)

-- what holds first and of each later number holds of all
pub from_zero : (P : ℕ → Type 0) (i : ℕ) → P zero → ((k : ℕ) → k < i → P (suc k)) → (k : ℕ) → k < suc i → P k
from_zero P i first later zero lt = first
from_zero P i first later (suc k) lt = later k (omega arith)

pub from_one : (P : ℕ → Type 0) (i j : ℕ) → ((k : ℕ) → j < suc k → k < i → P (suc k)) → (k : ℕ) → j < k → k < suc i → P k
from_one P i j later zero above lt = absurd (omega arith)
from_one P i j later (suc k) above lt = later k above (omega arith)

after_at : (M N : ℕ → Operand → Type 0) → ((k : ℕ) (o : Operand) → M (suc k) o → N k o) → (x : Seen) → ((o : Operand) → M zero o → o ≡ Signal x)
    → (init : ℤ) (i : ℕ) (v : ℤ) (j : ℕ) → j < suc i → M j (Signal (Some v)) → ((k : ℕ) → j < k → k < suc i → M k (Signal None))
    → IsPrevious N (kept init x) i v
after_at M N to x at init i v zero lt is after =
    inl (λ k below. to k (Signal None) (after (suc k) (omega arith) (omega arith)), ap (kept init) (same_signal (Some v) x (at (Signal (Some v)) is)))
after_at M N to x at init i v (suc j) lt is after =
    inr (j, omega arith, to j (Signal (Some v)) is, λ k above below. to k (Signal None) (after (suc k) (omega arith) (omega arith)))

-- behind the first instant, what was kept there is the init
pub previous_after : (M N : ℕ → Operand → Type 0) → ((k : ℕ) (o : Operand) → M (suc k) o → N k o) → (x : Seen) → ((o : Operand) → M zero o → o ≡ Signal x)
    → (init : ℤ) (i : ℕ) (v : ℤ) → IsPrevious M init (suc i) v → IsPrevious N (kept init x) i v
previous_after M N to x at init i v (inl a) =
    inl (λ k below. to k (Signal None) (a.0 (suc k) (omega arith)), a.1 ∙ ap (kept init) (same_signal None x (at (Signal None) (a.0 zero (omega arith)))))
previous_after M N to x at init i v (inr a) = after_at M N to x at init i v a.0 a.1 a.2 a.3

pub previous_before : (M N : ℕ → Operand → Type 0) → ((k : ℕ) (o : Operand) → N k o → M (suc k) o) → (x : Seen) → M zero (Signal x)
    → (init : ℤ) (i : ℕ) (v : ℤ) → IsPrevious N (kept init x) i v → IsPrevious M init (suc i) v
previous_before M N from None at init i v (inl a) =
    inl (from_zero (λ k. M k (Signal None)) i at (λ k lt. from k (Signal None) (a.0 k lt)), a.1)
previous_before M N from (Some w) at init i v (inl a) =
    inr (
      zero,
      omega arith,
      subst (λ (u : ℤ). M zero (Signal (Some u))) (sym a.1) at,
      from_one (λ k. M k (Signal None)) i zero (λ k above lt. from k (Signal None) (a.0 k lt)),
    )
previous_before M N from x at init i v (inr a) =
    inr (
      suc a.0,
      omega (arith, a.1),
      from a.0 (Signal (Some v)) a.2,
      from_one (λ k. M k (Signal None)) i (suc a.0) (λ k above lt. from k (Signal None) (a.3 k (omega arith) lt)),
    )
