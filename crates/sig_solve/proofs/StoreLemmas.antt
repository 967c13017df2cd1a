-- Lemmas on calls of a store, one after another.
use Rattle.sig_solve.proofs.Common.{◌≡◌, ◌<◌, ◌≤◌, ◌+◌, ◌*◌, ℕ, List, get_or, inl, inr, refl, sym, subst, arith, Option, None, Some, Result, Ok, Err, IsErrAnd, cases_eq, mul-le-mul_left, mul-le-mul_right, StoreView, allowance, Share, refusal, DdAnswer, Budget, OutOfMemory, Share-none, Share-then, Share-wider, refusal_is}

pub more_calls : (m n : ℕ) (vs : List ℕ) (s t : StoreView) (why : Option DdAnswer) → m ≤ n → Share m vs s t why → Share n vs s t why
more_calls m n vs s t why le share = Share-wider s t m n vs vs why (mul-le-mul_right (allowance vs) le) share

-- one more turn of a loop that makes so many calls in each turn
pub next_turn : (m k : ℕ) (vs : List ℕ) (r s t : StoreView) (why : Option DdAnswer) → Share (m * k) vs r s None → Share m vs s t why → Share (m * (k + 1)) vs r t why
next_turn m k vs r s t why before call =
    let sum : m * k + m ≡ m * (k + 1) = omega arith in
    subst (λ n. Share n vs r t why) sum (Share-then r s t (m * k) m vs why before call)

pub turn_within : (m k n : ℕ) (vs : List ℕ) (r s t : StoreView) (why : Option DdAnswer) → k < n → Share (m * k) vs r s None → Share m vs s t why → Share (m * n) vs r t why
turn_within m k n vs r s t why lt before call =
    let next : k + 1 ≤ n = omega (arith, lt) in
    more_calls (m * (k + 1)) (m * n) vs r t why (mul-le-mul_left m next) (next_turn m k vs r s t why before call)

pub refused : {T : Type 0} (n : ℕ) (vs : List ℕ) (s t : StoreView) (result : Result T DdAnswer) (e : DdAnswer) → IsErrAnd result (λ d. d ≡ e) → Share n vs s t (Some e) → Share n vs s t (refusal result)
refused n vs s t result e is share = subst (Share n vs s t) (sym (refusal_is result e is)) share

-- a question that makes no node
pub asked : {T : Type 0} (n : ℕ) (vs : List ℕ) (s t : StoreView) → Share n vs s t None → (result : Result T DdAnswer) → ((k : ℕ) → result ≡ Err (Budget k) → ⊥) → Share n vs s t (refusal result)
asked n vs s t share (Ok x) not = share
asked n vs s t share (Err OutOfMemory) not = record { added = share.added; refused = tt }
asked n vs s t share (Err (Budget k)) not = absurd (not k refl)

-- what holds of the first elements, and of the next one
pub below_more_of : (P : ℕ → Type 0) (xs : List ℕ) (n : ℕ) → ((k : ℕ) → k < n → P (get_or xs k 0)) → P (get_or xs n 0) → (k : ℕ) → k < n + 1 → P (get_or xs k 0)
below_more_of P xs n before here k lt = elim (cases_eq k n) [ inl e ↦ subst (λ j. P (get_or xs j 0)) (sym e) here | inr ne ↦ before k (omega (arith, lt, ne)) ]

-- want of memory has no cause
pub out_of_memory : (n : ℕ) (vs : List ℕ) (s t : StoreView) → Share n vs s t None → Share n vs s t (Some OutOfMemory)
out_of_memory n vs s t share = record { added = share.added; refused = tt }

pub no_turns : (m : ℕ) (vs : List ℕ) (s : StoreView) → Share (m * 0) vs s s None
no_turns m vs s = let none : 0 ≡ m * 0 = omega arith in subst (λ n. Share n vs s s None) none (Share-none s vs)
