-- Calls that add nodes, one after another, and the share of a triangular kernel's system.
use Rattle.sig_rel.proofs.Common.{◌≡◌, ◌≤◌, ◌<◌, ◌+◌, ◌-◌, ◌*◌, ◌^◌, ℕ, zero, suc, List, [], ◌∷◌, None, Some, Result, Ok, Err, IfErr, length, sym, subst, arith, IsErrAnd, range_with_len, mul-le-mul_left, mul-le-mul_right, pow-suc, length-range_with_len, contains_head, IsStore, Keeps, StoreView, allowance, IsRefused, Shares, DdAnswer, Budget as StoreBudget, OutOfMemory as NoMemory, Keeps-itself, Keeps-trans, Kernel, conditions_of, Adds, Makes, triangular_share_of, no_ref}

-- a refusal of later calls is one of all of them
pub refused_later : (r s t : StoreView) (n m : ℕ) → length s.nodes + n ≤ length r.nodes + m → (why : DdAnswer) → IsRefused s t n why → IsRefused r t m why
refused_later r s t n m le (StoreBudget k) refused = let lt = refused.1 in (refused.0, omega (arith, le, lt))
refused_later r s t n m le NoMemory refused = tt

later : (r s t : StoreView) (n m : ℕ) → length s.nodes + n ≤ length r.nodes + m → (result : Result (Unit {0}) DdAnswer) → IfErr result (IsRefused s t n) → IfErr result (IsRefused r t m)
later r s t n m le (Ok done) refused = tt
later r s t n m le (Err why) refused = refused_later r s t n m le why refused

pub adds_none : (s : StoreView) → IsStore s → Adds 0 s s (Ok tt)
adds_none s store = record { store = store; kept = Keeps-itself s; added = omega arith; refused = tt }

pub adds_then : (m n : ℕ) (r s t : StoreView) (result : Result (Unit {0}) DdAnswer) → Adds m r s (Ok tt) → Adds n s t result → Adds (m + n) r t result
adds_then m n r s t result first second =
    let a = first.added in
    let b = second.added in
    record { store = second.store; kept = Keeps-trans r s t first.kept second.kept; added = omega (arith, a, b); refused = later r s t n (m + n) (omega (arith, a)) result second.refused }

pub adds_more : (m n : ℕ) (s t : StoreView) (result : Result (Unit {0}) DdAnswer) → Adds m s t result → m ≤ n → Adds n s t result
adds_more m n s t result adds le =
    let a = adds.added in
    record { store = adds.store; kept = adds.kept; added = omega (arith, a, le); refused = later s s t m n (omega (arith, le)) result adds.refused }

-- a refusal is passed on
pub adds_err : (m n : ℕ) (s t : StoreView) (why : DdAnswer) (result : Result (Unit {0}) DdAnswer) → Adds m s t (Err why) → m ≤ n → IsErrAnd result (λ d. d ≡ why) → Adds n s t result
adds_err m n s t why (Ok done) adds le is = absurd is
adds_err m n s t why (Err other) adds le is = subst (λ d. Adds n s t (Err d)) (sym is) (adds_more m n s t (Err why) adds le)

-- a variable adds at most one node
module _ (v : ℕ) (s t : StoreView) (store : IsStore t) (kept : Keeps s t) where
  pub adds_variable : Shares 1 [] (v ∷ []) s t None → Adds 1 s t (Ok tt)
  adds_variable shares =
      let share = shares.over (v ∷ []) tt (contains_head v [], tt) in
      let a = share.added in
      record { store = store; kept = kept; added = omega (arith, a); refused = tt }

  pub variable_refused : (why : DdAnswer) (result : Result (Unit {0}) DdAnswer) → Shares 1 [] (v ∷ []) s t (Some why) → IsErrAnd result (λ d. d ≡ why) → Adds 1 s t result
  variable_refused why (Ok done) shares is = absurd is
  variable_refused why (Err other) shares is =
      let share = shares.over (v ∷ []) tt (contains_head v [], tt) in
      let a = share.added in
      record { store = store; kept = kept; added = omega (arith, a); refused = subst (IsRefused s t 1) (sym is) share.refused }

-- calls over some variables add at most an allowance each
pub adds_makes : (n : ℕ) (Wide : List ℕ → Type 0) (s t : StoreView) (vs : List ℕ) → Wide vs → (result : Result (Unit {0}) DdAnswer) → Makes n Wide s t no_ref result → Adds (n * allowance vs) s t result
adds_makes n Wide s t vs wide (Ok done) makes = let leads = makes.leads vs wide in record { store = makes.store; kept = makes.kept; added = leads.share.added; refused = tt }
adds_makes n Wide s t vs wide (Err why) makes = let leads = makes.leads vs wide in record { store = makes.store; kept = makes.kept; added = leads.added; refused = leads.refused }

-- ---- the share

below_power : (n : ℕ) → n < 2 ^ n
below_power zero = omega arith
below_power (suc n) = let rest = below_power n in omega (arith, rest, pow-suc 2 n)

within : (k s q p : ℕ) → k ≤ p → s ≤ 2 * q → k + 3 * s * (p - 1) ≤ p * 16 * (q + 1)
within k s q p few steps =
    let a : 3 * s * (p - 1) ≤ 3 * s * p = mul-le-mul_left (3 * s) (omega arith) in
    let b : 3 * s * p ≤ 16 * q * p = mul-le-mul_right p (omega (arith, steps)) in
    let e : 16 * q * p + 16 * p ≡ p * 16 * (q + 1) = omega arith in
    omega (arith, a, b, e, few)

-- a node for each condition, and three calls a step, are within the share
pub within_triangular_share : (kernel : Kernel) (k s : ℕ) → k ≡ length (conditions_of kernel) → s ≤ 2 * length kernel.equations → k + 3 * s * allowance (range_with_len 0 k) ≤ triangular_share_of kernel
within_triangular_share kernel k s count steps =
    let long = length-range_with_len 0 k in
    let few = below_power k in
    subst (λ n. k + 3 * s * allowance (range_with_len 0 k) ≤ 2 ^ n * 16 * (length kernel.equations + 1)) count
    (subst (λ n. k + 3 * s * (2 ^ n - 1) ≤ 2 ^ k * 16 * (length kernel.equations + 1)) (sym long) (within k s (length kernel.equations) (2 ^ k) (omega (arith, few)) steps))
