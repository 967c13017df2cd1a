-- Finding the maximal clocks keeps to its share, and so does pacing.
use Rattle.sig_pace.proofs.Common.{◌≡◌, ◌<◌, ◌≤◌, ◌+◌, ◌*◌, ◌^◌, ◌⊎◌, ℕ, List, length, sym, subst, arith, Option, Some, Result, Ok, Err, IfErr, IfSome, IsErrAnd, mul-le-mul_right, StoreView, allowance, IsRefused, Share, DdAnswer, Budget as StoreBudget, OutOfMemory as NoStore, Kernel, IsFromStore, IsUnknownCount, IsRefusedFor, KeepsToShare, SystemView, RelAnswer, SystemBudget, NoMemory, calls_of, rest_of_share, share_of, calls_fit, halves, variables_count, IsFromSystem, variables_of, AreLeaders, HasNoPaceRoom, KeepsToPaceShare, KeepsToSystemShare, PaceAnswer}

-- ---- the calls

through : (a b c : ℕ) → a ≤ b → b ≤ c → a ≤ c
through a b c one two = omega (arith, one, two)

both_halves : (n o r s : ℕ) → n ≤ o + r → r + r ≡ s → n ≤ o + s
both_halves n o r s one two = omega (arith, one, two)

half_then : (n m o k r s : ℕ) → m ≤ o + r → k ≤ r → n ≤ m + k → r + r ≡ s → n ≤ o + s
half_then n m o k r s one two three four = omega (arith, one, two, three, four)

below_both : (n o r s : ℕ) → n < o + r → r + r ≡ s → n < o + s
below_both n o r s one two = omega (arith, one, two)

few_calls : (c n : ℕ) → 1 + c ≤ 1 + calls_of c 0 n
few_calls c n = let a : 1 * c ≤ (2 + 2 * n) * c = mul-le-mul_right c (omega arith) in omega (arith, a)

pub calls_within : (n u c q : ℕ) (vs : List ℕ) → length vs ≡ n → n ≤ u → c ≤ u → ((u ≡ 0) ⊎ (1 ≤ c)) → (1 + c) * allowance vs ≤ 2 ^ u * 30 * (q + u * u * u)
calls_within n u c q vs count few le some =
    let wide = calls_fit n u c 0 q vs count few (omega (arith, le)) some in
    let low : (1 + c) * allowance vs ≤ (1 + calls_of c 0 n) * allowance vs = mul-le-mul_right (allowance vs) (few_calls c n) in
    through ((1 + c) * allowance vs) ((1 + calls_of c 0 n) * allowance vs) (2 ^ u * 30 * (q + u * u * u)) low wide

refused_then : (old mid new : StoreView) (a b room : ℕ) → length mid.nodes ≤ length old.nodes + a → b ≤ room → (why : Option DdAnswer) → IfSome why (IsRefused mid new b) → IfSome why (IsRefused old new (a + room))
refused_then old mid new a b room first le (Some (StoreBudget n)) h = (h.0, let lt = h.1 in omega (arith, lt, first, le))
refused_then old mid new a b room first le _ h = tt

-- the making of the system, and then the calls
module _ (kernel : Kernel) (leaders : List ℕ) (are : AreLeaders kernel leaders) (system : SystemView) (few : (u : ℕ) → IsUnknownCount kernel u → system.variables ≤ u) (old mid new : StoreView)
    (first : (u : ℕ) → IsUnknownCount kernel u → length mid.nodes ≤ length old.nodes + rest_of_share kernel u) (why : Option DdAnswer) (share : Share (1 + length leaders) (variables_of system) mid new why) where
  fits : (u : ℕ) → IsUnknownCount kernel u → (1 + length leaders) * allowance (variables_of system) ≤ rest_of_share kernel u
  fits u count = calls_within system.variables u (length leaders) (length kernel.equations) (variables_of system) (variables_count system) (few u count) (are.few u count) (are.some u count)

  pub calls_added : (u : ℕ) → IsUnknownCount kernel u → length new.nodes ≤ length old.nodes + share_of kernel u
  calls_added u count =
      half_then (length new.nodes) (length mid.nodes) (length old.nodes) ((1 + length leaders) * allowance (variables_of system)) (rest_of_share kernel u) (share_of kernel u)
      (first u count) (fits u count) share.added (halves kernel u)

  pub calls_refused : (u : ℕ) → IsUnknownCount kernel u → IfSome why (IsRefused old new (share_of kernel u))
  calls_refused u count =
      subst (λ room. IfSome why (IsRefused old new room)) (halves kernel u)
      (refused_then old mid new (rest_of_share kernel u) ((1 + length leaders) * allowance (variables_of system)) (rest_of_share kernel u) (first u count) (fits u count) why share.refused)

from_store : {T : Type 0} (old new : StoreView) (room : ℕ) (result : Result T RelAnswer) (e : DdAnswer) → IsErrAnd result (λ d. IsFromStore e d) → IfSome (Some e) (IsRefused old new room) → IfErr result (IsRefusedFor old new room)
from_store old new room (Ok x) e is refused = absurd is
from_store old new room (Err d) (StoreBudget n) is refused = subst (λ x. IsRefusedFor old new room x) (sym is) refused
from_store old new room (Err d) NoStore is refused = subst (λ x. IsRefusedFor old new room x) (sym is) tt

-- a refusal of the store behind the system
pub keeps_refused : {T : Type 0} (kernel : Kernel) (leaders : List ℕ) (are : AreLeaders kernel leaders) (system : SystemView) (few : (u : ℕ) → IsUnknownCount kernel u → system.variables ≤ u) (old mid new : StoreView)
    (first : (u : ℕ) → IsUnknownCount kernel u → length mid.nodes ≤ length old.nodes + rest_of_share kernel u) (e : DdAnswer) → Share (1 + length leaders) (variables_of system) mid new (Some e)
    → (result : Result T RelAnswer) → IsErrAnd result (λ d. IsFromStore e d) → KeepsToSystemShare kernel old new result
keeps_refused kernel leaders are system few old mid new first e share result is = record {
  added = calls_added kernel leaders are system few old mid new first (Some e) share;
  refused = λ u count. from_store old new (share_of kernel u) result e is (calls_refused kernel leaders are system few old mid new first (Some e) share u count);
}

-- a refusal of the system
pub keeps_system : {S T : Type 0} (kernel : Kernel) (old new : StoreView) (e : RelAnswer) → KeepsToShare {T = S} kernel old new (Err e) → (result : Result T RelAnswer) → IsErrAnd result (λ d. d ≡ e) → KeepsToSystemShare kernel old new result
keeps_system {S} {T} kernel old new e share result is = record {
  added = λ u count. both_halves (length new.nodes) (length old.nodes) (rest_of_share kernel u) (share_of kernel u) (share.added u count) (halves kernel u);
  refused = λ u count. by u e (share.refused u count) result is;
} where
  by : (u : ℕ) (e : RelAnswer) → IsRefusedFor old new (rest_of_share kernel u) e → (result : Result T RelAnswer) → IsErrAnd result (λ d. d ≡ e) → IfErr result (IsRefusedFor old new (share_of kernel u))
  by u e refused (Ok x) is = tt
  by u (SystemBudget n) refused (Err d) is = subst (λ x. IsRefusedFor old new (share_of kernel u) x) (sym is) (refused.0, below_both n (length old.nodes) (rest_of_share kernel u) (share_of kernel u) refused.1 (halves kernel u))
  by u NoMemory refused (Err d) is = subst (λ x. IsRefusedFor old new (share_of kernel u) x) (sym is) tt

-- ---- pacing

-- a refusal of the maximal clocks
pub keeps_maximal : {S T : Type 0} (kernel : Kernel) (old new : StoreView) (e : RelAnswer) → KeepsToSystemShare {T = S} kernel old new (Err e) → (result : Result T PaceAnswer) → IsErrAnd result (λ d. IsFromSystem e d) → KeepsToPaceShare kernel old new result
keeps_maximal {S} {T} kernel old new e share result is = record { added = share.added; refused = λ u count. by u e (share.refused u count) result is } where
  by : (u : ℕ) (e : RelAnswer) → IsRefusedFor old new (share_of kernel u) e → (result : Result T PaceAnswer) → IsErrAnd result (λ d. IsFromSystem e d) → IfErr result (HasNoPaceRoom old new (share_of kernel u))
  by u e refused (Ok x) is = tt
  by u (SystemBudget n) refused (Err d) is = subst (λ x. HasNoPaceRoom old new (share_of kernel u) x) (sym is) refused
  by u NoMemory refused (Err d) is = subst (λ x. HasNoPaceRoom old new (share_of kernel u) x) (sym is) tt

-- passed on as it was
pub keeps_passed : {S T : Type 0} (kernel : Kernel) (old new : StoreView) (e : PaceAnswer) → KeepsToPaceShare {T = S} kernel old new (Err e) → (result : Result T PaceAnswer) → IsErrAnd result (λ d. d ≡ e) → KeepsToPaceShare kernel old new result
keeps_passed {S} {T} kernel old new e share result is = record { added = share.added; refused = λ u count. by u (share.refused u count) result is } where
  by : (u : ℕ) → HasNoPaceRoom old new (share_of kernel u) e → (result : Result T PaceAnswer) → IsErrAnd result (λ d. d ≡ e) → IfErr result (HasNoPaceRoom old new (share_of kernel u))
  by u refused (Ok x) is = tt
  by u refused (Err d) is = subst (λ x. HasNoPaceRoom old new (share_of kernel u) x) (sym is) refused
