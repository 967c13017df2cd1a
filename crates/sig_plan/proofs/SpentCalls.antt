-- What calls that make operations spend.
use Rattle.sig_plan.proofs.Common.{◌≡◌, ◌≤◌, ◌+◌, ◌*◌, ℕ, List, length, sym, ◌∙◌, subst, arith, Result, Ok, Err, IfErr, None, Some, IsErrAnd, mul-le-mul_right, ClocksView, IsStore, Keeps, StoreView, allowance, IsRefused, Share, DdAnswer, Budget as StoreBudget, NoMemory, Keeps-trans, IsFromStore, AreOver, HoldGuards, Spends, IsRefusedFor, KeepsToShare, PlanAnswer, OutOfMemory}
use Rattle.sig_plan.specs.declared.answer.PlanAnswer.TheVariants.{Budget}
use Rattle.sig_plan.proofs.Guards.{over_kept}

no_memory : (old new : StoreView) (room : ℕ) (answer : PlanAnswer) → answer ≡ OutOfMemory → IsRefusedFor old new room answer
no_memory old new room answer is = subst (IsRefusedFor old new room) (sym is) tt

refused_wider : (r s t : StoreView) (m n : ℕ) (answer : PlanAnswer) → length s.nodes + m ≤ length r.nodes + n → IsRefusedFor s t m answer → IsRefusedFor r t n answer
refused_wider r s t m n (Budget b) le is = let lt = is.1 in (is.0, omega (arith, lt, le))
refused_wider r s t m n OutOfMemory le is = tt

module _ {T : Type 0} (clocks : ClocksView) where
  kept_wider : (r s t : StoreView) (m n : ℕ) (result : Result T PlanAnswer) → length s.nodes + m ≤ length r.nodes + n → KeepsToShare m s t result → KeepsToShare n r t result
  kept_wider r s t m n (Ok x) le share = let most = share.added in record { added = omega (arith, most, le); refused = tt }
  kept_wider r s t m n (Err answer) le share = let most = share.added in record { added = omega (arith, most, le); refused = refused_wider r s t m n answer le share.refused }

  pub spends_wider : (m n : ℕ) (s t : StoreView) (result : Result T PlanAnswer) → m ≤ n → Spends m clocks s t result → Spends n clocks s t result
  spends_wider m n s t result le spends = record {
    store = spends.store;
    kept = spends.kept;
    share = λ vs over. kept_wider s s t (m * allowance vs) (n * allowance vs) result (let more : m * allowance vs ≤ n * allowance vs = mul-le-mul_right (allowance vs) le in omega (arith, more)) (spends.share vs over);
  }

-- some calls, and then others
pub spends_then : {X Y : Type 0} (clocks : ClocksView) (m n : ℕ) (r s t : StoreView) (x : X) (result : Result Y PlanAnswer) → HoldGuards r.nodes clocks
    → Spends m clocks r s (let first : Result X PlanAnswer = Ok x in first) → Spends n clocks s t result → Spends (m + n) clocks r t result
spends_then clocks m n r s t x result held first second = record {
  store = second.store;
  kept = Keeps-trans r s t first.kept second.kept;
  share = λ vs over.
      let most = (first.share vs over).added in
      kept_wider clocks r s t (n * allowance vs) ((m + n) * allowance vs) result
      (let e : (m + n) * allowance vs ≡ m * allowance vs + n * allowance vs = omega arith in omega (arith, most, e))
      (second.share vs (over_kept r s first.kept clocks held vs over));
}

-- a refusal is passed on
pub spends_err : {X Y : Type 0} (clocks : ClocksView) (n : ℕ) (s t : StoreView) (answer : PlanAnswer) (result : Result Y PlanAnswer)
    → Spends n clocks s t (let first : Result X PlanAnswer = Err answer in first) → IsErrAnd result (λ e. e ≡ answer) → Spends n clocks s t result
spends_err clocks n s t answer (Ok y) spends is = absurd is
spends_err clocks n s t answer (Err e) spends is = record {
  store = spends.store;
  kept = spends.kept;
  share = λ vs over. let share = spends.share vs over in record { added = share.added; refused = subst (IsRefusedFor s t (n * allowance vs)) (sym is) share.refused };
}

share_refused : (old new : StoreView) (room : ℕ) (why : DdAnswer) (answer : PlanAnswer) → IsFromStore why answer → IsRefused old new room why → IsRefusedFor old new room answer
share_refused old new room (StoreBudget n) answer is refused = subst (IsRefusedFor old new room) (sym is) refused
share_refused old new room NoMemory answer is refused = no_memory old new room answer is

-- calls of the store itself
pub spends_made : {Y : Type 0} (clocks : ClocksView) (n : ℕ) (s t : StoreView) (y : Y) → IsStore t → Keeps s t → ((vs : List ℕ) → AreOver s.nodes vs clocks → Share n vs s t None)
    → Spends n clocks s t (let made : Result Y PlanAnswer = Ok y in made)
spends_made clocks n s t y store kept share = record { store = store; kept = kept; share = λ vs over. record { added = (share vs over).added; refused = tt } }

pub spends_refused : {Y : Type 0} (clocks : ClocksView) (n : ℕ) (s t : StoreView) (why : DdAnswer) (result : Result Y PlanAnswer) → IsStore t → Keeps s t
    → ((vs : List ℕ) → AreOver s.nodes vs clocks → Share n vs s t (Some why)) → IsErrAnd result (IsFromStore why) → Spends n clocks s t result
spends_refused clocks n s t why (Ok y) store kept share is = absurd is
spends_refused clocks n s t why (Err answer) store kept share is = record {
  store = store;
  kept = kept;
  share = λ vs over. let spent = share vs over in record { added = spent.added; refused = share_refused s t (n * allowance vs) why answer is spent.refused };
}

-- calls of the store, and then something that it was not asked for
pub spends_after : {Y : Type 0} (clocks : ClocksView) (n : ℕ) (s t : StoreView) (result : Result Y PlanAnswer) → IsStore t → Keeps s t → ((vs : List ℕ) → AreOver s.nodes vs clocks → Share n vs s t None)
    → IfErr result (λ answer. answer ≡ OutOfMemory) → Spends n clocks s t result
spends_after clocks n s t (Ok y) store kept share is = spends_made clocks n s t y store kept share
spends_after clocks n s t (Err answer) store kept share is = record {
  store = store;
  kept = kept;
  share = λ vs over. record { added = (share vs over).added; refused = no_memory s t (n * allowance vs) answer is };
}

-- the same, where the refusal is passed on
pub spends_after_err : {Y : Type 0} (clocks : ClocksView) (n : ℕ) (s t : StoreView) (first : PlanAnswer) (result : Result Y PlanAnswer) → IsStore t → Keeps s t
    → ((vs : List ℕ) → AreOver s.nodes vs clocks → Share n vs s t None) → first ≡ OutOfMemory → IsErrAnd result (λ answer. answer ≡ first) → Spends n clocks s t result
spends_after_err clocks n s t first (Ok y) store kept share is same = absurd same
spends_after_err clocks n s t first (Err answer) store kept share is same = spends_after clocks n s t (Err answer) store kept share (same ∙ is)

-- calls of which none was refused yet
abbrev pub SpendsSoFar : ℕ → ClocksView → StoreView → StoreView → Type 0
SpendsSoFar calls clocks old new = Spends {T = Unit {0}} calls clocks old new (Ok tt)
