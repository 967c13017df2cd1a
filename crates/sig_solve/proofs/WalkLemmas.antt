-- A walk asks for no variable that makes no difference below the truths that led to it.
use Rattle.sig_solve.proofs.Common.{◌≡◌, ◌≢◌, ℕ, zero, suc, ◌<◌, ◌≤◌, Bool, true, false, cond, List, Some, None, refl, sym, ap, ◌∙◌, subst, inl, inr, arith, cases_eq, slice_get_within, slice_get, SigId, absent_makes_none, KeepsTo, HasClocks, AreClocks, ClocksView, guard_of, Reaction, Speaks, status_at, proper, IsProper, one_diagram, truth_of-with_other, truth_of-with_same, value_at-choice, value_at-chosen, value_at-earlier, Diagram, Constant, Choice, StartsFrom, truth_of, value_at, with_truth, IsStore, StoreView, diagram, test, Ref, Kernel, Asks}

-- truths, with those of the first variables taken from others
below : ℕ → List Bool → List Bool → List Bool
below zero truths ts = ts
below (suc n) truths ts = with_truth (below n truths ts) n (truth_of truths n)

first_taken : (n : ℕ) (truths ts : List Bool) (u : ℕ) → u < n → truth_of (below n truths ts) u ≡ truth_of truths u
unfolding below
first_taken zero truths ts u lt = absurd (omega arith)
first_taken (suc n) truths ts u lt = elim (cases_eq u n) [
  | inl same ↦ subst (λ w. truth_of (with_truth (below n truths ts) n (truth_of truths n)) w ≡ truth_of truths w) (sym same)
      (truth_of-with_same (below n truths ts) n (truth_of truths n))
  | inr differ ↦ truth_of-with_other (below n truths ts) n (truth_of truths n) u differ ∙ first_taken n truths ts u (omega arith)
]

none_matters : (d : Diagram) (b : ℕ) → IsProper d → StartsFrom b d → (n : ℕ) → n ≤ b → (truths ts : List Bool) → value_at d (below n truths ts) ≡ value_at d ts
unfolding below
none_matters d b is starts zero le truths ts = refl
none_matters d b is starts (suc n) le truths ts =
    value_at-earlier d b is starts n (omega arith) (below n truths ts) (truth_of truths n) ∙ none_matters d b is starts n (omega arith) truths ts

-- a walk asks for no variable before the first one
asks_later : (d : Diagram) (b : ℕ) → IsProper d → StartsFrom b d → (truths : List Bool) (v : ℕ) → Asks d truths v → b ≤ v
unfolding StartsFrom
asks_later (Constant c) b is starts truths v asks = absurd asks
asks_later (Choice u low high) b is starts truths v (inl same) = omega (arith, same, starts)
asks_later (Choice u low high) b is starts truths v (inr (inl (truth, asks))) = let later = asks_later high (suc u) is.4 is.1 truths v asks in omega (arith, later, starts)
asks_later (Choice u low high) b is starts truths v (inr (inr (truth, asks))) = let later = asks_later low (suc u) is.3 is.0 truths v asks in omega (arith, later, starts)

-- below the truths of earlier variables the truth of this one makes no difference
abbrev MakesNone : Diagram → List Bool → ℕ → Type 0
MakesNone d truths v = (other : List Bool) → ((u : ℕ) → u < v → truth_of other u ≡ truth_of truths u) → value_at d (with_truth other v false) ≡ value_at d (with_truth other v true)

one_side : (u : ℕ) (low high : Diagram) (v : ℕ) (other : List Bool) (b x : Bool) → u < v → truth_of other u ≡ b → value_at (Choice u low high) (with_truth other v x) ≡ cond b (value_at high (with_truth other v x)) (value_at low (with_truth other v x))
one_side u low high v other b x lt is =
    value_at-choice u low high (with_truth other v x) b (truth_of-with_other other v x u (omega arith) ∙ is)

pub asks_no_idle : (d : Diagram) → IsProper d → (truths : List Bool) (v : ℕ) → Asks d truths v → MakesNone d truths v → ⊥
asks_no_idle (Constant c) is truths v asks none = asks
asks_no_idle (Choice u low high) is truths v (inl same) none =
    is.2 (one_diagram low high is.3 is.4 (λ ts.
    let other : List Bool = below u truths ts in
    let first = none_matters low (suc u) is.3 is.0 u (omega arith) truths ts in
    let second = none_matters high (suc u) is.4 is.1 u (omega arith) truths ts in
    let here = subst (MakesNone (Choice u low high) truths) same none in
    sym first ∙ (sym (value_at-chosen u low high is other false) ∙ (here other (first_taken u truths ts) ∙ (value_at-chosen u low high is other true ∙ second)))))
asks_no_idle (Choice u low high) is truths v (inr (inl (truth, asks))) none =
    let later : suc u ≤ v = asks_later high (suc u) is.4 is.1 truths v asks in
    asks_no_idle high is.4 truths v asks (λ other agree.
    let at = agree u (omega arith) ∙ truth in
    sym (one_side u low high v other true false (omega arith) at) ∙ (none other agree ∙ one_side u low high v other true true (omega arith) at))
asks_no_idle (Choice u low high) is truths v (inr (inr (truth, asks))) none =
    let later : suc u ≤ v = asks_later low (suc u) is.3 is.0 truths v asks in
    asks_no_idle low is.3 truths v asks (λ other agree.
    let at = agree u (omega arith) ∙ truth in
    sym (one_side u low high v other false false (omega arith) at) ∙ (none other agree ∙ one_side u low high v other false true (omega arith) at))

pub asks_no_absent : (kernel : Kernel) (s : StoreView) (clocks : ClocksView) → IsStore s → HasClocks kernel → AreClocks kernel s.nodes clocks
    → (class : ℕ) (guard : Ref) → slice_get clocks.guard class ≡ Some guard → (reaction : Reaction) (proposal : List Bool) → Speaks kernel reaction
    → KeepsTo clocks.conditions proposal reaction → (v : ℕ) (condition : SigId) → slice_get clocks.conditions v ≡ Some condition
    → Asks (diagram s.nodes guard) proposal v → status_at reaction condition.0 ≢ None
asks_no_absent kernel s clocks store has are class guard at reaction proposal speaks keeps v condition here asks absent =
    let member = are.members class (slice_get_within clocks.guard class guard at) in
    let signal : ℕ = member.0 in
    let within = subst (λ n. signal < n) are.count member.1.within in
    let guarded : guard_of clocks signal ≡ Some guard = ap (slice_get clocks.guard) member.1.is ∙ at in
    asks_no_idle (diagram s.nodes guard) (proper s.nodes store.reduced guard (are.held class guard at)) proposal v asks
    (λ other agree. absent_makes_none kernel clocks.conditions has are.conditions signal (test s.nodes guard) (are.functions signal guard within guarded)
    reaction proposal other v condition speaks keeps here absent agree)
