-- What a walk asks for, and how many nodes it visits.
use Rattle.sig_dd.proofs.Common.{◌≡◌, ℕ, zero, suc, ◌<◌, ◌≤◌, Bool, true, false, cond, List, inl, inr, length, refl, sym, ◌∙◌, subst, arith, Contains, cases_eq, Diagram, Constant, Choice, Depends, StartsFrom, Tests, truth_of, value_at, visited, with_truth, Holds, IsStore, Spans, StoreView, diagram, test, Asks, IsIdle, Ref}
use Rattle.sig_dd.proofs.Canonical.{proper}
use Rattle.sig_dd.proofs.Counts.{Contains-without, length-without_contained, without}
use Rattle.sig_dd.proofs.Trees.{Depends-tests, IsProper, one_diagram, truth_of-with_other, truth_of-with_same, value_at-choice, value_at-chosen, value_at-earlier}

-- what a walk asks for is tested
asks_tested : (d : Diagram) (truths : List Bool) (v : ℕ) → Asks d truths v → Tests d v
unfolding Tests
asks_tested (Constant b) truths v asks = asks
asks_tested (Choice u low high) truths v (inl same) = inl same
asks_tested (Choice u low high) truths v (inr (inl (truth, asks))) = inr (inr (asks_tested high truths v asks))
asks_tested (Choice u low high) truths v (inr (inr (truth, asks))) = inr (inl (asks_tested low truths v asks))

-- truths that agree on what a walk by the first asks for give one value
asked_alone : (d : Diagram) (truths others : List Bool) → ((v : ℕ) → Asks d truths v → truth_of truths v ≡ truth_of others v) → value_at d truths ≡ value_at d others
unfolding value_at
asked_alone (Constant b) truths others agree = refl
asked_alone (Choice u low high) truths others agree =
    by (truth_of truths u) refl
    (λ e. asked_alone high truths others (λ v asks. agree v (inr (inl (e, asks)))))
    (λ e. asked_alone low truths others (λ v asks. agree v (inr (inr (e, asks)))))
  where
    by : (x : Bool) → truth_of truths u ≡ x → (truth_of truths u ≡ true → value_at high truths ≡ value_at high others) → (truth_of truths u ≡ false → value_at low truths ≡ value_at low others)
        → value_at (Choice u low high) truths ≡ value_at (Choice u low high) others
    by true e in_high in_low =
        value_at-choice u low high truths true e ∙ (in_high e ∙ sym (value_at-choice u low high others true (sym (agree u (inl refl)) ∙ e)))
    by false e in_high in_low =
        value_at-choice u low high truths false e ∙ (in_low e ∙ sym (value_at-choice u low high others false (sym (agree u (inl refl)) ∙ e)))

-- a walk asks for no variable before the first one
asks_later : (d : Diagram) (b : ℕ) → IsProper d → StartsFrom b d → (truths : List Bool) (v : ℕ) → Asks d truths v → b ≤ v
unfolding StartsFrom
asks_later (Constant c) b is starts truths v asks = absurd asks
asks_later (Choice u low high) b is starts truths v (inl same) = omega (arith, same, starts)
asks_later (Choice u low high) b is starts truths v (inr (inl (truth, asks))) = let later = asks_later high (suc u) is.4 is.1 truths v asks in omega (arith, later, starts)
asks_later (Choice u low high) b is starts truths v (inr (inr (truth, asks))) = let later = asks_later low (suc u) is.3 is.0 truths v asks in omega (arith, later, starts)

-- a walk visits no more nodes than there are variables that it asks for
visits_asked : (d : Diagram) → IsProper d → (truths : List Bool) (vs : List ℕ) → ((v : ℕ) → Asks d truths v → Contains vs v) → visited d truths ≤ length vs
unfolding visited
visits_asked (Constant b) is truths vs among = omega arith
visits_asked (Choice u low high) is truths vs among =
    by (truth_of truths u) refl
    (λ e. visits_asked high is.4 truths (without u vs) (λ v asks.
    let later = asks_later high (suc u) is.4 is.1 truths v asks in
    Contains-without u v vs (omega (arith, later)) (among v (inr (inl (e, asks))))))
    (λ e. visits_asked low is.3 truths (without u vs) (λ v asks.
    let later = asks_later low (suc u) is.3 is.0 truths v asks in
    Contains-without u v vs (omega (arith, later)) (among v (inr (inr (e, asks))))))
  where
    fewer : suc (length (without u vs)) ≤ length vs
    fewer = length-without_contained u vs (among u (inl refl))

    by : (x : Bool) → truth_of truths u ≡ x → (truth_of truths u ≡ true → visited high truths ≤ length (without u vs)) → (truth_of truths u ≡ false → visited low truths ≤ length (without u vs))
        → suc (cond x (visited high truths) (visited low truths)) ≤ length vs
    by true e in_high in_low = let rest = in_high e in omega (arith, rest, fewer)
    by false e in_high in_low = let rest = in_low e in omega (arith, rest, fewer)

-- truths, with those of the first variables taken from others
below : ℕ → List Bool → List Bool → List Bool
below zero truths ts = ts
below (suc n) truths ts = with_truth (below n truths ts) n (truth_of truths n)

first_taken : (n : ℕ) (truths ts : List Bool) (u : ℕ) → u < n → truth_of (below n truths ts) u ≡ truth_of truths u
unfolding below
first_taken zero truths ts u lt = absurd (omega arith)
first_taken (suc n) truths ts u lt = elim (cases_eq u n) [
  | inl same ↦ subst (λ w. truth_of (with_truth (below n truths ts) n (truth_of truths n)) w ≡ truth_of truths w) (sym same)
      (truth_of-with_same (below n truths ts) n (truth_of truths n))
  | inr differ ↦ truth_of-with_other (below n truths ts) n (truth_of truths n) u differ ∙ first_taken n truths ts u (omega arith)
]

none_matters : (d : Diagram) (b : ℕ) → IsProper d → StartsFrom b d → (n : ℕ) → n ≤ b → (truths ts : List Bool) → value_at d (below n truths ts) ≡ value_at d ts
unfolding below
none_matters d b is starts zero le truths ts = refl
none_matters d b is starts (suc n) le truths ts =
    value_at-earlier d b is starts n (omega arith) (below n truths ts) (truth_of truths n) ∙ none_matters d b is starts n (omega arith) truths ts

one_side : (u : ℕ) (low high : Diagram) (v : ℕ) (other : List Bool) (b x : Bool) → u < v → truth_of other u ≡ b → value_at (Choice u low high) (with_truth other v x) ≡ cond b (value_at high (with_truth other v x)) (value_at low (with_truth other v x))
one_side u low high v other b x lt is =
    value_at-choice u low high (with_truth other v x) b (truth_of-with_other other v x u (omega arith) ∙ is)

asked_not_idle : (d : Diagram) → IsProper d → (truths : List Bool) (v : ℕ) → Asks d truths v → IsIdle (value_at d) truths v → ⊥
asked_not_idle (Constant c) is truths v asks idle = asks
asked_not_idle (Choice u low high) is truths v (inl same) idle =
    is.2 (one_diagram low high is.3 is.4 (λ ts.
    let other : List Bool = below u truths ts in
    let first = none_matters low (suc u) is.3 is.0 u (omega arith) truths ts in
    let second = none_matters high (suc u) is.4 is.1 u (omega arith) truths ts in
    let here = subst (IsIdle (value_at (Choice u low high)) truths) same idle in
    sym first ∙ (sym (value_at-chosen u low high is other false) ∙ (here other (first_taken u truths ts) ∙ (value_at-chosen u low high is other true ∙ second)))))
asked_not_idle (Choice u low high) is truths v (inr (inl (truth, asks))) idle =
    let later : suc u ≤ v = asks_later high (suc u) is.4 is.1 truths v asks in
    asked_not_idle high is.4 truths v asks (λ other agree.
    let at = agree u (omega arith) ∙ truth in
    sym (one_side u low high v other true false (omega arith) at) ∙ (idle other agree ∙ one_side u low high v other true true (omega arith) at))
asked_not_idle (Choice u low high) is truths v (inr (inr (truth, asks))) idle =
    let later : suc u ≤ v = asks_later low (suc u) is.3 is.0 truths v asks in
    asked_not_idle low is.3 truths v asks (λ other agree.
    let at = agree u (omega arith) ∙ truth in
    sym (one_side u low high v other false false (omega arith) at) ∙ (idle other agree ∙ one_side u low high v other false true (omega arith) at))

module _ (s : StoreView) (store : IsStore s) (f : Ref) (held : Holds s.nodes f) where
  -- a walk asks only for variables on which the function depends
  pub asks_depends : (truths : List Bool) (v : ℕ) → Asks (diagram s.nodes f) truths v → Depends (test s.nodes f) v
  asks_depends truths v asks = Depends-tests (diagram s.nodes f) v (proper s.nodes store.reduced f held) (asks_tested (diagram s.nodes f) truths v asks)

  -- and for none that makes no difference below the truths that led to it
  pub asks_no_idle : (truths : List Bool) (v : ℕ) → Asks (diagram s.nodes f) truths v → IsIdle (test s.nodes f) truths v → ⊥
  asks_no_idle truths v asks idle = asked_not_idle (diagram s.nodes f) (proper s.nodes store.reduced f held) truths v asks idle

  -- it visits a node for each variable that it asks for
  pub asks_visited : (truths : List Bool) (vs : List ℕ) → ((v : ℕ) → Asks (diagram s.nodes f) truths v → Contains vs v) → visited (diagram s.nodes f) truths ≤ length vs
  asks_visited truths vs among = visits_asked (diagram s.nodes f) (proper s.nodes store.reduced f held) truths vs among

  pub spans_visited : (truths : List Bool) (vs : List ℕ) → Spans s.nodes f vs → visited (diagram s.nodes f) truths ≤ length vs
  spans_visited truths vs spans = asks_visited truths vs (λ v asks. spans v (asks_depends truths v asks))

  -- truths that agree on the variables that are asked for give one value
  pub asked_agree : (truths others : List Bool) → ((v : ℕ) → Asks (diagram s.nodes f) truths v → truth_of truths v ≡ truth_of others v) → test s.nodes f truths ≡ test s.nodes f others
  asked_agree truths others agree = asked_alone (diagram s.nodes f) truths others agree

  pub depends_agree : (truths others : List Bool) → ((v : ℕ) → Depends (test s.nodes f) v → truth_of truths v ≡ truth_of others v) → test s.nodes f truths ≡ test s.nodes f others
  depends_agree truths others agree = asked_agree truths others (λ v asks. agree v (asks_depends truths v asks))

  pub spans_agree : (vs : List ℕ) → Spans s.nodes f vs → (truths others : List Bool) → ((v : ℕ) → Contains vs v → truth_of truths v ≡ truth_of others v) → test s.nodes f truths ≡ test s.nodes f others
  spans_agree vs spans truths others agree = depends_agree truths others (λ v depends. agree v (spans v depends))
