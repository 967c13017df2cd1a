-- All that a walk asks for.
use Rattle.sig_verify.proofs.Common.{◌≡◌, ℕ, Bool, true, false, List, inl, inr, refl, sym, ap, subst, ◌∙◌, if◌then◌else◌, all_asked, Asks, Choice, Constant, Diagram, truth_of, and_from, and_parts}

-- where all that the walk asks for was written, all of it is written
pub asked_all : (w : ℕ → List Bool → Bool) (d : Diagram) (truths : List Bool) → ((v : ℕ) → Asks d truths v → w v truths ≡ true) → all_asked w d truths ≡ true
unfolding all_asked
asked_all w (Constant b) truths each = refl
asked_all w (Choice u low high) truths each =
    and_from (w u truths) (if truth_of truths u then all_asked w high truths else all_asked w low truths) (each u (inl refl))
    (by (truth_of truths u) refl
    (λ e. asked_all w high truths (λ v asks. each v (inr (inl (e, asks)))))
    (λ e. asked_all w low truths (λ v asks. each v (inr (inr (e, asks))))))
  where
    by : (x : Bool) → truth_of truths u ≡ x → (truth_of truths u ≡ true → all_asked w high truths ≡ true) → (truth_of truths u ≡ false → all_asked w low truths ≡ true)
        → (if x then all_asked w high truths else all_asked w low truths) ≡ true
    by true e in_high in_low = in_high e
    by false e in_high in_low = in_low e

pub asked_each : (w : ℕ → List Bool → Bool) (d : Diagram) (truths : List Bool) → all_asked w d truths ≡ true → (v : ℕ) → Asks d truths v → w v truths ≡ true
unfolding all_asked
asked_each w (Constant b) truths all v asks = absurd asks
asked_each w (Choice u low high) truths all v (inl same) =
    subst (λ z. w z truths ≡ true) (sym same) (and_parts (w u truths) (if truth_of truths u then all_asked w high truths else all_asked w low truths) all).0
asked_each w (Choice u low high) truths all v (inr (inl (truth, asks))) =
    let rest = (and_parts (w u truths) (if truth_of truths u then all_asked w high truths else all_asked w low truths) all).1 in
    asked_each w high truths (ap (λ b. if b then all_asked w high truths else all_asked w low truths) (sym truth) ∙ rest) v asks
asked_each w (Choice u low high) truths all v (inr (inr (truth, asks))) =
    let rest = (and_parts (w u truths) (if truth_of truths u then all_asked w high truths else all_asked w low truths) all).1 in
    asked_each w low truths (ap (λ b. if b then all_asked w high truths else all_asked w low truths) (sym truth) ∙ rest) v asks

-- what asks for written conditions alone still does when more are written
pub asked_more : (w more : ℕ → List Bool → Bool) (d : Diagram) (truths : List Bool) → ((v : ℕ) → w v truths ≡ true → more v truths ≡ true) → all_asked w d truths ≡ true → all_asked more d truths ≡ true
asked_more w more d truths rises all = asked_all more d truths (λ v asks. rises v (asked_each w d truths all v asks))
