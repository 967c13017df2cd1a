-- How many nodes the walk of a guard visits.
use Rattle.sig_step.proofs.Common.{◌≡◌, ◌≢◌, ◌<◌, ◌≤◌, ◌+◌, ◌∙◌, ℕ, zero, suc, Bool, true, false, List, [], ◌∷◌, length, get_or, slice_get, Contains, Some, if◌then◌else◌, refl, sym, ap, inl, inr, arith, slice_get-get_or, SigId, proper, tests_spanned, IsProper, Tests-later, Choice, Constant, Diagram, Tests, truth_of, visited, Holds, IsReduced, diagram, Node, Ref, Registers, truths_of, same_Some, CountsNeeds, length-map}

-- a list without the item at a place
drop_at : ℕ → List ℕ → List ℕ
drop_at k [] = []
drop_at zero (x ∷ xs) = xs
drop_at (suc k) (x ∷ xs) = x ∷ drop_at k xs

drop_length : (k : ℕ) (xs : List ℕ) → k < length xs → suc (length (drop_at k xs)) ≡ length xs
unfolding drop_at
drop_length k [] below = absurd (omega arith)
drop_length zero (x ∷ xs) below = refl
drop_length (suc k) (x ∷ xs) below = ap suc (drop_length k xs (omega arith))

drop_keeps : (k j : ℕ) (xs : List ℕ) (d : ℕ) → j < length xs → j ≢ k → (i : ℕ) × (i < length (drop_at k xs)) × (get_or (drop_at k xs) i d ≡ get_or xs j d)
unfolding drop_at
drop_keeps k j [] d below other = absurd (omega arith)
drop_keeps zero zero (x ∷ xs) d below other = absurd (other refl)
drop_keeps zero (suc j) (x ∷ xs) d below other = (j, omega arith, refl)
drop_keeps (suc k) zero (x ∷ xs) d below other = (0, omega arith, refl)
drop_keeps (suc k) (suc j) (x ∷ xs) d below other =
    let (i, within, is) = drop_keeps k j xs d (omega arith) (λ e. other (ap suc e)) in (suc i, omega (arith, within), is)

in_rest : (vs : List ℕ) (k v u : ℕ) → k < length vs → get_or vs k v ≡ v → v < u → Contains vs u → Contains (drop_at k vs) u
in_rest vs k v u below is later (j, within, at) =
    let other : j ≢ k = λ same.
    let at_k : slice_get vs k ≡ Some v = slice_get-get_or vs k v below ∙ ap Some is in
    let at_j : slice_get vs j ≡ Some u = slice_get-get_or vs j u within ∙ ap Some at in
    let e : v ≡ u = same_Some v u (sym at_k ∙ ap (slice_get vs) (sym same) ∙ at_j) in
    omega (arith, later, e) in
    let (i, there, same) = drop_keeps k j vs u within other in
    (i, there, same ∙ at)

le_either : (b : Bool) (m n bound : ℕ) → m ≤ bound → n ≤ bound → (if b then m else n) ≤ bound
le_either true m n bound hm hn = hm
le_either false m n bound hm hn = hn

-- a walk visits no more nodes than there are variables that the diagram tests
few_visited : (d : Diagram) → IsProper d → (vs : List ℕ) → ((u : ℕ) → Tests d u → Contains vs u) → (truths : List Bool) → visited d truths ≤ length vs
unfolding visited Tests
few_visited (Constant b) p vs spans truths = omega arith
few_visited (Choice v low high) p vs spans truths =
    let (k, below, is) = spans v (inl refl) in
    let rest = drop_at k vs in
    let low_few : visited low truths ≤ length rest = few_visited low p.3 rest (λ u t. in_rest vs k v u below is (Tests-later low (suc v) u p.3 p.0 t) (spans u (inr (inl t)))) truths in
    let high_few : visited high truths ≤ length rest = few_visited high p.4 rest (λ u t. in_rest vs k v u below is (Tests-later high (suc v) u p.4 p.1 t) (spans u (inr (inr t)))) truths in
    let both = le_either (truth_of truths v) (visited high truths) (visited low truths) (length rest) high_few low_few in
    omega (arith, both, drop_length k vs below)

pub walk_counts : (nodes : List Node) → IsReduced nodes → (r : Ref) → Holds nodes r → (truths : List Bool) (before after : ℕ)
    → after ≡ before + visited (diagram nodes r) truths → CountsNeeds nodes r before after
walk_counts nodes reduced r held truths before after is = record {
  grows = omega (arith, is);
  needed = λ variables spans.
      let few = few_visited (diagram nodes r) (proper nodes reduced r held) variables (tests_spanned nodes reduced r held variables spans) truths in
      omega (arith, is, few);
}

pub truths_length : (conditions : List SigId) (registers : Registers) → length (truths_of conditions registers) ≡ length conditions
truths_length conditions registers = length-map conditions _
