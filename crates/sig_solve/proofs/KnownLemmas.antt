-- Lemmas on known conditions, and on the variables that are forgotten beside their proposals.
use Rattle.sig_solve.proofs.Common.{◌≡◌, ◌≢◌, ◌<◌, ◌+◌, inl, inr, ℕ, Bool, true, false, eqb, List, length, set, refl, sym, ap, ◌∙◌, subst, arith, Contains, get_or-set_same, get_or-set_other, Some, slice_get, list_any, length-set, cases_eq, eq-eqb, eqb-true, false≢true, SigId, truth_of, SystemView, AreProposed, IsProposalOf, one_passes, passes_one}

-- a condition is among others
pub among_is : (known : List SigId) (c : SigId) → list_any (λ (other : SigId). eqb other.0 c.0) known ≡ true → Contains known c
among_is known c is =
    let found = passes_one (λ (other : SigId). eqb other.0 c.0) known is in
    let same : found.0.0 ≡ c.0 = eqb-true found.0.0 c.0 found.2 in
    let whole : found.0 ≡ c = λ j. record { 0 = same j } in
    subst (Contains known) whole found.1

pub among_not : (known : List SigId) (c : SigId) → list_any (λ (other : SigId). eqb other.0 c.0) known ≡ false → Contains known c → ⊥
among_not known c not there = false≢true (sym not ∙ one_passes (λ (other : SigId). eqb other.0 c.0) known c there (eq-eqb c.0 c.0 refl))

-- the same, as far as some conditions tell
pub record AreForgotten (system : SystemView) (known : List SigId) (n : ℕ) (forgotten : List Bool) : Type 0 where
  pub count : length forgotten ≡ system.first + system.variables
  pub kept : (i v : ℕ) (c : SigId) → i < n → slice_get system.conditions i ≡ Some c → slice_get system.proposals i ≡ Some v → Contains known c → truth_of forgotten v ≡ false
  pub others : (v : ℕ) → v < length forgotten → truth_of forgotten v ≡ false → (c : SigId) × Contains known c × IsProposalOf system v c

module _ (system : SystemView) (are : AreProposed system) (known : List SigId) (n : ℕ) (forgotten : List Bool) (before : AreForgotten system known n forgotten) (c : SigId) (v : ℕ) (at : slice_get system.conditions n ≡ Some c) (own : slice_get system.proposals n ≡ Some v) where
  pub proposal_within : v < length forgotten
  proposal_within = let var = are.proposal n v own in let end = var.1 in omega (arith, end, before.count)

  same_of : (i : ℕ) (d : SigId) → i ≡ n → slice_get system.conditions i ≡ Some d → c ≡ d
  same_of i d e at_d = let both : Some c ≡ Some d = sym at ∙ ap (slice_get system.conditions) (sym e) ∙ at_d in cc

  same_own : (i w : ℕ) → i ≡ n → slice_get system.proposals i ≡ Some w → v ≡ w
  same_own i w e at_w = let both : Some v ≡ Some w = sym own ∙ ap (slice_get system.proposals) (sym e) ∙ at_w in cc

  pub next_known : Contains known c → AreForgotten system known (n + 1) (set forgotten v false)
  next_known there = record {
    count = length-set forgotten v false ∙ before.count;
    kept = λ i w d lt at_d at_w d_there. elim (cases_eq w v) [
      | inl e ↦ subst (λ u. truth_of (set forgotten v false) u ≡ false) (sym e) (get_or-set_same forgotten v false false proposal_within)
      | inr ne ↦ get_or-set_other forgotten v w false false ne ∙ before.kept i w d (let apart : i ≢ n = λ e. ne (sym (same_own i w e at_w)) in omega (arith, lt, apart)) at_d at_w d_there
    ];
    others = λ w lt not. elim (cases_eq w v) [
      | inl e ↦ (c, there, (n, at, own ∙ ap Some (sym e)))
      | inr ne ↦ before.others w (omega (arith, lt, length-set forgotten v false)) (sym (get_or-set_other forgotten v w false false ne) ∙ not)
    ];
  }

  pub next_other : (Contains known c → ⊥) → AreForgotten system known (n + 1) forgotten
  next_other not = record {
    count = before.count;
    kept = λ i w d lt at_d at_w d_there. elim (cases_eq i n) [
      | inl e ↦ absurd (not (subst (Contains known) (sym (same_of i d e at_d)) d_there))
      | inr ne ↦ before.kept i w d (omega (arith, lt, ne)) at_d at_w d_there
    ];
    others = before.others;
  }
