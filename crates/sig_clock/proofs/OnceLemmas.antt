-- The order of the conditions of a kernel and the clock functions of its signals are one thing.
use Rattle.sig_clock.proofs.Common.{◌≡◌, ◌<◌, ◌⊎◌, inl, inr, ℕ, Bool, List, sym, ◌∙◌, arith, SigId, IsClockFunction, HasClocks, AreInOrder, IsEarlier, Kernel}
use Rattle.sig_clock.proofs.LayerLemmas.{one_layer}
use Rattle.sig_clock.proofs.Ordered.{same_list}
use Rattle.sig_clock.proofs.ProposalLemmas.{some_reaction}

-- ---- conditions

one_way : (kernel : Kernel) (c d : SigId) → IsEarlier kernel c.0 d.0 → IsEarlier kernel d.0 c.0 → ⊥
one_way kernel c d before behind = at before.before behind.before where
  first : before.layer ≡ behind.later_layer
  first = one_layer kernel c.0 before.layer behind.later_layer before.has behind.later_has

  second : before.later_layer ≡ behind.layer
  second = one_layer kernel d.0 before.later_layer behind.layer before.later_has behind.has

  at : (before.layer < before.later_layer) ⊎ ((before.layer ≡ before.later_layer) × (c.0 < d.0)) → (behind.layer < behind.later_layer) ⊎ ((behind.layer ≡ behind.later_layer) × (d.0 < c.0)) → ⊥
  at (inl less) (inl more) = omega (arith, first, second, less, more)
  at (inl less) (inr more) = omega (arith, first, second, less, more.0)
  at (inr less) (inl more) = omega (arith, first, second, less.0, more)
  at (inr less) (inr more) = omega (arith, less.1, more.1)

pub conditions_once : (kernel : Kernel) (a b : List SigId) → AreInOrder kernel a → AreInOrder kernel b → a ≡ b
conditions_once kernel a b one other =
    same_list (λ c d. IsEarlier kernel c.0 d.0) (one_way kernel) a b one.order other.order
    (λ c there. (other.all c).1 ((one.all c).0 there)) (λ c there. (one.all c).1 ((other.all c).0 there))

-- ---- clock functions

pub function_once : (kernel : Kernel) (conditions : List SigId) → HasClocks kernel → AreInOrder kernel conditions → (signal : ℕ) (f g : List Bool → Bool) → IsClockFunction kernel conditions signal f → IsClockFunction kernel conditions signal g → f ≡ g
function_once kernel conditions has order signal f g one other = λ j proposal.
    (let found = some_reaction kernel conditions has order proposal in sym (one proposal found.0 found.1 found.2) ∙ other proposal found.0 found.1 found.2) j
