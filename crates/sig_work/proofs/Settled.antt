-- The laws of actors that were run by themselves, as facts to reason from.
use Rattle.sig_work.proofs.Common.{◌≡◌, ◌≤◌, ◌<◌, ℕ, ℤ, List, sym, ◌∙◌, None, Option, Some, Place, AreFlowsFor, Actor, Given, after, IsAccepted, Own, ActInOrder, AreBalanced, AreSettled, HasActed, IsLeastFailure, LookBehind, acts}

-- own steps that are balanced are an interleaving
abbrev pub StepsInterleave : Type 0
StepsInterleave = (given : Given) → IsAccepted given.plan → AreFlowsFor given.plan.kernel given.flows → 1 ≤ given.capacity
    → (own : ℕ → Own) (links : List (List ℤ)) → AreBalanced given own links
    → (numbers : List ℕ) × HasActed given own links (after given (acts numbers))

-- so they have acted in order, and settled ones have looked behind that
abbrev pub SettledInOrder : Type 0
SettledInOrder = (given : Given) → IsAccepted given.plan → AreFlowsFor given.plan.kernel given.flows → 1 ≤ given.capacity
    → (own : ℕ → Own) (links : List (List ℤ)) → AreBalanced given own links
    → (numbers : List ℕ) × ActInOrder given own links numbers
    × ((word : Option Place) (actors : List Actor) → AreSettled given own links word actors
    → (lookers : List ℕ) × LookBehind given own links word actors numbers lookers)

-- of failures that are the same the least is the same
pub least_same : (count : ℕ) (f g : ℕ → Option Place) (word : Option Place) → ((k : ℕ) → k < count → g k ≡ f k) → IsLeastFailure count f word → IsLeastFailure count g word
least_same count f g None same least = λ k lt. same k lt ∙ least k lt
least_same count f g (Some word) same least = (
  (least.0.0, least.0.1, same least.0.0 least.0.1 ∙ least.0.2),
  λ k place lt is. least.1 k place lt (sym (same k lt) ∙ is),
)
