-- Small equivalences.
use Rattle.sig_type.proofs.Common.{◌≡◌, ◌↔◌, refl, true, false, not, Bool, IsTrue, Option, None, Some, Span, Constant, missing_init, First, Finds}
use Rattle.sig_type.proofs.Sequences.{finds_same}

pub true_trivially : IsTrue true ↔ Unit {0}
true_trivially = (λ _. tt, λ _. refl)

-- an init that is missing under another condition
pub missing_same : {a b : First} (init : Option Constant) (at : Span) {P Q : Type 0} → (P ↔ Q) → Finds a b (missing_init init at P) → Finds a b (missing_init init at Q)
missing_same None at {P} {Q} e h = finds_same Q e h
missing_same (Some value) at e h = h

-- what a negated test says
pub not_is : (r : Bool) {A : Type 0} → (IsTrue r ↔ A) → (IsTrue (not r) ↔ (A → ⊥))
not_is true h = (λ e. absurd cc, λ f. absurd (f (h.0 refl)))
not_is false h = (λ e. λ a. (let t : false ≡ true = h.1 a in absurd cc), λ f. refl)
