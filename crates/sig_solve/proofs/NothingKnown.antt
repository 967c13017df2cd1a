-- Where no condition is known, a presence is open exactly where some reaction has the signal and some has not.
use Rattle.sig_solve.proofs.Common.{◌≡◌, ◌<◌, ◌&&◌, inl, inr, ◌↔◌, ℕ, Bool, true, false, not, List, [], ◌∷◌, length, get_or, refl, sym, ap, ◌∙◌, Contains, IsTrue, false≢true, SigId, Implies, Overlap, StoreView, test, signal_id, AgreeOn, IsDetermined, Reaction, Speaks, is_present, reading, IsAskedIn, IsAmong, IsOpenAnswer, Asked, cases_Bool, contains_none}
use Rattle.sig_solve.proofs.RootLemmas.{implied_root}
use Rattle.sig_solve.proofs.SystemLemmas.{presence_read}

none_among : (known : List SigId) → length known ≡ 0 → (condition : SigId) → Contains known condition → ⊥
none_among [] none condition there = contains_none condition there
none_among (x ∷ known) none condition there = cc

module _ (store : StoreView) (asked : Asked) (is : IsAskedIn store asked) (s : ℕ) (lt : s < length asked.frame.kernel.now.signals) (known : List SigId) (none : length known ≡ 0) where
  agree : (a b : Reaction) → AgreeOn asked.frame.kernel.now (IsAmong known) a b
  agree a b condition is_condition among = absurd (none_among known none (signal_id condition) among)

  read : (ts : List Bool) → is_present (reading store.nodes asked.system ts) s ≡ test store.nodes (get_or asked.system.present s asked.system.residue) ts
  read ts = presence_read asked.frame.kernel.now store.nodes asked.system is.is_system s lt ts

  speaks : (ts : List Bool) → IsTrue (test store.nodes asked.solutions ts) → Speaks asked.frame.kernel.now (reading store.nodes asked.system ts)
  speaks ts t = is.is_system.sound ts ((is.solutions ts).0 t)

  -- every reaction has the signal, where they agree and one has it
  all_have : IsDetermined asked.frame.kernel.now (IsAmong known) s → Overlap store.nodes asked.solutions (get_or asked.system.present s asked.system.residue) → Implies store.nodes asked.solutions (get_or asked.system.present s asked.system.residue)
  all_have determined met ts t =
      let a = reading store.nodes asked.system met.0 in
      let b = reading store.nodes asked.system ts in
      sym (read ts) ∙ sym (determined a b (speaks met.0 met.1) (speaks ts t) (agree a b)) ∙ read met.0 ∙ met.2

  met_by : (r : Reaction) → Speaks asked.frame.kernel.now r → is_present r s ≡ true → Overlap store.nodes asked.solutions (get_or asked.system.present s asked.system.residue)
  met_by r says present = let at = is.is_system.complete r says in (at.0, (is.solutions at.0).1 at.1, sym (read at.0) ∙ ap (λ x. is_present x s) at.2 ∙ present)

  absent_in : (Overlap store.nodes asked.solutions (get_or asked.system.present s asked.system.residue) → ⊥) → (r : Reaction) → Speaks asked.frame.kernel.now r → is_present r s ≡ false
  absent_in unmet r says = elim (cases_Bool (is_present r s)) [ inl present ↦ absurd (unmet (met_by r says present)) | inr absent ↦ absent ]

  pub varies_open : (some all : Bool) → IsTrue some ↔ Overlap store.nodes asked.solutions (get_or asked.system.present s asked.system.residue)
      → IsTrue all ↔ Implies store.nodes asked.solutions (get_or asked.system.present s asked.system.residue) → IsOpenAnswer asked.frame.kernel.now (IsAmong known) s (some && not all)
  varies_open true false some_is all_is = λ determined. false≢true (all_is.1 (all_have determined (some_is.0 refl)))
  varies_open true true some_is all_is = λ a b says_a says_b agreed.
      let root = implied_root store asked is s lt (all_is.0 refl) in
      root.everywhere a says_a ∙ sym (root.everywhere b says_b)
  varies_open false all some_is all_is = λ a b says_a says_b agreed.
      let unmet = absent_in (λ met. false≢true (some_is.1 met)) in
      unmet a says_a ∙ sym (unmet b says_b)
