-- Statements that are decided, from what they are made of.
use Rattle.std.proofs.Common.{Bool, Contains, List, None, Option, Some, [], ap, bytes_eq, false, inl, inr, refl, subst, sym, true, ℕ, ◌∷◌, ◌≡◌, ◌⊎◌}
use Rattle.std.proofs.lemmas.Bool.{cases_eq, false≢true}
use Rattle.std.proofs.Math.Decide.{map_dec}
use Rattle.std.proofs.lemmas.Slice.Eq.{bytes_eq-Decides}
use Rattle.sig_lists.proofs.Contained.{contains_cons, contains_head, contains_later, contains_none}

-- ---- statements

pub dec_not : {A : Type 0} → Dec A → Dec (A → ⊥)
dec_not (yes a) = no (λ none. none a)
dec_not (no none) = yes none

-- the second one where the first one holds
pub dec_then : {A B : Type 0} → Dec A → (A → Dec B) → Dec (A × B)
dec_then {A} {B} (yes a) next = at (next a) where
  at : Dec B → Dec (A × B)
  at (yes b) = yes (a, b)
  at (no none) = no (λ both. none both.1)
dec_then (no none) next = no (λ both. none both.0)

pub dec_both : {A B : Type 0} → Dec A → Dec B → Dec (A × B)
dec_both a b = dec_then a (λ _. b)

pub dec_either : {A B : Type 0} → Dec A → Dec B → Dec (A ⊎ B)
dec_either (yes a) b = yes (inl a)
dec_either (no none) (yes b) = yes (inr b)
dec_either (no none) (no neither) = no (λ either. elim either [ inl a ↦ none a | inr b ↦ neither b ])

pub dec_implies : {A B : Type 0} → Dec A → Dec B → Dec (A → B)
dec_implies (no none) b = yes (λ a. absurd (none a))
dec_implies (yes a) (yes b) = yes (λ _. b)
dec_implies (yes a) (no none) = no (λ f. none (f a))

-- ---- values

pub dec_number : (a b : ℕ) → Dec (a ≡ b)
dec_number a b = elim (cases_eq a b) [ inl same ↦ yes same | inr apart ↦ no apart ]

pub dec_truth : (a b : Bool) → Dec (a ≡ b)
dec_truth true true = yes refl
dec_truth true false = no (λ e. false≢true (sym e))
dec_truth false true = no (λ e. false≢true e)
dec_truth false false = yes refl

pub dec_text : (a b : List ℕ) → Dec (a ≡ b)
dec_text a b = map_dec (bytes_eq-Decides a b).0 (bytes_eq-Decides a b).1 (dec_truth (bytes_eq a b) true)

pub dec_option : {X : Type 0} → ((x y : X) → Dec (x ≡ y)) → (a b : Option X) → Dec (a ≡ b)
dec_option same None None = yes refl
dec_option same None (Some y) = no (λ e. cc)
dec_option same (Some x) None = no (λ e. cc)
dec_option same (Some x) (Some y) = map_dec (ap Some) (λ e. cc) (same x y)

-- what holds of the value that is there
pub dec_found : {X : Type 0} (P : X → Type 0) (found : Option X) → ((x : X) → found ≡ Some x → Dec (P x)) → Dec ((x : X) × (found ≡ Some x) × P x)
dec_found P None decide = no (λ it. let e = it.1 in cc)
dec_found {X} P (Some z) decide = map_dec (λ is. (z, refl, is)) back (decide z refl) where
  back : ((x : X) × (Some z ≡ Some x) × P x) → P z
  back it = let e = it.1 in let same : z ≡ it.0 = cc in subst P (sym same) it.2

pub dec_some : {X : Type 0} (P : X → Type 0) (found : Option X) → ((x : X) → Dec (P x)) → Dec ((x : X) × (found ≡ Some x) × P x)
dec_some P found decide = dec_found P found (λ x _. decide x)

pub dec_contains : {X : Type 0} → ((x y : X) → Dec (x ≡ y)) → (xs : List X) (x : X) → Dec (Contains xs x)
dec_contains same [] x = no (contains_none x)
dec_contains {X} same (y ∷ xs) x = map_dec to (contains_cons y x xs) (dec_either (same x y) (dec_contains same xs x)) where
  to : (x ≡ y) ⊎ Contains xs x → Contains (y ∷ xs) x
  to (inl e) = subst (Contains (y ∷ xs)) (sym e) (contains_head y xs)
  to (inr later) = contains_later y x xs later
