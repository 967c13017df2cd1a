-- What is decided of kinds, of the values that are there, and of lists.
use Rattle.sig_tree.proofs.Common.{◌≡◌, ◌≤◌, ℕ, List, [], ◌∷◌, Option, None, Some, inl, inr, refl, arith, Any, AllByRecursion, cases_lt, map_dec, dec_both, dec_either, dec_some, searched_members, Kind, Integer, Boolean, Event}
use Rattle.sig_tree.specs.Kinds.{Takes}

pub dec_none : {X : Type 0} (found : Option X) → Dec (found ≡ None)
dec_none None = yes refl
dec_none (Some x) = no (λ e. cc)

pub dec_empty : {X : Type 0} (xs : List X) → Dec (xs ≡ [])
dec_empty [] = yes refl
dec_empty (x ∷ xs) = no (λ e. cc)

pub dec_most : (a b : ℕ) → Dec (a ≤ b)
dec_most a b = elim (cases_lt b a) [ inl less ↦ no (λ most. omega (arith, less, most)) | inr most ↦ yes most ]

pub dec_three : {A B C : Type 0} → Dec A → Dec B → Dec C → Dec (A × B × C)
dec_three (yes a) (yes b) (yes c) = yes (a, b, c)
dec_three (no none) b c = no (λ all. none all.0)
dec_three (yes a) (no none) c = no (λ all. none all.1)
dec_three (yes a) (yes b) (no none) = no (λ all. none all.2)

-- what holds of each element, and of some element
pub dec_all : {X : Type 0} (P : X → Type 0) → ((x : X) → Dec (P x)) → (xs : List X) → Dec (AllByRecursion P xs)
dec_all P decide [] = yes tt
dec_all P decide (x ∷ xs) = dec_both (decide x) (dec_all P decide xs)

pub dec_any : {X : Type 0} (P : X → Type 0) → ((x : X) → Dec (P x)) → (xs : List X) → Dec (Any P xs)
dec_any P decide xs =
    map_dec (λ found. (found.1.0, found.0, found.1.1, found.1.2, found.2)) (λ any. (any.1, (any.0, any.2, any.3), any.4))
    (searched_members xs P (λ x there. decide x))

-- ---- kinds

pub dec_kind : (a b : Kind) → Dec (a ≡ b)
dec_kind Integer Integer = yes refl
dec_kind Integer Boolean = no (λ e. cc)
dec_kind Integer Event = no (λ e. cc)
dec_kind Boolean Integer = no (λ e. cc)
dec_kind Boolean Boolean = yes refl
dec_kind Boolean Event = no (λ e. cc)
dec_kind Event Integer = no (λ e. cc)
dec_kind Event Boolean = no (λ e. cc)
dec_kind Event Event = yes refl

pub dec_takes : (wanted given : Kind) → Dec (Takes wanted given)
dec_takes wanted given = dec_either (dec_kind given wanted) (dec_both (dec_kind wanted Boolean) (dec_kind given Event))

-- two kinds that are there
pub dec_two : (P : Kind → Kind → Type 0) (first second : Option Kind) → ((k l : Kind) → Dec (P k l))
    → Dec ((k l : Kind) × (first ≡ Some k) × (second ≡ Some l) × P k l)
dec_two P first second decide =
    map_dec (λ found. (found.0, found.2.0, found.1, found.2.1, found.2.2)) (λ two. (two.0, two.2, (two.1, two.3, two.4)))
    (dec_some (λ (k : Kind). (l : Kind) × (second ≡ Some l) × P k l) first (λ k. dec_some (P k) second (decide k)))
