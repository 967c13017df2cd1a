-- What can be searched: whether something there meets what is decided of each is decided.
use Rattle.std.proofs.Common.{Bool, Contains, List, None, Option, Some, [], arith, false, inl, inr, length, refl, subst, suc, true, zero, ℕ, ◌<◌, ◌∷◌, ◌≡◌, ◌⊎◌}
use Rattle.std.proofs.lemmas.Bool.{cases_eq}
use Rattle.std.proofs.Math.Decide.{map_dec}
use Rattle.sig_lists.proofs.Contained.{contains_cons, contains_head, contains_later, contains_none}
use Rattle.sig_lists.proofs.Decided.{dec_not, dec_then}

abbrev pub Searched : {X : Type 0} → (X → Type 0) → Type 1
Searched {X} D = (P : X → Type 0) → ((x : X) → D x → Dec (P x)) → Dec ((x : X) × D x × P x)

-- all of them can be searched
abbrev pub AllSearched : Type 0 → Type 1
AllSearched X = (P : X → Type 0) → ((x : X) → Dec (P x)) → Dec ((x : X) × P x)

module _ {X : Type 0} (D : X → Type 0) (search : Searched D) where
  pub dec_each : (P : X → Type 0) → ((x : X) → D x → Dec (P x)) → Dec ((x : X) → D x → P x)
  dec_each P decide = at (search (λ x. P x → ⊥) (λ x is. dec_not (decide x is))) where
    at : Dec ((x : X) × D x × (P x → ⊥)) → Dec ((x : X) → D x → P x)
    at (yes found) = no (λ all. found.2 (all found.0 found.1))
    at (no none) = yes (λ x is. elim (decide x is) [ yes holds ↦ holds | no fails ↦ absurd (none (x, is, fails)) ])

  pub searched_where : (E : X → Type 0) → ((x : X) → D x → Dec (E x)) → Searched (λ x. D x × E x)
  searched_where E which P decide =
      map_dec (λ found. (found.0, (found.1, found.2.0), found.2.1)) (λ found. (found.0, found.1.0, (found.1.1, found.2)))
      (search (λ x. E x × P x) (λ x is. dec_then (which x is) (λ e. decide x (is, e))))

  pub searched_as : (E : X → Type 0) → ((x : X) → D x → E x) → ((x : X) → E x → D x) → Searched E
  searched_as E to back P decide =
      map_dec (λ found. (found.0, to found.0 found.1, found.2)) (λ found. (found.0, back found.0 found.1, found.2))
      (search P (λ x is. decide x (to x is)))

-- ---- numbers

pub searched_below : (n : ℕ) → Searched (λ (k : ℕ). k < n)
searched_below zero P decide = no (λ found. omega (arith, found.1))
searched_below (suc n) P decide = at (searched_below n P (λ k less. decide k (omega (arith, less)))) (decide n (omega arith)) where
  at : Dec ((k : ℕ) × (k < n) × P k) → Dec (P n) → Dec ((k : ℕ) × (k < suc n) × P k)
  at (yes found) last = yes (found.0, omega (arith, found.1), found.2)
  at (no none) (yes holds) = yes (n, omega arith, holds)
  at (no none) (no fails) = no (λ found. elim (cases_eq found.0 n) [
    | inl same ↦ fails (subst P same found.2)
    | inr apart ↦ none (found.0, omega (arith, found.1, apart), found.2)
  ])

-- the first number, or none below a bound
pub first_below : (P : ℕ → Type 0) → ((k : ℕ) → Dec (P k)) → (n : ℕ) → ((m : ℕ) × P m × ((k : ℕ) → k < m → P k → ⊥)) ⊎ ((k : ℕ) → k < n → P k → ⊥)
first_below P decide zero = inr (λ k less. absurd (omega (arith, less)))
first_below P decide (suc n) = at (first_below P decide n) (decide n) where
  at : ((m : ℕ) × P m × ((k : ℕ) → k < m → P k → ⊥)) ⊎ ((k : ℕ) → k < n → P k → ⊥) → Dec (P n) → ((m : ℕ) × P m × ((k : ℕ) → k < m → P k → ⊥)) ⊎ ((k : ℕ) → k < suc n → P k → ⊥)
  at (inl found) last = inl found
  at (inr none) (yes holds) = inl (n, holds, none)
  at (inr none) (no fails) = inr (λ k less holds. elim (cases_eq k n) [ inl same ↦ fails (subst P same holds) | inr apart ↦ none k (omega (arith, less, apart)) holds ])

-- ---- lists

pub searched_members : {X : Type 0} (xs : List X) → Searched (Contains xs)
searched_members [] P decide = no (λ found. contains_none found.0 found.1)
searched_members {X} (x ∷ xs) P decide = at (decide x (contains_head x xs)) (searched_members xs P (λ y there. decide y (contains_later x y xs there))) where
  at : Dec (P x) → Dec ((y : X) × Contains xs y × P y) → Dec ((y : X) × Contains (x ∷ xs) y × P y)
  at (yes holds) rest = yes (x, contains_head x xs, holds)
  at (no fails) (yes found) = yes (found.0, contains_later x found.0 xs found.1, found.2)
  at (no fails) (no none) = no (λ found. elim (contains_cons x found.0 xs found.1) [
    | inl same ↦ fails (subst P same found.2)
    | inr later ↦ none (found.0, later, found.2)
  ])

pub all_truths : AllSearched Bool
all_truths P decide = at (decide true) (decide false) where
  at : Dec (P true) → Dec (P false) → Dec ((b : Bool) × P b)
  at (yes holds) other = yes (true, holds)
  at (no fails) (yes holds) = yes (false, holds)
  at (no fails) (no none) = no (λ found. by found.0 found.1) where
    by : (b : Bool) → P b → ⊥
    by true holds = fails holds
    by false holds = none holds

pub all_options : {X : Type 0} → AllSearched X → AllSearched (Option X)
all_options {X} search P decide = at (decide None) (search (λ x. P (Some x)) (λ x. decide (Some x))) where
  at : Dec (P None) → Dec ((x : X) × P (Some x)) → Dec ((o : Option X) × P o)
  at (yes holds) other = yes (None, holds)
  at (no fails) (yes found) = yes (Some found.0, found.1)
  at (no fails) (no none) = no (λ found. by found.0 found.1) where
    by : (o : Option X) → P o → ⊥
    by None holds = fails holds
    by (Some x) holds = none (x, holds)

-- the lists of a length
pub searched_lists : {X : Type 0} → AllSearched X → (n : ℕ) → Searched (λ (xs : List X). length xs ≡ n)
searched_lists {X} search zero P decide = map_dec (λ holds. ([], refl, holds)) (λ found. empty found.0 found.1 found.2) (decide [] refl) where
  empty : (xs : List X) → length xs ≡ 0 → P xs → P []
  empty [] count holds = holds
  empty (x ∷ xs) count holds = absurd (omega (arith, count))
searched_lists {X} search (suc n) P decide =
    map_dec to (λ found. back found.0 found.1 found.2)
    (search (λ x. (xs : List X) × (length xs ≡ n) × P (x ∷ xs)) (λ x. searched_lists search n (λ xs. P (x ∷ xs)) (λ xs count. decide (x ∷ xs) (omega (arith, count)))))
  where
    to : ((x : X) × ((xs : List X) × (length xs ≡ n) × P (x ∷ xs))) → (xs : List X) × (length xs ≡ suc n) × P xs
    to found = let count = found.1.1 in (found.0 ∷ found.1.0, omega (arith, count), found.1.2)

    back : (xs : List X) → length xs ≡ suc n → P xs → (x : X) × ((xs : List X) × (length xs ≡ n) × P (x ∷ xs))
    back [] count holds = absurd (omega (arith, count))
    back (x ∷ xs) count holds = (x, (xs, omega (arith, count), holds))
