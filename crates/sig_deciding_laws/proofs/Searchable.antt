-- What can be searched: whether something there meets what is decided of each is decided.
use Rattle.sig_deciding_laws.proofs.Common.{◌<◌, inl, inr, ℕ, zero, suc, subst, arith, Option, None, Some, cases_eq, cases_lt, IsLeast, IsLastBelow, first_below}

-- where there is one, there is a least one
pub some_least : (P : ℕ → Type 0) → ((k : ℕ) → Dec (P k)) → (k : ℕ) → P k → (m : ℕ) × IsLeast P m
some_least P decide k holds = elim (first_below P decide (suc k)) [
  | inl found ↦ (
    found.0,
    record {
      holds = found.1;
      least = λ other is. elim (cases_lt other found.0) [ inl less ↦ absurd (found.2 other less is) | inr most ↦ most ];
    },
  )
  | inr none ↦ absurd (none k (omega arith) holds)
]

-- the last number below a bound, or none
last_more : (P : ℕ → Type 0) (n : ℕ) (found : Option ℕ) → IsLastBelow P n found → (P n → ⊥) → IsLastBelow P (suc n) found
last_more P n None none fails = λ k less holds. elim (cases_eq k n) [ inl same ↦ fails (subst P same holds) | inr apart ↦ none k (omega (arith, less, apart)) holds ]
last_more P n (Some last) is fails = (
  omega (arith, is.0),
  is.1,
  λ k more less holds. elim (cases_eq k n) [
    | inl same ↦ fails (subst P same holds)
    | inr apart ↦ is.2 k more (omega (arith, less, apart)) holds
  ],
)

pub last_below : (P : ℕ → Type 0) → ((k : ℕ) → Dec (P k)) → (n : ℕ) → (found : Option ℕ) × IsLastBelow P n found
last_below P decide zero = (None, λ k less holds. omega (arith, less))
last_below P decide (suc n) = at (decide n) (last_below P decide n) where
  at : Dec (P n) → ((found : Option ℕ) × IsLastBelow P n found) → (found : Option ℕ) × IsLastBelow P (suc n) found
  at (yes holds) rest = (Some n, (omega arith, holds, λ k more less _. omega (arith, more, less)))
  at (no fails) rest = (rest.0, last_more P n rest.0 rest.1 fails)

pub last_as : (P Q : ℕ → Type 0) (n : ℕ) → ((k : ℕ) → k < n → P k → Q k) → ((k : ℕ) → k < n → Q k → P k) → (found : Option ℕ) → IsLastBelow P n found → IsLastBelow Q n found
last_as P Q n to back None none = λ k less holds. none k less (back k less holds)
last_as P Q n to back (Some last) is = (is.0, to last is.0 is.1, λ k more less holds. is.2 k more less (back k less holds))
