-- A file gives something, whatever it holds; so a command that reads it comes to an outcome.
use Rattle.sig_outcome.proofs.Common.{◌⊎◌, ◌<◌, ◌≤◌, ℕ, List, length, Option, None, Some, inl, inr, refl, cases_lt, Contents, Absent, AtData, AtFile, AtProgram, Bad, Finds, Found, Good, Holds, Long, Outcome, long_file, long_program}
use Rattle.sig_outcome.specs.Outcomes.{not_found, refused}

-- ---- a file, within a limit of bytes

module _ {A : Type 0} (limit : ℕ) (Says : List ℕ → A → Type 0) (Refuses : List ℕ → List ℕ → Type 0)
    (either : (bytes : List ℕ) → length bytes ≤ limit → ((what : A) × Says bytes what) ⊎ ((line : List ℕ) × Refuses bytes line)) where
  by_verdict : (bytes : List ℕ) → length bytes ≤ limit → ((what : A) × Says bytes what) ⊎ ((line : List ℕ) × Refuses bytes line) → (found : Found A) × Finds (Some bytes) limit Says Refuses found
  by_verdict bytes short (inl good) = (Good good.0, record { bytes = bytes; there = refl; short = short; good = good.1 })
  by_verdict bytes short (inr bad) = (Bad bad.0, record { bytes = bytes; there = refl; short = short; good = bad.1 })

  by_length : (bytes : List ℕ) → (limit < length bytes) ⊎ (length bytes ≤ limit) → (found : Found A) × Finds (Some bytes) limit Says Refuses found
  by_length bytes (inl long) = (Long, long)
  by_length bytes (inr short) = by_verdict bytes short (either bytes short)

  some_found : (held : Option (List ℕ)) → (found : Found A) × Finds held limit Says Refuses found
  some_found None = (Absent, refl)
  some_found (Some bytes) = by_length bytes (cases_lt limit (length bytes))

  module _ (status : ℕ) (long : List ℕ) (held : Contents) (name : List ℕ) (Next : A → Outcome → Type 0)
      (next : (what : A) → Holds (held name) limit (λ bytes. Says bytes what) → (o : Outcome) × Next what o) where
    abbrev ComesBehind : Outcome → Type 0
    ComesBehind o = (found : Found A) × Finds (held name) limit Says Refuses found × AtFile status long name found Next o

    behind : (found : Found A) → Finds (held name) limit Says Refuses found → (o : Outcome) × ComesBehind o
    behind Absent finds = (refused 5 (not_found name) (Some name), (Absent, finds, refl))
    behind Long finds = (refused status long (Some name), (Long, finds, refl))
    behind (Bad line) finds = (refused status line (Some name), (Bad line, finds, refl))
    behind (Good what) finds = let after = next what finds in (after.0, (Good what, finds, after.1))

    some_at_file : (o : Outcome) × ComesBehind o
    some_at_file = let found = some_found (held name) in behind found.0 found.1

-- ---- the program file, and a file of data

module _ {A : Type 0} (Says : List ℕ → A → Type 0) (Refuses : List ℕ → List ℕ → Type 0) where
  pub some_at_program : ((bytes : List ℕ) → length bytes ≤ 1048576 → ((what : A) × Says bytes what) ⊎ ((line : List ℕ) × Refuses bytes line))
      → (held : Contents) (name : List ℕ) (Next : A → Outcome → Type 0) → ((what : A) → Holds (held name) 1048576 (λ bytes. Says bytes what) → (o : Outcome) × Next what o)
      → (o : Outcome) × AtProgram Says Refuses held name Next o
  some_at_program either held name Next next = some_at_file 1048576 Says Refuses either 1 long_program held name Next next

  pub some_at_data : ((bytes : List ℕ) → ((what : A) × Says bytes what) ⊎ ((line : List ℕ) × Refuses bytes line))
      → (held : Contents) (name : List ℕ) (Next : A → Outcome → Type 0) → ((what : A) (bytes : List ℕ) → Says bytes what → (o : Outcome) × Next what o)
      → (o : Outcome) × AtData Says Refuses held name Next o
  some_at_data either held name Next next =
      some_at_file 67108864 Says Refuses (λ bytes short. either bytes) 4 (long_file name) held name Next (λ what finds. next what finds.bytes finds.good)
