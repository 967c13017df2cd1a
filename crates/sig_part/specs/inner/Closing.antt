-- Signals that are closed under what is needed for them, of those that pass a test.
use Rattle.std.specs.Prelude.{◌≡◌, ◌+◌, ◌==◌, ◌⊎◌, ◌↔◌}
use Rattle.sig_part.specs.Prelude.{ℕ, Bool, true, false, not, List, [], length, slice_get, slice_index_or, Option, None, Some, Contains, SigId, Signal}
use Rattle.sig_part.specs.inner.Marks.{mark_at, marked_count}

abbrev pub is_other : ℕ → Option Signal → Bool
is_other actor None = false
is_other actor (Some owner) = not (owner.cluster == actor)

-- the signal is there, and another actor's
abbrev pub is_elsewhere : List Signal → ℕ → SigId → Bool
is_elsewhere signals actor x = is_other actor (slice_get signals x.0)

-- the least set of signals that pass the test which has the seeds, and with each signal what is needed for it
pub data Closes (p : SigId → Bool) (needed : List (List SigId)) (seeds : List SigId) : SigId → Type 0 where
  seed : (x : SigId) → Contains seeds x → p x ≡ true → Closes p needed seeds x
  onward : (x condition : SigId) → Closes p needed seeds x → Contains (slice_index_or needed x.0 []) condition → p condition ≡ true
      → Closes p needed seeds condition

-- the marked signals are these
pub record AreClosed (p : SigId → Bool) (needed : List (List SigId)) (seeds : List SigId) (marks : List Bool) : Type 0 where
  pub count : length marks ≡ length needed
  pub exact : (x : SigId) → (mark_at marks x.0 ≡ true) ↔ Closes p needed seeds x

-- the signals of a list that pass the test were marked, and those that were not marked before wait
pub record Visits (p : SigId → Bool) (list : List SigId) (old new : List Bool) (waited waiting : List SigId) : Type 0 where
  pub count : length new ≡ length old
  pub marks : (x : SigId) → (mark_at new x.0 ≡ true) ↔ ((mark_at old x.0 ≡ true) ⊎ (Contains list x × (p x ≡ true)))
  pub waits : (x : SigId) → mark_at new x.0 ≡ true → (mark_at old x.0 ≡ true) ⊎ Contains waiting x
  pub kept : (x : SigId) → Contains waited x → Contains waiting x
  pub only : (x : SigId) → Contains waiting x → Contains waited x ⊎ (Contains list x × (p x ≡ true))
  pub balance : marked_count new + length waited ≡ marked_count old + length waiting

-- a walk that has not ended: marks are sound, and what is needed for a marked signal that does not wait is marked
pub record Walks (p : SigId → Bool) (needed : List (List SigId)) (seeds : List SigId) (marks : List Bool) (waiting : List SigId) : Type 0 where
  pub count : length marks ≡ length needed
  pub sound : (x : SigId) → mark_at marks x.0 ≡ true → Closes p needed seeds x
  pub first : (x : SigId) → Contains seeds x → p x ≡ true → mark_at marks x.0 ≡ true
  pub closed : (x : SigId) → mark_at marks x.0 ≡ true
      → Contains waiting x ⊎ ((condition : SigId) → Contains (slice_index_or needed x.0 []) condition → p condition ≡ true → mark_at marks condition.0 ≡ true)
  pub only : (x : SigId) → Contains waiting x → mark_at marks x.0 ≡ true
