-- Marks on signals, and the lists of those that are marked.
use Rattle.std.specs.Prelude.{◌≡◌, ◌<◌, ◌↔◌}
use Rattle.sig_part.specs.Prelude.{ℕ, Bool, true, false, List, [], length, slice_index_or, count_by, Contains, SigId, AreIncreasing}

-- the mark of a signal
abbrev pub mark_at : List Bool → ℕ → Bool
mark_at marks k = slice_index_or marks k false

-- how many are marked
abbrev pub marked_count : List Bool → ℕ
marked_count marks = count_by (λ mark. mark) marks

-- those of so many signals that are marked, by number
pub record AreMarked (n : ℕ) (marks : List Bool) (list : List SigId) : Type 0 where
  pub order : AreIncreasing list
  pub all : (x : SigId) → Contains list x ↔ ((x.0 < n) × (mark_at marks x.0 ≡ true))

-- the same of each list of marks
pub record AreMarkedIn (n : ℕ) (marks : List (List Bool)) (lists : List (List SigId)) : Type 0 where
  pub count : length lists ≡ length marks
  pub each : (actor : ℕ) → actor < length marks → AreMarked n (slice_index_or marks actor []) (slice_index_or lists actor [])
