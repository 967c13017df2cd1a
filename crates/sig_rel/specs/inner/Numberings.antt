-- Numbers that are given to unknowns, one after another.
use Rattle.std.specs.Prelude.{◌≡◌, ◌+◌, ◌<◌, ◌≤◌}
use Rattle.sig_rel.specs.Prelude.{ℕ, true, List, length, Option, None, Some, is_some, slice_get, slice_index, slice_set, count_by, Kernel}
use Rattle.sig_rel.specs.Relations.{is_boolean}
use Rattle.sig_rel.specs.declared.numbering.Numbering.{Numbering}

-- the numbers, where the one at a place is given next if there is none
abbrev pub given_at : Option ℕ → List (Option ℕ) → ℕ → ℕ → List (Option ℕ)
given_at (Some v) numbers place next = numbers
given_at None numbers place next = slice_set numbers place (Some next)

abbrev pub next_after : Option ℕ → ℕ → ℕ
next_after (Some v) next = next
next_after None next = next + 1

-- the numbers stand at wanted places, no two of them are one, and each lies before the next one
pub record AreNumbers (IsWanted : ℕ → Type 0) (first next : ℕ) (numbers : List (Option ℕ)) : Type 0 where
  pub wanted : (k v : ℕ) → slice_get numbers k ≡ Some (Some v) → IsWanted k
  pub from : (k v : ℕ) → slice_get numbers k ≡ Some (Some v) → first ≤ v
  pub below : (k v : ℕ) → slice_get numbers k ≡ Some (Some v) → v < next
  pub once : (j k v : ℕ) → slice_get numbers j ≡ Some (Some v) → slice_get numbers k ≡ Some (Some v) → j ≡ k

-- the least signal of a class
abbrev pub IsOwn : List ℕ → ℕ → Type 0
IsOwn least signal = slice_index least signal ≡ signal

abbrev pub IsBoolean : Kernel → ℕ → Type 0
IsBoolean kernel signal = is_boolean kernel signal ≡ true

-- classes and booleans have numbers of their own, which were given one after another
pub record AreGiven (kernel : Kernel) (least : List ℕ) (first : ℕ) (numbering : Numbering) : Type 0 where
  pub class_count : length numbering.class.items ≡ length kernel.signals
  pub truth_count : length numbering.truth.items ≡ length kernel.signals
  pub classes : AreNumbers (IsOwn least) first numbering.next numbering.class.items
  pub truths : AreNumbers (IsBoolean kernel) first numbering.next numbering.truth.items
  pub differ : (j k v : ℕ) → slice_get numbering.class.items j ≡ Some (Some v) → slice_get numbering.truth.items k ≡ Some (Some v) → ⊥
  pub counted : numbering.next ≡ first + count_by is_some numbering.class.items + count_by is_some numbering.truth.items

-- each number stays
pub record Retains (old new : Numbering) : Type 0 where
  pub classes : (k v : ℕ) → slice_get old.class.items k ≡ Some (Some v) → slice_get new.class.items k ≡ Some (Some v)
  pub truths : (k v : ℕ) → slice_get old.truth.items k ≡ Some (Some v) → slice_get new.truth.items k ≡ Some (Some v)

-- the class of a signal has a number, and its truth where it is a boolean
pub record HasNumbers (kernel : Kernel) (least : List ℕ) (numbering : Numbering) (signal : ℕ) : Type 0 where
  pub class : (v : ℕ) × (slice_get numbering.class.items (slice_index least signal) ≡ Some (Some v))
  pub truth : IsBoolean kernel signal → (v : ℕ) × (slice_get numbering.truth.items signal ≡ Some (Some v))

-- the number at a place, and 0 where none is given
abbrev pub number_of : Option (Option ℕ) → ℕ
number_of None = 0
number_of (Some None) = 0
number_of (Some (Some v)) = v
