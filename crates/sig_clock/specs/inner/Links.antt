-- What putting signals into one class does to a list that gives each signal the number of its class.
use Rattle.std.specs.Prelude.{◌≡◌, ◌≤◌, ◌<◌, ◌⊎◌, ℕ, ◌==◌, List, length, Contains, slice_index, if◌then◌else◌}
use Rattle.sig_clock.specs.SameClocks.{Equivalence}

abbrev pub relabel_one : ℕ → ℕ → ℕ → ℕ
relabel_one from to number = if number == from then to else number

-- what is of one class: a signal and its class's number, and the signals that are put together
abbrev pub Tied : List ℕ → List ℕ → ℕ → ℕ → Type 0
Tied numbers signals x y = ((x < length numbers) × (slice_index numbers x ≡ y)) ⊎ (Contains signals x × Contains signals y)

-- these signals were put into one class
pub record AreJoined (old new signals : List ℕ) : Type 0 where
  pub count : length new ≡ length old
  pub keeps : (s t : ℕ) → s < length old → t < length old → slice_index old s ≡ slice_index old t → slice_index new s ≡ slice_index new t
  pub lowers : (s : ℕ) → slice_index new s ≤ slice_index old s
  pub one : (x y : ℕ) → Contains signals x → Contains signals y → slice_index new x ≡ slice_index new y
  pub only : (s : ℕ) → s < length old → Equivalence (Tied old signals) s (slice_index new s)
