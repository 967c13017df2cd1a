-- How many predecessors of each number are not taken yet, and which numbers are ready.
use Rattle.std.specs.Prelude.{◌≡◌, ◌≢◌, ◌<◌, ◌+◌, ◌⊎◌, ◌↔◌, ◌==◌}
use Rattle.sig_graph.specs.Prelude.{ℕ, Bool, true, List, [], length, not, slice_index_or, count_by, Contains, IsTrue, BTreeSet, contains, nat_cmp}
use Rattle.sig_graph.specs.inner.Graphs.{Edge, IsOpen, IsTaken, mark_at}

-- how often a number stands in a list
abbrev pub occurs : ℕ → List ℕ → ℕ
occurs n numbers = count_by (λ k. k == n) numbers

-- how many of these numbers are not marked
abbrev pub left_in : List Bool → List ℕ → ℕ
left_in marks numbers = count_by (λ k. not (mark_at marks k)) numbers

-- the set has the number
abbrev pub Has : BTreeSet ℕ → ℕ → Type 0
Has set n = IsTrue (contains nat_cmp set n)

-- the set has the numbers whose count is 0
abbrev pub AreFirst : List ℕ → BTreeSet ℕ → Type 0
AreFirst counts ready = (q : ℕ) → Has ready q ↔ ((q < length counts) × (slice_index_or counts q 0 ≡ 0))

-- the counts of these numbers were lowered, and those whose count came to 0 are ready
pub record Releases (numbers old new : List ℕ) (was ready : BTreeSet ℕ) : Type 0 where
  pub count : length new ≡ length old
  pub lowered : (q : ℕ) → slice_index_or new q 0 + occurs q numbers ≡ slice_index_or old q 0
  pub exact : (q : ℕ) → Has ready q ↔ (Has was q ⊎ (Contains numbers q × (slice_index_or new q 0 ≡ 0)))

-- to each number those that it precedes, as often as it stands among what precedes them
pub record AreSuccessors (count : ℕ) (graph successors : List (List ℕ)) : Type 0 where
  pub all : length successors ≡ count
  pub each : (p q : ℕ) → p < count → occurs q (slice_index_or successors p []) ≡ occurs p (slice_index_or graph q [])

-- a number was added to the successors of these
pub record Adds (number : ℕ) (before : List ℕ) (old new : List (List ℕ)) : Type 0 where
  pub count : length new ≡ length old
  pub own : (p : ℕ) → p < length old → occurs number (slice_index_or new p []) ≡ occurs number (slice_index_or old p []) + occurs p before
  pub others : (p q : ℕ) → q ≢ number → occurs q (slice_index_or new p []) ≡ occurs q (slice_index_or old p [])

-- numbers of a graph were taken: to each the count of its predecessors that are left, and the numbers that are ready
pub record Takes (graph : List (List ℕ)) (counts : List ℕ) (ready : BTreeSet ℕ) (order : List ℕ) : Type 0 where
  pub marks : List Bool
  pub taken : IsTaken graph marks order
  pub closed : (p q : ℕ) → mark_at marks q ≡ true → Edge graph p q → mark_at marks p ≡ true
  pub count : length counts ≡ length graph
  pub counted : (q : ℕ) → slice_index_or counts q 0 ≡ left_in marks (slice_index_or graph q [])
  pub exact : (q : ℕ) → Has ready q ↔ IsOpen graph marks q
