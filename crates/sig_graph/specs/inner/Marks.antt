-- What a walk over a graph marks.
use Rattle.std.specs.Prelude.{◌≡◌, ◌<◌, ◌+◌, ◌⊎◌, ◌↔◌, if◌then◌else◌}
use Rattle.sig_graph.specs.Prelude.{ℕ, Bool, true, List, length, slice_get, Option, None, Some, Contains, nat_lt, SigId, IsLeast, Reaches, Op}
use Rattle.sig_graph.specs.inner.Graphs.{Edge, mark_at, marked_count}

-- the numbers of a list were marked, and those that were not marked before wait
pub record Visits (before : List ℕ) (old new : List Bool) (waited waiting : List ℕ) : Type 0 where
  pub count : length new ≡ length old
  pub marks : (k : ℕ) → (mark_at new k ≡ true) ↔ ((mark_at old k ≡ true) ⊎ Contains before k)
  pub waits : (k : ℕ) → mark_at new k ≡ true → (mark_at old k ≡ true) ⊎ Contains waiting k
  pub kept : (k : ℕ) → Contains waited k → Contains waiting k
  pub only : (k : ℕ) → Contains waiting k → Contains waited k ⊎ Contains before k
  pub balance : marked_count new + length waited ≡ marked_count old + length waiting

-- a walk that has not ended: the marked numbers reach the target, and what precedes a number that does not wait is marked
pub record Walks (graph : List (List ℕ)) (target : ℕ) (marks : List Bool) (waiting : List ℕ) : Type 0 where
  pub count : length marks ≡ length graph
  pub sound : (k : ℕ) → mark_at marks k ≡ true → Reaches (Edge graph) k target
  pub first : (p : ℕ) → Edge graph p target → mark_at marks p ≡ true
  pub closed : (k : ℕ) → mark_at marks k ≡ true → Contains waiting k ⊎ ((p : ℕ) → Edge graph p k → mark_at marks p ≡ true)
  pub only : (k : ℕ) → Contains waiting k → mark_at marks k ≡ true

-- the marked numbers are those that reach the target
pub record AreReaching (graph : List (List ℕ)) (target : ℕ) (marks : List Bool) : Type 0 where
  pub count : length marks ≡ length graph
  pub exact : (k : ℕ) → (mark_at marks k ≡ true) ↔ Reaches (Edge graph) k target

-- an operation of the first n that writes the signal precedes itself, directly or through others
pub record WritesOnCycle (graph : List (List ℕ)) (ops : List Op) (n signal : ℕ) : Type 0 where
  pub number : ℕ
  pub below : number < n
  pub op : Op
  pub writes : SigId
  pub is : slice_get ops number ≡ Some op
  pub target : op.writes ≡ Some writes
  pub named : writes.0 ≡ signal
  pub cycle : Reaches (Edge graph) number number

-- the least signal that one of the first n operations writes on a cycle, if there is one
abbrev pub IsLeastOnCycle : List (List ℕ) → List Op → ℕ → Option SigId → Type 0
IsLeastOnCycle graph ops n None = (signal : ℕ) → WritesOnCycle graph ops n signal → ⊥
IsLeastOnCycle graph ops n (Some x) = IsLeast (WritesOnCycle graph ops n) x.0

-- the lesser of two signals, where there are two
abbrev pub lesser : Option SigId → Option SigId → Option SigId
lesser None y = y
lesser (Some a) None = Some a
lesser (Some a) (Some b) = Some (if nat_lt a.0 b.0 then a else b)
