-- Graphs on the numbers below a count: to each number the list of those that precede it.
use Rattle.std.specs.Prelude.{◌≡◌, ◌<◌, ◌↔◌, ◌∷◌, ◌++◌}
use Rattle.sig_graph.specs.Prelude.{ℕ, Bool, true, false, List, [], length, slice_get, slice_index_or, slice_index, take, count_by, Some, Contains, SigId, IsLeast, Node, operation_in, ComesBefore, IsReady, Reaches, Op}

-- p precedes q
abbrev pub Edge : List (List ℕ) → ℕ → ℕ → Type 0
Edge graph p q = Contains (slice_index_or graph q []) p

-- what precedes is a number of the graph
abbrev pub IsWithin : List (List ℕ) → Type 0
IsWithin graph = (p q : ℕ) → Edge graph p q → p < length graph

-- no number precedes itself, directly or through others
abbrev pub IsAcyclic : List (List ℕ) → Type 0
IsAcyclic graph = (i : ℕ) → Reaches (Edge graph) i i → ⊥

abbrev pub mark_at : List Bool → ℕ → Bool
mark_at marks k = slice_index_or marks k false

-- a number that is not marked, and all of whose predecessors are
pub record IsOpen (graph : List (List ℕ)) (marks : List Bool) (q : ℕ) : Type 0 where
  pub within : q < length graph
  pub left : mark_at marks q ≡ false
  pub free : (p : ℕ) → Edge graph p q → mark_at marks p ≡ true

-- how many are marked
abbrev pub marked_count : List Bool → ℕ
marked_count marks = count_by (λ mark. mark) marks

-- the numbers of an order are marked, and each was the least that was ready at its place
pub record IsTaken (graph : List (List ℕ)) (marks : List Bool) (order : List ℕ) : Type 0 where
  pub count : length marks ≡ length graph
  pub taken : marked_count marks ≡ length order
  pub marked : (k : ℕ) → (mark_at marks k ≡ true) ↔ Contains order k
  pub each : (k : ℕ) → k < length order → IsLeast (IsReady (Edge graph) (length graph) (take k order)) (slice_index order k)

-- numbers were taken, until none was open
pub record IsTakenOut (graph : List (List ℕ)) (order : List ℕ) : Type 0 where
  pub marks : List Bool
  pub taken : IsTaken graph marks order
  pub none : (q : ℕ) → IsOpen graph marks q → ⊥

-- a number is added, where it is chosen
abbrev pub added : List ℕ → ℕ → Bool → List ℕ
added numbers number false = numbers
added numbers number true = numbers ++ number ∷ []

-- to an operation, the numbers of those that come before it
pub record IsBefore (conditions : List SigId) (nodes : List Node) (ops : List Op) (q : Op) (before : List ℕ) : Type 0 where
  pub within : (i : ℕ) → Contains before i → i < length ops
  pub exact : (i : ℕ) (p : Op) → slice_get ops i ≡ Some p → Contains before i ↔ ComesBefore conditions (operation_in nodes p) (operation_in nodes q)

-- the graph of operations: to each the numbers of those that come before it
pub record IsGraph (conditions : List SigId) (nodes : List Node) (ops : List Op) (graph : List (List ℕ)) : Type 0 where
  pub count : length graph ≡ length ops
  pub each : (j : ℕ) (q : Op) → slice_get ops j ≡ Some q → IsBefore conditions nodes ops q (slice_index_or graph j [])
