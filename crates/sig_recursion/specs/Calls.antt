-- The calls of processes by their places.
use Rattle.std.specs.Prelude.{◌≡◌, ◌≢◌, ◌<◌, ◌≤◌, ◌+◌, ◌⊎◌, ℕ, Bool, true, false, not, List, [], ◌∷◌, map, flat_map, length, Option, None, Some, Contains, slice_index_or, count_by}
use Rattle.std.specs.Global.{Vec}
use Rattle.sig_tree.specs.declared.expr.Name.{Name}
use Rattle.sig_tree.specs.Syntax.{ProcessModel}
use Rattle.sig_tree.specs.Declarations.{called_by}
use Rattle.sig_scope.specs.Places.{place_of}
use Rattle.sig_scope.specs.Walked.{process_texts}

abbrev pub list_of : Option ℕ → List ℕ
list_of None = []
list_of (Some place) = place ∷ []

-- the places of names among texts, of those that are there
abbrev pub places_called : List (List ℕ) → List Name → List ℕ
places_called texts names = flat_map (λ name. list_of (place_of texts name.text)) names

-- for each process the places of those that it calls
abbrev pub graph_of : List ProcessModel → List (List ℕ)
graph_of all = map (λ p. places_called (process_texts all) (called_by p)) all

-- the same as the code has it
abbrev pub graph_in : List (Vec ℕ) → List (List ℕ)
graph_in callees = map (λ v. v.items) callees

-- those that are called at a place
abbrev pub callees_at : List (List ℕ) → ℕ → List ℕ
callees_at graph place = slice_index_or graph place []

-- each call leads to a place of the graph
pub record IsGraph (graph : List (List ℕ)) : Type 0 where
  pub within : (place next : ℕ) → Contains (callees_at graph place) next → next < length graph

-- one place leads to another by calls
pub data Path (graph : List (List ℕ)) : (from to : ℕ) → Type 0 where
  Here : {place : ℕ} → Path graph place place
  There : {from next to : ℕ} → Contains (callees_at graph from) next → Path graph next to → Path graph from to

-- a place that was visited
abbrev pub IsVisited : List Bool → ℕ → Type 0
IsVisited visited place = slice_index_or visited place false ≡ true

-- a place that is not the target, of which all callees are visited
pub record IsPassed (graph : List (List ℕ)) (target : ℕ) (visited : List Bool) (place : ℕ) : Type 0 where
  pub apart : place ≢ target
  pub called : (next : ℕ) → Contains (callees_at graph place) next → IsVisited visited next

-- each visited place waits, or is passed
pub record IsCovered (graph : List (List ℕ)) (target : ℕ) (visited : List Bool) (waiting : List ℕ) : Type 0 where
  pub covered : (place : ℕ) → IsVisited visited place → Contains waiting place ⊎ IsPassed graph target visited place

-- places are visited, of which those that were not visited before wait
pub record Visits (visited : List Bool) (waiting : List ℕ) (visited_now : List Bool) (waiting_now places : List ℕ) : Type 0 where
  pub kept : (place : ℕ) → IsVisited visited place → IsVisited visited_now place
  pub seen : (place : ℕ) → Contains places place → IsVisited visited_now place
  pub fresh : (place : ℕ) → IsVisited visited_now place → IsVisited visited place ⊎ Contains waiting_now place
  pub waits : (place : ℕ) → Contains waiting place → Contains waiting_now place
  pub from : (place : ℕ) → Contains waiting_now place → Contains waiting place ⊎ Contains places place
  pub size : length visited_now ≡ length visited
  pub left : count_by not visited_now + length waiting_now ≡ count_by not visited + length waiting

-- a walk from a start: what is visited is covered, and what waits is reached from the start
pub record IsWalk (graph : List (List ℕ)) (start target : ℕ) (visited : List Bool) (waiting : List ℕ) : Type 0 where
  pub covered : IsCovered graph target visited waiting
  pub reached : (place : ℕ) → Contains waiting place → Path graph start place
  pub within : (place : ℕ) → Contains waiting place → place < length graph
  pub begun : IsVisited visited start

-- the rank at a place; the lowest, where there is none
abbrev pub or_lowest : Option ℕ → ℕ
or_lowest (Some rank) = rank
or_lowest None = 0

abbrev pub rank_of : List (Option ℕ) → ℕ → ℕ
rank_of ranks place = or_lowest (slice_index_or ranks place None)

-- ranks that do not rise along calls
pub record IsFalling (graph : List (List ℕ)) (ranks : List (Option ℕ)) : Type 0 where
  pub falls : (place next : ℕ) → Contains (callees_at graph place) next → rank_of ranks next ≤ rank_of ranks place
