-- An input of a name, by its index.
use Rattle.std.specs.Prelude.{◌≡◌, ◌<◌}
use Rattle.sig_flow.specs.Prelude.{ℕ, List, length, slice_index_or, Option, Some, Signal}
use Rattle.sig_flow.specs.Flows.{kind_named}

-- the input of this name stands at this index
pub record IsInput (inputs : List Signal) (name : List ℕ) (i : ℕ) : Type 0 where
  pub within : i < length inputs
  pub same : (d : Signal) → (slice_index_or inputs i d).name ≡ name
  pub kind : (d : Signal) → kind_named inputs name ≡ Some (slice_index_or inputs i d).kind

-- a map from names gives each of the first n inputs its place, and no other name a place
pub record ArePlaces (inputs : List Signal) (n : ℕ) (place : List ℕ → Option ℕ) : Type 0 where
  pub sound : (name : List ℕ) (i : ℕ) → place name ≡ Some i → (i < n) × ((d : Signal) → (slice_index_or inputs i d).name ≡ name)
  pub all : (i : ℕ) (d : Signal) → i < n → place (slice_index_or inputs i d).name ≡ Some i
