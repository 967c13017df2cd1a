-- What a part of the parser reads.
use Rattle.std.specs.Prelude.{◌≡◌, ◌++◌, ◌+◌, ◌≤◌, ◌<◌, ◌∷◌}
use Rattle.sig_parse.specs.Prelude.{ℕ, List, [], length, OPERATORS, Span, Terminal, Leaf, leaf}
use Rattle.sig_parse.specs.State.{State}

-- The leaves that were read are in a language, with so many operators, of which there are not too many.
pub record Reads (Is : List Leaf → Type 0) (count : ℕ) (before after : State) : Type 0 where
  pub front : List Leaf
  pub split : before.leaves ≡ front ++ after.leaves
  pub is : Is front
  pub counted : after.operators ≡ before.operators + count
  pub few : before.operators ≤ OPERATORS → after.operators ≤ OPERATORS

-- some leaf was read
abbrev pub Shorter : State → State → Type 0
Shorter before after = length after.leaves < length before.leaves

-- the leaves are one, of this terminal
abbrev pub IsLeaf : Terminal → Span → List Leaf → Type 0
IsLeaf terminal at leaves = leaves ≡ leaf terminal at ∷ []

-- the leaves that were read are in a language, whatever their operators
pub record Covers (Is : List Leaf → Type 0) (before after : State) : Type 0 where
  pub front : List Leaf
  pub split : before.leaves ≡ front ++ after.leaves
  pub is : Is front
