-- What guards are told by.
use Rattle.std.specs.Prelude.{◌≡◌, ◌<◌}
use Rattle.sig_cells.specs.Prelude.{ℕ, Bool, List, length, slice_get, Some, Depends, Node, Ref, Registers, SigId, test, truths_of}

-- The nodes of guards' diagrams, the signals that are conditions, by the variables that stand for them, and how many signals
-- there are.
pub record Scope : Type 0 where
  pub nodes : List Node
  pub conditions : List SigId
  pub signals : ℕ

abbrev pub scope_of : List Node → List SigId → ℕ → Scope
scope_of nodes conditions signals = record { nodes = nodes; conditions = conditions; signals = signals }

-- the conditions are signals among so many
abbrev pub AreBelow : ℕ → List SigId → Type 0
AreBelow signals conditions = (v : ℕ) (c : SigId) → slice_get conditions v ≡ Some c → c.0 < signals

-- a guard asks conditions alone
abbrev pub AsksAmong : List Node → List SigId → Ref → Type 0
AsksAmong nodes conditions guard = (v : ℕ) → Depends (test nodes guard) v → v < length conditions

-- the value of a guard by registers
abbrev pub holds_by : Scope → Ref → Registers → Bool
holds_by scope guard registers = test scope.nodes guard (truths_of scope.conditions registers)
