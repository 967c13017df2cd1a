-- What it means that a part of the grammar is read in one way.
use Rattle.std.specs.Prelude.{◌≡◌, ◌++◌, List, [], ◌∷◌}
use Rattle.sig_tree.specs.Terminals.{Terminal, Leaf}

-- the leaves are none, or the first of them is not in the set
abbrev pub StopsBefore : (Terminal → Type 0) → List Leaf → Type 0
StopsBefore Continues [] = Unit {0}
StopsBefore Continues (l ∷ leaves) = Continues l.terminal → ⊥

-- Leaves that begin with what is in the language, where nothing that continues it stands behind that,
-- begin so in one way: with one tree, and with the same leaves.
abbrev pub OneReading : {A : Type 0} → (A → List Leaf → Type 0) → (Terminal → Type 0) → Type 0
OneReading {A = A} Is Continues = (x y : A) (front other_front back other_back : List Leaf)
    → front ++ back ≡ other_front ++ other_back
    → Is x front → Is y other_front
    → StopsBefore Continues back → StopsBefore Continues other_back
    → (x ≡ y) × (front ≡ other_front)
