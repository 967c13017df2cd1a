-- What stands one or more times, or any number of times, in a list of leaves.
use Rattle.std.specs.Prelude.{◌≡◌, ◌++◌, ◌∷◌}
use Rattle.sig_tree.specs.Prelude.{List, [], Span}
use Rattle.sig_tree.specs.Terminals.{Leaf, Terminal, leaf}

-- { X }
abbrev pub Each : {A : Type 0} → (A → List Leaf → Type 0) → List A → List Leaf → Type 0
Each Is [] leaves = leaves ≡ []
Each Is (x ∷ xs) leaves = (front back : List Leaf) × (leaves ≡ front ++ back) × Is x front × Each Is xs back

-- { separator X }
abbrev pub Further : {A : Type 0} → (A → List Leaf → Type 0) → Terminal → List A → List Leaf → Type 0
Further Is separator [] leaves = leaves ≡ []
Further Is separator (x ∷ xs) leaves = (at : Span) × (front back : List Leaf) × (leaves ≡ leaf separator at ∷ (front ++ back)) × Is x front × Further Is separator xs back

-- X { separator X }
abbrev pub Separated : {A : Type 0} → (A → List Leaf → Type 0) → Terminal → List A → List Leaf → Type 0
Separated Is separator [] leaves = ⊥
Separated Is separator (x ∷ xs) leaves = (front back : List Leaf) × (leaves ≡ front ++ back) × Is x front × Further Is separator xs back

-- [ X { separator X } ]
abbrev pub Listed : {A : Type 0} → (A → List Leaf → Type 0) → Terminal → List A → List Leaf → Type 0
Listed Is separator [] leaves = leaves ≡ []
Listed Is separator (x ∷ xs) leaves = Separated Is separator (x ∷ xs) leaves

-- open X close
abbrev pub Between : Terminal → Terminal → (List Leaf → Type 0) → List Leaf → Type 0
Between opening closing Is leaves = (opened closed : Span) × (inside : List Leaf) × (leaves ≡ leaf opening opened ∷ (inside ++ leaf closing closed ∷ [])) × Is inside
