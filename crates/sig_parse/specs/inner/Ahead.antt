-- What begins with the next leaves, where one of them does not tell.
use Rattle.std.specs.Prelude.{◌≡◌, ◌⊎◌, ◌∷◌}
use Rattle.sig_parse.specs.Prelude.{ℕ, List, [], codes, MatchOption, slice_get, Terminal, Leaf, mark, StartsWith, BeginsName}

-- the first leaf is in the set, and those behind it are so
abbrev pub StartsThen : (Terminal → Type 0) → (List Leaf → Type 0) → List Leaf → Type 0
StartsThen Begins Behind [] = ⊥
StartsThen Begins Behind (l ∷ leaves) = Begins l.terminal × Behind leaves

-- the leaf at an index is there and in the set
abbrev pub StandsAt : (Terminal → Type 0) → ℕ → List Leaf → Type 0
StandsAt Is index leaves = MatchOption (slice_get leaves index) ⊥ (λ l. Is l.terminal)

-- NAME ":=", or "(" NAME ",", or "(" NAME ")" ":="
abbrev pub BeginsDefinition : List Leaf → Type 0
BeginsDefinition leaves = StartsThen BeginsName (StartsWith (λ t. t ≡ mark (codes ":="))) leaves
    ⊎ StartsThen (λ t. t ≡ mark (codes "(")) (StartsThen BeginsName (λ rest.
    StartsWith (λ t. t ≡ mark (codes ",")) rest
    ⊎ StartsThen (λ t. t ≡ mark (codes ")")) (StartsWith (λ t. t ≡ mark (codes ":="))) rest)) leaves

-- NAME "(", or NAME "{"
abbrev pub BeginsCall : List Leaf → Type 0
BeginsCall leaves = StartsThen BeginsName (StartsWith (λ t. (t ≡ mark (codes "(")) ⊎ (t ≡ mark (codes "{")))) leaves
