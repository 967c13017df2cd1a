-- The walk over a diagram by some truths, from its top: which variables it asks for.
use Rattle.std.specs.Prelude.{◌≡◌, ◌<◌, ◌⊎◌, ℕ, Bool, true, false, List}
use Rattle.sig_dd.specs.Diagram.{Diagram, Constant, Choice, truth_of, with_truth}

-- the walk asks for the truth of a variable
abbrev pub Asks : Diagram → List Bool → ℕ → Type 0
Asks (Constant b) truths v = ⊥
Asks (Choice u low high) truths v =
    (v ≡ u) ⊎ (((truth_of truths u ≡ true) × Asks high truths v) ⊎ ((truth_of truths u ≡ false) × Asks low truths v))

-- once the truths of the earlier variables are known, the truth of this one makes no difference
abbrev pub IsIdle : (List Bool → Bool) → List Bool → ℕ → Type 0
IsIdle f truths v =
    (other : List Bool) → ((u : ℕ) → u < v → truth_of other u ≡ truth_of truths u) → f (with_truth other v false) ≡ f (with_truth other v true)
