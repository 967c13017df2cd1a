-- The walk over a diagram by some truths, from its top: which variables it asks for.
use Rattle.std.specs.Prelude.{◌≡◌, ◌⊎◌}
use Rattle.sig_solve.specs.Prelude.{ℕ, Bool, true, false, List, Diagram, Constant, Choice, truth_of}

-- the walk asks for the truth of a variable
abbrev pub Asks : Diagram → List Bool → ℕ → Type 0
Asks (Constant b) truths v = ⊥
Asks (Choice u low high) truths v =
    (v ≡ u) ⊎ (((truth_of truths u ≡ true) × Asks high truths v) ⊎ ((truth_of truths u ≡ false) × Asks low truths v))
