-- Decision diagrams written out as trees, and functions of truths.
use Rattle.std.specs.Prelude.{◌≡◌, ◌≢◌, ℕ, zero, suc, Bool, true, false, List, [], ◌∷◌, if◌then◌else◌, slice_index_or, ◌≤◌, ◌⊎◌}

-- a decision diagram, written out as a tree: a constant, or a choice by a variable, with
-- what is chosen where the variable is false, and then where it is true
pub data Diagram : Type 0 where
  Constant : Bool → Diagram
  Choice : ℕ → Diagram → Diagram → Diagram

-- the truth of a variable; past the list's end it is false
abbrev pub truth_of : List Bool → ℕ → Bool
truth_of truths v = slice_index_or truths v false

-- the diagram's value at a list of truths
unfoldable pub value_at : Diagram → List Bool → Bool
value_at (Constant b) truths = b
value_at (Choice v low high) truths =
    if truth_of truths v then value_at high truths else value_at low truths

-- how many choices the walk by a list of truths meets
unfoldable pub visited : Diagram → List Bool → ℕ
visited (Constant b) truths = 0
visited (Choice v low high) truths =
    suc (if truth_of truths v then visited high truths else visited low truths)

-- d tests the variable v
unfoldable pub Tests : Diagram → ℕ → Type 0
Tests (Constant b) v = ⊥
Tests (Choice u low high) v = (v ≡ u) ⊎ (Tests low v ⊎ Tests high v)

-- the first variable that d tests, if it tests any, is b or a later one
unfoldable pub StartsFrom : ℕ → Diagram → Type 0
StartsFrom b (Constant c) = Unit {0}
StartsFrom b (Choice v low high) = b ≤ v

-- the truths, with b as the truth of a variable
unfoldable pub with_truth : List Bool → ℕ → Bool → List Bool
with_truth [] zero b = b ∷ []
with_truth [] (suc v) b = false ∷ with_truth [] v b
with_truth (t ∷ ts) zero b = b ∷ ts
with_truth (t ∷ ts) (suc v) b = t ∷ with_truth ts v b

-- a function of truths depends on a variable: at some truths the variable's truth makes a difference
abbrev pub Depends : (List Bool → Bool) → ℕ → Type 0
Depends f v =
    (truths : List Bool) × (f (with_truth truths v false) ≢ f (with_truth truths v true))

-- two functions of truths are equal: they agree at every list
abbrev pub Agree : (List Bool → Bool) → (List Bool → Bool) → Type 0
Agree f g = (truths : List Bool) → f truths ≡ g truths
