-- The first element of a list at which something is wrong, where what is wrong may rest on how much
-- the elements before it add up to.
use Rattle.std.specs.Prelude.{◌≡◌, ℕ, ◌+◌, List, [], ◌∷◌, ◌++◌, sum_by, ⊤, Option, None, Some}

-- What is wrong with an element, if anything, by the sum before it; and how much it adds.
pub record Judge (A E : Type 0) : Type 0 where
  pub fault : ℕ → A → Option E
  pub size : A → ℕ

-- nothing is wrong with any element of the list, with this sum before it
abbrev pub AllGood : {A E : Type 0} → Judge A E → ℕ → List A → Type 0
AllGood judge before [] = ⊤
AllGood judge before (x ∷ xs) = (judge.fault before x ≡ None) × AllGood judge (before + judge.size x) xs

-- Nothing is wrong with the elements before one, and this is wrong with it.
pub record IsFirst {A E : Type 0} (judge : Judge A E) (before : ℕ) (xs : List A) (fault : E) : Type 0 where
  pub earlier : List A
  pub here : A
  pub later : List A
  pub split : xs ≡ earlier ++ here ∷ later
  pub good : AllGood judge before earlier
  pub wrong : judge.fault (before + sum_by judge.size earlier) here ≡ Some fault

-- the first fault of a list, if there is one
abbrev pub first_fault : {A E : Type 0} → Judge A E → ℕ → List A → Option E
first_fault judge before [] = None
first_fault judge before (x ∷ xs) =
    elim (judge.fault before x) [ Some fault ↦ Some fault | None ↦ first_fault judge (before + judge.size x) xs ]
