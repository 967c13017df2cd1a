-- Two functions compared, pair by pair of what stands below them.
use Rattle.std.specs.Prelude.{◌≡◌, ◌↔◌, ◌⊎◌, ◌<◌, ◌≤◌, ◌+◌}
use Rattle.sig_verify.specs.Prelude.{ℕ, suc, Bool, true, List, HashSet, contains, Holds, IsTrue, NODES, StartsFrom, Tests, diagram, test, Node, DdAnswer, Budget, OutOfMemory}
use Rattle.sig_verify.specs.declared.pairs.Pair.{Pair}
use Rattle.sig_verify.specs.declared.pairs.PairStep.{PairStep}
use Rattle.sig_verify.specs.declared.pairs.PairStep.TheVariants.{Known, Open}
use Rattle.sig_verify.specs.declared.pairs.Work.{Work}

-- both are of the store
abbrev pub HoldsBoth : List Node → Pair → Type 0
HoldsBoth nodes p = Holds nodes p.first × Holds nodes p.second

-- some truths make the first true and give the second the truth b
abbrev pub Meets : List Node → Pair → Bool → Type 0
Meets nodes p b = (truths : List Bool) × (test nodes p.first truths ≡ true) × (test nodes p.second truths ≡ b)

-- a number that is smaller for the two pairs into which one is split
abbrev pub weight : Pair → ℕ
weight p = p.first.number + p.second.number

-- what the two functions test are variables from one number on and before another
pub record IsWithin (nodes : List Node) (from to : ℕ) (p : Pair) : Type 0 where
  pub first_from : StartsFrom from (diagram nodes p.first)
  pub second_from : StartsFrom from (diagram nodes p.second)
  pub first_to : (u : ℕ) → Tests (diagram nodes p.first) u → u < to
  pub second_to : (u : ℕ) → Tests (diagram nodes p.second) u → u < to

-- a pair meets exactly where one of two smaller ones does, into which it is split by a variable, behind which they begin
pub record IsSplitInto (nodes : List Node) (p : Pair) (b : Bool) (low high : Pair) : Type 0 where
  pub low_held : HoldsBoth nodes low
  pub high_held : HoldsBoth nodes high
  pub low_meets : Meets nodes low b → Meets nodes p b
  pub high_meets : Meets nodes high b → Meets nodes p b
  pub either : Meets nodes p b → Meets nodes low b ⊎ Meets nodes high b
  pub low_smaller : weight low < weight p
  pub high_smaller : weight high < weight p
  pub variable : ℕ
  pub at : (from to : ℕ) → IsWithin nodes from to p → (from ≤ variable) × (variable < to)
  pub low_within : (from to : ℕ) → IsWithin nodes from to p → IsWithin nodes (suc variable) to low
  pub high_within : (from to : ℕ) → IsWithin nodes from to p → IsWithin nodes (suc variable) to high

-- whether the pair meets is known, or it is split
abbrev pub IsPairStep : List Node → Pair → Bool → PairStep → Type 0
IsPairStep nodes p b (Known m) = IsTrue m ↔ Meets nodes p b
IsPairStep nodes p b (Open low high) = IsSplitInto nodes p b low high

-- none of the pairs of a set meets
abbrev pub NoneMeets : {S : Type 0} → (Pair → Pair → Bool) → List Node → Bool → HashSet Pair S → Type 0
NoneMeets eq nodes b pairs = (p : Pair) → IsTrue (contains eq pairs p) → Meets nodes p b → ⊥

-- why a comparison of so many pairs is refused: for want of memory, or where there are many pairs
abbrev pub IsTired : Work → ℕ → DdAnswer → Type 0
IsTired work more (Budget nodes) = (nodes ≡ NODES) × (NODES < work.pairs + more)
IsTired work more OutOfMemory = Unit {0}
