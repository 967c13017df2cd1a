-- Two functions, of which some truths make the first true and give the second a truth.
use Rattle.std.specs.Prelude.{◌≡◌, ℕ, ◌+◌, ◌<◌, ◌↔◌, ◌⊎◌, Bool, true, List, IsTrue}
use Rattle.std.specs.HashSet.{HashSet, contains}
use Rattle.sig_dd.specs.Nodes.{Holds, test}
use Rattle.sig_dd.specs.declared.node.Node.{Node}
use Rattle.sig_dd.specs.declared.meets.Pair.{Pair}
use Rattle.sig_dd.specs.declared.meets.PairStep.{PairStep}
use Rattle.sig_dd.specs.declared.meets.PairStep.TheVariants.{Known, Open}

-- both are of the store
abbrev pub HoldsPair : List Node → Pair → Type 0
HoldsPair nodes p = Holds nodes p.first × Holds nodes p.second

-- some truths make the first true and give the second the truth b
abbrev pub Meets : List Node → Pair → Bool → Type 0
Meets nodes p b =
    (truths : List Bool) × (test nodes p.first truths ≡ true) × (test nodes p.second truths ≡ b)

-- a number that is smaller for the two pairs into which one is split
abbrev pub pair_weight : Pair → ℕ
pair_weight p = p.first.number + p.second.number

-- p meets exactly where one of two smaller pairs does
pub record IsPairSplit (nodes : List Node) (p : Pair) (b : Bool) (low high : Pair) : Type 0 where
  pub low_held : HoldsPair nodes low
  pub high_held : HoldsPair nodes high
  pub low_meets : Meets nodes low b → Meets nodes p b
  pub high_meets : Meets nodes high b → Meets nodes p b
  pub either : Meets nodes p b → Meets nodes low b ⊎ Meets nodes high b
  pub low_smaller : pair_weight low < pair_weight p
  pub high_smaller : pair_weight high < pair_weight p

-- whether the pair meets is known, or it is split
abbrev pub IsPairStep : List Node → Pair → Bool → PairStep → Type 0
IsPairStep nodes p b (Known m) = IsTrue m ↔ Meets nodes p b
IsPairStep nodes p b (Open low high) = IsPairSplit nodes p b low high

-- none of the pairs of a set meets
abbrev pub NoneMeets : {S : Type 0} → (Pair → Pair → Bool) → List Node → Bool → HashSet Pair S → Type 0
NoneMeets eq nodes b pairs = (p : Pair) → IsTrue (contains eq pairs p) → Meets nodes p b → ⊥
