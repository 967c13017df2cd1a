-- Relational products: conjunctions in which variables are forgotten.
use Rattle.std.specs.Prelude.{◌≡◌, ◌↔◌, ◌⊎◌, ◌+◌, ◌*◌, ◌^◌, ◌<◌, ◌||◌, ℕ, zero, suc, Bool, true, false, List, IfSome, IsTrue, Contains, if◌then◌else◌}
use Rattle.std.specs.HashMap.{HashMap, get}
use Rattle.sig_dd.specs.Diagram.{Tests, truth_of}
use Rattle.sig_dd.specs.inner.Meets.{HoldsPair, pair_weight}
use Rattle.sig_dd.specs.Nodes.{Holds, diagram, test}
use Rattle.sig_dd.specs.Question.{IsSide}
use Rattle.sig_dd.specs.declared.meets.Pair.{Pair}
use Rattle.sig_dd.specs.declared.node.Node.{Node}
use Rattle.sig_dd.specs.declared.node.Ref.{Ref}
use Rattle.sig_dd.specs.declared.products.ProductSplit.{ProductSplit}
use Rattle.sig_dd.specs.declared.products.ProductStep.{ProductStep}
use Rattle.sig_dd.specs.declared.products.ProductStep.TheVariants.{Known, Open}

-- two lists of truths agree on all variables but the forgotten ones
abbrev pub AgreeBut : List Bool → List Bool → List Bool → Type 0
AgreeBut forgotten truths others = (v : ℕ) → truth_of forgotten v ≡ false → truth_of truths v ≡ truth_of others v

-- some truths of the forgotten variables, beside these of the others, make both functions true
abbrev pub MeetWithout : List Bool → (List Bool → Bool) → (List Bool → Bool) → List Bool → Type 0
MeetWithout forgotten f g truths =
    (others : List Bool) × AgreeBut forgotten truths others × IsTrue (f others) × IsTrue (g others)

-- r is a reference to the relational product of two functions
pub record IsProduct (nodes : List Node) (forgotten : List Bool) (f g : List Bool → Bool) (r : Ref) : Type 0 where
  pub holds : Holds nodes r
  pub function : (truths : List Bool) → IsTrue (test nodes r truths) ↔ MeetWithout forgotten f g truths

-- r is a reference to that of the pair's functions
abbrev pub IsPairProduct : List Node → List Bool → Pair → Ref → Type 0
IsPairProduct nodes forgotten p r = IsProduct nodes forgotten (test nodes p.first) (test nodes p.second) r

-- each entry of the table is the product of its pair
abbrev pub AreProducts : {S : Type 0} → (Pair → Pair → Bool) → List Node → List Bool → HashMap Pair Ref S → Type 0
AreProducts eq nodes forgotten table = (p : Pair) → IfSome (get eq table p) (λ r. HoldsPair nodes p × IsPairProduct nodes forgotten p r)

-- one of the pair's functions tests the variable
abbrev pub PairTests : List Node → Pair → ℕ → Type 0
PairTests nodes p u = Tests (diagram nodes p.first) u ⊎ Tests (diagram nodes p.second) u

-- vs has each variable that one of them tests
abbrev pub PairTestsOnly : List Node → Pair → List ℕ → Type 0
PairTestsOnly nodes p vs = (v : ℕ) → PairTests nodes p v → Contains vs v

-- q is p where the variable has the truth x
pub record IsPairSide (nodes : List Node) (p : Pair) (v : ℕ) (x : Bool) (q : Pair) : Type 0 where
  pub first : IsSide nodes p.first v x q.first
  pub second : IsSide nodes p.second v x q.second
  pub smaller : pair_weight q < pair_weight p

-- s splits p by a variable that p tests
pub record IsProductSplit (nodes : List Node) (p : Pair) (s : ProductSplit) : Type 0 where
  pub tested : PairTests nodes p s.variable
  pub low : IsPairSide nodes p s.variable false s.low
  pub high : IsPairSide nodes p s.variable true s.high

-- the product is known, whichever variables are forgotten, or the pair is split
abbrev pub IsProductStep : List Node → Pair → ProductStep → Type 0
IsProductStep nodes p (Known r) = (forgotten : List Bool) → IsPairProduct nodes forgotten p r
IsProductStep nodes p (Open s) = IsProductSplit nodes p s

-- r stands in the new nodes for one of two functions of the old ones where the variable is forgotten, and for the choice by
-- the variable between them where it is not
pub record IsJoined (old new : List Node) (forgotten : Bool) (variable : ℕ) (low high r : Ref) : Type 0 where
  pub holds : Holds new r
  pub function : (truths : List Bool) → test new r truths
      ≡ (if forgotten then test old low truths || test old high truths
      else (if truth_of truths variable then test old high truths else test old low truths))

-- how many nodes a product over so many variables may add: those of two products over one less, and of what joins them
unfoldable pub product_room : ℕ → ℕ
product_room zero = 0
product_room (suc k) = 2 * product_room k + 2 ^ k
