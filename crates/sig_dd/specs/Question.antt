-- What the recursion below the calls asks for, how it splits a question, and what answers one.
use Rattle.std.specs.Prelude.{◌≡◌, ℕ, suc, ◌+◌, ◌<◌, ◌≤◌, ◌⊎◌, Bool, true, false, List, IfSome, IsSomeAnd, if◌then◌else◌, Contains}
use Rattle.std.specs.HashMap.{HashMap, get}
use Rattle.sig_dd.specs.Diagram.{with_truth, truth_of, StartsFrom, Tests}
use Rattle.sig_dd.specs.Nodes.{Holds, node_of, test, diagram}
use Rattle.sig_dd.specs.declared.node.Ref.{Ref}
use Rattle.sig_dd.specs.declared.node.Node.{Node}
use Rattle.sig_dd.specs.declared.question.Question.{Question}
use Rattle.sig_dd.specs.declared.question.Question.TheVariants.{Pick, Fix}
use Rattle.sig_dd.specs.declared.question.Split.{Split}
use Rattle.sig_dd.specs.declared.question.Step.{Step}
use Rattle.sig_dd.specs.declared.question.Step.TheVariants.{Known, Open}

-- r's node has this variable
abbrev pub HasVariable : List Node → Ref → ℕ → Type 0
HasVariable nodes r v = IsSomeAnd (node_of nodes r) (λ n. n.variable ≡ v)

-- c is r where a variable, which r's diagram may test first, has the truth x
pub record IsSide (nodes : List Node) (r : Ref) (v : ℕ) (x : Bool) (c : Ref) : Type 0 where
  pub holds : Holds nodes c
  pub function : (truths : List Bool) → truth_of truths v ≡ x → test nodes c truths ≡ test nodes r truths
  pub later : StartsFrom (suc v) (diagram nodes c)
  pub tests : (u : ℕ) → Tests (diagram nodes c) u → Tests (diagram nodes r) u
  pub at_most : c.number ≤ r.number
  pub smaller : HasVariable nodes r v → c.number < r.number

-- the question's references are of the store
abbrev pub HoldsAll : List Node → Question → Type 0
HoldsAll nodes (Pick f g h) = Holds nodes f × Holds nodes g × Holds nodes h
HoldsAll nodes (Fix f v x) = Holds nodes f

-- the function that is asked for
abbrev pub asked : List Node → Question → List Bool → Bool
asked nodes (Pick f g h) truths = if test nodes f truths then test nodes g truths else test nodes h truths
asked nodes (Fix f v x) truths = test nodes f (with_truth truths v x)

-- none of the question's functions tests a variable before b
abbrev pub AllStartFrom : List Node → ℕ → Question → Type 0
AllStartFrom nodes b (Pick f g h) = StartsFrom b (diagram nodes f) × StartsFrom b (diagram nodes g) × StartsFrom b (diagram nodes h)
AllStartFrom nodes b (Fix f v x) = StartsFrom b (diagram nodes f)

-- one of the question's functions tests the variable
abbrev pub SomeTests : List Node → Question → ℕ → Type 0
SomeTests nodes (Pick f g h) u = Tests (diagram nodes f) u ⊎ (Tests (diagram nodes g) u ⊎ Tests (diagram nodes h) u)
SomeTests nodes (Fix f v x) u = Tests (diagram nodes f) u

-- one of the question's functions tests the variable first
abbrev pub SomeHas : List Node → Question → ℕ → Type 0
SomeHas nodes (Pick f g h) v = HasVariable nodes f v ⊎ (HasVariable nodes g v ⊎ HasVariable nodes h v)
SomeHas nodes (Fix f u x) v = HasVariable nodes f v

-- a number that is smaller for the two questions into which one is split
abbrev pub weight : Question → ℕ
weight (Pick f g h) = f.number + g.number + h.number
weight (Fix f v x) = f.number

-- r answers the question
pub record IsAnswer (nodes : List Node) (q : Question) (r : Ref) : Type 0 where
  pub holds : Holds nodes r
  pub function : (truths : List Bool) → test nodes r truths ≡ asked nodes q truths
  pub starts : (b : ℕ) → AllStartFrom nodes b q → StartsFrom b (diagram nodes r)

-- p asks for what q asks for where the variable v, which q tests, has the truth x
pub record IsHalf (nodes : List Node) (q : Question) (v : ℕ) (x : Bool) (p : Question) : Type 0 where
  pub holds : HoldsAll nodes p
  pub function : (truths : List Bool) → truth_of truths v ≡ x → asked nodes p truths ≡ asked nodes q truths
  pub later : AllStartFrom nodes (suc v) p
  pub tests : (u : ℕ) → SomeTests nodes p u → SomeTests nodes q u
  pub smaller : weight p < weight q

-- s splits q by a variable that q tests
pub record IsSplit (nodes : List Node) (q : Question) (s : Split) : Type 0 where
  pub tested : SomeTests nodes q s.variable
  pub first : (b : ℕ) → AllStartFrom nodes b q → b ≤ s.variable
  pub low : IsHalf nodes q s.variable false s.low
  pub high : IsHalf nodes q s.variable true s.high

-- the question is answered, or split
abbrev pub IsStep : List Node → Question → Step → Type 0
IsStep nodes q (Known r) = IsAnswer nodes q r
IsStep nodes q (Open s) = IsSplit nodes q s

-- each entry of the table answers its question
abbrev pub IsTable : {S : Type 0} → (Question → Question → Bool) → List Node → HashMap Question Ref S → Type 0
IsTable eq nodes table = (q : Question) → IfSome (get eq table q) (λ r. HoldsAll nodes q × IsAnswer nodes q r)

-- vs has each variable that one of the question's functions tests
abbrev pub TestsOnly : List Node → Question → List ℕ → Type 0
TestsOnly nodes q vs = (v : ℕ) → SomeTests nodes q v → Contains vs v
