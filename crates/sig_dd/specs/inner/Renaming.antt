-- Functions of other variables.
use Rattle.std.specs.Prelude.{◌≡◌, ℕ, Bool, false, List, Option, None, Some, IfSome, Contains, map, if◌then◌else◌}
use Rattle.std.specs.HashMap.{HashMap, get}
use Rattle.sig_dd.specs.Diagram.{Tests, truth_of}
use Rattle.sig_dd.specs.Nodes.{Holds, IsRefOf, diagram, test}
use Rattle.sig_dd.specs.declared.node.Node.{Node}
use Rattle.sig_dd.specs.declared.node.Ref.{Ref}

-- r is a reference to the function of f with other variables
abbrev pub IsRenamed : List Node → List Node → List ℕ → Ref → Ref → Type 0
IsRenamed old new to f r = IsRefOf new (λ truths. test old f (map (truth_of truths) to)) r

-- each entry of the table is its function with other variables
abbrev pub AreRenamed : {S : Type 0} → (Ref → Ref → Bool) → List Node → List ℕ → HashMap Ref Ref S → Type 0
AreRenamed eq nodes to table = (f : Ref) → IfSome (get eq table f) (λ r. Holds nodes f × IsRenamed nodes nodes to f r)

-- vs has each variable that the reference tests
abbrev pub RefTestsOnly : List Node → Ref → List ℕ → Type 0
RefTestsOnly nodes r vs = (v : ℕ) → Tests (diagram nodes r) v → Contains vs v

-- the truth of a variable, if there is one
abbrev pub truth_in : List Bool → Option ℕ → Bool
truth_in truths None = false
truth_in truths (Some v) = truth_of truths v

-- r stands in the new nodes for the choice between two functions of the old ones by a variable, and for the first where there is none
pub record IsChoiceBy (old new : List Node) (variable : Option ℕ) (low high r : Ref) : Type 0 where
  pub holds : Holds new r
  pub function : (truths : List Bool) → test new r truths ≡ (if truth_in truths variable then test old high truths else test old low truths)
