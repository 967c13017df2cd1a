-- What contracts see of a store: its list of nodes, and the number that it was made for.
use Rattle.std.specs.Prelude.{◌≡◌, ◌≢◌, ℕ, zero, suc, ◌+◌, ◌-◌, ◌^◌, ◌<◌, ◌≤◌, Bool, true, false, List, [], ◌∷◌, ◌++◌, Option, None, Some, IfSome, length, fold, slice_get, slice_index_or, if◌then◌else◌, Contains, IsTrue}
use Rattle.sig_dd.specs.Diagram.{Diagram, Constant, Choice, value_at, Depends, Agree, StartsFrom, truth_of}
use Rattle.sig_dd.specs.declared.node.Ref.{Ref}
use Rattle.sig_dd.specs.declared.node.Node.{Node}

pub record StoreView : Type 0 where
  -- the nodes; the place of a node is its number
  pub nodes : List Node
  -- how many nodes the store was made for
  pub made_for : ℕ

-- r names a constant or one of the nodes
abbrev pub Holds : List Node → Ref → Type 0
Holds nodes r = r.number < length nodes + 2

-- the node that a number names: the two constants, 0 and 1, are no nodes
abbrev pub node_numbered : List Node → ℕ → Option Node
node_numbered nodes zero = None
node_numbered nodes (suc zero) = None
node_numbered nodes (suc (suc i)) = slice_get nodes i

-- the node that r names
abbrev pub node_of : List Node → Ref → Option Node
node_of nodes r = node_numbered nodes r.number

-- the diagrams so far, and that of one more node, whose children are among them
unfoldable pub with_node : List Diagram → Node → List Diagram
with_node so_far n =
    so_far ++ Choice n.variable (slice_index_or so_far n.low.number (Constant false))
    (slice_index_or so_far n.high.number (Constant false)) ∷ []

-- the diagrams of the two constants, and then of each node
unfoldable pub diagrams : List Node → List Diagram
diagrams nodes = fold with_node (Constant false ∷ Constant true ∷ []) nodes

-- the diagram that r names
unfoldable pub diagram : List Node → Ref → Diagram
diagram nodes r = slice_index_or (diagrams nodes) r.number (Constant false)

-- the function of r: a test over any list of truths
abbrev pub test : List Node → Ref → List Bool → Bool
test nodes r truths = value_at (diagram nodes r) truths

-- n may stand at the place i: its children stand before it, differ, and test only later variables
pub record IsNodeAt (nodes : List Node) (i : ℕ) (n : Node) : Type 0 where
  pub low_before : n.low.number < i + 2
  pub high_before : n.high.number < i + 2
  pub differ : n.low ≢ n.high
  pub low_later : IfSome (node_of nodes n.low) (λ m. n.variable < m.variable)
  pub high_later : IfSome (node_of nodes n.high) (λ m. n.variable < m.variable)

-- the list of nodes is reduced and ordered, and no node stands in it twice
pub record IsReduced (nodes : List Node) : Type 0 where
  pub each : (i : ℕ) (n : Node) → slice_get nodes i ≡ Some n → IsNodeAt nodes i n
  pub once : (i j : ℕ) (n : Node) → slice_get nodes i ≡ Some n → slice_get nodes j ≡ Some n → i ≡ j

-- A store: its nodes are reduced, and no more than it was made for. How many that may be is a matter of the type `Store`,
-- whose references have 32 bits; what is said of guards holds in a store of whatever size.
pub record IsStore (s : StoreView) : Type 0 where
  pub reduced : IsReduced s.nodes
  pub within : length s.nodes ≤ s.made_for

-- each older node stands at its number, behind it stand only newer ones, and the number that the store was made for stays
pub record Keeps (old new : StoreView) : Type 0 where
  pub added : List Node
  pub nodes : new.nodes ≡ old.nodes ++ added
  pub grows : length old.nodes ≤ length new.nodes
  pub made_for : new.made_for ≡ old.made_for

-- r is a reference of the store, and its function is f
pub record IsRefOf (nodes : List Node) (f : List Bool → Bool) (r : Ref) : Type 0 where
  pub holds : Holds nodes r
  pub function : Agree (test nodes r) f

-- vs has each variable on which r's function depends
abbrev pub Spans : List Node → Ref → List ℕ → Type 0
Spans nodes r vs = (v : ℕ) → Depends (test nodes r) v → Contains vs v

-- how many nodes a call may add whose operands depend on these variables alone
abbrev pub allowance : List ℕ → ℕ
allowance vs = 2 ^ length vs - 1

-- where f is true, g is true
abbrev pub Implies : List Node → Ref → Ref → Type 0
Implies nodes f g = (truths : List Bool) → IsTrue (test nodes f truths) → IsTrue (test nodes g truths)

-- some truths make both true
abbrev pub Overlap : List Node → Ref → Ref → Type 0
Overlap nodes f g =
    (truths : List Bool) × IsTrue (test nodes f truths) × IsTrue (test nodes g truths)

-- the store is full: it holds exactly the n nodes that it was made for
abbrev pub IsFull : StoreView → ℕ → Type 0
IsFull s n = (s.made_for ≡ n) × (length s.nodes ≡ n)

-- r stands in the new nodes for the choice by a variable between two functions of the old ones
pub record IsChoice (old new : List Node) (variable : ℕ) (low high r : Ref) : Type 0 where
  pub holds : Holds new r
  pub function : (truths : List Bool) → test new r truths ≡ (if truth_of truths variable then test old high truths else test old low truths)
  pub starts : StartsFrom variable (diagram new r)
