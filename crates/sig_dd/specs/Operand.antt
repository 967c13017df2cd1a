-- A reference with its node.
use Rattle.std.specs.Prelude.{◌≡◌, ℕ, Bool, List, Option, None, Some, if◌then◌else◌, nat_lt, nat_eq}
use Rattle.sig_dd.specs.Nodes.{node_of}
use Rattle.sig_dd.specs.declared.node.Ref.{Ref}
use Rattle.sig_dd.specs.declared.node.Node.{Node}
use Rattle.sig_dd.specs.declared.operand.Operand.{Operand}

-- o is r with the node that r names
pub record IsOperand (nodes : List Node) (r : Ref) (o : Operand) : Type 0 where
  pub reference : o.reference ≡ r
  pub node : o.node ≡ node_of nodes r

-- the earlier one of a variable and a node's own
abbrev pub earlier_of : Option Node → ℕ → ℕ
earlier_of None v = v
earlier_of (Some n) v = if nat_lt n.variable v then n.variable else v

-- r where the variable, before which its node has none, has the truth x
abbrev pub side_of : Option Node → Ref → ℕ → Bool → Ref
side_of None r v x = r
side_of (Some n) r v x = if nat_eq n.variable v then (if x then n.high else n.low) else r
