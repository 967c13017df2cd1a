-- Sets of nodes.
use Rattle.std.specs.BTreeSet.{BTreeSet, contains}
use Rattle.std.specs.declared.cmp.Ordering.{Ordering}
use Rattle.std.specs.Ordering.{ordering_then}
use Rattle.std.specs.Prelude.{◌≡◌}
use Rattle.sig_file.specs.Prelude.{List, list_any, nat_cmp}
use Rattle.sig_file.specs.Images.{is_node}
use Rattle.sig_file.specs.declared.images.ImageNode.{ImageNode}

-- by variable, then by the child for false, then by that for true
abbrev pub node_cmp : ImageNode → ImageNode → Ordering
node_cmp a b = ordering_then (nat_cmp a.variable b.variable) (ordering_then (nat_cmp a.low b.low) (nat_cmp a.high b.high))

-- the set has these nodes and no other
abbrev pub IsNodeSet : List ImageNode → BTreeSet ImageNode → Type 0
IsNodeSet nodes set = (n : ImageNode) → contains node_cmp set n ≡ list_any (is_node n.variable n.low n.high) nodes
