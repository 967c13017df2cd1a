-- so many variables of the block were looked at
use Rattle.sig_dd.proofs.{◌+◌, ◌*◌, List, Node, Ref, IsMask, IsTestedBelow}
use Rattle.sig_dd.proofs.supports.VariableList.add_block.Given as goal

abbrev pub invariant-loop-place : goal.invariant-loop-place
invariant-loop-place l = (nodes : List Node) (r : Ref) → IsMask nodes l.block r l.mask
    → IsTestedBelow nodes (l.block * 64) r l.initial.self → IsTestedBelow nodes (l.block * 64 + l.place) r l.self
