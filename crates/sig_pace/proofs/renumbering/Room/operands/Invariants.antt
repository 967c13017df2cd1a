use Rattle.sig_pace.proofs.{◌≡◌, map, take, moved, renumbered_operand}
use Rattle.sig_pace.proofs.renumbering.Room.operands.Given as goal

abbrev pub invariant-loop-operand : goal.invariant-loop-operand
invariant-loop-operand l = l.moved.items ≡ map (renumbered_operand (moved l.self.inputs l.self.more)) (take l.operand-index l.operands)
