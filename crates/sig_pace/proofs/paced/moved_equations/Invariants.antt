use Rattle.sig_pace.proofs.{◌≡◌, map, take, moved, renumbered_equation}
use Rattle.sig_pace.proofs.paced.moved_equations.Given as goal

abbrev pub invariant-loop-equation : goal.invariant-loop-equation
invariant-loop-equation l = l.moved.items ≡ map (renumbered_equation (moved l.room.inputs l.room.more)) (take l.equation-index l.equation-items)
