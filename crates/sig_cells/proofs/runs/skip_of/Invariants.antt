use Rattle.sig_cells.proofs.{length, ◌-◌, IsLeft}
use Rattle.sig_cells.proofs.runs.skip_of.Given as goal

abbrev pub invariant-loop-skip : goal.invariant-loop-skip
invariant-loop-skip l = IsLeft l.store.nodes l.runs l._place l.run l.skip

abbrev pub decreases-loop-skip : goal.decreases-loop-skip
decreases-loop-skip l = length l.runs - l.skip
