use Rattle.std.proofs.Common.{◌≤◌, ◌-◌}
use Rattle.sig_cells.specs.Instructions.{cells_of}
use Rattle.sig_cells.proofs.DoneInARow.{AreDoneTo}
use Rattle.sig_cells.proofs.instructions.Instructions.execute.Given as goal

abbrev pub decreases-loop-left : goal.decreases-loop-left
decreases-loop-left l = l.left

abbrev pub invariant-loop-left : goal.invariant-loop-left
invariant-loop-left l = record {
  left : l.left ≤ l.to - l.from;
  done : AreDoneTo l.self l.inputs l.instant l.from (l.to - l.left) (cells_of l.fn.cells l.fn.stamps l.fn.taken) (cells_of l.cells l.stamps l.taken);
}
