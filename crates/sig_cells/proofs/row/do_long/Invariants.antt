use Rattle.std.proofs.Common.{◌≤◌, ◌-◌}
use Rattle.sig_cells.specs.Instructions.{cells_of}
use Rattle.sig_cells.proofs.DoneInARow.{AreDoneTo}
use Rattle.sig_cells.proofs.row.do_long.Given as goal

abbrev pub decreases-loop-place : goal.decreases-loop-place
decreases-loop-place l = l.to - l.place

abbrev pub invariant-loop-place : goal.invariant-loop-place
invariant-loop-place l = record {
  later : l.from ≤ l.place;
  before : l.place ≤ l.to;
  done : AreDoneTo l.all l.inputs l.instant l.from l.place (cells_of l.fn.cells l.fn.stamps l.fn.taken) (cells_of l.cells l.stamps l.taken);
}
