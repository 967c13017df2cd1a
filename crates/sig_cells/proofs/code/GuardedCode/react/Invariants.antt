use Rattle.std.proofs.Common.{◌-◌, length}
use Rattle.sig_cells.specs.Instructions.{cells_of}
use Rattle.sig_cells.proofs.BehindRuns.{IsBeforeRun}
use Rattle.sig_cells.proofs.code.GuardedCode.react.Given as goal

abbrev pub invariant-loop-next : goal.invariant-loop-next
invariant-loop-next l = record {
  before : IsBeforeRun l.store.nodes l.self l.inputs l.instant (cells_of l.fn.cells l.fn.stamps l.fn.taken) (cells_of l.cells l.stamps l.taken) l.next;
}

abbrev pub decreases-loop-next : goal.decreases-loop-next
decreases-loop-next l = length l.self.runs.items - l.next.place
