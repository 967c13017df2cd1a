use Rattle.sig_cells.proofs.{◌≡◌, length, AreRuns, guards_of}
use Rattle.sig_cells.proofs.runs.leave.Given as goal

abbrev pub invariant-loop-behind : goal.invariant-loop-behind
invariant-loop-behind l = record {
  count : length l.runs.items ≡ length l.fn.runs.items;
  guards : guards_of l.runs.items ≡ guards_of l.fn.runs.items;
  each : AreRuns l.store.nodes l.runs.items;
}
