use Rattle.sig_cells.proofs.{◌≡◌, take, length, AreRuns, guards_of}
use Rattle.sig_cells.proofs.runs.single_runs.Given as goal

abbrev pub invariant-loop-place : goal.invariant-loop-place
invariant-loop-place l = record {
  count : length l.runs.items ≡ l.place;
  guards : guards_of l.runs.items ≡ take l.place l.guards;
  each : AreRuns l._store.nodes l.runs.items;
}
