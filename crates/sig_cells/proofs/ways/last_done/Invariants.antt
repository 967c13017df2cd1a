use Rattle.sig_cells.proofs.{◌≤◌, length, AreDone}
use Rattle.sig_cells.proofs.ways.last_done.Given as goal

abbrev pub invariant-loop : goal.invariant-loop
invariant-loop l = record {
  later : l.from ≤ l.place;
  within : l.place ≤ length l.runs;
  done : AreDone l.store.nodes l.runs l.known l.from l.place;
}
