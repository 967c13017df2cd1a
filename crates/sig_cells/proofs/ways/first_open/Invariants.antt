use Rattle.sig_cells.proofs.{◌≤◌, length, ArePassed}
use Rattle.sig_cells.proofs.ways.first_open.Given as goal

abbrev pub invariant-loop : goal.invariant-loop
invariant-loop l = record {
  later : l.from ≤ l.place;
  within : l.place ≤ length l.runs;
  passed : ArePassed l.store.nodes l.runs l.known l.from l.place;
}
