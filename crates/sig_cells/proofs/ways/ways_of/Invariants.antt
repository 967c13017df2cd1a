use Rattle.sig_cells.proofs.{◌≡◌, length, ArePairs, AreWaysOf, scope_of}
use Rattle.sig_cells.proofs.ways.ways_of.Given as goal

abbrev pub invariant-loop-place : goal.invariant-loop-place
invariant-loop-place l = record {
  count : length l.ways.items ≡ l.place;
  each : ArePairs (AreWaysOf (scope_of l.store.nodes l.conditions l.signals) l.runs) l.runs l.ways.items;
}
