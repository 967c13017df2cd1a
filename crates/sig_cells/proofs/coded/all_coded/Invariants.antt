use Rattle.sig_cells.proofs.{◌≡◌, length, ArePairs, IsCoded}
use Rattle.sig_cells.proofs.coded.all_coded.Given as goal

abbrev pub invariant-loop-place : goal.invariant-loop-place
invariant-loop-place l = record {
  count : length l.coded.items ≡ l.place;
  each : ArePairs (λ _. IsCoded) l.instructions.items l.coded.items;
}
