use Rattle.sig_step.proofs.{◌≡◌, length, AreRows}
use Rattle.sig_step.proofs.rows.rows_of.Given as goal

abbrev pub invariant-loop-from : goal.invariant-loop-from
invariant-loop-from l = record {
  count : length l.rows.items ≡ l.from;
  rows : AreRows l.steps l.rows.items;
}
