use Rattle.sig_machine.proofs.{◌≡◌, length, AreForFirst, Grows}
use Rattle.sig_machine.proofs.lowering.instructions_of.Given as goal

abbrev pub invariant-loop-place : goal.invariant-loop-place
invariant-loop-place l = record {
  count : length l.instructions.items ≡ l.place;
  grows : Grows l.fn.cells.items l.cells.items;
  each : AreForFirst l.plan l.kernel l.cells.items l.instructions.items;
}
