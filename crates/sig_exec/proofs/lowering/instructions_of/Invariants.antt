use Rattle.sig_exec.proofs.{◌≡◌, ◌≤◌, length, AreForFirst, Grows, bound_of}
use Rattle.sig_exec.proofs.lowering.instructions_of.Given as goal

abbrev pub invariant-loop-place : goal.invariant-loop-place
invariant-loop-place l = record {
  count : length l.instructions.items ≡ l.place;
  each : AreForFirst l.image l.cells.items l.instructions.items;
  grows : Grows l.fn.cells.items l.cells.items;
  room : bound_of l.image ≤ length l.cells.items;
}
