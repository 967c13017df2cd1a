use Rattle.sig_values.proofs.{◌≡◌, ◌≤◌, length, drop, Instant, TellsInstant, longest_lines}
use Rattle.sig_values.proofs.LastOutputs.{lines_from}
use Rattle.sig_values.proofs.lines.put_instant.Given as goal

abbrev pub invariant-loop-place : goal.invariant-loop-place
invariant-loop-place g l = record {
  size : l.lines.size ≡ l.fn.lines.size;
  text : (instant : Instant) → TellsInstant (goal.F-post g l.seen) l.outputs instant → l.lines.text ≡ lines_from l.outputs instant l.place;
  short : length l.lines.text ≤ longest_lines (drop l.place l.outputs);
}
