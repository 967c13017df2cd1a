use Rattle.sig_flow.proofs.{◌≡◌, sum_by, take, longest_line}
use Rattle.sig_flow.proofs.output_lines.longest_lines.Given as goal

abbrev pub invariant-loop-signal : goal.invariant-loop-signal
invariant-loop-signal l = l.size ≡ sum_by longest_line (take l.signal-index l.signals)
