use Rattle.sig_pace.proofs.{◌≡◌, ◌==◌, slice_index, filter, range_with_len}
use Rattle.sig_pace.proofs.leaders.leaders.Given as goal

abbrev pub invariant-loop-signal : goal.invariant-loop-signal
invariant-loop-signal l = l.leaders.items ≡ filter (λ s. slice_index l.least s == s) (range_with_len 0 l.signal)
