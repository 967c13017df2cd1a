use Rattle.sig_rel.proofs.{◌≡◌, map, range_with_len, defined_for}
use Rattle.sig_rel.proofs.rules.defined_of.Given as goal

abbrev pub invariant-loop-signal : goal.invariant-loop-signal
invariant-loop-signal l = l.defined.items ≡ map (defined_for l.kernel l.conditions) (range_with_len 0 l.signal)
