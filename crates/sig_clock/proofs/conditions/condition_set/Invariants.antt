use Rattle.sig_clock.proofs.{◌≡◌, map, filter, range_with_len, is_condition, signal_id}
use Rattle.sig_clock.proofs.conditions.condition_set.Given as goal

abbrev pub invariant-loop-number : goal.invariant-loop-number
invariant-loop-number l = l.conditions.items ≡ map signal_id (filter (is_condition l.kernel) (range_with_len 0 l.number))
