use Rattle.sig_file.proofs.{◌≡◌, ◌-◌, [], condition_at, several}
use Rattle.sig_file.proofs.parts.conditions_at.Given as goal

abbrev pub invariant-loop : goal.invariant-loop
invariant-loop l = several (condition_at l.signals) (l.count - l.counter) l.conditions.items l.rest ≡ several (condition_at l.signals) l.count [] l.bytes
