use Rattle.sig_type.proofs.{number_of, take, ◌<◌, ◌^◌, ◌≡◌}
use Rattle.sig_type.proofs.pragmas.number_of.Given as goal

abbrev pub invariant-loop-digit : goal.invariant-loop-digit
invariant-loop-digit l = (l.number ≡ number_of (take l.digit-index l.digits)) × (l.number < 10 ^ l.digit-index)
