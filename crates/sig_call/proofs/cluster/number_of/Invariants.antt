-- the digits that are left end in the whole number
use Rattle.sig_call.proofs.{◌≡◌, drop, number_of, number_from}
use Rattle.sig_call.proofs.cluster.number_of.Given as goal

abbrev pub invariant-loop-digit : goal.invariant-loop-digit
invariant-loop-digit l = number_from l.number (drop l.digit-index l.label) ≡ number_of l.label
