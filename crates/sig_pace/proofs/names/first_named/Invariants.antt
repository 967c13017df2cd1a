use Rattle.sig_pace.proofs.{NoneNamedBelow}
use Rattle.sig_pace.proofs.names.first_named.Given as goal

abbrev pub invariant-loop-number : goal.invariant-loop-number
invariant-loop-number l = NoneNamedBelow l.signals l.others l.number
