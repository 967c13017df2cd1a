use Rattle.sig_deciding_laws.proofs.{accepted_or_refused}
use Rattle.sig_deciding_laws.proofs.laws.kernels_are_accepted_or_refused.Goals as goal

pub returns : goal.returns
returns c = accepted_or_refused
