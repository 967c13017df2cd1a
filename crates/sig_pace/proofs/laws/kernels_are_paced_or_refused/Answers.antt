use Rattle.sig_pace.proofs.{paced_or_refused}
use Rattle.sig_pace.proofs.laws.kernels_are_paced_or_refused.Goals as goal

pub returns : goal.returns
returns c = paced_or_refused
