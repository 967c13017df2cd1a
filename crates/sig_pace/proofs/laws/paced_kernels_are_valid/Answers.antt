use Rattle.sig_pace.proofs.{valid_with_paces}
use Rattle.sig_pace.proofs.laws.paced_kernels_are_valid.Goals as goal

pub returns : goal.returns
returns c = valid_with_paces
