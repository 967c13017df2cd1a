use Rattle.sig_flat.proofs.ValidKernel.{valid}
use Rattle.sig_flat.proofs.valid.kernels_are_valid.Goals as goal

pub returns : goal.returns
returns c = valid
