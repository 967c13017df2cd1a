use Rattle.sig_flat.proofs.{few_equations}
use Rattle.sig_flat.proofs.valid.kernels_have_few_equations.Goals as goal

pub returns : goal.returns
returns c = few_equations
