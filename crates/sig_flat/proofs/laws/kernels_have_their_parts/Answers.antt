use Rattle.sig_flat.proofs.{parts, same_inputs}
use Rattle.sig_flat.proofs.laws.kernels_have_their_parts.Goals as goal

pub returns-clause-parts : goal.returns-clause-parts
returns-clause-parts c = parts

pub returns-clause-inputs : goal.returns-clause-inputs
returns-clause-inputs c = same_inputs
