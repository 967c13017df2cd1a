use Rattle.sig_deciding_laws.proofs.{some_plan}
use Rattle.sig_deciding_laws.proofs.laws.accepted_kernels_have_plans.Goals as goal

pub returns : goal.returns
returns c = some_plan
