use Rattle.sig_deciding_laws.proofs.{plan_exists}
use Rattle.sig_deciding_laws.proofs.laws.accepted_kernels_have_plans_where_guards_are_held.Goals as goal

pub returns : goal.returns
returns c = plan_exists
