use Rattle.sig_plan.proofs.{operations_made_are, plan_operations}
use Rattle.sig_plan.proofs.laws_accepted.accepted_plans_have_their_operations.Goals as goal

pub returns : goal.returns
returns c = record { made = operations_made_are; plan = plan_operations }
