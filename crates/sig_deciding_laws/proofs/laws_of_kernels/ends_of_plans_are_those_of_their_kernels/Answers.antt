use Rattle.sig_deciding_laws.proofs.{plan_ordered, plan_links, kernel_end, plan_end}
use Rattle.sig_deciding_laws.proofs.laws_of_kernels.ends_of_plans_are_those_of_their_kernels.Goals as goal

pub returns : goal.returns
returns c = record { ordered = plan_ordered; links = plan_links; kernel = kernel_end; plan = plan_end }
