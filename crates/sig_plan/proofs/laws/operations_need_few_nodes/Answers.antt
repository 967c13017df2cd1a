use Rattle.sig_plan.proofs.{small_of_conditions, small_of_unknowns}
use Rattle.sig_plan.proofs.laws.operations_need_few_nodes.Goals as goal

pub returns : goal.returns
returns c = record { conditions = small_of_conditions; unknowns = small_of_unknowns }
