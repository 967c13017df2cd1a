use Rattle.sig_plan.proofs.{guards_alone, guards_idle}
use Rattle.sig_plan.proofs.laws_done.guards_depend_on_conditions_alone.Goals as goal

pub returns : goal.returns
returns c = record { variables = guards_alone; idle = guards_idle }
