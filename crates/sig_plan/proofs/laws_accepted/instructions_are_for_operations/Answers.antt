use Rattle.sig_plan.proofs.{instruction_for}
use Rattle.sig_plan.proofs.laws_accepted.instructions_are_for_operations.Goals as goal

pub returns : goal.returns
returns c = instruction_for
