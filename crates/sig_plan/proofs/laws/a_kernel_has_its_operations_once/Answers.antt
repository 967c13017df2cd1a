use Rattle.sig_plan.proofs.{operations_once}
use Rattle.sig_plan.proofs.laws.a_kernel_has_its_operations_once.Goals as goal

pub returns : goal.returns
returns c = λ kernel conditions other_conditions operations other_operations valid one other.
    operations_once kernel valid conditions other_conditions operations other_operations one other
